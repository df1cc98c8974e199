-- Lists whose values are below 2 ^ 64. Assumes nothing.
use Rattle.std.proofs.Common.{ℕ, zero, suc, ◌+◌, ◌^◌, ◌<◌, List, [], ◌∷◌, ◌++◌, get_or, drop, arith, get_or-drop}

-- every value of the list is below 2 ^ 64; beyond its end is 0
pub record Words (l : List ℕ) : Type 0 where
  pub at : (i : ℕ) → get_or l i 0 < 2 ^ 64

pub no_words : Words []
no_words = record { at = λ i. omega arith }

pub words_cons : (v : ℕ) (vs : List ℕ) → v < 2 ^ 64 → Words vs → Words (v ∷ vs)
words_cons v vs h w = record { at = go }
  where
    go : (i : ℕ) → get_or (v ∷ vs) i 0 < 2 ^ 64
    go zero = h
    go (suc i) = w.at i

pub words_tail : (v : ℕ) (vs : List ℕ) → Words (v ∷ vs) → Words vs
words_tail v vs w = record { at = λ i. w.at (suc i) }

pub words_append : (xs ys : List ℕ) → Words xs → Words ys → Words (xs ++ ys)
words_append [] ys w u = u
words_append (x ∷ xs) ys w u = words_cons x (xs ++ ys) (w.at 0) (words_append xs ys (words_tail x xs w) u)

pub words_drop : (n : ℕ) (l : List ℕ) → Words l → Words (drop n l)
words_drop n l w = record { at = λ i. rw (get_or-drop n l i 0) (w.at (n + i)) }
