-- A patch with one comment left out: each search finds the same op, where it now is, or finds none in both. Assumes nothing.
use Prim.Native.Nat.compare
use Prim.Native.Nat.{ℕ, zero, suc, ◌+◌, ◌≤◌, ◌<◌}
use native.Mathlib.Nat.{le_of_suc-le-suc, not-suc-le-zero}
use native.Mathlib.Omega.{arith}
use borrow.Author.Tests.{lt-leb}
use mathlib.Core.Path.{◌≡◌, refl, ap, sym, ◌∙◌}
use mathlib.Core.Bool.{Bool, true, false}
use mathlib.Core.List.{List, [], ◌∷◌, ◌++◌, append_assoc, reverse, reverse-cons, reverse-append}
use mathlib.Core.Option.{Option, none, some}
use lib.Dec.{leb}
use lib.ListN.{length, take, drop, length-append, length-drop, length-reverse}
use lib.Seq.{take-append-le, drop-append-le, length-take-le}
use Rattle.ops.specs.Syntax.{Op, Bracket, bracket, is_function}
use Rattle.ops.specs.Syntax.Op.{plain}
use Rattle.ops.specs.Syntax.Plain.{comment}
use Rattle.ops.specs.Syntax.Bracket.{up, down, mid, flat}
use Rattle.machine_model.specs.Scan.{brackets, functions, to_end, to_else, to_open, kth}
use Rattle.machine_model.proofs.Scans.{length_brackets}
use Rattle.free_comments.specs.Free.{skip}
use Rattle.free_comments.proofs.Skips.{Skips, skip_low, skip_high, skips, skip_suc, drop_high}
use Rattle.free_comments.proofs.Skips.Skips.{low, high}

-- what a search finds with the op at a, and without it: never that op
pub data Met (a : ℕ) : Option ℕ → Option ℕ → Type 0 where
  lost : Met a none none
  hit : {j j' : ℕ} → (j ≡ a → ⊥) → j' ≡ skip a j → Met a (some j) (some j')

before : (a j : ℕ) → j < a → Met a (some j) (some j)
before a j h = hit (λ (e : j ≡ a). omega arith) (sym (skip_low a j (omega arith)))

behind : (a j : ℕ) → a ≤ j → Met a (some (suc j)) (some j)
behind a j h = hit (λ (e : suc j ≡ a). omega arith) (sym (skip_high a j h))

-- ---- the searches forwards

-- f is a search, with a depth or a count: what it does at x
data Looks {X : Type 0} (f : ℕ → ℕ → List X → Option ℕ) (d : ℕ) (x : X) : Type 0 where
  stops : ((p : ℕ) (xs : List X) → f p d (x ∷ xs) ≡ some p) → Looks f d x
  goes : (e : ℕ) → ((p : ℕ) (xs : List X) → f p d (x ∷ xs) ≡ f (suc p) e xs) → Looks f d x

module _ {X : Type 0} (f : ℕ → ℕ → List X → Option ℕ) (over : (p d : ℕ) → f p d [] ≡ none) (looks : (d : ℕ) (x : X) → Looks f d x) (a : ℕ) where
  shift : (q d : ℕ) (xs : List X) → a ≤ q → Met a (f (suc q) d xs) (f q d xs)
  shift q d [] h = rw (over (suc q) d, over q d) lost
  shift q d (x ∷ xs) h = by (looks d x) (λ e. shift (suc q) e xs (omega arith))
    where
      by : Looks f d x → ((e : ℕ) → Met a (f (suc (suc q)) e xs) (f (suc q) e xs)) → Met a (f (suc q) d (x ∷ xs)) (f q d (x ∷ xs))
      by (stops s) w = rw (s (suc q) xs, s q xs) (behind a q h)
      by (goes e s) w = rw (s (suc q) xs, s q xs) (w e)

  module _ (y : X) (on : (p d : ℕ) (xs : List X) → f p d (y ∷ xs) ≡ f (suc p) d xs) where
    through : (p d : ℕ) (xs ys : List X) → a ≡ p + length xs → Met a (f p d (xs ++ y ∷ ys)) (f p d (xs ++ ys))
    through p d [] ys h = rw (on p d ys) (shift p d ys (omega arith))
    through p d (x ∷ xs) ys h = by (looks d x) (λ e. through (suc p) e xs ys (omega arith))
      where
        by : Looks f d x → ((e : ℕ) → Met a (f (suc p) e (xs ++ y ∷ ys)) (f (suc p) e (xs ++ ys))) → Met a (f p d (x ∷ xs ++ y ∷ ys)) (f p d (x ∷ xs ++ ys))
        by (stops s) w = rw (s p (xs ++ y ∷ ys), s p (xs ++ ys)) (before a p (omega arith))
        by (goes e s) w = rw (s p (xs ++ y ∷ ys), s p (xs ++ ys)) (w e)

    -- from any place on, where y is at a
    meets : (xs ys : List X) → length xs ≡ a → (p d : ℕ) → Met a (f p d (drop p (xs ++ y ∷ ys))) (f (skip a p) d (drop (skip a p) (xs ++ ys)))
    meets xs ys l p d = by p (skip a p) (skips a p)
      where
        by : (p q : ℕ) → Skips a p q → Met a (f p d (drop p (xs ++ y ∷ ys))) (f q d (drop q (xs ++ ys)))
        by p _ (low h) =
            rw (drop-append-le p xs (y ∷ ys) (omega arith), drop-append-le p xs ys (omega arith))
            (through p d (drop p xs) ys (omega (arith, length-drop p xs)))
        by _ q (high h) = rw (drop_high xs y ys q (omega arith)) (shift q d (drop q (xs ++ ys)) h)

end_looks : (d : ℕ) (m : Bracket) → Looks to_end d m
unfolding to_end
end_looks d up = goes (suc d) (λ p ms. refl)
end_looks zero down = stops (λ p ms. refl)
end_looks (suc d) down = goes d (λ p ms. refl)
end_looks d mid = goes d (λ p ms. refl)
end_looks d flat = goes d (λ p ms. refl)

else_looks : (d : ℕ) (m : Bracket) → Looks to_else d m
unfolding to_else
else_looks d up = goes (suc d) (λ p ms. refl)
else_looks zero down = stops (λ p ms. refl)
else_looks (suc d) down = goes d (λ p ms. refl)
else_looks zero mid = stops (λ p ms. refl)
else_looks (suc d) mid = goes (suc d) (λ p ms. refl)
else_looks d flat = goes d (λ p ms. refl)

kth_looks : (k : ℕ) (b : Bool) → Looks kth k b
unfolding kth
kth_looks k false = goes k (λ p bs. refl)
kth_looks zero true = stops (λ p bs. refl)
kth_looks (suc k) true = goes k (λ p bs. refl)

-- ---- the search backwards

module _ (a : ℕ) where
  open_low : (d : ℕ) (ms : List Bracket) → length ms ≤ a → Met a (to_open d ms) (to_open d ms)
  unfolding to_open
  open_low d [] h = lost
  open_low zero (up ∷ ms) h = before a (length ms) h
  open_low (suc d) (up ∷ ms) h = open_low d ms (omega arith)
  open_low d (down ∷ ms) h = open_low (suc d) ms (omega arith)
  open_low d (mid ∷ ms) h = open_low d ms (omega arith)
  open_low d (flat ∷ ms) h = open_low d ms (omega arith)

  open_through : (d : ℕ) (ms ns : List Bracket) → length ns ≡ a → Met a (to_open d (ms ++ flat ∷ ns)) (to_open d (ms ++ ns))
  unfolding to_open
  open_through d [] ns h = open_low d ns (omega arith)
  open_through zero (up ∷ ms) ns h =
      let e : length (ms ++ flat ∷ ns) ≡ suc (length (ms ++ ns)) = simp length-append (omega arith) in
      let l : a ≤ length (ms ++ ns) = simp length-append (omega arith) in
      rw e (behind a (length (ms ++ ns)) l)
  open_through (suc d) (up ∷ ms) ns h = open_through d ms ns h
  open_through d (down ∷ ms) ns h = open_through (suc d) ms ns h
  open_through d (mid ∷ ms) ns h = open_through d ms ns h
  open_through d (flat ∷ ms) ns h = open_through d ms ns h

take_high : (xs : List Bracket) (y : Bracket) (ys : List Bracket) (j : ℕ) → length xs ≤ j
    → (zs : List Bracket) × (take (suc j) (xs ++ y ∷ ys) ≡ xs ++ y ∷ zs) × (take j (xs ++ ys) ≡ xs ++ zs)
take_high [] y ys j h = (take j ys, refl, refl)
take_high (x ∷ xs) y ys zero h = absurd (not-suc-le-zero h)
take_high (x ∷ xs) y ys (suc j) h =
    let r = take_high xs y ys j (le_of_suc-le-suc h) in
    (r.0, ap (λ (l : List Bracket). x ∷ l) r.1, ap (λ (l : List Bracket). x ∷ l) r.2)

reverse_seam : (xs : List Bracket) (y : Bracket) (zs : List Bracket) → reverse (xs ++ y ∷ zs) ≡ reverse zs ++ y ∷ reverse xs
reverse_seam xs y zs =
    reverse-append xs (y ∷ zs) ∙ ap (λ (l : List Bracket). l ++ reverse xs) (reverse-cons y zs) ∙ append_assoc (reverse zs) (y ∷ []) (reverse xs)

open_meets : (a : ℕ) (xs ys : List Bracket) → length xs ≡ a → (i : ℕ)
    → Met a (to_open 0 (reverse (take i (xs ++ flat ∷ ys)))) (to_open 0 (reverse (take (skip a i) (xs ++ ys))))
open_meets a xs ys l i = by i (skip a i) (skips a i)
  where
    by : (i j : ℕ) → Skips a i j → Met a (to_open 0 (reverse (take i (xs ++ flat ∷ ys)))) (to_open 0 (reverse (take j (xs ++ ys))))
    by i _ (low h) =
        rw (take-append-le i xs (flat ∷ ys) (omega arith), take-append-le i xs ys (omega arith))
        (open_low a 0 (reverse (take i xs)) (omega (arith, length-reverse (take i xs), length-take-le i xs (omega arith))))
    by _ j (high h) =
        let t = take_high xs flat ys j (omega arith) in
        rw (t.1, t.2, reverse_seam xs flat t.0, reverse-append xs t.0) (open_through a 0 (reverse t.0) (reverse xs) (length-reverse xs ∙ l))

-- ---- the patch

brackets_append : (a b : List Op) → brackets (a ++ b) ≡ brackets a ++ brackets b
brackets_append [] b = refl
brackets_append (o ∷ a) b = ap (λ (l : List Bracket). bracket o ∷ l) (brackets_append a b)

functions_append : (a b : List Op) → functions (a ++ b) ≡ functions a ++ functions b
functions_append [] b = refl
functions_append (o ∷ a) b = ap (λ (l : List Bool). is_function o ∷ l) (functions_append a b)

length_functions : (a : List Op) → length (functions a) ≡ length a
length_functions [] = refl
length_functions (o ∷ a) = ap suc (length_functions a)

module _ (A : List Op) (bs : List ℕ) (B : List Op) where
  abbrev a : ℕ
  a = length A

  abbrev os : List Op
  os = A ++ plain (comment bs) ∷ B

  abbrev os' : List Op
  os' = A ++ B

  pub same_over : (i : ℕ) → (i ≡ a → ⊥) → leb (length os') (skip a i) ≡ leb (length os) i
  same_over i n = by i (skip a i) (skips a i) n
    where
      lengths : length os ≡ suc (length os')
      lengths = simp length-append (omega arith)

      l : a ≤ length os'
      l = simp length-append (omega arith)

      by : (i j : ℕ) → Skips a i j → (i ≡ a → ⊥) → leb (length os') j ≡ leb (length os) i
      by i _ (low h) n = lt-leb (length os') i (omega (arith, l)) ∙ sym (lt-leb (length os) i (omega (arith, l, lengths)))
      by _ j (high h) n = rw (lengths, compare.suc-suc (length os') j) refl

  pub same_mark : (k : ℕ) → Met a (kth 0 k (functions os)) (kth 0 k (functions os'))
  unfolding kth
  same_mark k =
      rw (functions_append A (plain (comment bs) ∷ B), functions_append A B)
      (through kth (λ p d. refl) kth_looks a false (λ p d xs. refl) 0 k (functions A) (functions B) (omega (arith, length_functions A)))

  -- from the op after the place i
  module _ (i : ℕ) (n : i ≡ a → ⊥) where
    pub same_end : Met a (to_end (suc i) 0 (drop (suc i) (brackets os))) (to_end (suc (skip a i)) 0 (drop (suc (skip a i)) (brackets os')))
    unfolding to_end
    same_end =
        rw (brackets_append A (plain (comment bs) ∷ B), brackets_append A B, ← (skip_suc a i n))
        (meets to_end (λ p d. refl) end_looks a flat (λ p d ms. refl) (brackets A) (brackets B) (length_brackets A) (suc i) 0)

    pub same_else : Met a (to_else (suc i) 0 (drop (suc i) (brackets os))) (to_else (suc (skip a i)) 0 (drop (suc (skip a i)) (brackets os')))
    unfolding to_else
    same_else =
        rw (brackets_append A (plain (comment bs) ∷ B), brackets_append A B, ← (skip_suc a i n))
        (meets to_else (λ p d. refl) else_looks a flat (λ p d ms. refl) (brackets A) (brackets B) (length_brackets A) (suc i) 0)

  pub same_open : (i : ℕ) → Met a (to_open 0 (reverse (take i (brackets os)))) (to_open 0 (reverse (take (skip a i) (brackets os'))))
  same_open i = rw (brackets_append A (plain (comment bs) ∷ B), brackets_append A B) (open_meets a (brackets A) (brackets B) (length_brackets A) i)
