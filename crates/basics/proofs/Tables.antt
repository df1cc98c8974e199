-- A test of a list's entries that comes out true holds at each place of the list: a rule of a table is one computed test. Assumes nothing.
use mathlib.Core.Path.{◌∙◌, subst, sym}
use mathlib.Core.Bool.{Bool, true, false, ◌&&◌}
use mathlib.Core.List.{List, [], ◌∷◌}
use Prim.Native.Nat.{ℕ, zero, suc, ◌+◌, ◌<◌}
use native.Mathlib.Nat.{add-zero, zero-add, add-suc, suc-add, le_of_suc-le-suc, not-suc-le-zero}
use lib.Dec.{T}
use lib.ListN.{length, get_or}

pub and_left : (a b : Bool) → T (a && b) → T a
and_left true b t = tt
and_left false b t = t

pub and_right : (a b : Bool) → T (a && b) → T b
and_right true b t = t
and_right false b t = absurd t

module _ {A : Type 0} (f : ℕ → A → Bool) (d : A) where
  abbrev pub every : ℕ → List A → Bool
  every i [] = true
  every i (x ∷ xs) = f i x && every (suc i) xs

  from : (xs : List A) (i : ℕ) → T (every i xs) → (k : ℕ) → k < length xs → T (f (i + k) (get_or xs k d))
  from [] i t k h = absurd (not-suc-le-zero h)
  from (x ∷ xs) i t zero h = subst (λ (m : ℕ). T (f m x)) (sym (add-zero i)) (and_left (f i x) (every (suc i) xs) t)
  from (x ∷ xs) i t (suc k) h =
      subst (λ (m : ℕ). T (f m (get_or xs k d))) (suc-add i k ∙ sym (add-suc i k))
      (from xs (suc i) (and_right (f i x) (every (suc i) xs) t) k (le_of_suc-le-suc h))

  pub at : (xs : List A) → T (every 0 xs) → (k : ℕ) → k < length xs → T (f k (get_or xs k d))
  at xs t k h = subst (λ (m : ℕ). T (f m (get_or xs k d))) (zero-add k) (from xs 0 t k h)
