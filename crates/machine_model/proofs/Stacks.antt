-- A stack in an array is the array's first n entries: what a push leaves of it, and what Return and Refer take from it. Assumes nothing.
use Prim.Native.Nat.{ℕ, suc, ◌+◌, ◌-◌, ◌≤◌, ◌<◌}
use native.Mathlib.Numerals.{add-one}
use native.Mathlib.Omega.{arith}
use mathlib.Core.Path.{◌≡◌, refl, ap, ap₂, ◌∙◌}
use mathlib.Core.List.{List, [], ◌∷◌, ◌++◌}
use lib.ListN.{length, take, get_or}
use lib.ListN
use lib.Seq.{take-suc-set, get_or-take, take-take, length-take-le}
use Rattle.machine_model.specs.State.{State, go_to, on, with_calls, with_refs, with_pointer}
use Rattle.machine_model.specs.Step.{Outcome, back, refer_to}
use Rattle.machine_model.specs.Step.Outcome.{next}

pub pushed : (l : List ℕ) (n v : ℕ) → n < length l → take (n + 1) (lib.ListN.set l n v) ≡ take n l ++ (v ∷ [])
pushed l n v h = rw add-one (take-suc-set l n v h)

-- an op that takes the newest entry v of a stack and leaves the others xs, as `taken` says, does so with the first n entries of an array
module _ (op : List ℕ → Outcome) (taken : ℕ → List ℕ → Outcome)
    (is : (x : ℕ) (xs : List ℕ) → op (x ∷ xs) ≡ taken (get_or (x ∷ xs) (length xs) 0) (take (length xs) (x ∷ xs))) where
  whole : (xs : List ℕ) (n : ℕ) → length xs ≡ suc n → op xs ≡ taken (get_or xs n 0) (take n xs)
  whole [] n e = absurd (omega arith)
  whole (x ∷ xs) n e = let q : length xs ≡ n = omega arith in is x xs ∙ ap (λ (m : ℕ). taken (get_or (x ∷ xs) m 0) (take m (x ∷ xs))) q

  popped : (l : List ℕ) (n : ℕ) → 0 < n → n ≤ length l → op (take n l) ≡ taken (get_or l (n - 1) 0) (take (n - 1) l)
  popped l n p h =
      whole (take n l) (n - 1) (length-take-le n l h ∙ omega arith)
      ∙ ap₂ taken (get_or-take n l (n - 1) 0 (omega arith)) (take-take (n - 1) n l (omega arith))

pub back_popped : (s : State) (l : List ℕ) (n : ℕ) → 0 < n → n ≤ length l → back s (take n l) ≡ next (with_calls (go_to s (suc (get_or l (n - 1) 0))) (take (n - 1) l))
back_popped s = popped (back s) (λ v xs. next (with_calls (go_to s (suc v)) xs)) (λ x xs. refl)

pub refer_popped : (s : State) (l : List ℕ) (n : ℕ) → 0 < n → n ≤ length l → refer_to s (take n l) ≡ next (on (with_refs (with_pointer s (get_or l (n - 1) 0)) (take (n - 1) l)))
refer_popped s = popped (refer_to s) (λ v xs. next (on (with_refs (with_pointer s v) xs))) (λ x xs. refl)
