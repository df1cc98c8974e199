-- A slice's part from a place to its end: what it holds, and the slice with the part back. Assumes nothing.
use mathlib.Core.Path.{◌≡◌, sym, ◌∙◌, ap}
use mathlib.Core.List.{List, ◌++◌, append-nil}
use Prim.Native.Nat.{ℕ, ◌-◌}
use lib.ListN.{length, take, drop, length-drop}
use lib.Seq.{take-length, drop-length}
use Rattle.lane_loops.specs.Loops.{zip_to, beside}
use Rattle.machine_numbers.specs.Parts.{copied}

pub rest_part : (a : ℕ) (l : List ℕ) → take (length l - a) (drop a l) ≡ drop a l
rest_part a l = ap (λ (n : ℕ). take n (drop a l)) (sym (length-drop a l)) ∙ take-length (drop a l)

-- nothing stands after such a part
rest_back : (a : ℕ) (l xs : List ℕ) → take a l ++ (xs ++ drop (length l - a) (drop a l)) ≡ take a l ++ xs
rest_back a l xs =
    ap (λ (r : List ℕ). take a l ++ (xs ++ r)) (ap (λ (n : ℕ). drop n (drop a l)) (sym (length-drop a l)) ∙ drop-length (drop a l))
    ∙ ap (λ (r : List ℕ). take a l ++ r) (append-nil xs)

-- back with the first n of vs in it
pub copied_back : (l : List ℕ) (at : ℕ) (vs : List ℕ) (n : ℕ) → take at l ++ (zip_to beside n (drop at l) vs ++ drop (length l - at) (drop at l)) ≡ copied l at vs n
unfolding copied
copied_back l at vs n = rest_back at l (zip_to beside n (drop at l) vs)
