-- Put in the output: where its values stand, and when there is no room for them. Assumes nothing.
use Rattle.std.specs.Prelude.{ℕ, ◌+◌, cond, List, ◌++◌, length, take, drop, ◌==◌, nat_le, Option, Some, None}

-- what Put leaves: its answer, and the output
pub record Left : Type 0 where
  pub answer : Option ℕ
  pub output : List ℕ

abbrev pub left : Option ℕ → List ℕ → Left
left a output = record { answer = a; output = output }

-- the values stand from the place `count` on; "Lent entries outside the counts keep their values"
unfoldable pub placed : List ℕ → List ℕ → ℕ → List ℕ
placed values output count = take count output ++ values ++ drop (count + length values) output

-- "all or none": 36 where there is no room for all of the values; no values need no room, whatever the count
unfoldable pub put_in : List ℕ → List ℕ → ℕ → Left
unfolding placed
put_in values output count =
    cond (length values == 0) (left (Some count) output)
    (cond (nat_le (count + length values) (length output)) (left (Some (count + length values)) (placed values output count)) (left None output))
