-- A list with a part of it written over. Assumes nothing.
use Rattle.std.specs.Prelude.{List, ◌++◌, ℕ, take, drop}
use Rattle.lane_loops.specs.Loops.{zip_to, beside}

-- the first n places of l from `at` on, by what stands in the first n of vs
unfoldable pub copied : List ℕ → ℕ → List ℕ → ℕ → List ℕ
copied l at vs n = take at l ++ zip_to beside n (drop at l) vs
