-- `lane_loops::loops::zip_lanes` meets its contract. The invariant: so many lanes are done. Assumes nothing.
use Rattle.std.proofs.Common.{◌≡◌, ℕ}
use Rattle.lane_loops.specs.Loops.{zip_to, Computes}
use Rattle.lane_loops.proofs.loops.zip_lanes.Given as goal

abbrev pub invariant-loop-lane : goal.invariant-loop-lane
invariant-loop-lane g l = (f : ℕ → ℕ → ℕ) → Computes (goal.F-post g l.fn.rule) f → l.register ≡ zip_to f l.lane l.initial.register l.cells
