-- `lane_loops::loops::map_lanes` meets its contract. The invariant: so many lanes are done. Assumes nothing.
use Rattle.std.proofs.Common.{◌≡◌, ℕ}
use Rattle.lane_loops.specs.Loops.{map_to, ComputesAlone}
use Rattle.lane_loops.proofs.loops.map_lanes.Given as goal

abbrev pub invariant-loop-lane : goal.invariant-loop-lane
invariant-loop-lane g l = (f : ℕ → ℕ) → ComputesAlone (goal.F-post g l.fn.rule) f → l.lane-items ≡ map_to f l.lane-index l.initial.lane-items
