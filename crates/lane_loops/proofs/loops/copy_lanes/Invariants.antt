-- `lane_loops::loops::copy_lanes` meets its contract. The invariant: so many lanes are done. Assumes nothing.
use mathlib.Core.Path.{◌≡◌}
use lib.ListN.{length}
use Rattle.lane_loops.specs.Loops.{zip_to, beside}
use Rattle.lane_loops.proofs.loops.copy_lanes.Given as goal

abbrev pub invariant-loop-at : goal.invariant-loop-at
invariant-loop-at l = (length l.to ≡ length l.initial.to) × (l.to ≡ zip_to beside l.at l.initial.to l.from)
