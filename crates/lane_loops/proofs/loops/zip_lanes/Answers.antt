-- `lane_loops::loops::zip_lanes` meets its contract. Assumes nothing.
use Rattle.std.proofs.Common.{rules, refl}
use Rattle.lane_loops.specs.Loops.{zip_to}
use Rattle.lane_loops.proofs.LaneLoops.{zip_again}
use Rattle.lane_loops.proofs.loops.zip_lanes.Goals as goal

pub loop-lane-init : goal.loop-lane-init
unfolding zip_to
loop-lane-init g c = λ f k. refl

pub loop-lane-preserved : goal.loop-lane-preserved
loop-lane-preserved g c = λ f k. zip_again f _ _ _ _ _ (c.loop-lane.invariant f k) (k _ _ _ c.rule.ensures) (search rules) (search rules)
