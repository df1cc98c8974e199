-- `lane_loops::loops::map_lanes` meets its contract. Assumes nothing.
use Rattle.std.proofs.Common.{rules, refl}
use Rattle.lane_loops.specs.Loops.{map_to}
use Rattle.lane_loops.proofs.LaneLoops.{map_again, map_part}
use Rattle.lane_loops.proofs.loops.map_lanes.Goals as goal

pub loop-lane-init : goal.loop-lane-init
unfolding map_to
loop-lane-init g c = λ f k. refl

pub loop-lane-preserved : goal.loop-lane-preserved
loop-lane-preserved g c = λ f k. map_again f _ _ _ _ (c.loop-lane.invariant f k) (k _ _ c.rule.ensures) (search rules)

pub returns : goal.returns
returns g c = λ f k. rw (c.loop-lane.invariant f k) (map_part f _ _ _ c.requires.n_in_bounds (search rules))
