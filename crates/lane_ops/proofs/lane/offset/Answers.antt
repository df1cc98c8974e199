-- `lane_ops::lane::offset` meets its contract. Assumes nothing.
use Rattle.basics.specs.Pick.{pick}
use Rattle.machine_numbers.specs.Numbers.{left}
use Rattle.lane_ops.specs.Lane.{offset_of}
use Rattle.lane_ops.proofs.lane.offset.Goals as goal

pub returns : goal.returns
unfolding offset_of left pick
returns c = λ p. simp c.offset_lanes.ensures
