-- `lane_ops::lane::alone` meets its contract. Assumes nothing.
use Rattle.basics.specs.Pick.{pick}
use Rattle.lanes.specs.Lane.{lane_rule}
use Rattle.machine_numbers.specs.Numbers.{left}
use Rattle.lane_ops.specs.Lane.{alone_of}
use Rattle.lane_ops.proofs.lane.alone.Goals as goal

pub returns-then-n-eq1 : goal.returns-then-n-eq1
unfolding alone_of left pick
returns-then-n-eq1 g c = λ o k p. simp (c.if-n-eq1.true, c.map_one.ensures (lane_rule o) k)

pub returns : goal.returns
unfolding alone_of left pick
returns g c = λ o k p. simp (c.map_lanes.ensures (lane_rule o) k)
