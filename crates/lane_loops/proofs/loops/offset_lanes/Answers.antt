use Rattle.std.proofs.Common.{rules}
use Rattle.lanes.specs.Int.{int_add}
use Rattle.lane_loops.proofs.loops.offset_lanes.Goals as goal

pub returns : goal.returns
returns c = c.map_lanes.ensures (λ a. int_add a c.args.by) (λ a r p. search rules)
