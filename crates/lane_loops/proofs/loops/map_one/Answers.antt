use Rattle.std.proofs.Common.{rules}
use Rattle.lane_loops.proofs.LaneLoops.{map_first}
use Rattle.lane_loops.proofs.loops.map_one.Goals as goal

pub returns : goal.returns
returns g c = λ f k. map_first f _ _ (k _ _ c.rule.ensures) (search rules)
