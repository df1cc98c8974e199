use Rattle.std.proofs.Common.{rules}
use Rattle.lane_loops.proofs.LaneLoops.{zip_first}
use Rattle.lane_loops.proofs.loops.zip_one.Goals as goal

pub returns : goal.returns
returns g c = λ f k. zip_first f _ _ _ (k _ _ _ c.rule.ensures) (search rules) (search rules)
