-- `lane_loops::loops::copy_one` meets its contract: it is the first turn of a loop. Assumes nothing.
use Rattle.std.proofs.Common.{rules, refl}
use Rattle.lane_loops.specs.Loops.{beside}
use Rattle.lane_loops.proofs.LaneLoops.{zip_first}
use Rattle.lane_loops.proofs.loops.copy_one.Goals as goal

pub returns : goal.returns
returns c = zip_first beside _ _ _ refl (search rules) (search rules)
