-- `lanes::int::int_div` meets its contract. Assumes nothing.
use Rattle.lanes.proofs.Ints.{quotients}
use Rattle.lanes.proofs.int.int_div.Goals as goal

pub returns : goal.returns
returns c = search quotients
