-- `lanes::int::wrapping_mul` meets its contract. Assumes nothing.
use Rattle.lanes.proofs.Ints.{halves}
use Rattle.lanes.proofs.int.wrapping_mul.Goals as goal

pub returns : goal.returns
returns c = halves c.args.a c.args.b
