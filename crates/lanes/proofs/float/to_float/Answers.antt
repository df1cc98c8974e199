-- `lanes::float::to_float` meets its contract: the magnitude's float is the integer's but for the sign. Assumes nothing.
use Rattle.lanes.proofs.Floats.{float_number, float_signed}
use borrow.Author.Rules.{rules}
use Rattle.lanes.proofs.float.to_float.Goals as goal

pub float_to_bits-p : goal.float_to_bits-p
float_to_bits-p c = float_number c.args.a c.magnitude.ensures c.nearest_u64_to_f64-p.ensures

pub returns : goal.returns
returns c = float_signed c.args.a c.magnitude.ensures c.nearest_u64_to_f64-p.ensures (search rules)
