-- `lanes::int::bit_xor` meets its contract. Assumes nothing.
use Rattle.std.proofs.Common.{rules}
use Rattle.lanes.proofs.Bits.{xor_is}
use borrow.Author.Rules.{rules}
use Rattle.lanes.proofs.int.bit_xor.Goals as goal

pub returns : goal.returns
returns c = xor_is _ _ (search rules) (search rules)
