-- `lanes::int::bit_nand` meets its contract. Assumes nothing.
use Rattle.std.proofs.Common.{rules}
use Rattle.lanes.proofs.Bits.{nand_is}
use borrow.Author.Rules.{rules}
use Rattle.lanes.proofs.int.bit_nand.Goals as goal

pub returns : goal.returns
returns c = nand_is _ _ (search rules) (search rules)
