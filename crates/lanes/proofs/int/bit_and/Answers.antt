-- `lanes::int::bit_and` meets its contract. Assumes nothing.
use Rattle.std.proofs.Common.{rules}
use Rattle.lanes.proofs.Bits.{and_is}
use borrow.Author.Rules.{rules}
use Rattle.lanes.proofs.int.bit_and.Goals as goal

pub returns : goal.returns
returns c = and_is _ _ (search rules) (search rules)
