-- `lanes::int::bit_or` meets its contract. Assumes nothing.
use Rattle.std.proofs.Common.{rules}
use Rattle.lanes.proofs.Bits.{or_is}
use borrow.Author.Rules.{rules}
use Rattle.lanes.proofs.int.bit_or.Goals as goal

pub returns : goal.returns
returns c = or_is _ _ (search rules) (search rules)
