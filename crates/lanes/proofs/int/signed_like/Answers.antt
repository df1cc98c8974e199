-- `lanes::int::signed_like` meets its contract. Assumes nothing.
use Rattle.std.proofs.Common.{rules}
use Rattle.lanes.proofs.Ints.{sign_put}
use borrow.Author.Rules.{rules}
use Rattle.lanes.proofs.int.signed_like.Goals as goal

pub returns : goal.returns
returns c = search (sign_put, rules)
