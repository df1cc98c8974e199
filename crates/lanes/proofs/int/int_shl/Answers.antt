-- `lanes::int::int_shl` meets its contract. Assumes nothing.
use Rattle.std.proofs.Common.{sym, rules}
use Rattle.lanes.proofs.Ints.{wrap_times}
use borrow.Author.Rules.{rules}
use Rattle.lanes.proofs.int.int_shl.Goals as goal

pub returns : goal.returns
returns c = sym (wrap_times _ _ (search rules))
