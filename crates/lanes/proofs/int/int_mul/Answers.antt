-- `lanes::int::int_mul` meets its contract. Assumes nothing.
use Rattle.std.proofs.Common.{sym, ◌∙◌, rules}
use Rattle.lanes.proofs.Ints.{wrap_mul}
use borrow.Author.Rules.{rules}
use Rattle.lanes.proofs.int.int_mul.Goals as goal

pub returns : goal.returns
returns c = c.wrapping_mul.ensures ∙ sym (wrap_mul _ _ (search rules) (search rules))
