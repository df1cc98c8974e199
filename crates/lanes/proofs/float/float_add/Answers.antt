-- `lanes::float::float_add` meets its contract. Assumes nothing.
use borrow.Author.Rules.{rules}
use lib.Ieee.{binary64, add}
use Rattle.lanes.proofs.Floats.{add_strict}
use Rattle.lanes.proofs.float.float_add.Goals as goal

pub returns : goal.returns
returns c = c.unless_nan.ensures (add binary64) (λ x y r p. search rules) add_strict
