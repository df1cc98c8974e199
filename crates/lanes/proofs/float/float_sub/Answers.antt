-- `lanes::float::float_sub` meets its contract. Assumes nothing.
use borrow.Author.Rules.{rules}
use lib.Ieee.{binary64, sub}
use Rattle.lanes.proofs.Floats.{sub_strict}
use Rattle.lanes.proofs.float.float_sub.Goals as goal

pub returns : goal.returns
returns c = c.unless_nan.ensures (sub binary64) (λ x y r p. search rules) sub_strict
