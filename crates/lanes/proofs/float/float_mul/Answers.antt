-- `lanes::float::float_mul` meets its contract. Assumes nothing.
use borrow.Author.Rules.{rules}
use lib.Ieee.{binary64, mul}
use Rattle.lanes.proofs.Floats.{mul_strict}
use Rattle.lanes.proofs.float.float_mul.Goals as goal

pub returns : goal.returns
returns c = c.unless_nan.ensures (mul binary64) (λ x y r p. search rules) mul_strict
