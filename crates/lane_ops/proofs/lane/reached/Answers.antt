-- `lane_ops::lane::reached` meets its contract. Assumes nothing.
use mathlib.Core.Path.{refl}
use native.Mathlib.Omega.{arith}
use borrow.Author.Tests.{eq-eqb, ne_eqb}
use Rattle.basics.specs.Pick.{pick}
use Rattle.lane_ops.specs.Lane.{reached_of}
use Rattle.lane_ops.proofs.Reached.{inside}
use Rattle.lane_ops.proofs.lane.reached.Goals as goal

pub returns-then-r-ne-DONE-clause-value : goal.returns-then-r-ne-DONE-clause-value
unfolding reached_of pick
returns-then-r-ne-DONE-clause-value c = rw (← c.have-r.ensures, ne_eqb _ _ c.if-r-ne-DONE.true) refl

pub returns-clause-value : goal.returns-clause-value
unfolding reached_of pick
returns-clause-value c = rw (← c.have-r.ensures, eq-eqb _ _ c.if-r-ne-DONE.false) c.have.ensures

pub returns-clause-inside : goal.returns-clause-inside
returns-clause-inside c = λ z s. inside _ _ _ _ (returns-clause-value c) z (ne_eqb _ _ (λ e. omega arith))
