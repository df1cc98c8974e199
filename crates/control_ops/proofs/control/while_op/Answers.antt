-- `control_ops::control::while_op` meets its contract. Assumes nothing.
use borrow.Author.Tests.{eq-eqb}
use Rattle.basics.specs.Pick.{pick}
use Rattle.machine_numbers.specs.Numbers.{left}
use Rattle.control_ops.specs.Control.{while_of}
use Rattle.control_ops.proofs.Partners.{while_end}
use Rattle.control_ops.proofs.control.while_op.Goals as goal

pub returns-then-register-eq0 : goal.returns-then-register-eq0
unfolding left pick while_of
returns-then-register-eq0 c = λ p. simp (eq-eqb _ _ c.if-register-eq0.true, c.jump.ensures p, while_end c.from-e.ensures c.requires.0)
