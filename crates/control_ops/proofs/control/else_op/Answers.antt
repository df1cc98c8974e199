-- `control_ops::control::else_op` meets its contract. Assumes nothing.
use Rattle.control_ops.specs.Control.{elses_of}
use Rattle.control_ops.proofs.Partners.{else_end}
use Rattle.control_ops.proofs.control.else_op.Goals as goal

pub returns : goal.returns
unfolding elses_of
returns c = λ p. simp (c.jump.ensures p, else_end c.from-e.ensures c.requires)
