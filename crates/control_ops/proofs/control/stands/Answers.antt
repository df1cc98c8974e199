-- `control_ops::control::stands` meets its contract. Assumes nothing.
use Rattle.control_ops.proofs.Meant.{held_inside}
use Rattle.control_ops.proofs.control.stands.Goals as goal

pub bounds-meant-j : goal.bounds-meant-j
bounds-meant-j c =
    let pre = c.requires in
    held_inside _ _ _ _ _ _ c.held_to-meant.ensures c.if-n-j.false pre.0 pre.1
