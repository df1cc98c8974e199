-- `standard_device::bindings::result_of` meets its contract. Assumes nothing.
use mathlib.Core.Path.{◌∙◌}
use Rattle.standard_device.proofs.Values.{root_of_first, sum_of_two}
use Rattle.standard_device.proofs.bindings.result_of.Goals as goal

pub returns-in-SquareRoot : goal.returns-in-SquareRoot
returns-in-SquareRoot c =
    let e = c.in-SquareRoot.is in
    rw e (c.square_root.ensures ∙ root_of_first _ _ _ c.requires.waiting_value (rw e at c.requires.binding_bound))

pub returns-in-Add : goal.returns-in-Add
returns-in-Add c =
    let e = c.in-Add.is in
    rw e (c.cell_rule.ensures ∙ sum_of_two _ _ _ c.requires.waiting_value (rw e at c.requires.binding_bound))
