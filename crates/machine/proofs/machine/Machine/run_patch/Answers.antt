-- `machine::machine::Machine::run_patch` meets its contract. Assumes nothing.
use mathlib.Core.Path.{◌∙◌}
use native.Mathlib.Omega.{arith}
use Rattle.machine.proofs.HandedOn.{is_handed, marks_fit, few_handed, handed_bad}
use Rattle.machine.proofs.machine.Machine.run_patch.Goals as goal

pub returns-then-number-ne0 : goal.returns-then-number-ne0
returns-then-number-ne0 c = c.refused.ensures _ ∙ handed_bad _ _ c.requires _ c.if-number-ne0.true _ _

pub shared_ref_as_front-code : goal.shared_ref_as_front-code
shared_ref_as_front-code c = few_handed _ _ c.requires

pub offset_bounds-patch-patch : goal.offset_bounds-patch-patch
offset_bounds-patch-patch c = omega (arith, marks_fit _ _ c.requires)

pub slice_bounds-code-count : goal.slice_bounds-code-count
slice_bounds-code-count c = marks_fit _ _ c.requires

pub slice_bounds-code-start : goal.slice_bounds-code-start
slice_bounds-code-start c = marks_fit _ _ c.requires

pub run_read-requires-clause-read : goal.run_read-requires-clause-read
run_read-requires-clause-read c = is_handed _ _ c.requires c.if-number-ne0.false
