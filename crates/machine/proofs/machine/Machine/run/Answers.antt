-- `machine::machine::Machine::run` meets its contract. Assumes nothing.
use mathlib.Core.Path.{◌∙◌}
use Rattle.file_laws.proofs.Loaded.{few, good_file, good_ops}
use Rattle.machine.proofs.Called.{is_loaded, run_unread}
use Rattle.machine.proofs.machine.Machine.run.Goals as goal

pub returns-in-Err : goal.returns-in-Err
returns-in-Err c = c.refused.ensures _ ∙ run_unread _ _ _ c.in-Err.ensures.value _ _

pub shared_ref_as_front-adds_up : goal.shared_ref_as_front-adds_up
shared_ref_as_front-adds_up c = few _ _ (good_ops _ _ c.in-Ok.ensures.value)

pub run_loaded-requires-clause-ops : goal.run_loaded-requires-clause-ops
run_loaded-requires-clause-ops c = good_ops _ _ c.in-Ok.ensures.value

pub run_loaded-requires-clause-loaded : goal.run_loaded-requires-clause-loaded
run_loaded-requires-clause-loaded c =
    let l = c.in-Ok.ensures in
    is_loaded _ _ (good_file _ _ l.value) (good_ops _ _ l.value) _ _ _ _ l.rows_after l.counts_after l.needs_after l.payloads_after
