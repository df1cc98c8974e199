-- `machine::machine::Machine::run_loaded` meets its contract. Assumes nothing.
use mathlib.Core.Path.{refl}
use Rattle.file_laws.proofs.Loaded.{few}
use Rattle.machine.proofs.Called.{ops_many, rows_few, marks_few, is_read}
use borrow.Author.Rules.{rules}
use Rattle.machine.proofs.machine.Machine.run_loaded.Goals as goal

pub shared_ref_as_front-rows : goal.shared_ref_as_front-rows
shared_ref_as_front-rows c = few _ _ c.requires.ops

pub find_partners-first-requires : goal.find_partners-first-requires
find_partners-first-requires c =
    let h = c.requires.loaded in
    (rows_few _ _ _ _ _ h, search rules, search rules, marks_few _ _ _ _ _ h)

pub run_read-requires-clause-read : goal.run_read-requires-clause-read
run_read-requires-clause-read c =
    let h = c.requires.loaded in
    let p = c.find_partners-first.ensures in
    is_read _ _ _ _ _ h _ (ops_many _ _ _ _ _ h _ c.requires.ops) _ _ _ _ _ _ _ (p.partners_after, (p.turns_after, p.rows_value)) refl
