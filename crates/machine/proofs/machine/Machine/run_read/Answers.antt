-- `machine::machine::Machine::run_read` meets its contract. Assumes nothing.
use mathlib.Core.Path.{◌∙◌, ap}
use mathlib.Core.Bool.{not}
use borrow.Author.Rules.{rules}
use Rattle.machine_run.specs.Ready.{ReadyToRun}
use Rattle.machine_step.specs.Held.{code_in, held}
use Rattle.machine.proofs.Called.{few_rows, run_unformed, run_unadded, run_going, within, can_count, run_called}
use Rattle.machine.proofs.machine.Machine.run_read.Goals as goal
use Rattle.machine.proofs.machine.Machine.run_read.Goals.{After-allowed_steps}

pub is_formed-requires : goal.is_formed-requires
is_formed-requires c = few_rows _ _ c.requires.read

pub returns-then-not-is_formed : goal.returns-then-not-is_formed
returns-then-not-is_formed c =
    c.refused.ensures _
    ∙ run_unformed _ _ _ c.requires.read _ _ c.is_formed.ensures _ c.requires.sums (ap not c.if-not-is_formed.true) _

pub returns-then-not-stand : goal.returns-then-not-stand
returns-then-not-stand c =
    c.refused-then-not-stand.ensures _
    ∙ run_unadded _ _ _ c.requires.read _ _ c.is_formed.ensures _ c.requires.sums (ap not c.if-not-is_formed.false) (ap not c.if-not-stand.true) _

-- the state is ready to run
going : (c : After-allowed_steps) → let a = c.args in
    ReadyToRun a.code.now.bytes.now a.input.now (code_in a.code.now)
    (held a.self.numbers a.self.calls a.self.refs a.register.now a.tape.now a.table.now a.channel.now a.output.now)
going c = run_going _ _ _ c.requires.read _ _ c.is_formed.ensures _ c.requires.sums (ap not c.if-not-is_formed.false) (search rules) (search rules)

pub go-ended-requires : goal.go-ended-requires
go-ended-requires c =
    record { ready = going c; count = can_count _ _ _ _ c.requires.sums (ap not c.if-not-stand.false) _ _ c.allowed_steps.ensures }

pub total_after-requires : goal.total_after-requires
total_after-requires c = within _ _ _ _ c.requires.sums (ap not c.if-not-stand.false)

pub returns : goal.returns
returns c =
    rw c.total_after.ensures
    (run_called _ _ _ c.requires.read _ _ c.is_formed.ensures _ c.requires.sums (ap not c.if-not-is_formed.false) (ap not c.if-not-stand.false) _ _ c.allowed_steps.ensures (going (goal.at.returns c).After-allowed_steps)
    (record { at = c.args.code.now.fits }) _ _ c.go-ended.ensures.run c.go-ended.ensures.counts)
