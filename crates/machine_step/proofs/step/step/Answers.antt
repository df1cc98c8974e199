-- `machine_step::step::step` meets its contract. Assumes nothing.
use mathlib.Core.Path.{refl}
use native.Mathlib.Omega.{arith}
use borrow.Author.Tests.{lt-ltb, le-ltb}
use Rattle.basics.specs.Pick.{pick}
use Rattle.machine_numbers.proofs.Had.{stepped_lacking}
use Rattle.machine_step.specs.Step.{step_of}
use Rattle.machine_step.proofs.Steps.{can_op, stepped_as, went, jumped, halted, refused}
use Rattle.machine_step.proofs.step.step.Goals as goal

pub returns-then-has-d-clause-stepped : goal.returns-then-has-d-clause-stepped
unfolding step_of pick
returns-then-has-d-clause-stepped c = rw (← c.from-d.ensures, lt-ltb _ _ c.if-has-d.true, c.with_lane.ensures, stepped_lacking 21 _ (omega arith) (omega arith)) refl

pub op-r-requires : goal.op-r-requires
op-r-requires c =
    let h = c.requires in
    rw c.from-n.ensures (can_op h.can_step h.payloads h.stored)

pub returns-then-r-eq-DONE-clause-stepped : goal.returns-then-r-eq-DONE-clause-stepped
returns-then-r-eq-DONE-clause-stepped c =
    stepped_as _ _ _ refl c.from-n.ensures refl (rw (← c.from-d.ensures) (le-ltb _ _ c.if-has-d.false))
    (went _ _ _ c.if-r-eq-DONE.true)
    c.op-r.ensures.done

pub returns-then-r-eq-JUMPED-clause-stepped : goal.returns-then-r-eq-JUMPED-clause-stepped
returns-then-r-eq-JUMPED-clause-stepped c =
    stepped_as _ _ _ refl c.from-n.ensures refl (rw (← c.from-d.ensures) (le-ltb _ _ c.if-has-d.false))
    (jumped _ _ _ c.if-r-eq-JUMPED.true)
    c.op-r.ensures.done

pub returns-then-r-eq-HALTED-clause-stepped : goal.returns-then-r-eq-HALTED-clause-stepped
returns-then-r-eq-HALTED-clause-stepped c =
    stepped_as _ _ _ refl c.from-n.ensures refl (rw (← c.from-d.ensures) (le-ltb _ _ c.if-has-d.false))
    (halted _ _ _ c.if-r-eq-HALTED.true)
    c.op-r.ensures.done

pub returns-clause-stepped : goal.returns-clause-stepped
returns-clause-stepped c =
    stepped_as _ _ _ refl c.from-n.ensures refl (rw (← c.from-d.ensures) (le-ltb _ _ c.if-has-d.false))
    (refused _ _ _ c.if-r-eq-DONE.false c.if-r-eq-JUMPED.false c.if-r-eq-HALTED.false)
    c.op-r.ensures.done
