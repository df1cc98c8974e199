-- `control_ops::control::call` meets its contract. Assumes nothing.
use mathlib.Core.Path.{◌∙◌, sym}
use native.Mathlib.Omega.{arith}
use borrow.Author.Tests.{le-leb, lt-leb}
use Rattle.basics.specs.Pick.{pick}
use Rattle.machine_numbers.specs.Numbers.{left}
use Rattle.partners.proofs.Marks.{nth_by}
use Rattle.control_ops.specs.Control.{call_of}
use Rattle.control_ops.proofs.Meant.{either, meant, not_meant}
use Rattle.control_ops.proofs.control.call.Goals as goal

pub returns-then-k-ge-SIGN : goal.returns-then-k-ge-SIGN
unfolding left pick call_of
returns-then-k-ge-SIGN c = λ p. simp (le-leb _ _ c.if-k-ge-SIGN.true)

pub returns-then-d-ge-CALLS : goal.returns-then-d-ge-CALLS
unfolding left pick call_of
returns-then-d-ge-CALLS c = λ p. simp (le-leb _ _ c.if-d-ge-CALLS.true, lt-leb _ _ c.if-k-ge-SIGN.false)

pub bounds-table-j : goal.bounds-table-j
unfolding left pick call_of
bounds-table-j c =
    let h = c.requires in
    omega (arith, (meant _ _ _ _ _ _ (sym c.stands.ensures ∙ c.if-stands.true) h.marks h.functions h.entered h.rising).0, h.functions)

pub returns-then-stands : goal.returns-then-stands
unfolding left pick call_of
returns-then-stands c =
    λ p.
    let h = c.requires in
    either (meant _ _ _ _ _ _ (sym c.stands.ensures ∙ c.if-stands.true) h.marks h.functions h.entered h.rising).1
    (λ e. simp (e, lt-leb _ _ c.if-d-ge-CALLS.false, lt-leb _ _ c.if-k-ge-SIGN.false, c.from-to.ensures))
    (λ e. simp (
      e.by_mark,
      e.is,
      e.there,
      e.count,
      e.same,
      lt-leb _ _ c.if-d-ge-CALLS.false,
      lt-leb _ _ c.if-k-ge-SIGN.false,
      c.from-to.ensures,
    ))

pub returns-then-rows-m : goal.returns-then-rows-m
unfolding left pick call_of
returns-then-rows-m c =
    λ p.
    let h = c.requires in
    simp (
      le-leb _ _ c.if-rows-m.true,
      not_meant _ _ _ _ _ (sym c.stands.ensures ∙ c.if-stands.false),
      lt-leb _ _ c.if-d-ge-CALLS.false,
      lt-leb _ _ c.if-k-ge-SIGN.false,
      ← nth_by _ _ _ _ h.marks c.nth_function-m.ensures,
    )

pub returns : goal.returns
unfolding left pick call_of
returns c =
    λ p.
    let h = c.requires in
    simp (
      lt-leb _ _ c.if-rows-m.false,
      not_meant _ _ _ _ _ (sym c.stands.ensures ∙ c.if-stands.false),
      lt-leb _ _ c.if-d-ge-CALLS.false,
      lt-leb _ _ c.if-k-ge-SIGN.false,
      c.enter.ensures.0,
      c.enter.ensures.1,
      ← nth_by _ _ _ _ h.marks c.nth_function-m.ensures,
    )
