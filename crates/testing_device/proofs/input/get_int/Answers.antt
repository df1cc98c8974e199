-- `testing_device::input::get_int` meets its contract. Assumes nothing.
use Rattle.std.proofs.Common.{sym, ◌∙◌, refl, arith}
use Rattle.decimals.proofs.Ends.{leading_stop}
use Rattle.testing_device.specs.Device.{is_digit}
use Rattle.testing_device.proofs.Inputs.{digits_none, digits_more, digits_last, int_is}
use Rattle.testing_device.proofs.input.get_int.Goals as goal

pub loop-i-init : goal.loop-i-init
loop-i-init c = let a = c.args in (rw c.past_spaces-start.ensures (int_is a.input.now a.at), λ h. refl)

pub returns-then-not-is_digit : goal.returns-then-not-is_digit
returns-then-not-is_digit c =
    sym (digits_none _ _ _ (leading_stop is_digit _ _ c.loop-i-test.true (sym c.is_digit.ensures ∙ c.if-not-is_digit.true))) ∙ c.loop-i.invariant.0

pub loop-i-preserved : goal.loop-i-preserved
loop-i-preserved c = (
  rw c.with_digit-value.ensures (sym (digits_more _ _ _ c.loop-i-test.true (sym c.is_digit.ensures ∙ c.if-not-is_digit.false)) ∙ c.loop-i.invariant.0),
  λ h. absurd (omega arith),
)

pub returns : goal.returns
returns c = rw c.max.ensures (digits_last _ _ _ _ _ c.loop-i.invariant.0 c.loop-i-test.false c.loop-i.auto.i-end c.loop-i.invariant.1)
