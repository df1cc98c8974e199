-- `testing_device::output::text_of` meets its contract. Assumes nothing.
use Rattle.std.proofs.Common.{◌≡◌, ℕ, ◌+◌, ◌-◌, ◌^◌, List, ◌∷◌, length, ap, ◌∙◌, arith, rules, le-ltb, lt-ltb}
use Rattle.testing_device.specs.Device.{decimal, written}
use Rattle.testing_device.proofs.Outputs.{store_before}
use borrow.Author.Rules.{rules}
use Rattle.testing_device.proofs.output.text_of.Goals as goal

pub returns-then-value-lt9223372036854775808 : goal.returns-then-value-lt9223372036854775808
unfolding written
returns-then-value-lt9223372036854775808 c = (rw (lt-ltb _ _ c.if-value-lt9223372036854775808.true) c.digits_of.ensures.0, c.digits_of.ensures.2)

pub returns : goal.returns
unfolding written
returns c =
    let d = c.digits_of-text in let r = d.result in let v = c.args.value in
    let e : length r.chars ≡ 20 = search rules in
    let q : 18446744073709551615 - v + 1 ≡ 2 ^ 64 - v = omega arith in (
      rw (le-ltb v (2 ^ 63) c.if-value-lt9223372036854775808.false)
          (store_before r.chars r.from 45 d.ensures.1 (omega (arith, d.ensures.2)) ∙ ap (λ (l : List ℕ). 45 ∷ l) (d.ensures.0 ∙ ap (decimal 20) q)),
      omega (arith, d.ensures.2),
    )
