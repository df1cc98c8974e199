-- `testing_device::output::digits_of` meets its contract. Assumes nothing.
use Rattle.std.proofs.Common.{refl, ◌∙◌, append-nil, arith, length-set}
use Rattle.testing_device.proofs.Outputs.{digit_more, digit_last, digits_fit}
use Rattle.testing_device.proofs.output.digits_of.Goals as goal

pub loop-rest-init : goal.loop-rest-init
loop-rest-init c = (omega arith, omega arith, c.requires, append-nil _, refl)

pub loop-rest-preserved : goal.loop-rest-preserved
loop-rest-preserved c =
    let at = c.loop-rest in
    let f = digits_fit at.text.from at.rest c.loop-rest-test.true at.invariant.2 in (
      omega (arith, f.0),
      omega arith,
      f.1,
      digit_more at.text.chars at.text.from at.rest (omega arith) (rw at.invariant.4 at.invariant.1) c.loop-rest-test.true ∙ at.invariant.3,
      simp length-set at.invariant.4,
    )

pub returns : goal.returns
returns c =
    let at = c.loop-rest in
    (digit_last at.text.chars at.text.from at.rest (omega arith) (omega arith) c.loop-rest-test.false ∙ at.invariant.3, omega arith, omega arith)
