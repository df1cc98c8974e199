-- `testing_device::output::digits_of` meets its contract. Assumes nothing.
use Rattle.std.proofs.Common.{◌≡◌, ◌-◌, ◌^◌, ◌<◌, ◌≤◌, ◌++◌, length, drop}
use Rattle.testing_device.specs.Device.{decimal}
use Rattle.testing_device.proofs.output.digits_of.Given as goal

abbrev pub invariant-loop-rest : goal.invariant-loop-rest
invariant-loop-rest l =
    (1 < l.text.from) × (l.text.from ≤ 20) × (l.rest < 10 ^ (l.text.from - 1)) × (decimal l.text.from l.rest ++ drop l.text.from l.text.chars ≡ decimal 20 l.n) × (length l.text.chars ≡ 20)

abbrev pub decreases-loop-rest : goal.decreases-loop-rest
decreases-loop-rest l = l.rest
