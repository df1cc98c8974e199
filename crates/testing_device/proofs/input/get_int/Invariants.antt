-- `testing_device::input::get_int` meets its contract. Assumes nothing.
use Rattle.std.proofs.Common.{◌≡◌, ◌≤◌, length, drop}
use Rattle.testing_device.specs.Device.{int_from}
use Rattle.testing_device.proofs.Inputs.{digits_from}
use Rattle.testing_device.proofs.input.get_int.Given as goal

abbrev pub invariant-loop-i : goal.invariant-loop-i
invariant-loop-i l =
    (digits_from l.input l.i l.value ≡ int_from (drop l.at l.input) l.at) × (length l.input ≤ l.start → l.i ≡ l.start)
