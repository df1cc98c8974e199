-- `testing_device::output::copy` meets its contract. Assumes nothing.
use Rattle.std.proofs.Common.{◌≡◌, length}
use lib.Seq.{paste}
use Rattle.testing_device.proofs.output.copy.Given as goal

abbrev pub invariant-loop-i : goal.invariant-loop-i
invariant-loop-i l = (l.output ≡ paste l.initial.output l.count l.values l.i) × (length l.output ≡ length l.initial.output)
