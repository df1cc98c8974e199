-- `byte_fields::read::read_values` meets its contract. Assumes nothing.
use mathlib.Core.Path.{◌≡◌}
use Rattle.byte_fields.specs.Bytes.{values_at}
use Rattle.byte_fields.specs.Storage.{fill}
use Rattle.byte_fields.proofs.read.read_values.Given as goal

abbrev pub invariant-loop-i : goal.invariant-loop-i
invariant-loop-i l = l.register ≡ fill (values_at l.bytes l.at l.i) l.initial.register
