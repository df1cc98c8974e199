-- `byte_fields::write::copy_bytes` meets its contract. The invariant: i bytes are copied. Assumes nothing.
use mathlib.Core.Path.{◌≡◌}
use lib.ListN.{length}
use Rattle.byte_fields.specs.Bytes.{text_at}
use Rattle.byte_fields.specs.Storage.{placed}
use Rattle.byte_fields.proofs.write.copy_bytes.Given as goal

abbrev pub invariant-loop-i : goal.invariant-loop-i
invariant-loop-i l = (l.out ≡ placed l.initial.out l.at (text_at l.bytes l.from l.i)) × (length l.out ≡ length l.initial.out)
