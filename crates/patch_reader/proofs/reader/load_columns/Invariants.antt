-- `patch_reader::reader::load_columns` meets its contract. Assumes nothing.
use Rattle.patch_reader.proofs.Reading.{Reading}
use Prim.Native.Nat.{◌-◌}
use lib.ListN.{length}
use Rattle.patch_reader.proofs.reader.load_columns.Given as goal

abbrev pub invariant-loop-at : goal.invariant-loop-at
invariant-loop-at l =
    let i = l.initial in
    Reading l.bytes (record { rows = i.rows; counts = i.counts; needs = i.needs; payloads = i.payloads })
    (record { rows = l.rows; counts = l.counts; needs = l.needs; payloads = l.payloads }) l.at l.n l.marks

abbrev pub decreases-loop-at : goal.decreases-loop-at
decreases-loop-at l = length l.bytes - l.at
