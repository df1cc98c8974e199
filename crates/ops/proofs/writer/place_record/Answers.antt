-- `ops::writer::place_record` meets its contract. Assumes nothing.
use Prim.Native.Nat.{◌+◌, ◌≤◌}
use mathlib.Core.Path.{refl}
use native.Mathlib.Omega.{arith}
use lib.ListN.{length}
use Rattle.ops.proofs.Room.{record_placed}
use Rattle.ops.proofs.writer.place_record.Goals as goal

pub returns : goal.returns
returns c =
    let a = c.args in
    let h : a.at + 6 + length a.payload.now ≤ length a.out.now = omega arith in
    (refl, rw (c.copy_bytes.ensures, c.put_u16.ensures, c.put_u32.ensures, c.from.ensures) (record_placed a.out.now a.at a.kind a.payload.now h))
