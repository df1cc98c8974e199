-- A step on what the machine holds, as the code makes it: family by family. Assumes nothing.
use Rattle.std.specs.Prelude.{List, ℕ, get_or, ltb, eqb}
use Rattle.basics.specs.Pick.{pick}
use Rattle.lane_loops.specs.Rows.{cell_row, lane_row}
use Rattle.byte_fields.specs.Bytes.{u64_at}
use Rattle.kind_table.specs.Columns.{control_family, cell_family, lane_family, device_family, offset_family, swap_family}
use Rattle.kind_table.specs.Kinds.{family_of}
use Rattle.control_ops.specs.Control.{control_of}
use Rattle.tape_ops.specs.Tape.{tape_of}
use Rattle.lane_ops.specs.Lane.{cell_of, swap_of, alone_of, offset_of}
use Rattle.device_ops.specs.Device.{device_of}
use Rattle.machine_step.specs.Held.{Held, After, steering, laning, swapping, taping, telling, Code}

-- the op of row k that counts n, with its payload at byte a
unfoldable pub op_of : ℕ → ℕ → ℕ → List ℕ → List ℕ → List ℕ → Held → After
unfolding pick
op_of k n a ks bs input c =
    pick (eqb (family_of k) control_family) (steering c (control_of k ks c.numbers c.calls c.register c.table))
    (pick (eqb (family_of k) cell_family) (laning c (cell_of (cell_row k) n c.numbers c.register c.tape))
    (pick (eqb (family_of k) lane_family) (laning c (alone_of (lane_row k) n c.numbers c.register))
    (pick (eqb (family_of k) device_family) (telling c (device_of k a c.numbers c.register c.channel input c.output bs))
    (pick (eqb (family_of k) offset_family) (laning c (offset_of (u64_at bs a) n c.numbers c.register))
    (pick (eqb (family_of k) swap_family) (swapping c (swap_of n c.numbers c.register c.tape))
    (taping c (tape_of k n a c.numbers c.refs c.register c.tape bs)))))))

-- the op at the position; 21 where the register has fewer lanes than it needs, with the lanes that it has
unfoldable pub step_of : Code → List ℕ → Held → After
unfolding pick
step_of x input c =
    let at = c.numbers.position in
    pick (ltb c.numbers.lanes (get_or x.needs at 0)) (record { number = 21; lane = c.numbers.lanes; held = c })
    (op_of (get_or x.rows at 0) (get_or x.counts at 0) (get_or x.payloads at 0) x.rows x.bytes input c)
