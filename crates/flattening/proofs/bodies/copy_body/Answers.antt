-- `flattening::bodies::copy_body` meets its contract. Assumes nothing.
use Rattle.std.proofs.Common.{◌+◌, ◌≤◌, length, arith}
use Rattle.flattening.proofs.Copying.{begin, head_fits, size_fits, room_here, over, on, next_is, count_is, out_is}
use Rattle.flattening.proofs.bodies.copy_body.Goals as goal

pub loop-mine-init : goal.loop-mine-init
loop-mine-init c = begin _ _ _ _ _ c.requires.good (λ i. omega (arith, c.type_inv.bytes i))

pub u32_at-size-requires : goal.u32_at-size-requires
u32_at-size-requires c = search head_fits

pub overflow_add-from : goal.overflow_add-from
overflow_add-from c = omega (arith, size_fits _ _ _ _ _ _ _ _ _ _ c.loop-mine.invariant c.requires.good c.requires.owned c.loop-mine-test.true _ c.u32_at-size.ensures.0)

pub loop-mine-preserved-then-from-number : goal.loop-mine-preserved-then-from-number
loop-mine-preserved-then-from-number c = search over

pub copy_bytes-requires : goal.copy_bytes-requires
copy_bytes-requires c = search (room_here, size_fits)

pub overflow_add-next : goal.overflow_add-next
overflow_add-next c =
    let f : c.loop-mine.next + (c.u32_at-size.result + 4) ≤ length c.loop-mine.out = search room_here in
    omega (arith, f)

pub loop-mine-preserved : goal.loop-mine-preserved
loop-mine-preserved c = search on

pub returns : goal.returns
returns c = record { next_value = search next_is; ops_value = search count_is; out_after = search out_is }
