-- `joining::write::write_op` meets its contract. Assumes nothing.
use native.Mathlib.Omega.{arith}
use Rattle.joining.proofs.Records.{Writes, own_by, place_after, has_length, asks_head, asks_eight, wrote_changed, asks_record, wrote_kept}
use Rattle.joining.proofs.write.write_op.Goals as goal
use Rattle.joining.proofs.write.write_op.Goals.{After-has_value}

writes : (c : After-has_value) → let a = c.args in let r = a.source.now in
    Writes r.bytes.now r.rows.now r.counts.now r.payloads.now a.out.now r.ops a.entry a.at c.payload-from.result c.has_value.result
writes c =
    let r = c.args.source.now in
    let own = own_by r.rows.now r.counts.now c.args.entry c.seen.ensures c.has_value.ensures in
    search

pub overflow_sub-from : goal.overflow_sub-from
overflow_sub-from c = rw c.payload-from.ensures (place_after _ _ _ _ _ c.args.source.now.holds _ c.requires.within)

pub copy_bytes-requires : goal.copy_bytes-requires
copy_bytes-requires c = asks_head (writes (goal.at.copy_bytes-requires c).After-has_value) c.if-has_value.true

pub put_u64-requires : goal.put_u64-requires
put_u64-requires c = let h = asks_eight (writes (goal.at.put_u64-requires c).After-has_value) c.if-has_value.true in omega arith

pub u32_at-size-requires : goal.u32_at-size-requires
u32_at-size-requires c = has_length (writes (goal.at.u32_at-size-requires c).After-has_value)

pub copy_bytes-requires-2 : goal.copy_bytes-requires-2
copy_bytes-requires-2 c = asks_record (writes (goal.at.copy_bytes-requires-2 c).After-has_value) c.if-has_value.false c.u32_at-size.ensures.0

pub returns-then-has_value : goal.returns-then-has_value
returns-then-has_value c =
    let w = wrote_changed (writes (goal.at.returns-then-has_value c).After-has_value) c.if-has_value.true c.copy_bytes.ensures c.put_u64.ensures in
    record { after = w.0; value = w.1 }

pub returns : goal.returns
returns c =
    let w = wrote_kept (writes (goal.at.returns c).After-has_value) c.if-has_value.false c.u32_at-size.ensures.0 c.copy_bytes-2.ensures in
    record { after = w.0; value = w.1 }
