-- `joining::join::join` meets its contract. Assumes nothing.
use Rattle.joining.specs.Source.{Holds}
use Rattle.file_laws.proofs.Loaded.{few, good_file, good_ops}
use Rattle.joining.proofs.Files.{all_below, refused, no_room, holds, all_within, file_fits, all_joined}
use Rattle.joining.proofs.join.join.Goals as goal
use Rattle.joining.proofs.join.join.Goals.{In_ok-ops}

held : (c : In_ok-ops) → let r = c.load_columns.new in Holds c.args.bytes.now r.rows r.counts r.payloads c.in_ok-ops.ops
held c =
    let e = c.in_ok-ops.ensures in
    holds _ _ (good_ops _ _ e.value) _ _ _ _ _ _ e.rows_after e.counts_after e.payloads_after

pub returns-in_err-ops : goal.returns-in_err-ops
returns-in_err-ops c = refused _ _ c.in_err-ops.ensures.value _ c.from_residual.ensures.1 _

pub returns-then-out-bytes : goal.returns-then-out-bytes
returns-then-out-bytes c = no_room _ (good_file _ _ c.in_ok-ops.ensures.value) _ c.if-out-bytes.true

pub invariant_of-source : goal.invariant_of-source
invariant_of-source c =
    let h = held (goal.at.invariant_of-source c).In_ok-ops in
    record { few = few _ _ h.many; holds = h }

pub write_all-bytes-requires : goal.write_all-bytes-requires
write_all-bytes-requires c =
    let h = held (goal.at.write_all-bytes-requires c).In_ok-ops in
    let z = good_file _ _ c.in_ok-ops.ensures.value in
    let e = c.push_all.ensures in
    let w = all_below _ c.type_inv.bytes in
    record {
      bytes = w;
      within = all_within h c.push_all.new.left e.value;
      room = file_fits h c.push_all.new.left e.value z _ c.if-out-bytes.false w;
    }

pub returns : goal.returns
returns c =
    let h = held (goal.at.returns c).In_ok-ops in
    let z = good_file _ _ c.in_ok-ops.ensures.value in
    let w = c.write_all-bytes.ensures in
    all_joined h c.push_all.new.left c.push_all.ensures.value z _ c.if-out-bytes.false w.after w.value
