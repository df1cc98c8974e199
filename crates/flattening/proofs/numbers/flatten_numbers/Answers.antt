-- `flattening::numbers::flatten_numbers` meets its contract. Assumes nothing.
use Rattle.std.proofs.Common.{◌≡◌, Err, length, ap, sym, arith}
use Rattle.std.proofs.lemmas.List.{length-take-le}
use borrow.Author.Rules.{rules}
use Rattle.answers.specs.Flatten.{bad_file}
use Rattle.answers.specs.declared.flatten.FlattenError.TheVariants.{NoOpenEnd}
use Rattle.flattening.proofs.File.{few_ops, few_rows, stray_file, short, can_write, written_file}
use Rattle.flattening.proofs.File as file
use Rattle.flattening.specs.Scope.{blank}
use Rattle.flattening.specs.declared.numbering.Numbering.{Numbering}
use Rattle.flattening.proofs.numbers.flatten_numbers.Goals as goal

pub returns-in_err-ops : goal.returns-in_err-ops
returns-in_err-ops c =
    let e : c.from_residual.result ≡ Err (bad_file c.in_err-ops.field-0.0) = search rules in
    file.bad_file _ _ _ _ _ _ _ c.in_err-ops.ensures.value e

pub slice_bounds-kinds-end : goal.slice_bounds-kinds-end
slice_bounds-kinds-end c = let e : length c.load_rows.new.rows ≡ 4096 = search rules in omega (arith, few_ops _ _ c.in_ok-ops.ensures.value, e)

pub slice_bounds-rows-end : goal.slice_bounds-rows-end
slice_bounds-rows-end c =
    let e : length c.load_rows.new.rows ≡ 4096 = search rules in sym (length-take-le _ _ (omega (arith, few_ops _ _ c.in_ok-ops.ensures.value, e)))

pub number_ops-requires : goal.number_ops-requires
unfolding blank
number_ops-requires c = record { few = few_rows _ _ c.in_ok-ops.ensures.value _ _ c.load_rows.ensures.rows_after; unseen = ap (λ (x : Numbering). x.seen) c.blank-numbering.ensures }

pub returns-in_err-number_ops : goal.returns-in_err-number_ops
returns-in_err-number_ops c =
    let e : c.from_residual-in_err-number_ops.result ≡ Err (NoOpenEnd c.in_err-number_ops.field-0.0.op) = search rules in
    stray_file _ _ c.in_ok-ops.ensures.value _ _ c.load_rows.ensures.rows_after _ _ _ _ _ _ c.in_err-number_ops.ensures e

pub returns-then-out-bytes : goal.returns-then-out-bytes
returns-then-out-bytes c =
    short _ _ c.in_ok-ops.ensures.value _ _ c.load_rows.ensures.rows_after _ _ c.in_ok-number_ops.ensures _ _ _ _ _ c.count_marks-marks.ensures c.then-out-bytes.either

pub shared_ref_as_front-write_bodies : goal.shared_ref_as_front-write_bodies
shared_ref_as_front-write_bodies c = few_ops _ _ c.in_ok-ops.ensures.value

pub write_bodies-bodies-requires : goal.write_bodies-bodies-requires
write_bodies-bodies-requires c =
    let w = c.type_inv.bytes in
    can_write _ _ c.in_ok-ops.ensures.value _ _ c.load_rows.ensures.rows_after _ _ c.in_ok-number_ops.ensures _ _ _ _ _ c.count_marks-marks.ensures
    c.if-out-bytes.false c.if-numbers-marks.false c.if-firsts-marks.false c.if-counts-marks.false (λ i. (w i).fits)

pub returns : goal.returns
returns c =
    let w = c.type_inv.bytes in
    let wrote = c.write_bodies-bodies.ensures in
    written_file _ _ c.in_ok-ops.ensures.value _ _ c.load_rows.ensures.rows_after _ _ c.in_ok-number_ops.ensures _ _ _ _ _ c.count_marks-marks.ensures
    c.if-out-bytes.false c.if-numbers-marks.false c.if-firsts-marks.false c.if-counts-marks.false (λ i. (w i).fits)
    _ _ _ _ _ wrote.value wrote.out_after wrote.numbers_after wrote.firsts_after wrote.counts_after
