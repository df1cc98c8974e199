-- `check::check` meets its contract. Assumes nothing.
use borrow.Author.Rules.{rules}
use Rattle.std.proofs.Common.{◌≡◌, length, sym, arith}
use Rattle.std.proofs.lemmas.List.{length-take-le}
use Rattle.file_laws.proofs.Loaded.{few, good_ops}
use Rattle.patch_check.proofs.Loaded.{bad_file_lem, parts, good_file_lem}
use Rattle.patch_check.proofs.check.check.Goals as goal

pub returns-in_err-count : goal.returns-in_err-count
returns-in_err-count c = bad_file_lem _ _ c.in_err-count.ensures.value _ c.from_residual.ensures.1

pub slice_bounds-rows-end : goal.slice_bounds-rows-end
slice_bounds-rows-end c = let e : length c.load_columns.new.rows ≡ 4096 = search rules in omega (arith, few _ _ (good_ops _ _ c.in_ok-count.ensures.value), e)

pub slice_bounds-check_ops-end : goal.slice_bounds-check_ops-end
slice_bounds-check_ops-end c =
    let e : length c.load_columns.new.rows ≡ 4096 = search rules in
    sym (length-take-le _ _ (omega (arith, few _ _ (good_ops _ _ c.in_ok-count.ensures.value), e)))

pub slice_bounds-counts-end : goal.slice_bounds-counts-end
slice_bounds-counts-end c = let e : length c.load_columns.new.counts ≡ 4096 = search rules in omega (arith, few _ _ (good_ops _ _ c.in_ok-count.ensures.value), e)

pub slice_bounds-check_ops-end-2 : goal.slice_bounds-check_ops-end-2
slice_bounds-check_ops-end-2 c =
    let e : length c.load_columns.new.counts ≡ 4096 = search rules in
    sym (length-take-le _ _ (omega (arith, few _ _ (good_ops _ _ c.in_ok-count.ensures.value), e)))

pub check_ops-requires : goal.check_ops-requires
check_ops-requires c = parts _ _ c.in_ok-count.ensures.value _ _ _ _ c.load_columns.ensures.rows_after c.load_columns.ensures.counts_after

pub returns : goal.returns
returns c = good_file_lem _ _ c.in_ok-count.ensures.value _ _ _ _ c.load_columns.ensures.rows_after c.load_columns.ensures.counts_after _ c.check_ops.ensures
