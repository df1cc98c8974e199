-- `patch_reader::reader::load_columns` meets its contract. Assumes nothing.
use Rattle.patch_reader.proofs.Whole.{Tells, tells}
use Rattle.patch_reader.proofs.Mapped.{mapped_ok, mapped_err}
use Rattle.patch_reader.proofs.Reading.{need_few, too_long, start, finish_good, finish_bad, advance, found, walk_end, walk_bad, walk_full, walk_marks}
use Prim.Native.Nat.{ℕ, ◌+◌, ◌-◌}
use Rattle.ops.specs.Record.{whole, record_at}
use Rattle.ops.specs.declared.refusals.Fault.{Fault}
use Rattle.patch_reader.specs.Answer.{unread}
use Rattle.std.proofs.lemmas.Result.{err_from_is_err_and}
use mathlib.Core.Path.{◌≡◌, ◌∙◌, sym, ap}
use native.Mathlib.Omega.{arith}
use borrow.Author.Rules.{rules}
use Rattle.patch_reader.proofs.reader.load_columns.Goals as goal
use Rattle.patch_reader.proofs.reader.load_columns.Goals.{In_ok-record}

is_whole : (c : In_ok-record) → let r = c.in_ok-record.record in whole r.row r.body r.len r.count r.next ≡ record_at c.args.bytes.now c.loop-at.at
is_whole c = found c.loop-at.invariant _ _ c.read_record.ensures (mapped_ok _ _ _ c.map_err.ensures.cases _ c.in_ok-record.was)

says : (c : In_ok-record) → let r = c.in_ok-record.record in Tells c.args.bytes.now c.loop-at.at r.row r.body r.len r.count r.next
says c = tells _ _ _ _ _ _ _ (sym (is_whole c))

pub returns-then-bytes-gt-FILE : goal.returns-then-bytes-gt-FILE
returns-then-bytes-gt-FILE c = too_long _ _ _ (c.new.ensures ∙ ap (λ (f : Fault). unread f 0) c.at.ensures) c.if-bytes-gt-FILE.true

pub loop-at-init : goal.loop-at-init
loop-at-init c = start _ _ c.if-bytes-gt-FILE.false

pub returns-in_err-record : goal.returns-in_err-record
returns-in_err-record c =
    let l = c.loop-at in
    let m = mapped_err _ _ _ c.map_err.ensures.cases _ c.in_err-record.was in
    let f = found l.invariant _ _ c.read_record.ensures m.1.0 in
    let p = err_from_is_err_and c.from_residual.result c.from_residual.ensures.1 in
    rw (p.1, p.2) (finish_bad l.invariant _ _ _ m.1.1 (walk_bad _ l.marks _ (4096 - l.n) _ _ c.loop-at-test.true f))

pub returns-then-n-ge-OPS : goal.returns-then-n-ge-OPS
returns-then-n-ge-OPS c =
    let w = is_whole (goal.at.returns-then-n-ge-OPS c).In_ok-record in
    finish_bad c.loop-at.invariant _ _ _ (c.new-then-n-ge-OPS.ensures ∙ ap (λ (f : Fault). unread f c.loop-at.n) c.at-then-n-ge-OPS.ensures)
    (walk_full _ _ _ _ _ _ _ _ _ c.loop-at-test.true w c.if-n-ge-OPS.true)

pub returns-then-more-gt-MARKS : goal.returns-then-more-gt-MARKS
returns-then-more-gt-MARKS c =
    let w = is_whole (goal.at.returns-then-more-gt-MARKS c).In_ok-record in
    let h = rw c.mark_of.ensures.0 at c.if-more-gt-MARKS.true in
    finish_bad c.loop-at.invariant _ _ _ (c.new-then-more-gt-MARKS.ensures ∙ ap (λ (f : Fault). unread f c.loop-at.n) c.at-then-more-gt-MARKS.ensures)
    (walk_marks _ _ _ _ _ _ _ _ _ c.loop-at-test.true w c.if-n-ge-OPS.false h)

pub overflow_cast-rows : goal.overflow_cast-rows
overflow_cast-rows c = omega (arith, (says (goal.at.overflow_cast-rows c).In_ok-record).small)

pub overflow_cast-counts : goal.overflow_cast-counts
overflow_cast-counts c = omega (arith, (says (goal.at.overflow_cast-counts c).In_ok-record).few)

pub overflow_cast-needs : goal.overflow_cast-needs
overflow_cast-needs c = omega (arith, need_few _ _ _ c.run_need-need.ensures (says (goal.at.overflow_cast-needs c).In_ok-record).few)

pub overflow_cast-payloads : goal.overflow_cast-payloads
overflow_cast-payloads c = omega (arith, says (goal.at.overflow_cast-payloads c).In_ok-record, c.loop-at.invariant.short)

pub loop-at-smaller : goal.loop-at-smaller
loop-at-smaller c = omega (arith, says (goal.at.loop-at-smaller c).In_ok-record)

pub loop-at-preserved : goal.loop-at-preserved
loop-at-preserved c =
    let more = ap (λ (j : ℕ). c.loop-at.marks + j) c.mark_of.ensures.0 in
    advance c.loop-at.invariant _ _ _ _ _ _ _ c.loop-at-test.true (is_whole (goal.at.loop-at-preserved c).In_ok-record) (omega arith) c.if-more-gt-MARKS.false c.run_need-need.ensures more
    (search rules) (search rules) (search rules) (search rules)

pub returns : goal.returns
returns c = finish_good c.loop-at.invariant (walk_end c.args.bytes.now c.loop-at.marks c.loop-at.at (4096 - c.loop-at.n) c.loop-at-test.false)
