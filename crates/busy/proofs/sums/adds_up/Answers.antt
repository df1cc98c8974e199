-- `busy::sums::adds_up` meets its contract. Assumes nothing.
use Prim.Native.Nat.{◌+◌, ◌<◌}
use mathlib.Core.Path.{◌≡◌, ◌∙◌, sym}
use native.Mathlib.Omega.{arith}
use borrow.Author.Tests.{ne_eqb, eq-eqb, lt-leb}
use lib.ListN.{get_or, length}
use Rattle.std.proofs.lemmas.List.{length_push}
use Rattle.std.proofs.lemmas.Slice.Zip.{zip_turn, zip_end}
use Rattle.busy.specs.Sums.{adds_up}
use Rattle.busy.proofs.Adding.{adds_end, adds_not, adds_over, adds_on, adds_start}
use Rattle.busy.proofs.sums.adds_up.Goals as goal
use Rattle.busy.proofs.sums.adds_up.Goals.{In-Some, then-counts-rows-via-then-counts-rows, then-counts-rows-via-else-counts-rows+then-total-gt-TOTAL, then-not-rests_at-via-then-not-rests_at, then-not-rests_at-via-else-not-rests_at+then-sum-count}

-- the turn's row and count, and where they stand
turn : (c : In-Some) → let n = length c.loop-k.yielded in
    (n < length c.args.counts.now) × (c.in-Some.k.now ≡ get_or c.args.rows.now n 0) × (c.in-Some.count.now ≡ get_or c.args.counts.now n 0)
turn c =
    let t = zip_turn c.args.rows.now c.args.counts.now c.loop-k.yielded c.into_iter-k-iterator.result c.loop-k.k-iterator c.next.new.self c.next.result (cc) (cc) c.loop-k.yielded_by _ c.in-Some.is c.next.ensures.steps in
    (t.1, t.2 0, t.3 0)

pub returns-then-counts-rows : goal.returns-then-counts-rows
unfolding adds_up
returns-then-counts-rows c =
    elim c.then-counts-rows.branch [
      | then-counts-rows-via-then-counts-rows w ↦ simp (ne_eqb _ _ w.if-counts-rows.true)
      | then-counts-rows-via-else-counts-rows+then-total-gt-TOTAL w ↦ simp (eq-eqb _ _ w.if-counts-rows.false, lt-leb _ _ w.if-total-gt-TOTAL.true)
    ]

pub loop-k-init : goal.loop-k-init
loop-k-init c = (omega arith, adds_start _ _ _ c.if-counts-rows.false c.if-total-gt-TOTAL.false)

pub returns-then-not-rests_at : goal.returns-then-not-rests_at
returns-then-not-rests_at c =
    let same : length c.args.counts.now ≡ length c.args.rows.now = omega arith in
    let t = turn (goal.at.returns-then-not-rests_at c).In-Some in
    let e = c.rests_at.ensures in
    elim c.then-not-rests_at.branch [
      | then-not-rests_at-via-then-not-rests_at w ↦ sym (c.loop-k.invariant.1 ∙ adds_not _ _ _ _ _ t.0 same (rw (t.1, t.2) at (sym e ∙ w.if-not-rests_at.true)))
      | then-not-rests_at-via-else-not-rests_at+then-sum-count w ↦
          let q : c.args.total < c.loop-k.sum + get_or c.args.counts.now (length c.loop-k.yielded) 0 = rw (sym t.2) (omega arith) in
          sym (c.loop-k.invariant.1 ∙ adds_over _ _ _ _ _ t.0 same q)
    ]

pub loop-k-preserved : goal.loop-k-preserved
loop-k-preserved c =
    let same : length c.args.counts.now ≡ length c.args.rows.now = omega arith in
    let t = turn (goal.at.loop-k-preserved c).In-Some in
    let e = sym c.rests_at.ensures ∙ c.if-not-rests_at.false in (
      omega arith,
      c.loop-k.invariant.1 ∙ rw (length_push c.loop-k.yielded _, t.2) (adds_on _ _ _ _ _ t.0 same (rw (t.1, t.2) at e)),
    )

pub returns : goal.returns
returns c =
    let same : length c.args.counts.now ≡ length c.args.rows.now = omega arith in
    let n = zip_end c.args.rows.now c.args.counts.now c.loop-k.yielded c.into_iter-k-iterator.result c.loop-k.k-iterator c.next.new.self c.next.result (cc) (cc) c.loop-k.yielded_by c.in-None.is c.next.ensures.steps in
    sym (c.loop-k.invariant.1 ∙ adds_end _ _ _ _ _ (omega (arith, n)) same)
