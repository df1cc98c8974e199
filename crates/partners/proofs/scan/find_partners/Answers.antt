-- `partners::scan::find_partners` meets its contract. Assumes nothing.
use mathlib.Core.Path.{◌≡◌, ◌∙◌, sym}
use Prim.Native.Nat.{◌≤◌, ◌<◌}
use native.Mathlib.Omega.{arith}
use lib.ListN.{length}
use borrow.Author.Tests.{eqb-true}
use Rattle.partners.specs.Columns.{functions_of}
use Rattle.partners.proofs.Kept.{kept_first, kept_last, pass_asks, kept_turn}
use Rattle.partners.proofs.Marks.{marks_first, marks_last, mark_asks, marks_turn}
use Rattle.partners.proofs.scan.find_partners.Goals as goal

pub returns-then-is_empty : goal.returns-then-is_empty
returns-then-is_empty c =
    let p = c.requires in
    let z : length c.args.rows.now ≡ 0 = eqb-true _ _ (sym c.is_empty.ensures ∙ c.if-is_empty.true) in
    let f : length c.args.marks.now ≡ 256 = omega arith in
    let k = kept_last _ p.0 _ _ z (kept_first _ p.0) in
    let m = marks_last _ c.args.marks.now _ _ _ z (marks_first _ _ 256 f) in
    record { partners_after = rw p.1 k.0; turns_after = rw p.2 k.1; rows_value = (omega (arith, m.0), m.1) }

pub scan-init : goal.scan-init
scan-init c =
    let p = c.requires in
    (rw (p.1, p.2) (kept_first _ p.0), marks_first _ _ _ (omega arith))

pub bounds-rows-i : goal.bounds-rows-i
bounds-rows-i c = let at = c.scan in omega (arith, at.invariant.0.within, c.if-i-eq0.false)

pub pass-requires : goal.pass-requires
pass-requires c =
    let p = c.requires in
    let at = c.scan in
    pass_asks _ p.0 at.i _ _ _ _ _ (omega (arith, c.if-i-eq0.false)) at.invariant.0

pub enter_mark-m-requires : goal.enter_mark-m-requires
enter_mark-m-requires c =
    let p = c.requires in
    let at = c.scan in
    let z : 0 < at.i = omega (arith, c.if-i-eq0.false) in
    let room : length (functions_of c.args.rows.now) ≤ length c.args.marks.now = omega (arith, p.3) in
    (omega (arith, p.0, at.invariant.0.within), omega (arith, at.invariant.1.many), mark_asks _ _ at.i _ _ z at.invariant.0.within room at.invariant.1)

pub scan-smaller : goal.scan-smaller
scan-smaller c = let z = c.if-i-eq0.false in omega (arith, z)

pub scan-preserved : goal.scan-preserved
scan-preserved c =
    let p = c.requires in
    let at = c.scan in
    let z : 0 < at.i = omega (arith, c.if-i-eq0.false) in
    let room : length (functions_of c.args.rows.now) ≤ length c.args.marks.now = omega (arith, p.3) in (
      kept_turn _ p.0 at.i _ _ _ _ _ z at.invariant.0 _ c.pass.ensures,
      marks_turn _ _ at.i _ _ z at.invariant.0.within room at.invariant.1 _ c.enter_mark-m.ensures,
    )

pub returns : goal.returns
returns c =
    let p = c.requires in
    let at = c.scan in
    let k = kept_last _ p.0 at.i _ c.if-i-eq0.true at.invariant.0 in
    let m = marks_last _ _ at.i _ _ c.if-i-eq0.true at.invariant.1 in
    record { partners_after = rw p.1 k.0; turns_after = rw p.2 k.1; rows_value = (omega (arith, m.0), m.1) }
