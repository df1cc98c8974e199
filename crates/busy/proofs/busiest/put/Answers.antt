-- `busy::busiest::put` meets its contract. Assumes nothing.
use Prim.Native.Nat.{◌≤◌, ◌<◌}
use mathlib.Core.Path.{◌≡◌, ◌∙◌}
use native.Mathlib.Omega.{arith}
use lib.ListN.{length, length-set}
use Rattle.busy.specs.Busiest.{listed, unlisted}
use Rattle.busy.proofs.Insertion.{min_first, max_other, sift_start, sift_on, sift_full, sift_more, blank_on, blank_more}
use Rattle.busy.proofs.busiest.put.Goals as goal

pub loop-i-init : goal.loop-i-init
unfolding unlisted
loop-i-init c = (omega arith, sift_start _ _ _, c.requires.1)

pub loop-i-preserved : goal.loop-i-preserved
loop-i-preserved c =
    let l = c.loop-i in
    let h : l.i < c.args.b.n = omega arith in
    let k : c.args.b.n ≤ length l.ops = omega arith in (
      rw length-set l.invariant.0,
      l.invariant.1 ∙ sift_on _ _ _ _ _ _ _ h k (c.min.ensures ∙ min_first _ _) (c.max-x.ensures ∙ max_other _ _),
      blank_on _ _ _ _ h l.invariant.2,
    )

pub returns-then-n-ge-BUSIEST : goal.returns-then-n-ge-BUSIEST
unfolding listed unlisted
returns-then-n-ge-BUSIEST c =
    let l = c.loop-i in
    let n = c.args.b.n in
    let e : l.i ≡ n = omega arith in
    let f : n ≡ 10 = omega arith in
    (c.requires.0, sift_full _ _ l.x _ l.invariant.0 f (rw e at l.invariant.1), l.invariant.2)

pub returns : goal.returns
unfolding listed unlisted
returns c =
    let l = c.loop-i in
    let n = c.args.b.n in
    let e : l.i ≡ n = omega arith in
    (omega arith, sift_more _ _ _ _ l.invariant.0 c.if-n-ge-BUSIEST.false (rw e at l.invariant.1), blank_more _ _ _ c.if-n-ge-BUSIEST.false l.invariant.2)
