-- `busy::busiest::busiest` meets its contract. Assumes nothing.
use Prim.Native.Nat.{◌+◌, ◌-◌}
use mathlib.Core.Path.{◌≡◌, refl}
use native.Mathlib.Omega.{arith}
use Rattle.busy.specs.Busiest.{blanks, listed, unlisted}
use Rattle.busy.proofs.Insertion.{rank_start, rank_on, rank_end}
use Rattle.busy.proofs.busiest.busiest.Goals as goal

pub loop-i-init : goal.loop-i-init
unfolding listed unlisted blanks
loop-i-init c = (omega arith, refl, rank_start c.args.counts.now, refl)

pub loop-i-preserved : goal.loop-i-preserved
loop-i-preserved c =
    let l = c.loop-i in
    let e : l.i ≡ (l.i - 1) + 1 = omega arith in
    let r = c.put_op-b.ensures in
    (r.0, omega (arith, c.put_op-b.type_inv), rank_on _ _ _ _ _ _ e l.auto.i refl l.invariant.2 r.1, r.2)

pub returns : goal.returns
returns c =
    let l = c.loop-i in
    let z : l.i ≡ 0 = omega arith in
    rank_end _ _ _ z l.invariant.0 l.invariant.1 l.invariant.2 l.invariant.3
