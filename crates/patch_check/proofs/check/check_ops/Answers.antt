-- `check::check_ops` meets its contract. Assumes nothing.
use Rattle.std.proofs.Common.{◌≡◌, length, arith}
use Rattle.patch_check.proofs.CheckLoop.{begin, stray_end_lem, stray_else_lem, few_lanes, next, at_end, open_end}
use Rattle.patch_check.proofs.check.check_ops.Goals as goal

pub loop-op-init : goal.loop-op-init
loop-op-init c = begin _ _

pub returns-then-depth-ends : goal.returns-then-depth-ends
returns-then-depth-ends c =
    stray_end_lem _ _ _ _ _ _ c.loop-op.invariant c.loop-op-test.true c.requires.1 _ _ c.from-k.ensures c.from-n.ensures _
    c.ends_of-ends.ensures.0 c.if-depth-ends.true

pub returns-then-depth-elses_of : goal.returns-then-depth-elses_of
returns-then-depth-elses_of c =
    stray_else_lem _ _ _ _ _ _ c.loop-op.invariant c.loop-op-test.true c.requires.1 _ _ c.from-k.ensures c.from-n.ensures _
    c.ends_of-ends.ensures.0 c.if-depth-ends.false _ c.elses_of.ensures c.if-depth-elses_of.true

pub returns-then-known-need_of : goal.returns-then-known-need_of
returns-then-known-need_of c =
    few_lanes _ _ _ _ _ _ c.loop-op.invariant c.loop-op-test.true c.requires.1 _ _ c.from-k.ensures c.from-n.ensures _
    c.ends_of-ends.ensures.0 c.if-depth-ends.false _ c.elses_of.ensures c.if-depth-elses_of.false _ c.need_of.ensures c.if-known-need_of.true

pub loop-op-preserved : goal.loop-op-preserved
loop-op-preserved c =
    let o = c.opens_of.ensures in
    next _ _ _ _ _ _ c.loop-op.invariant c.loop-op-test.true c.requires.1 _ _ c.from-k.ensures c.from-n.ensures _
    c.ends_of-ends.ensures.0 c.if-depth-ends.false _ c.elses_of.ensures c.if-depth-elses_of.false _ c.need_of.ensures c.if-known-need_of.false _
    o.0 o.1 _ _ c.outermost_of-outermost.ensures c.after_of-known.ensures

pub returns-then-depth-eq0 : goal.returns-then-depth-eq0
returns-then-depth-eq0 c =
    let e : length c.args.rows.now ≡ c.loop-op.op = omega (arith, c.loop-op.auto.op-end) in
    rw e (at_end _ _ _ _ _ _ c.loop-op.invariant c.loop-op-test.false c.if-depth-eq0.true)

pub returns : goal.returns
returns c = open_end _ _ _ _ _ _ c.loop-op.invariant c.loop-op-test.false c.if-depth-eq0.false
