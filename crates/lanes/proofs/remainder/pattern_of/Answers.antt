-- `lanes::remainder::pattern_of` meets its contract. Assumes nothing.
use Rattle.std.proofs.Common.{◌∙◌, arith}
use Rattle.lanes.proofs.Steps.{no_steps, one_up, packed, packed_low}
use Rattle.lanes.proofs.remainder.pattern_of.Goals as goal
use Rattle.lanes.proofs.remainder.pattern_of.Goals.{then-loop-at-test+else-d-lt-LOW, else-loop-at-test}

pub returns-then-m-eq0-clause-value : goal.returns-then-m-eq0-clause-value
returns-then-m-eq0-clause-value c = no_steps c.args.m c.args.k c.if-m-eq0.true

pub loop-at-preserved : goal.loop-at-preserved
loop-at-preserved c =
    let v = c.loop-at.invariant in
    record { same = one_up c.loop-at.d c.loop-at.at (omega arith) ∙ v.same; short = omega arith; within = omega arith }

pub returns-clause-value : goal.returns-clause-value
returns-clause-value c =
    let v = c.loop-at.invariant in
    elim c.loop-at-test.branch [
      | then-loop-at-test+else-d-lt-LOW w ↦ packed c.loop-at.d c.loop-at.at (omega arith) v.short ∙ v.same
      | else-loop-at-test w ↦ packed_low c.loop-at.d c.loop-at.at v.short w.loop-at-test.false ∙ v.same
    ]
