-- `machine_run::going::go` meets its contract. Assumes nothing.
use mathlib.Core.Path.{◌∙◌, refl, sym}
use native.Mathlib.Omega.{arith}
use Rattle.machine_run.proofs.RunLoop.{run_halted, counts_halted, counts_passing, counts_at_end, counts_spent, can_raise, counts_onward, counts_stopped_at, made_on, counted_on, step_asks, passing, at_end, at_op, fewer, all_spent, stopped_at, made_few, onward, as_answered, went, over_before}
use Rattle.machine_run.proofs.going.go.Goals as goal

pub returns-then-h : goal.returns-then-h
returns-then-h c = record { run = sym (run_halted _ _ _ _ _ c.if-h.true); counts = sym (counts_halted _ _ _ _ _ c.if-h.true) }

pub returns-then-columns-h : goal.returns-then-columns-h
returns-then-columns-h c =
    let i = c.loop-h.invariant in
    record { run = at_end i.runs i.halted c.if-columns-h.true; counts = counts_at_end i.counts i.halted c.if-columns-h.true }

pub loop-h-preserved-then-columns-h-eq-COMMENT : goal.loop-h-preserved-then-columns-h-eq-COMMENT
loop-h-preserved-then-columns-h-eq-COMMENT c =
    let i = c.loop-h.invariant in
    let e = c.if-columns-h.false in
    let z = c.if-columns-h-eq-COMMENT.true in
    record { runs = passing i.runs i.halted e z; counts = counts_passing i.counts i.halted e z; halted = i.halted }

pub returns-then-left-eq0 : goal.returns-then-left-eq0
returns-then-left-eq0 c =
    let i = c.loop-h.invariant in
    let e = c.if-columns-h.false in
    let n = c.if-columns-h-eq-COMMENT.false in
    record {
      run = all_spent (at_op i.runs i.halted e n) (over_before _ _ i.halted e) c.if-left-eq0.true;
      counts = counts_spent i.counts i.halted e n c.if-left-eq0.true;
    }

pub step-a-requires : goal.step-a-requires
step-a-requires c =
    let i = c.loop-h.invariant in
    let k = step_asks _ _ _ _ i.runs.ready (over_before _ _ i.halted c.if-columns-h.false) in
    record { can_step = k.0; payloads = k.1; stored = k.2 }

pub raise_made-requires : goal.raise_made-requires
raise_made-requires c =
    let i = c.loop-h.invariant in
    can_raise i.counts i.halted c.if-columns-h.false c.if-columns-h-eq-COMMENT.false c.if-left-eq0.false

pub overflow_sub-left : goal.overflow_sub-left
overflow_sub-left c = omega (arith, c.made_by-left.ensures, made_few c.step-a.result)

pub returns-then-a-ne-DONE : goal.returns-then-a-ne-DONE
returns-then-a-ne-DONE c =
    let i = c.loop-h.invariant in
    let e = c.if-columns-h.false in
    let n = c.if-columns-h-eq-COMMENT.false in
    let d = at_op i.runs i.halted e n in
    let o = over_before _ _ i.halted e in
    let s = c.step-a.ensures in
    let a = c.if-a-ne-DONE.true in
    record {
      run = stopped_at d o c.if-left-eq0.false (s.halted ∙ i.halted) s.stepped a c.answer_of.ensures c.made_by-left.ensures;
      counts = counts_stopped_at d o i.counts i.halted e n c.if-left-eq0.false _ _ s.stepped a c.raise_made.ensures;
    }

pub loop-h-smaller : goal.loop-h-smaller
loop-h-smaller c = rw (made_on _ c.if-a-ne-DONE.false c.made_by-left.ensures) (fewer _ _ _ _ c.if-left-eq0.false)

pub loop-h-preserved : goal.loop-h-preserved
loop-h-preserved c =
    let i = c.loop-h.invariant in
    let e = c.if-columns-h.false in
    let n = c.if-columns-h-eq-COMMENT.false in
    let z = c.if-a-ne-DONE.false in
    let w = as_answered (went _ _ z) c.step-a.ensures.stepped in
    let one = made_on _ z c.made_by-left.ensures in
    record {
      runs = rw one
          (onward (at_op i.runs i.halted e n) (over_before _ _ i.halted e) c.if-left-eq0.false _ w (record { at = c.args.code.now.fits }) refl);
      counts = rw (one, counted_on _ z _ _ c.raise_made.ensures) (counts_onward i.counts i.halted e n c.if-left-eq0.false _ w refl);
      halted = c.step-a.ensures.halted ∙ i.halted;
    }
