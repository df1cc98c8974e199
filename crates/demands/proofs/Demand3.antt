-- Demand 3 on the code: a patch that `check` passes is never refused with 20 or 21 by a fresh run, nor by a run or a step that takes up what
-- such calls left. Assumes nothing.
use mathlib.Core.Path.{◌≡◌, ◌∙◌, refl, ap, sym, subst}
use mathlib.Core.Bool.{true, false}
use mathlib.Core.List.{List}
use Prim.Native.Nat.{ℕ}
use lib.Dec.{eqb}
use lib.ListN.{length, length-replicate}
use borrow.Author.Tests.{eq-eqb, eqb-true, eqb-false}
use Rattle.basics.proofs.Clash.{clash}
use Rattle.basics.proofs.Tests.{by_case, and_left}
use Rattle.ops.specs.Syntax.{Op}
use Rattle.ops.specs.Patch.{patch_of}
use Rattle.ops.specs.Decode.Patch.{ops, refused}
use Rattle.file_laws.proofs.Meaning.{ops_are, refused_are}
use Rattle.machine_model.specs.State.{State}
use Rattle.machine_model.specs.Run.{Answer}
use Rattle.patch_check.specs.Rules.{KeepsRules}
use Rattle.demands.specs.Reached.{Reached}
use Rattle.demands.specs.Reached.Reached.{at_first, run_on}
use Rattle.patch_check.specs.File.{check_of, KeepsFile}
use Rattle.answers.specs.Check as checked
use Rattle.answers.specs.Check.{Verdict}
use Rattle.demands.proofs.File.{check_passes}
use Rattle.demands.proofs.Safe.{Neither20Nor21, safe_resumed}
use Rattle.busy.specs.Sums.{allowed}
use Rattle.machine_step.specs.Held.{Held}
use Rattle.bridge.specs.View.{view}
use Rattle.bridge.specs.Decoded.{code_of, patch_in, given_to}
use Rattle.bridge.specs.Fits.{Fits}
use Rattle.bridge.specs.Run.{run_laid}
use Rattle.bridge.proofs.Decoded.{Bytes}
use Rattle.bridge.proofs.Runs.{run_seen}
use Rattle.answers.specs.Run.{number_of}
use Rattle.answers.specs.declared.run.Answer as answers
use Rattle.machine.specs.Fresh.{fresh_of}
use Rattle.states.specs.Formed.{is_mode, can_start}
use Rattle.machine.specs.Calls.{Slices, Tallied, Shown, Ended, lent, is_state, can_begin, step_call, stepped_to, run_call, ran_to, fresh_on, fresh_call}
use Rattle.machine.specs.declared.machine.Stepped.{Stepped}
use Rattle.machine.specs.declared.machine.Ran as code
use Rattle.states.proofs.WellFormed.{formed_starts, formed_fits}
use Rattle.demands.proofs.Started.{fresh_view, fresh_fits}
use Rattle.machine.proofs.StepIsARun.{once_is}
use Rattle.demands.specs.ReachedBy.{ReachedBy}
use Rattle.demands.specs.ReachedBy.ReachedBy.{after_fresh, after_run, after_step, lent_anew}
use Rattle.demands.proofs.Kept.{run_fits, once_left, once_number}

-- ---- a file that the check passes

-- it is read, and the ops that a run is given keep the rules
record Passed (s : List ℕ) : Type 0 where
  good : eqb (patch_of s).number 0 ≡ true
  rules : KeepsRules (patch_in s)

passed : (s : List ℕ) → KeepsFile s → Passed s
unfolding patch_in
passed s k =
    by_case (eqb (patch_of s).number 0)
    (λ e. let w : ops k.patch ≡ ops (patch_in s) = sym k.is ∙ ops_are s (eqb-true (patch_of s).number 0 e) in
    let q : k.patch ≡ patch_in s = cc in
    record { good = e; rules = subst (λ (os : List Op). KeepsRules os) q k.rules })
    (λ e. let w : ops k.patch ≡ refused (patch_of s).number (patch_of s).place = sym k.is ∙ refused_are s (eqb-false (patch_of s).number 0 e) in clash (cc))

-- ---- what is held, and what is answered

-- a number that is neither 20 nor 21
other : (n : ℕ) → eqb n 20 ≡ false → eqb n 21 ≡ false → Neither20Nor21 n
other n e f = (eqb-false n 20 e, eqb-false n 21 f)

-- a step leaves what a run of at most one step does, and has its number, or 0
module _ (s input : List ℕ) (w : Tallied) where
  step_left : (step_call s input w).left ≡ (run_call s input 1 w).left
  step_left = ap (λ (a : Shown). a.left) (sym (once_is s input w)) ∙ once_left (run_call s input 1 w)

  step_number : Neither20Nor21 (number_of (run_call s input 1 w).answer) → Neither20Nor21 (number_of (step_call s input w).answer)
  step_number h =
      subst (λ (a : Shown). Neither20Nor21 (number_of a.answer)) (once_is s input w)
      (once_number (λ n. Neither20Nor21 n) (run_call s input 1 w) (other 0 refl refl) h)

module _ (s : List ℕ) (y : Bytes s) (p : Passed s) where
  -- the stacks are whole; where its mode is known and there is room, what is seen is a state that the model's runs of the patch come to
  record Known (c : Held) : Type 0 where
    call_room : length c.calls ≡ 256
    ref_room : length c.refs ≡ 256
    state : can_start c.numbers.mode c.register c.table c.channel ≡ true → Reached (patch_in s) (view c)

  -- of a run's answer
  record Sound (a : answers.Answer) (c : Held) : Type 0 where
    number : Neither20Nor21 (number_of a)
    known : Known c

  module _ (input : List ℕ) where
    -- the steps of a run, which are the model's
    runs : (b : ℕ) (c : Held) → Fits s input c → Reached (patch_in s) (view c) → let r = run_laid (given_to s input c) b c in Sound r.answer r.held
    runs b c h r =
        let e = run_seen s input y b c h in
        let k = (run_fits s input y b c h).counted in
        record {
          number = subst (λ (n : ℕ). Neither20Nor21 n) (sym (ap (λ (a : Answer). a.number) e)) (safe_resumed (patch_in s) p.rules (view c) r c.numbers.mode input (length c.output) b);
          known = record {
            call_room = k.call_room;
            ref_room = k.ref_room;
            state = λ f. subst (λ (t : State). Reached (patch_in s) t) (sym (ap (λ (a : Answer). a.state) e)) (run_on (view c) c.numbers.mode input (length c.output) b r);
          };
        }

    -- the fresh run, and a run: their steps, or 37
    fresh_sound : (b mode : ℕ) (l : Slices) → can_begin s mode l ≡ true → let a = fresh_call s input b mode l in Sound a.answer a.left.held
    unfolding fresh_call fresh_of
    fresh_sound b mode l e =
        let f = and_left _ _ e in
        rw (p.good, e)
        (runs (allowed b 0) (fresh_on mode l).held (fresh_fits mode l f s input y) (subst (λ (q : State). Reached (patch_in s) q) (sym (fresh_view mode l f)) (at_first (length l.tape))))

    fresh_number : (b mode : ℕ) (l : Slices) → Neither20Nor21 (number_of (fresh_call s input b mode l).answer)
    unfolding fresh_call
    fresh_number b mode l = by_case (can_begin s mode l) (λ e. (fresh_sound b mode l e).number) (λ e. rw (p.good, e) (other 37 refl refl))

    -- refused, there is no room or the mode is unknown, where there is a count for each op
    fresh_known : (b mode : ℕ) (l : Slices) → length l.tally ≡ length (code_of s).rows → Known (fresh_call s input b mode l).left.held
    unfolding fresh_call fresh_of
    fresh_known b mode l even =
        let q = eq-eqb (length l.tally) (length (code_of s).rows) even in
        by_case (can_start mode l.register l.table l.channel)
        (λ f. (fresh_sound b mode l (rw (f, q) refl)).known)
        (λ f. rw (p.good, f)
        (record { call_room = length-replicate {A = ℕ} 256 0; ref_room = length-replicate {A = ℕ} 256 0; state = λ g. clash (cc) }))

    run_sound : (b : ℕ) (w : Tallied) → Known w.held → let a = run_call s input b w in Sound a.answer a.left.held
    unfolding run_call
    run_sound b w k =
        let c = w.held in
        by_case (is_state s input w)
        (λ e. let f = and_left _ _ e in rw (p.good, e)
        (runs (allowed b w.total) c (formed_fits s input c k.call_room k.ref_room f) (k.state (formed_starts (code_of s).rows (length input) c f))))
        (λ e. rw (p.good, e) (record { number = other 37 refl refl; known = k }))

  -- what calls leave
  reached : (w : Tallied) → ReachedBy s w → Known w.held
  unfolding can_start
  reached w (after_fresh input b mode l even) = fresh_known input b mode l even
  reached w (after_run v input b r) = (run_sound input b v (reached v r)).known
  reached w (after_step v input r) = subst (λ (u : Tallied). Known u.held) (sym (step_left s input v)) (run_sound input 1 v (reached v r)).known
  reached w (lent_anew m l n r e q) =
      let k = reached (lent m l) r in
      record { call_room = k.call_room; ref_room = k.ref_room; state = λ f. subst (λ (u : State). Reached (patch_in s) u) (sym q) (k.state (rw (and_left (is_mode m.numbers.mode) _ f) e)) }

-- ---- demand 3

-- for every byte string s that `check` answers with number 0, whatever slices a fresh run of it is lent, and whatever input, budget and call mode it is
-- given, its number is neither 20 nor 21: v and r meet the contracts of `check` and `run_fresh`
pub demand3 : (s : List ℕ) → Bytes s → (v : Verdict) → v ≡ check_of s → checked.number_of v ≡ 0
    → (input : List ℕ) (budget mode : ℕ) (l : Slices) (r : code.Ran) (n : Slices) → ran_to r n ≡ fresh_call s input budget mode l → Neither20Nor21 (number_of r.answer)
demand3 s y v e z input b mode l r n q =
    subst (λ (a : Ended). Neither20Nor21 (number_of a.answer)) (sym q) (fresh_number s y (passed s ((check_passes s v e).0 z)) input b mode l)

-- nor is that of a run that takes up what calls on the file left: r meets the contract of `run`
pub demand3_resumed : (s : List ℕ) → Bytes s → (v : Verdict) → v ≡ check_of s → checked.number_of v ≡ 0
    → (w : Tallied) → ReachedBy s w → (input : List ℕ) (budget : ℕ) (r : code.Ran) (n : Slices) → ran_to r n ≡ run_call s input budget w → Neither20Nor21 (number_of r.answer)
demand3_resumed s y v e z w h input b r n q =
    let p = passed s ((check_passes s v e).0 z) in
    subst (λ (a : Ended). Neither20Nor21 (number_of a.answer)) (sym q) (run_sound s y p input b w (reached s y p w h)).number

-- nor is that of a step: r meets the contract of `step`
pub demand3_step : (s : List ℕ) → Bytes s → (v : Verdict) → v ≡ check_of s → checked.number_of v ≡ 0
    → (w : Tallied) → ReachedBy s w → (input : List ℕ) (r : Stepped) (n : Slices) → stepped_to r n ≡ step_call s input w → Neither20Nor21 (number_of r.answer)
demand3_step s y v e z w h input r n q =
    let p = passed s ((check_passes s v e).0 z) in
    subst (λ (a : Shown). Neither20Nor21 (number_of a.answer)) (sym q) (step_number s input w (run_sound s y p input 1 w (reached s y p w h)).number)
