-- A step is a run of at most one step. Assumes nothing.
use mathlib.Core.Path.{◌≡◌, ◌∙◌, refl, ap}
use mathlib.Core.Bool.{true, false, cond}
use mathlib.Core.List.{List}
use Prim.Native.Nat.{ℕ, ◌+◌}
use native.Mathlib.Nat.{add-zero}
use native.Mathlib.Omega.{arith}
use lib.Dec.{leb, eqb}
use borrow.Author.Tests.{eq-eqb, ne_eqb, leb-true, leb-false}
use Rattle.basics.proofs.Tests.{by_case}
use Rattle.ops.specs.Patch.{patch_of}
use Rattle.answers.specs.declared.run.Answer.TheVariants.{Went}
use Rattle.machine_model.specs.State.{Given}
use Rattle.machine_model.specs.Step.{Outcome, step}
use Rattle.machine_model.specs.Step.Outcome.{finished, refused, next}
use Rattle.machine_model.specs.Passed.{passed}
use Rattle.busy.specs.Sums.{most_steps, allowed}
use Rattle.busy.specs.Tally.{drive_counts, run_counts}
use Rattle.machine_step.specs.Held.{Held}
use Rattle.bridge.specs.View.{view, lay}
use Rattle.bridge.specs.Decoded.{given_to}
use Rattle.bridge.specs.Run.{passed_in, drive_laid, run_laid}
use Rattle.machine.specs.Calls.{Tallied, tallied, Shown, shown, Ended, ended, is_state, shown_of, step_laid, tally_run, step_call, run_call}

-- what a step shows of such a run: its answer where it made no step, else that it went on
unfoldable pub once_of : Ended → Shown
once_of a = cond (eqb a.steps 0) (shown a.answer a.left) (shown Went a.left)

module _ (g : Given) where
  -- the run of at most b steps from c, with the comments at its position passed, where o is what a step from it gives
  unfoldable driven : ℕ → Tallied → Outcome → Ended
  driven b w o =
      let r = drive_laid g b 0 w.held o in
      ended r.answer r.steps (tallied r.held (w.total + r.steps) (drive_counts g b (view w.held) o w.tally))

  -- one step, which is the last
  last : (c : Held) (total : ℕ) (cs : List ℕ) (o : Outcome) → once_of (let r = drive_laid g 0 1 c o in ended r.answer r.steps (tallied r.held (total + r.steps) cs)) ≡ shown Went (tallied c (total + 1) cs)
  unfolding once_of drive_laid
  last c total cs finished = refl
  last c total cs (refused n l) = refl
  last c total cs (next t) = refl

  module _ (w : Tallied) where
    none_left : (o : Outcome) → leb most_steps w.total ≡ true → once_of (driven 0 w o) ≡ shown_of g w o
    unfolding once_of driven drive_laid drive_counts
    none_left finished e = rw add-zero refl
    none_left (refused n l) e = rw (e, add-zero) refl
    none_left (next t) e = rw (e, add-zero) refl

    one_left : (o : Outcome) → leb most_steps w.total ≡ false → once_of (driven 1 w o) ≡ shown_of g w o
    unfolding once_of driven drive_laid drive_counts
    one_left finished e = rw add-zero refl
    one_left (refused n l) e = rw (e, add-zero) refl
    one_left (next t) e = rw e (last (passed_in g (lay t w.held)) w.total _ (step g (view (passed_in g (lay t w.held)))))

-- the work of a run of at most one step is that of a step
works : (s input : List ℕ) (w : Tallied) → once_of (tally_run s input 1 w) ≡ step_laid s input w
unfolding run_laid run_counts passed_in passed driven allowed
works s input w =
    let g = given_to s input w.held in
    let c = passed_in g w.held in
    let v = tallied c w.total w.tally in
    by_case (leb most_steps w.total)
    (λ e. let n : allowed 1 w.total ≡ 0 = omega (arith, leb-true most_steps w.total e) in
    ap (λ (b : ℕ). once_of (driven g b v (step g (view c)))) n ∙ none_left g v (step g (view c)) e)
    (λ e. let n : allowed 1 w.total ≡ 1 = omega (arith, leb-false most_steps w.total e) in
    ap (λ (b : ℕ). once_of (driven g b v (step g (view c)))) n ∙ one_left g v (step g (view c)) e)

pub once_is : (s input : List ℕ) (w : Tallied) → once_of (run_call s input 1 w) ≡ step_call s input w
unfolding step_call run_call once_of
once_is s input w =
    by_case (eqb (patch_of s).number 0)
    (λ e. by_case (is_state s input w)
    (λ f. rw (e, f) (works s input w))
    (λ f. rw (e, f) refl))
    (λ e. rw e refl)

-- the two ways out of a step: no step was made, or one
module _ (s input : List ℕ) (w : Tallied) (a : Ended) (q : a ≡ run_call s input 1 w) where
  pub none_made : a.steps ≡ 0 → shown a.answer a.left ≡ step_call s input w
  unfolding once_of
  none_made z =
      let e : shown a.answer a.left ≡ once_of a = rw (eq-eqb a.steps 0 z) refl in
      e ∙ ap once_of q ∙ once_is s input w

  pub one_made : (a.steps ≡ 0 → ⊥) → shown Went a.left ≡ step_call s input w
  unfolding once_of
  one_made z =
      let e : shown Went a.left ≡ once_of a = rw (ne_eqb a.steps 0 z) refl in
      e ∙ ap once_of q ∙ once_is s input w
