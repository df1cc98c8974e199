-- What a run leaves fits the patch as what it began with did; and what a step takes over of a run of at most one step. Assumes nothing.
use mathlib.Core.Path.{◌≡◌, ◌∙◌, refl, ap, subst}
use mathlib.Core.List.{List}
use Prim.Native.Nat.{ℕ, zero, suc}
use lib.Dec.{eqb}
use Rattle.basics.proofs.Tests.{by_case}
use Rattle.answers.specs.Run.{number_of}
use Rattle.machine_model.specs.State.{State, Given}
use Rattle.machine_model.specs.Step.{Outcome, step}
use Rattle.machine_model.specs.Step.Outcome.{finished, refused, next}
use Rattle.machine_model.proofs.Kept.{step_formed}
use Rattle.machine_step.specs.Held.{Held}
use Rattle.bridge.specs.View.{view, lay}
use Rattle.bridge.specs.Decoded.{given_to}
use Rattle.bridge.specs.Fits.{Fits}
use Rattle.bridge.specs.Run.{passed_in, drive_laid, run_laid}
use Rattle.bridge.proofs.Decoded.{Bytes, limited}
use Rattle.bridge.proofs.Runs.{lay_given, lay_fits, passed_fits}
use Rattle.machine.specs.Calls.{Ended}
use Rattle.machine.proofs.StepIsARun.{once_of}

-- ---- a run

-- what each step and passing comments keep of what is held, a run keeps
module _ (g : Given) (P : Held → Type 0) (passes : (c : Held) → P c → P (passed_in g c)) (leads : (c : Held) (t : State) → P c → step g (view c) ≡ next t → P (lay t c)) where
  drive_keeps : (n k : ℕ) (c : Held) (o : Outcome) → P c → step g (view c) ≡ o → P (drive_laid g n k c o).held
  unfolding drive_laid
  drive_keeps zero k c finished h e = h
  drive_keeps zero k c (refused m l) h e = h
  drive_keeps zero k c (next t) h e = h
  drive_keeps (suc n) k c finished h e = h
  drive_keeps (suc n) k c (refused m l) h e = h
  drive_keeps (suc n) k c (next t) h e = drive_keeps n (suc k) (passed_in g (lay t c)) _ (passes (lay t c) (leads c t h e)) refl

  pub run_keeps : (n : ℕ) (c : Held) → P c → P (run_laid g n c).held
  unfolding run_laid
  run_keeps n c h = drive_keeps n 0 (passed_in g c) _ (passes c h) refl

module _ (s input : List ℕ) (y : Bytes s) (g : Given) where
  -- it fits the patch, and a run of it is given the same
  abbrev Same : Held → Type 0
  Same c = Fits s input c × (given_to s input c ≡ g)

  stands : (c : Held) → Same c → Same (passed_in g c)
  unfolding passed_in
  stands c h = (subst (λ (x : Given). Fits s input (passed_in x c)) h.1 (passed_fits s input c h.0), h.1)

  step_fits : (c : Held) (t : State) → Same c → step g (view c) ≡ next t → Same (lay t c)
  step_fits c t h e =
      let f = step_formed (given_to s input c) (limited s y) (view c) t h.0.formed (ap (λ (x : Given). step x (view c)) h.1 ∙ e) in
      (lay_fits s input t c h.0 f, lay_given s input t c f.fits ∙ h.1)

pub run_fits : (s input : List ℕ) → Bytes s → (n : ℕ) (c : Held) → Fits s input c → Fits s input (run_laid (given_to s input c) n c).held
run_fits s input y n c h =
    let g = given_to s input c in
    (run_keeps g (Same s input y g) (stands s input y g) (step_fits s input y g) n c (h, refl)).0

-- ---- a step

-- it leaves what the run of at most one step does
pub once_left : (a : Ended) → (once_of a).left ≡ a.left
unfolding once_of
once_left a = by_case (eqb a.steps 0) (λ e. rw e refl) (λ e. rw e refl)

-- and what holds of 0 and of that run's number holds of the step's
pub once_number : (P : ℕ → Type 0) (a : Ended) → P 0 → P (number_of a.answer) → P (number_of (once_of a).answer)
unfolding once_of
once_number P a z h = by_case (eqb a.steps 0) (λ e. rw e h) (λ e. rw e z)
