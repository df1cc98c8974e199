-- 02, ask 12: "Show that no state reached from fresh has a length from 1 to 29,999", on the model and on what the calls hand back; "a state handed in with
-- one is refused". Assumes nothing.
use mathlib.Core.Path.{◌≡◌, refl, sym, subst}
use mathlib.Core.Bool.{Bool, false}
use mathlib.Core.List.{List}
use mathlib.Core.Logic.{inl, inr}
use Prim.Native.Nat.{ℕ, ◌<◌}
use native.Mathlib.Omega.{arith}
use borrow.Author.Tests.{eq-eqb}
use lib.Dec.{leb, eqb}
use lib.ListN.{length}
use Rattle.basics.proofs.Tests.{by_case}
use Rattle.ops.specs.Patch.{patch_of}
use Rattle.answers.specs.declared.run.Answer.{Answer}
use Rattle.answers.specs.declared.run.Answer.TheVariants.{NotAState}
use Rattle.machine_model.specs.State.{State, Given, fresh}
use Rattle.machine_model.specs.Step.{Outcome, step}
use Rattle.machine_model.specs.Step.Outcome.{finished, refused, next}
use Rattle.machine_model.specs.Formed.{Whole}
use Rattle.machine_model.proofs.Lengths.{step_whole, run_whole}
use Rattle.busy.specs.Sums.{most_steps, allowed}
use Rattle.machine_step.specs.Held.{Held}
use Rattle.bridge.specs.View.{view, lay}
use Rattle.bridge.specs.Decoded.{code_of, given_to}
use Rattle.bridge.specs.Run.{passed_in}
use Rattle.states.specs.Formed.{is_formed}
use Rattle.states.proofs.WellFormed.{limits, first_tests}
use Rattle.machine.specs.Fresh.{fresh_of}
use Rattle.machine.specs.Calls.{Tallied, tallied, Shown, shown, shown_of, Ended, ended, lent, calling, is_state, can_begin, step_laid, tally_run, step_call, run_call, fresh_on, fresh_call}
use Rattle.machine.specs.declared.machine.Machine.{Machine}
use Rattle.demands.proofs.Kept.{run_keeps}
use Rattle.demands.specs.AnyCalls.{FromFresh, HandedBack}
use Rattle.demands.specs.AnyCalls.FromFresh.{at_first, run_on}
use Rattle.demands.specs.AnyCalls.HandedBack.{by_fresh, by_run, by_step}

-- ---- the model

-- whatever patches were run, for as many steps as they were, and however often a state was taken up again
pub lengths_reached : (s : State) → FromFresh s → Whole s.counted
unfolding fresh
lengths_reached s (at_first cells) = inl refl
lengths_reached s (run_on t g b r) = run_whole g b t (lengths_reached t r)

-- ---- the code

-- of the machine that is held
abbrev WholeIn : Held → Type 0
WholeIn c = Whole c.numbers.length

module _ (g : Given) where
  lay_whole : (c : Held) (t : State) → WholeIn c → step g (view c) ≡ next t → WholeIn (lay t c)
  unfolding lay
  lay_whole c t w e = step_whole g (view c) t w e

  stands_whole : (c : Held) → WholeIn c → WholeIn (passed_in g c)
  unfolding passed_in
  stands_whole c w = w

  shown_whole : (v : Tallied) (o : Outcome) → WholeIn v.held → step g (view v.held) ≡ o → WholeIn (shown_of g v o).left.held
  shown_whole v finished w e = w
  shown_whole v (refused n l) w e = w
  shown_whole v (next t) w e =
      by_case (leb most_steps v.total) (λ f. rw f w) (λ f. rw f (stands_whole (lay t v.held) (lay_whole v.held t w e)))

-- what holds of a call's refusals and of its work holds of the call
pub calling_keeps : {A : Type 0} (P : A → Type 0) (s : List ℕ) (test : Bool) (refuse : Answer → A) (work : A) → ((a : Answer) → P (refuse a)) → P work
    → P (calling s test refuse work)
calling_keeps P s test refuse work h k =
    by_case (eqb (patch_of s).number 0)
    (λ e. by_case test (λ t. rw (e, t) k) (λ t. rw (e, t) (h _)))
    (λ e. rw e (h _))

-- whatever files the calls were given, and whatever they were lent
pub lengths_handed_back : (m : Machine) → HandedBack m → Whole m.numbers.length
unfolding fresh_call run_call step_call fresh_of
lengths_handed_back _ (by_fresh s input b mode l n r e) =
    subst (λ (a : Ended). WholeIn a.left.held) (sym e)
    (calling_keeps (λ (a : Ended). WholeIn a.left.held) s (can_begin s mode l) (λ a. ended a 0 (lent (fresh_of mode) l)) (tally_run s input b (fresh_on mode l))
    (λ a. inl refl)
    (let c = (fresh_on mode l).held in let g = given_to s input c in run_keeps g WholeIn (stands_whole g) (lay_whole g) (allowed b 0) c (inl refl)))
lengths_handed_back _ (by_run m s input b l n r h e) =
    let w = lengths_handed_back m h in let v = lent m l in
    subst (λ (a : Ended). WholeIn a.left.held) (sym e)
    (calling_keeps (λ (a : Ended). WholeIn a.left.held) s (is_state s input v) (λ a. ended a 0 v) (tally_run s input b v)
    (λ a. w)
    (let g = given_to s input v.held in run_keeps g WholeIn (stands_whole g) (lay_whole g) (allowed b v.total) v.held w))
lengths_handed_back _ (by_step m s input l n r h e) =
    let w = lengths_handed_back m h in let v = lent m l in
    subst (λ (a : Shown). WholeIn a.left.held) (sym e)
    (calling_keeps (λ (a : Shown). WholeIn a.left.held) s (is_state s input v) (λ a. shown a v) (step_laid s input v)
    (λ a. w)
    (let g = given_to s input v.held in shown_whole g (tallied (passed_in g v.held) v.total v.tally) _ (stands_whole g v.held w) refl))

-- ---- a state with one of those lengths

excluded : (n : ℕ) → 0 < n → n < 30_000 → Whole n → ⊥
excluded n some few (inl z) = omega arith
excluded n some few (inr b) = omega arith

module _ (s input : List ℕ) (good : (patch_of s).number ≡ 0) (w : Tallied) (some : 0 < w.held.numbers.length) (few : w.held.numbers.length < 30_000) where
  no_state : (ks : List ℕ) (n : ℕ) → is_formed ks n w.held ≡ false
  no_state ks n =
      let c = w.held in
      by_case (is_formed ks n c)
      (λ e. absurd (excluded c.numbers.length some few (limits c.numbers (first_tests ks n c e).1).whole))
      (λ e. e)

  -- a run that is handed one, and a step, answer 37 and leave all as it was
  pub short_run : (b : ℕ) → run_call s input b w ≡ ended NotAState 0 w
  unfolding run_call
  short_run b = rw (eq-eqb _ 0 good, no_state (code_of s).rows (length input)) refl

  pub short_step : step_call s input w ≡ shown NotAState w
  unfolding step_call
  short_step = rw (eq-eqb _ 0 good, no_state (code_of s).rows (length input)) refl
