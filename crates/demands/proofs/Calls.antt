-- What the contracts of the calls alone say: a refusal leaves all as found, two answers coincide, and a run is the model's. Assumes nothing.
use mathlib.Core.Path.{◌≡◌, ◌∙◌, refl, ap, sym}
use mathlib.Core.Bool.{Bool, true, false, cond, ◌&&◌}
use mathlib.Core.List.{List}
use Prim.Native.Nat.{ℕ, ◌≤◌}
use native.Mathlib.Omega.{arith}
use lib.Dec.{leb, eqb}
use lib.ListN.{length}
use borrow.Author.Tests.{eq-eqb}
use Rattle.basics.proofs.Clash.{clash}
use Rattle.basics.proofs.Tests.{by_case, and_left}
use Rattle.ops.specs.Patch.{patch_of}
use Rattle.answers.specs.Run.{number_of}
use Rattle.machine_model.specs.State.{State, Given, given, fresh}
use Rattle.machine_model.specs.Step.{Outcome, step}
use Rattle.machine_model.specs.Step.Outcome.{finished, refused, next}
use Rattle.machine_model.specs.Passed.{passed}
use Rattle.machine_model.specs.Run.{run}
use Rattle.busy.specs.Sums.{most_steps, allowed}
use Rattle.machine_numbers.specs.Numbers.{at_position}
use Rattle.bridge.specs.View.{view}
use Rattle.bridge.specs.Decoded.{patch_in, given_to}
use Rattle.bridge.specs.Run.{standing, passed_in, seen}
use Rattle.bridge.proofs.Decoded.{Bytes}
use Rattle.bridge.proofs.Runs.{run_seen}
use Rattle.machine.specs.Fresh.{fresh_of}
use Rattle.machine.specs.Calls.{Slices, slices, Tallied, tallied, Shown, shown_of, Ended, ended, run_in, lent, calling, is_state, can_begin, step_call, stepped_to, run_call, ran_to, fresh_on, fresh_call}
use Rattle.machine.specs.declared.machine.Machine.{Machine}
use Rattle.machine.specs.declared.machine.Stepped.{Stepped}
use Rattle.machine.specs.declared.machine.Ran as code
use Rattle.states.proofs.WellFormed.{formed_fits}
use Rattle.demands.proofs.Started.{fresh_view, fresh_fits}

-- ---- two answers that meet a contract coincide, whole: the answer, the steps, the machine and every slice

machine_in : Tallied → Machine
machine_in w = record { calls = w.held.calls; refs = w.held.refs; numbers = w.held.numbers; total = w.total }

slices_in : Tallied → Slices
slices_in w =
    let c = w.held in slices c.register c.tape c.table c.channel c.output w.tally

stepped_in : Shown → Stepped
unfolding machine_in
stepped_in a = record { answer = a.answer; machine = machine_in a.left }

ran_in : Ended → code.Ran
unfolding machine_in
ran_in a = record { answer = a.answer; steps = a.steps; machine = machine_in a.left }

pub step_coincides : (s input : List ℕ) (w : Tallied) (r q : Stepped) (l m : Slices) → stepped_to r l ≡ step_call s input w → stepped_to q m ≡ step_call s input w
    → (r ≡ q) × (l ≡ m)
unfolding stepped_in machine_in slices_in
step_coincides s input w r q l m e f = let z = e ∙ sym f in (ap stepped_in z, ap (λ (a : Shown). slices_in a.left) z)

alike : (a : Ended) (r q : code.Ran) (l m : Slices) → ran_to r l ≡ a → ran_to q m ≡ a → (r ≡ q) × (l ≡ m)
unfolding ran_in machine_in slices_in
alike a r q l m e f = let z = e ∙ sym f in (ap ran_in z, ap (λ (x : Ended). slices_in x.left) z)

pub run_coincides : (s input : List ℕ) (b : ℕ) (w : Tallied) (r q : code.Ran) (l m : Slices) → ran_to r l ≡ run_call s input b w → ran_to q m ≡ run_call s input b w
    → (r ≡ q) × (l ≡ m)
run_coincides s input b w r q l m e f = alike (run_call s input b w) r q l m e f

pub fresh_coincides : (s input : List ℕ) (b mode : ℕ) (n : Slices) (r q : code.Ran) (l m : Slices) → ran_to r l ≡ fresh_call s input b mode n → ran_to q m ≡ fresh_call s input b mode n
    → (r ≡ q) × (l ≡ m)
fresh_coincides s input b mode n r q l m e f = alike (fresh_call s input b mode n) r q l m e f

-- ---- a refusal leaves all as found

-- the file is good, and the state is one, or for the fresh run the mode is known and there is room, and a count for each op
abbrev pub begins : List ℕ → List ℕ → Tallied → Bool
begins s input w = eqb (patch_of s).number 0 && is_state s input w

abbrev pub begins_fresh : List ℕ → ℕ → Slices → Bool
begins_fresh s mode l = eqb (patch_of s).number 0 && can_begin s mode l

-- a machine at another position
abbrev pub machine_at : Machine → ℕ → Machine
machine_at m i = record { calls = m.calls; refs = m.refs; numbers = at_position m.numbers i; total = m.total }

-- 02, ask 8: where a step that begins finds the machine, the comments at its position passed; one that does not begin finds it where it is
abbrev pub found_at : List ℕ → List ℕ → Tallied → ℕ
found_at s input w = cond (begins s input w) (passed (given_to s input w.held) (view w.held)).at w.held.numbers.position

shown_of_same : (g : Given) (w : Tallied) (o : Outcome) → (number_of (shown_of g w o).answer ≡ 0 → ⊥) → (shown_of g w o).left ≡ w
shown_of_same g w finished z = refl
shown_of_same g w (refused n l) z = refl
shown_of_same g w (next t) z = by_case (leb most_steps w.total) (λ e. rw e refl) (λ e. absurd (z (rw e refl)))

shown_same : (s input : List ℕ) (w : Tallied) → (number_of (step_call s input w).answer ≡ 0 → ⊥)
    → (step_call s input w).left ≡ tallied (standing w.held (found_at s input w)) w.total w.tally
unfolding step_call passed_in
shown_same s input w z =
    let g = given_to s input w.held in
    let d = tallied (passed_in g w.held) w.total w.tally in
    let o = step g (view d.held) in
    by_case (eqb (patch_of s).number 0)
    (λ e. by_case (is_state s input w)
    (λ f. rw (e, f) (shown_of_same g d o (λ (q : number_of (shown_of g d o).answer ≡ 0). z (rw (e, f) q))))
    (λ f. rw (e, f) refl))
    (λ e. rw e refl)

-- a step whose number is not 0 leaves every slice as it was, and hands back the machine that it got but for its position, which is after the comments;
-- after a file's refusal or 37 it is the machine itself
pub refused_step_same : (s input : List ℕ) (m : Machine) (l : Slices) (r : Stepped) (n : Slices) → stepped_to r n ≡ step_call s input (lent m l) → (number_of r.answer ≡ 0 → ⊥)
    → (r.machine ≡ machine_at m (found_at s input (lent m l))) × (n ≡ l)
unfolding machine_in slices_in
refused_step_same s input m l r n e z =
    let q = shown_same s input (lent m l) (λ a. z (ap (λ (x : Shown). number_of x.answer) e ∙ a)) in
    let w : lent r.machine n ≡ tallied (standing (lent m l).held (found_at s input (lent m l))) m.total l.tally = ap (λ (x : Shown). x.left) e ∙ q in
    (ap machine_in w, ap slices_in w)

-- a call that does not come to its work makes no step, and all that is left is w
idle : (s : List ℕ) (w : Tallied) (test : Bool) (work : Ended) → (eqb (patch_of s).number 0 && test) ≡ false
    → ((calling s test (λ a. ended a 0 w) work).steps ≡ 0) × ((calling s test (λ a. ended a 0 w) work).left ≡ w)
idle s w test work e =
    by_case (eqb (patch_of s).number 0)
    (λ h. by_case test (λ t. clash (let z : true ≡ false = (rw (h, t) at e) in cc)) (λ t. rw (h, t) (refl, refl)))
    (λ h. rw h (refl, refl))

idle_same : (a : Ended) (m : Machine) (l : Slices) (r : code.Ran) (n : Slices) → ran_to r n ≡ a → (a.steps ≡ 0) × (a.left ≡ lent m l)
    → (r.steps ≡ 0) × (r.machine ≡ m) × (n ≡ l)
unfolding machine_in slices_in
idle_same a m l r n e i =
    let w : lent r.machine n ≡ lent m l = ap (λ (x : Ended). x.left) e ∙ i.1 in
    (ap (λ (x : Ended). x.steps) e ∙ i.0, ap machine_in w, ap slices_in w)

-- a run refused for the file or with 37 makes no step, hands back the machine that it got, and leaves every slice as it was
pub refused_before_run_same : (s input : List ℕ) (b : ℕ) (m : Machine) (l : Slices) (r : code.Ran) (n : Slices) → ran_to r n ≡ run_call s input b (lent m l)
    → begins s input (lent m l) ≡ false → (r.steps ≡ 0) × (r.machine ≡ m) × (n ≡ l)
unfolding run_call
refused_before_run_same s input b m l r n e z = idle_same (run_call s input b (lent m l)) m l r n e (idle s (lent m l) (is_state s input (lent m l)) _ z)

-- and a fresh run likewise: the machine that it hands back is the fresh one in that mode, and no zeros are written
pub refused_before_fresh_same : (s input : List ℕ) (b mode : ℕ) (l : Slices) (r : code.Ran) (n : Slices) → ran_to r n ≡ fresh_call s input b mode l
    → begins_fresh s mode l ≡ false → (r.steps ≡ 0) × (r.machine ≡ fresh_of mode) × (n ≡ l)
unfolding fresh_call
refused_before_fresh_same s input b mode l r n e z =
    idle_same (fresh_call s input b mode l) (fresh_of mode) l r n e (idle s (lent (fresh_of mode) l) (can_begin s mode l) _ z)

-- ---- a run is the model's

module _ (s input : List ℕ) (y : Bytes s) (z : (patch_of s).number ≡ 0) (b : ℕ) where
  -- what is seen of a run from a well-formed state is the model's run from what is seen of that state, with the steps that the total allows
  pub run_is_model : (w : Tallied) → length w.held.calls ≡ 256 → length w.held.refs ≡ 256 → is_state s input w ≡ true
      → seen (run_in (run_call s input b w)) ≡ run (given_to s input w.held) (allowed b w.total) (view w.held)
  unfolding run_call
  run_is_model w kc kr e =
      rw (eq-eqb (patch_of s).number 0 z, e) (run_seen s input y (allowed b w.total) w.held (formed_fits s input w.held kc kr (and_left _ _ e)))

  -- and of a fresh run it is the model's run from the fresh state
  pub fresh_is_model : (mode : ℕ) (l : Slices) → can_begin s mode l ≡ true
      → seen (run_in (fresh_call s input b mode l)) ≡ run (given (patch_in s) mode input (length l.output)) (allowed b 0) (fresh (length l.tape))
  unfolding fresh_call fresh_of
  fresh_is_model mode l e =
      let f = and_left _ _ e in
      rw (eq-eqb (patch_of s).number 0 z, e)
      (run_seen s input y (allowed b 0) (fresh_on mode l).held (fresh_fits mode l f s input y)
      ∙ ap (λ (t : State). run (given (patch_in s) mode input (length l.output)) (allowed b 0) t) (fresh_view mode l f))

-- a budget of 32 bits is allowed whole
pub allowed_fresh : (b : ℕ) → b ≤ most_steps → allowed b 0 ≡ b
unfolding allowed
allowed_fresh b h = omega arith
