-- 02, ask 4, on the code: a call keeps the machine's mode, and where the table holds every mark a run in one mode is a run in the other. Assumes nothing.
use mathlib.Core.Path.{◌≡◌, ◌∙◌, refl, ap, sym}
use mathlib.Core.Bool.{true}
use mathlib.Core.List.{List}
use Prim.Native.Nat.{ℕ, ◌≤◌}
use lib.ListN.{length}
use Rattle.basics.proofs.Tests.{and_left, and_right}
use Rattle.ops.specs.Patch.{patch_of}
use Rattle.machine_model.specs.State.{by_mark}
use Rattle.machine_model.specs.Modes.{HoldsMarks}
use Rattle.machine_model.proofs.Modes.{runs_agree}
use Rattle.machine_numbers.specs.Numbers.{of_mode}
use Rattle.busy.specs.Sums.{allowed}
use Rattle.machine_step.specs.Held.{Held}
use Rattle.bridge.specs.View.{view, lay}
use Rattle.bridge.specs.Decoded.{code_of, given_to}
use Rattle.bridge.specs.Run.{passed_in, run_laid, seen}
use Rattle.bridge.proofs.Decoded.{Bytes}
use Rattle.states.specs.Formed.{is_formed}
use Rattle.states.proofs.WellFormed.{formed_fits, fits_formed}
use Rattle.machine.specs.Fresh.{fresh_of}
use Rattle.machine.specs.Calls.{Slices, Tallied, Shown, Ended, ended, run_in, lent, is_state, can_begin, step_call, stepped_to, tally_run, run_call, ran_to, fresh_on, fresh_call}
use Rattle.machine.specs.declared.machine.Machine.{Machine}
use Rattle.machine.specs.declared.machine.Stepped.{Stepped}
use Rattle.machine.specs.declared.machine.Ran as code
use Rattle.machine.proofs.StepIsARun.{once_is}
use Rattle.demands.proofs.Calls.{run_is_model}
use Rattle.demands.proofs.Kept.{run_keeps, once_left}
use Rattle.demands.proofs.Lengths.{calling_keeps}

-- ---- "kept in the state"

module _ (s input : List ℕ) where
  laid_keeps : (b : ℕ) (c : Held) → (run_laid (given_to s input c) b c).held.numbers.mode ≡ c.numbers.mode
  unfolding lay passed_in
  laid_keeps b c = run_keeps (given_to s input c) (λ d. d.numbers.mode ≡ c.numbers.mode) (λ d h. h) (λ d t h e. h) b c refl

  run_kept : (b : ℕ) (w : Tallied) → (run_call s input b w).left.held.numbers.mode ≡ w.held.numbers.mode
  unfolding run_call
  run_kept b w =
      calling_keeps (λ (a : Ended). a.left.held.numbers.mode ≡ w.held.numbers.mode) s (is_state s input w) (λ a. ended a 0 w) (tally_run s input b w) (λ a. refl)
      (laid_keeps (allowed b w.total) w.held)

  -- what a run hands back has the mode that it was handed
  pub run_keeps_mode : (b : ℕ) (m : Machine) (l : Slices) (r : code.Ran) (n : Slices) → ran_to r n ≡ run_call s input b (lent m l) → r.machine.numbers.mode ≡ m.numbers.mode
  run_keeps_mode b m l r n e = ap (λ (a : Ended). a.left.held.numbers.mode) e ∙ run_kept b (lent m l)

  -- and what a fresh run hands back the one that was chosen
  pub fresh_keeps_mode : (b mode : ℕ) (l : Slices) (r : code.Ran) (n : Slices) → ran_to r n ≡ fresh_call s input b mode l → r.machine.numbers.mode ≡ mode
  unfolding fresh_call fresh_of
  fresh_keeps_mode b mode l r n e =
      ap (λ (a : Ended). a.left.held.numbers.mode) e
      ∙ calling_keeps (λ (a : Ended). a.left.held.numbers.mode ≡ mode) s (can_begin s mode l) (λ a. ended a 0 (lent (fresh_of mode) l)) (tally_run s input b (fresh_on mode l))
      (λ a. refl)
      (laid_keeps (allowed b 0) (fresh_on mode l).held)

-- and so does a step
pub step_keeps_mode : (s input : List ℕ) (m : Machine) (l : Slices) (r : Stepped) (n : Slices) → stepped_to r n ≡ step_call s input (lent m l)
    → r.machine.numbers.mode ≡ m.numbers.mode
step_keeps_mode s input m l r n e =
    ap (λ (a : Shown). a.left.held.numbers.mode) (e ∙ sym (once_is s input (lent m l)))
    ∙ ap (λ (w : Tallied). w.held.numbers.mode) (once_left (run_call s input 1 (lent m l)))
    ∙ run_kept s input 1 (lent m l)

-- ---- "where the table already holds every mark, the modes agree"

-- the machine in another mode
abbrev pub machine_in : ℕ → Machine → Machine
machine_in mode m = record { calls = m.calls; refs = m.refs; numbers = of_mode m.numbers mode; total = m.total }

module _ (s input : List ℕ) (y : Bytes s) (z : (patch_of s).number ≡ 0) (b : ℕ) (m : Machine) (l : Slices) (kc : length m.calls ≡ 256) (kr : length m.refs ≡ 256)
    (e : is_state s input (lent m l) ≡ true) (mode : ℕ) (known : mode ≤ by_mark) where
  formed_too : is_state s input (lent (machine_in mode m) l) ≡ true
  formed_too =
      let h = formed_fits s input (lent m l).held kc kr (and_left _ _ e) in
      let k = h.counted in
      let f = h.formed in
      rw (fits_formed s input (lent (machine_in mode m) l).held kc kr (record { counted = search; formed = search }), and_right (is_formed (code_of s).rows (length input) (lent m l).held) _ e) refl

  -- what is seen of a run from a well-formed state whose table holds every mark is the same in either mode: r and q meet the contract of `run`
  pub run_modes_agree : HoldsMarks (given_to s input (lent m l).held) (view (lent m l).held)
      → (r q : code.Ran) (n o : Slices) → ran_to r n ≡ run_call s input b (lent m l) → ran_to q o ≡ run_call s input b (lent (machine_in mode m) l)
      → seen (run_in (ran_to q o)) ≡ seen (run_in (ran_to r n))
  run_modes_agree h r q n o d f =
      ap (λ (a : Ended). seen (run_in a)) f
      ∙ run_is_model s input y z b (lent (machine_in mode m) l) kc kr formed_too
      ∙ runs_agree (given_to s input (lent m l).held) mode m.numbers.mode (allowed b m.total) (view (lent m l).held) h
      ∙ sym (run_is_model s input y z b (lent m l) kc kr e)
      ∙ ap (λ (a : Ended). seen (run_in a)) (sym d)
