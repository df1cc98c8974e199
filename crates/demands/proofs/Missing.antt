-- 02, ask 3, on the code: where the number of an answer is 21, 22 or 23 its lane is the first that could not be had, and else it is 0, whatever the
-- state that is handed in. (A file's refusal carries lane 0 by `lane_of`.) Assumes nothing.
use mathlib.Core.Path.{◌≡◌, ◌∙◌, sym, subst}
use mathlib.Core.Bool.{false}
use mathlib.Core.List.{List}
use Prim.Native.Nat.{ℕ}
use native.Mathlib.Omega.{arith}
use lib.Dec.{eqb}
use lib.ListN.{length}
use borrow.Author.Tests.{eq-eqb}
use Rattle.basics.proofs.Tests.{by_case}
use Rattle.ops.specs.Patch.{patch_of}
use Rattle.answers.specs.Run.{number_of, lane_of}
use Rattle.answers.specs.declared.run.Answer as answers
use Rattle.machine_model.specs.State.{given, fresh}
use Rattle.machine_model.specs.Scan.{op_at}
use Rattle.machine_model.specs.Run.{Answer}
use Rattle.machine_model.specs.Missing.{Missing}
use Rattle.machine_model.proofs.FirstMissing.{none_missing, run_missing}
use Rattle.busy.specs.Sums.{allowed}
use Rattle.machine_step.specs.Held.{Held}
use Rattle.bridge.specs.View.{view}
use Rattle.bridge.specs.Decoded.{patch_in, given_to}
use Rattle.bridge.proofs.Decoded.{Bytes}
use Rattle.machine.specs.Calls.{Slices, Tallied, Shown, Ended, lent, is_state, can_begin, step_call, stepped_to, run_call, ran_to, fresh_call}
use Rattle.machine.specs.declared.machine.Machine.{Machine}
use Rattle.machine.specs.declared.machine.Stepped.{Stepped}
use Rattle.machine.specs.declared.machine.Ran as code
use Rattle.machine.proofs.StepIsARun.{once_of, once_is}
use Rattle.demands.proofs.Calls.{run_is_model, fresh_is_model}

-- of the op of the patch at the position, in the state that is left
abbrev pub LacksIn : List ℕ → Held → answers.Answer → Type 0
LacksIn s c a = Missing (view c) (op_at (patch_in s) c.numbers.position) (number_of a) (lane_of a)

module _ (s input : List ℕ) (y : Bytes s) (z : (patch_of s).number ≡ 0) where
  lacks : Answer → Type 0
  lacks a = Missing a.state (op_at (patch_in s) a.state.at) a.number a.lane

  -- 37 lacks nothing
  not_run : (b : ℕ) (w : Tallied) → is_state s input w ≡ false → let a = run_call s input b w in LacksIn s a.left.held a.answer
  unfolding run_call
  not_run b w e = rw (eq-eqb (patch_of s).number 0 z, e) (none_missing _ _ 37 (λ q. omega arith) (λ q. omega arith) (λ q. omega arith))

  not_fresh : (b mode : ℕ) (l : Slices) → can_begin s mode l ≡ false → let a = fresh_call s input b mode l in LacksIn s a.left.held a.answer
  unfolding fresh_call
  not_fresh b mode l e = rw (eq-eqb (patch_of s).number 0 z, e) (none_missing _ _ 37 (λ q. omega arith) (λ q. omega arith) (λ q. omega arith))

  run_lacks : (b : ℕ) (w : Tallied) → length w.held.calls ≡ 256 → length w.held.refs ≡ 256 → let a = run_call s input b w in LacksIn s a.left.held a.answer
  unfolding lacks
  run_lacks b w kc kr =
      by_case (is_state s input w)
      (λ e. subst lacks (sym (run_is_model s input y z b w kc kr e)) (run_missing (given_to s input w.held) (allowed b w.total) (view w.held)))
      (λ e. not_run b w e)

  -- a run: r meets its contract
  pub run_first_missing : (b : ℕ) (m : Machine) (l : Slices) → length m.calls ≡ 256 → length m.refs ≡ 256
      → (r : code.Ran) (n : Slices) → ran_to r n ≡ run_call s input b (lent m l) → LacksIn s (lent r.machine n).held r.answer
  run_first_missing b m l kc kr r n e = subst (λ (a : Ended). LacksIn s a.left.held a.answer) (sym e) (run_lacks b (lent m l) kc kr)

  -- a fresh run
  pub fresh_first_missing : (b mode : ℕ) (l : Slices) (r : code.Ran) (n : Slices) → ran_to r n ≡ fresh_call s input b mode l → LacksIn s (lent r.machine n).held r.answer
  unfolding lacks
  fresh_first_missing b mode l r n e =
      subst (λ (a : Ended). LacksIn s a.left.held a.answer) (sym e)
      (by_case (can_begin s mode l)
      (λ f. subst lacks (sym (fresh_is_model s input y z b mode l f)) (run_missing (given (patch_in s) mode input (length l.output)) (allowed b 0) (fresh (length l.tape))))
      (λ f. not_fresh b mode l f))

  once_lacks : (a : Ended) → LacksIn s a.left.held a.answer → LacksIn s (once_of a).left.held (once_of a).answer
  unfolding once_of
  once_lacks a h =
      by_case (eqb a.steps 0)
      (λ e. rw e h)
      (λ e. rw e (none_missing _ _ 0 (λ q. omega arith) (λ q. omega arith) (λ q. omega arith)))

  -- a step
  pub step_first_missing : (m : Machine) (l : Slices) → length m.calls ≡ 256 → length m.refs ≡ 256
      → (r : Stepped) (n : Slices) → stepped_to r n ≡ step_call s input (lent m l) → LacksIn s (lent r.machine n).held r.answer
  step_first_missing m l kc kr r n e =
      subst (λ (a : Shown). LacksIn s a.left.held a.answer) (once_is s input (lent m l) ∙ sym e) (once_lacks _ (run_lacks 1 (lent m l) kc kr))
