-- 02, ask 3: where a step or a run is refused with 21, 22 or 23, its lane is the first that could not be had; else it is 0. Assumes nothing.
use Prim.Native.Nat.{ℕ}
use native.Mathlib.Omega.{arith}
use mathlib.Core.Path.{◌≡◌, refl}
use borrow.Author.Tests.{leb-true}
use Rattle.ops.specs.Syntax.{Op}
use Rattle.machine_model.specs.State.{State, Given}
use Rattle.machine_model.specs.Scan.{op_at}
use Rattle.machine_model.specs.Step.{Outcome, step}
use Rattle.machine_model.specs.Step.Outcome.{refused}
use Rattle.machine_model.specs.Run.{run}
use Rattle.machine_model.specs.Missing.{Missing}
use Rattle.machine_model.proofs.Outcomes.{refused_gives}
use Rattle.machine_model.proofs.Effects.{Refusal, step_does}
use Rattle.machine_model.proofs.Effects.Refusal.{lost, narrow, short, cut, other}
use Rattle.machine_model.proofs.Refused.{Ends, run_faithful}
use Rattle.machine_model.proofs.Refused.Ends.{done, spent, refusal}

-- a number that is none of the three has lane 0
pub none_missing : (s : State) (o : Op) (n : ℕ) → (n ≡ 21 → ⊥) → (n ≡ 22 → ⊥) → (n ≡ 23 → ⊥) → Missing s o n 0
none_missing s o n a b c = record { register = λ e. absurd (a e); counted = λ e. absurd (b e); tape = λ e. absurd (c e); others = λ _ _ _. refl }

refusal_missing : (g : Given) (s : State) (o : Op) (n l : ℕ) → Refusal g s o n l → Missing s o n l
refusal_missing g s o _ _ (lost h b e) = none_missing s o 20 (λ e. omega arith) (λ e. omega arith) (λ e. omega arith)
refusal_missing g s o _ _ (narrow h l) =
    record {
      register = λ _. record { before = λ j i. i; missing = λ i. omega arith; asked = l };
      counted = λ e. absurd (omega arith);
      tape = λ e. absurd (omega arith);
      others = λ a _ _. absurd (a refl);
    }
refusal_missing g s o _ l (short f) =
    record { register = λ e. absurd (omega arith); counted = λ _. f; tape = λ e. absurd (omega arith); others = λ _ b _. absurd (b refl) }
refusal_missing g s o _ l (cut f) =
    record { register = λ e. absurd (omega arith); counted = λ e. absurd (omega arith); tape = λ _. f; others = λ _ _ c. absurd (c refl) }
refusal_missing g s o n _ (other h) =
    let w = leb-true 24 n h in none_missing s o n (λ e. omega arith) (λ e. omega arith) (λ e. omega arith)

-- a step
pub first_missing : (g : Given) (s : State) (n l : ℕ) → step g s ≡ refused n l → Missing s (op_at g.ops s.at) n l
first_missing g s n l e =
    refusal_missing g s _ n l (refused_gives (step g s) n l (step_does g (λ j. Unit {0}) (λ j h. tt) s) e)

-- a run, of the state and the op that it stands at; 0 and 50 are among the others
pub run_missing : (g : Given) (b : ℕ) (s : State) → let a = run g b s in Missing a.state (op_at g.ops a.state.at) a.number a.lane
run_missing g b s = by _ _ _ _ refl (run_faithful g b s).why
  where
    t : State
    t = (run g b s).state

    by : (n l k : ℕ) (o : Outcome) → step g t ≡ o → Ends b n l k o → Missing t (op_at g.ops t.at) n l
    by _ _ k _ e (done h) = none_missing t _ 0 (λ e. omega arith) (λ e. omega arith) (λ e. omega arith)
    by _ _ k _ e (spent h z) = none_missing t _ 50 (λ e. omega arith) (λ e. omega arith) (λ e. omega arith)
    by n l k _ e (refusal h) = first_missing g t n l e
