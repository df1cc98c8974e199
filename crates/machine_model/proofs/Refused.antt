-- How a run ends: the state that it leaves is the one that its steps lead to, with its comments passed, and a refused step left nothing behind.
-- Assumes nothing.
use Prim.Native.Nat.{ℕ, zero, suc, ◌+◌, ◌≤◌, ◌<◌}
use native.Mathlib.Omega.{arith}
use mathlib.Core.Path.{◌≡◌, refl, ap, sym, ◌∙◌, subst}
use mathlib.Core.Bool.{false}
use lib.ListN.{length, get_or}
use Rattle.basics.proofs.Clash.{clash}
use Rattle.machine_model.specs.State.{State, Given}
use Rattle.machine_model.specs.Step.{Outcome, step}
use Rattle.machine_model.specs.Step.Outcome.{finished, refused, next}
use Rattle.machine_model.specs.Scan.{op_at}
use Rattle.machine_model.specs.Passed.{is_comment, comments, passed}
use Rattle.machine_model.specs.Run.{Answer, answer, drive, run}
use Rattle.machine_model.proofs.Passing.{comment_at, passed_twice, at_work}

-- k steps, none of them refused, lead from a state to a state, the comments before each and after the last passed
pub data Reaches (g : Given) : ℕ → State → State → Type 0 where
  here : {s : State} → Reaches g 0 s (passed g s)
  further : {k : ℕ} {s t u : State} → Reaches g k s t → step g t ≡ next u → Reaches g (suc k) s (passed g u)

-- why a run of at most b steps ends with a number and a lane after k of them, where o is what the next step would give
pub data Ends (b : ℕ) : ℕ → ℕ → ℕ → Outcome → Type 0 where
  done : {k : ℕ} → k ≤ b → Ends b 0 0 k finished
  spent : {k : ℕ} {o : Outcome} → k ≡ b → (o ≡ finished → ⊥) → Ends b 50 0 k o
  refusal : {n l k : ℕ} → k < b → Ends b n l k (refused n l)

-- what an answer says of the run of at most b steps from s that gave it
pub record Faithful (g : Given) (b : ℕ) (s : State) (a : Answer) : Type 0 where
  pub path : Reaches g a.steps s a.state
  pub stands : a.place ≡ a.state.at
  pub why : Ends b a.number a.lane a.steps (step g a.state)

module _ (g : Given) (m : ℕ) (r : State) where
  ends : (n l k : ℕ) (s : State) (o : Outcome) → Reaches g k r s → step g s ≡ o → Ends m n l k o → Faithful g m r (answer n l k s)
  ends n l k s o p e w = record { path = p; stands = refl; why = subst (λ (x : Outcome). Ends m n l k x) (sym e) w }

  drive_faithful : (b k : ℕ) (s : State) (o : Outcome) → m ≡ k + b → Reaches g k r s → step g s ≡ o → Faithful g m r (drive g b k s o)
  unfolding drive
  drive_faithful zero k s finished q p e = ends 0 0 k s finished p e (done (omega arith))
  drive_faithful zero k s (refused n l) q p e = ends 50 0 k s (refused n l) p e (spent (omega arith) (λ z. clash (cc)))
  drive_faithful zero k s (next t) q p e = ends 50 0 k s (next t) p e (spent (omega arith) (λ z. clash (cc)))
  drive_faithful (suc b) k s finished q p e = ends 0 0 k s finished p e (done (omega arith))
  drive_faithful (suc b) k s (refused n l) q p e = ends n l k s (refused n l) p e (refusal (omega arith))
  drive_faithful (suc b) k s (next t) q p e = drive_faithful b (suc k) (passed g t) (step g (passed g t)) (omega arith) (further p e) refl

-- every run's answer: its steps were made, its state is where they lead, and its number is why it stopped there
pub run_faithful : (g : Given) (b : ℕ) (s : State) → Faithful g b s (run g b s)
unfolding run
run_faithful g b s = drive_faithful g b s b 0 (passed g s) (step g (passed g s)) (omega arith) here refl

-- a refused step leaves the state that it found: the one with its comments passed
pub refused_same : (g : Given) (b : ℕ) (s : State) (n l : ℕ) → step g (passed g s) ≡ refused n l → run g (suc b) s ≡ answer n l 0 (passed g s)
unfolding run drive
refused_same g b s n l e = ap (λ (o : Outcome). drive g (suc b) 0 (passed g s) o) e

-- ---- comments

module _ (g : Given) where
  reached_passed : (k : ℕ) (s t : State) → Reaches g k s t → passed g t ≡ t
  reached_passed _ s _ here = passed_twice g s
  reached_passed _ s _ (further {u = u} p e) = passed_twice g u

  module _ (b : ℕ) (s : State) where
    -- "Once passed it stays passed": the state that a run leaves, however it ends, has none left to pass
    pub run_passed : passed g (run g b s).state ≡ (run g b s).state
    run_passed = reached_passed _ s _ (run_faithful g b s).path

    -- "50 is given at the next op that is not a comment", and so is every number, unless the machine has halted
    pub never_at_comment : (run g b s).state.halted ≡ false → (run g b s).place < length g.ops → is_comment (op_at g.ops (run g b s).place) ≡ false
    never_at_comment h l =
        sym (comment_at g.ops (run g b s).place l)
        ∙ ap (λ (i : ℕ). get_or (comments g.ops) i false) (run_faithful g b s).stands
        ∙ at_work g (run g b s).state run_passed h
