-- Saved places and returns, in either call mode: a saved place is that of a Call of the patch, and a Return goes one after the last. Assumes nothing.
use Prim.Native.Nat.{ℕ, suc, ◌-◌, ◌<◌}
use native.Mathlib.Omega.{arith}
use mathlib.Core.Path.{◌≡◌, refl, ap}
use mathlib.Core.Bool.{Bool, true, false, cond}
use mathlib.Core.List.{List, [], ◌∷◌, reverse}
use mathlib.Core.Option.{Option, none, some}
use lib.ListN.{length, get_or, take}
use Rattle.ops.specs.Syntax.{Op, Control, is_while}
use Rattle.ops.specs.Syntax.Control.{function, call, ret, while, if, else, end}
use Rattle.ops.specs.Syntax.Op.{control}
use Rattle.machine_model.specs.State.{State, Given, fresh, lane0, go_to, on, with_table}
use Rattle.machine_model.specs.Scan.{op_at, brackets, to_open}
use Rattle.machine_model.specs.Step.{Outcome, enter, jump, end_of, else_of, routine, found, back, again, turn, op, step}
use Rattle.machine_model.specs.Step.Outcome.{next}
use Rattle.machine_model.specs.Run.{run}
use Rattle.machine_model.specs.Formed.{Each}
use Rattle.machine_model.proofs.Each.{each_end, each_take}
use Rattle.machine_model.proofs.Outcomes.{Gives, bar_gives, pick_gives, next_gives, run_keeps}
use Rattle.machine_model.proofs.Outcomes.Gives.{stopped, goes}
use Rattle.machine_model.proofs.Effects.{Effect, step_does}
use Rattle.machine_model.proofs.Effects.Effect.{turns, acts}
use Rattle.machine_model.proofs.Modes.{turn_gives}

-- ---- what is saved

module _ (g : Given) where
  -- every saved place is that of a Call
  abbrev pub SavedCalls : State → Type 0
  SavedCalls s = Each (λ c. op_at g.ops c ≡ control call) s.calls

  module _ (s : State) (h : SavedCalls s) where
    abbrev Saves : Outcome → Type 0
    Saves = Gives (Unit {0}) (λ n l. Unit {0}) SavedCalls

    jump_saves : (ts : List ℕ) (r : Option ℕ) → Saves (jump (with_table s ts) r)
    jump_saves ts none = stopped tt
    jump_saves ts (some p) = goes h

    found_saves : op g s ≡ control call → (r : Option ℕ) → Saves (found s r)
    unfolding op
    found_saves is none = stopped tt
    found_saves is (some m) = goes (each_end (λ c. op_at g.ops c ≡ control call) s.calls s.at h is)

    back_saves : (cs : List ℕ) → Each (λ c. op_at g.ops c ≡ control call) cs → s.calls ≡ cs → Saves (back s cs)
    back_saves [] a e = goes h
    back_saves (c ∷ cs) a e = goes (each_take (λ c. op_at g.ops c ≡ control call) (length cs) (c ∷ cs) a)

    again_saves : (r : Option ℕ) → Saves (again g s r)
    again_saves none = goes h
    again_saves (some w) = by (is_while (op_at g.ops w))
      where
        by : (b : Bool) → Saves (next (cond b (go_to s (suc w)) (on s)))
        by true = goes h
        by false = goes h

    turn_saves : (c : Control) → op g s ≡ control c → Saves (turn g c s)
    unfolding turn
    turn_saves function is = jump_saves (enter s.at s.table) (end_of g s)
    turn_saves call is = bar_gives 28 (λ _. tt) (λ _. bar_gives 32 (λ _. tt) (λ _. found_saves is (routine g.mode s.table g.ops (lane0 s))))
    turn_saves ret is = back_saves s.calls h refl
    turn_saves if is = pick_gives (λ _. jump_saves s.table (else_of g s)) (λ _. goes h)
    turn_saves while is = pick_gives (λ _. jump_saves s.table (end_of g s)) (λ _. goes h)
    turn_saves else is = jump_saves s.table (end_of g s)
    turn_saves end is = pick_gives (λ _. goes h) (λ _. again_saves (to_open 0 (reverse (take s.at (brackets g.ops)))))

    effect_saves : {Q : ℕ → Type 0} (o : Op) (t : State) → op g s ≡ o → step g s ≡ next t → Effect g Q s o t → SavedCalls t
    effect_saves _ _ is e (turns {c = c} j ts cs b k) = next_gives (step g s) _ (turn_gives g s is tt (turn_saves c is)) e
    effect_saves _ _ is e (acts p n r m rs ch i k os a l w z) = h

  step_saves : (s t : State) → SavedCalls s → step g s ≡ next t → SavedCalls t
  unfolding op
  step_saves s t h e = effect_saves s h (op g s) t refl e (next_gives (step g s) t (step_does g (λ j. Unit {0}) (λ j x. tt) s) e)

  -- a step keeps it, a run keeps it, and so it is of every run from fresh
  pub run_saves : (b : ℕ) (s : State) → SavedCalls s → SavedCalls (run g b s).state
  run_saves b s h = (run_keeps (λ n. Unit {0}) SavedCalls tt tt g (λ s n l h e. tt) step_saves b s h).1

  pub saved_are_calls : (b cells : ℕ) → SavedCalls (run g b (fresh cells)).state
  unfolding fresh
  saved_are_calls b cells = run_saves b (fresh cells) tt

-- ---- a Return

-- from s to t: one after the last saved place, which is saved no more
pub record ReturnsToLast (s t : State) : Type 0 where
  pub after : t.at ≡ suc (get_or s.calls (length s.calls - 1) 0)
  pub left : t.calls ≡ take (length s.calls - 1) s.calls

module _ (g : Given) (s : State) (is : op g s ≡ control ret) (some-saved : 0 < length s.calls) where
  last_of : (c : ℕ) (cs : List ℕ) → s.calls ≡ c ∷ cs
      → (suc (get_or (c ∷ cs) (length cs) 0) ≡ suc (get_or s.calls (length s.calls - 1) 0)) × (take (length cs) (c ∷ cs) ≡ take (length s.calls - 1) s.calls)
  last_of c cs e = let n : length (c ∷ cs) - 1 ≡ length cs = omega arith in (rw (e, n) refl, rw (e, n) refl)

  back_last : (cs : List ℕ) → s.calls ≡ cs → Gives (Unit {0}) (λ n l. Unit {0}) (ReturnsToLast s) (back s cs)
  back_last [] e = absurd (omega (arith, ap length e))
  back_last (c ∷ cs) e = let w = last_of c cs e in goes (record { after = w.0; left = w.1 })

  pub returns_to_last : (t : State) → step g s ≡ next t → ReturnsToLast s t
  unfolding turn
  returns_to_last t e = next_gives (step g s) t (turn_gives g s is tt (back_last s.calls refl)) e
