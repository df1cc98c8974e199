-- 02, ask 12: no run makes a tape of 1 to 29,999 cells, and on every other length Alloc does what 01 says. Assumes nothing.
use Prim.Native.Nat.{ℕ, ◌+◌, ◌-◌}
use native.Mathlib.Omega.{arith}
use borrow.Author.Tests.{ne_eqb, le-ltb, ltb-false, eqb-true}
use mathlib.Core.Path.{◌≡◌, refl}
use mathlib.Core.Bool.{cond, ◌||◌}
use mathlib.Core.Logic.{inl, inr}
use lib.Dec.{ltb, eqb}
use Rattle.basics.proofs.Tests.{by_case}
use Rattle.ops.specs.Syntax.{Op}
use Rattle.ops.specs.Syntax.Plain.{alloc}
use Rattle.machine_model.specs.State.{State, Given, longest, lane0, on, with_counted, set_lane}
use Rattle.machine_model.specs.Step.{Outcome, bar, minus, grown, act, step}
use Rattle.machine_model.specs.Step.Outcome.{next}
use Rattle.machine_model.specs.Run.{run}
use Rattle.machine_model.specs.Formed.{Whole, Formed}
use Rattle.machine_model.proofs.Outcomes.{next_gives, run_keeps}
use Rattle.machine_model.proofs.Effects.{Effect, step_does}
use Rattle.machine_model.proofs.Effects.Effect.{turns, acts}

-- ---- what a step and a run keep, of any patch, from any state

module _ (g : Given) where
  effect_whole : (s t : State) (o : Op) → Whole s.counted → Effect g (λ j. Unit {0}) s o t → Whole t.counted
  effect_whole s _ _ w (turns j ts cs b k) = w
  effect_whole s _ o w (acts p n r m rs ch i k os a e u z) = u w

  pub step_whole : (s t : State) → Whole s.counted → step g s ≡ next t → Whole t.counted
  step_whole s t w e = effect_whole s t _ w (next_gives (step g s) t (step_does g (λ j. Unit {0}) (λ j h. tt) s) e)

  pub run_whole : (b : ℕ) (s : State) → Whole s.counted → Whole (run g b s).state.counted
  run_whole b s w = (run_keeps (λ n. Unit {0}) (λ t. Whole t.counted) tt tt g (λ t n l h e. tt) step_whole b s w).1

-- ---- Alloc as before

-- 01: "length under 30,000 grows by 30,000"
abbrev pub grown_in01 : ℕ → ℕ
grown_in01 n = cond (ltb n 30_000) (n + 30_000) n

-- 01: "21, 30; length under 30,000 grows by 30,000; answer length - 1, then grow by lane 0"
abbrev pub alloc_in01 : State → Outcome
alloc_in01 s =
    bar (minus (lane0 s) || ltb longest (grown_in01 s.counted + lane0 s)) 30
    (next (on (with_counted (set_lane s (grown_in01 s.counted - 1)) (grown_in01 s.counted + lane0 s))))

alike : (n : ℕ) → Whole n → grown n ≡ grown_in01 n
alike n (inl e) = rw e refl
alike n (inr l) = rw (ne_eqb n 0 (λ e. omega arith), le-ltb n 30_000 l) refl

-- the lengths that are excluded are just those on which the two tests differ
pub alike_only : (n : ℕ) → grown n ≡ grown_in01 n → Whole n
alike_only n e =
    by_case (eqb n 0) (λ z. inl (eqb-true n 0 z))
    (λ z. by_case (ltb n 30_000) (λ l. absurd (let q : n ≡ n + 30_000 = rw (z, l) at e in omega arith)) (λ l. inr (ltb-false n 30_000 l)))

-- on the length of a well-formed state the old test and the new one give the same, and so Alloc does
pub stock_as_before : (g : Given) (s : State) → Formed g s → grown s.counted ≡ grown_in01 s.counted
stock_as_before g s f = alike s.counted f.whole

pub alloc_as_before : (g : Given) (s : State) → Formed g s → act g alloc s ≡ alloc_in01 s
unfolding act
alloc_as_before g s f = rw (stock_as_before g s f) refl
