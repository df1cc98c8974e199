-- A step leads from a state whose values are 64-bit words to another; so does a run. Assumes nothing.
use Prim.Native.Nat.{ℕ}
use native.Mathlib.Omega.{arith}
use mathlib.Core.Path.{◌≡◌}
use Rattle.ops.specs.Syntax.{Op}
use Rattle.ops.specs.Write.{Fits}
use Rattle.machine_model.specs.State.{State, Given, fresh, lanes}
use Rattle.machine_model.specs.Step.{step}
use Rattle.machine_model.specs.Step.Outcome.{next}
use Rattle.machine_model.specs.Run.{run}
use Rattle.machine_model.specs.Formed.{Each, Formed}
use Rattle.machine_model.specs.Limited.{Limited}
use Rattle.machine_model.specs.Words.{Word, Words}
use Rattle.machine_model.proofs.Each.{each_replicate}
use Rattle.machine_model.proofs.Outcomes.{next_gives, run_keeps}
use Rattle.machine_model.proofs.Effects.{Effect, step_does}
use Rattle.machine_model.proofs.Effects.Effect.{turns, acts}
use Rattle.machine_model.proofs.Kept.{step_formed}

module _ (g : Given) (lim : Limited g.ops) where
  effect_words : (s t : State) (o : Op) → Fits o → Formed g s → Words g s → Effect g (λ j. Unit {0}) s o t → Words g t
  effect_words s _ _ h f w (turns j ts cs b k) = search
  effect_words s _ o h f w (acts p n r m rs ch i k os a e u z) = let v = (z f h).2 w in search

  -- a step of a well-formed state of words gives words
  pub step_words : (s t : State) → Formed g s → Words g s → step g s ≡ next t → Words g t
  step_words s t f w e = effect_words s t _ (lim.each s.at) f w (next_gives (step g s) t (step_does g (λ j. Unit {0}) (λ j h. tt) s) e)

  -- and so does a run, however it ends
  pub run_words : (b : ℕ) (s : State) → Formed g s → Words g s → Words g (run g b s).state
  run_words b s f w =
      (run_keeps (λ n. Unit {0}) (λ t. Formed g t × Words g t) tt tt g (λ t n l h e. tt)
      (λ t u h e. (step_formed g lim t u h.0 e, step_words t u h.0 h.1 e)) b s (f, w)).1.1

-- the fresh state has words, where the input does
pub fresh_words : (g : Given) (n : ℕ) → Each Word g.input → Words g (fresh n)
unfolding fresh
fresh_words g n a =
    record { in_reg = each_replicate Word lanes 0 (omega arith); in_tape = each_replicate Word n 0 (omega arith); in_channel = tt; in_input = a; in_outs = tt }
