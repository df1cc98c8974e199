-- A step leads from a well-formed state to a well-formed state, and so does a run; the fresh state is one. Assumes nothing.
use Prim.Native.Nat.{ℕ, ◌≤◌, ◌<◌, zero-le}
use native.Mathlib.Omega.{arith}
use mathlib.Core.Path.{◌≡◌}
use mathlib.Core.Logic.{inl}
use lib.ListN.{length, length-replicate}
use Rattle.ops.specs.Syntax.{Op}
use Rattle.ops.specs.Syntax.Op.{control, set, load, plain}
use Rattle.ops.specs.Write.{Fits}
use Rattle.machine_model.specs.State.{State, Given, by_mark, fresh, most_marks, lanes, farthest}
use Rattle.machine_model.specs.Step.{step}
use Rattle.machine_model.specs.Step.Outcome.{next}
use Rattle.machine_model.specs.Run.{run}
use Rattle.machine_model.specs.Formed.{Each, Whole, Formed}
use Rattle.machine_model.specs.Limited.{Limited}
use Rattle.machine_model.proofs.Scans.{landing_below}
use Rattle.machine_model.proofs.Table.{marks_few}
use Rattle.machine_model.proofs.Outcomes.{next_gives, run_keeps}
use Rattle.machine_model.proofs.Effects.{Places, made, Sizes, Effect, step_does}
use Rattle.machine_model.proofs.Effects.Effect.{turns, acts}

made_few : (o : Op) (k : ℕ) → Fits o → k ≤ lanes → made o k ≤ lanes
made_few (control c) k h l = l
made_few (set a vs) k h l = h.0
made_few (load n) k h l = h
made_few (plain p) k h l = l

module _ (g : Given) (lim : Limited g.ops) where
  -- a place of the patch
  abbrev Inner : ℕ → Type 0
  Inner c = c < length g.ops

  formed : (t : State) → g.mode ≤ by_mark → t.at ≤ length g.ops → Places g.ops Inner t.calls t.table → length t.reg ≤ lanes
      → Sizes g t.pointer t.counted t.refs t.channel t.first t.taken t.outs → Each (λ x. x ≤ farthest) t.refs → Whole t.counted → Formed g t
  formed t y a p r z q w = let few : length t.table ≤ most_marks = omega (arith, marks_few g t.table p.rising p.marked, lim.few_marks) in search

  effect_formed : (s t : State) (o : Op) → Fits o → Formed g s → Effect g Inner s o t → Formed g t
  effect_formed s _ _ h f (turns j ts cs b k) = let p = k (search) in formed _ f.known p.0 p.1 f.narrow (omega arith) f.pointed f.whole
  effect_formed s _ o h f (acts p n r m rs ch i k os a e w z) =
      let q = z f h in formed _ f.known a (search) (omega (arith, made_few o (length s.reg) h f.narrow)) q.0 q.1 (w f.whole)

  -- a step of a patch within the limits leads from a well-formed state to one
  pub step_formed : (s t : State) → Formed g s → step g s ≡ next t → Formed g t
  step_formed s t f e =
      effect_formed s t _ (lim.each s.at) f (next_gives (step g s) t (step_does g Inner (landing_below g.ops) s) e)

  -- and so does a run, however it ends
  pub run_formed : (b : ℕ) (s : State) → Formed g s → Formed g (run g b s).state
  run_formed b s f = (run_keeps (λ n. Unit {0}) (Formed g) tt tt g (λ t n l h e. tt) step_formed b s f).1

-- the fresh state is well formed, for any patch, known mode, input, room and number of cells
pub fresh_formed : (g : Given) (cells : ℕ) → g.mode ≤ by_mark → Formed g (fresh cells)
unfolding fresh
fresh_formed g cells y = let n : length (fresh cells).reg ≤ lanes = omega (arith, length-replicate {A = ℕ} lanes 0) in let z : 0 < 256 = omega arith in search (zero-le, inl)
