-- A step that is not over goes on or refuses with a number that is not 0: only its first test finishes. Assumes nothing.
use mathlib.Core.Path.{◌≡◌, refl}
use mathlib.Core.Bool.{false, ◌||◌}
use Prim.Native.Nat.{ℕ}
use native.Mathlib.Omega.{arith}
use borrow.Author.Tests.{leb-true, ne_eqb}
use lib.Dec.{leb, eqb}
use lib.ListN.{length}
use Rattle.basics.proofs.Clash.{clash}
use Rattle.ops.specs.Syntax.{Op}
use Rattle.machine_model.specs.State.{State, Given}
use Rattle.machine_model.specs.Step.{Outcome, step}
use Rattle.machine_model.specs.Step.Outcome.{refused, next}
use Rattle.machine_model.proofs.Outcomes.{Gives}
use Rattle.machine_model.proofs.Effects.{Over, Refusal, step_does}
use Rattle.machine_model.proofs.Effects.Refusal.{lost, narrow, short, cut, other}

pub data Real : Outcome → Type 0 where
  goes : (s : State) → Real (next s)
  stops : (n l : ℕ) → eqb n 0 ≡ false → Real (refused n l)

module _ (g : Given) (s : State) (e : (s.halted || leb (length g.ops) s.at) ≡ false) where
  not_0 : (o : Op) (n l : ℕ) → Refusal g s o n l → eqb n 0 ≡ false
  not_0 o _ _ (lost h b l) = refl
  not_0 o _ _ (narrow h l) = refl
  not_0 o _ _ (short m) = refl
  not_0 o _ _ (cut m) = refl
  not_0 o n _ (other h) = omega (arith, leb-true, ne_eqb)

  real : (o : Op) (P : State → Type 0) (x : Outcome) → Gives (Over g s) (Refusal g s o) P x → Real x
  real o P _ (Gives.ended h) = clash (cc)
  real o P _ (Gives.stopped {n = n} {l = l} r) = stops n l (not_0 o n l r)
  real o P _ (Gives.goes {t = t} h) = goes t

pub step_real : (g : Given) (s : State) → (s.halted || leb (length g.ops) s.at) ≡ false → Real (step g s)
step_real g s e = real g s e _ _ _ (step_does g (λ j. Unit {0}) (λ j h. tt) s)
