-- Demand 3: a patch that keeps the check's rules is never refused with 20 or 21, run from fresh or taken up again. Assumes nothing.
use Prim.Native.Nat.{ℕ, zero, suc, ◌≤◌, ◌<◌}
use native.Mathlib.Nat.{not-suc-le-zero, le_of_suc-le-suc}
use native.Mathlib.Omega.{arith}
use borrow.Author.Tests.{leb-true}
use mathlib.Core.Path.{◌≡◌, refl, ap}
use mathlib.Core.Bool.{true}
use mathlib.Core.List.{List, [], ◌∷◌}
use lib.ListN.{length}
use Rattle.basics.proofs.Clash.{clash}
use Rattle.ops.specs.Syntax.{Op, Control, needs, needs_of}
use Rattle.ops.specs.Syntax.Control.{function, call, ret, while, if, else, end}
use Rattle.ops.specs.Syntax.Op.{control, set, load, plain}
use Rattle.machine_model.specs.State.{State, Given, fresh, lanes}
use Rattle.machine_model.specs.Scan.{op_at}
use Rattle.machine_model.specs.Step.{step}
use Rattle.machine_model.specs.Run.{run}
use Rattle.machine_model.proofs.Scans.{is_control, Landing, landing_below}
use Rattle.machine_model.proofs.Outcomes.{next_gives, refused_gives, run_keeps}
use Rattle.machine_model.proofs.Effects.{Places, made, Refusal, Effect, step_does}
use Rattle.machine_model.proofs.Effects.Refusal.{lost, narrow, short, cut, other}
use Rattle.machine_model.proofs.Effects.Effect.{turns, acts}
use Rattle.patch_check.specs.Rules.{asks_of, asks, leaves, known, KeepsRules}
use Rattle.demands.specs.Reached.{given, Reached}
use Rattle.demands.specs.Reached.Reached.{at_first, run_on}
use Rattle.demands.proofs.Partner.{closes_after}

-- ---- known lanes

known_zero : (k : ℕ) (os : List Op) → known k os 0 ≡ k
known_zero k [] = refl
known_zero k (o ∷ os) = refl

known_suc : (k : ℕ) (os : List Op) (i : ℕ) → i < length os → known k os (suc i) ≡ leaves (op_at os i) (known k os i)
known_suc k [] i h = absurd (not-suc-le-zero h)
known_suc k (o ∷ os) zero h = known_zero (leaves o k) os
known_suc k (o ∷ os) (suc i) h = known_suc (leaves o k) os i (le_of_suc-le-suc h)

-- each control op has a lane, which it leaves to the op after it; a step asks for no more lanes than the check
asks_one : (c : Control) → (asks_of c ≡ 1) × (needs_of c ≤ 1)
asks_one function = omega arith
asks_one call = omega arith
asks_one ret = omega arith
asks_one while = omega arith
asks_one if = omega arith
asks_one else = omega arith
asks_one end = omega arith

needs_asks : (o : Op) → needs o ≤ asks o
needs_asks (control c) = omega (arith, asks_one c)
needs_asks (set k vs) = omega arith
needs_asks (load n) = omega arith
needs_asks (plain p) = omega arith

leaves_one : (o : Op) (k : ℕ) → is_control o ≡ true → leaves o k ≡ 1
leaves_one (control c) k e = refl
leaves_one (set a vs) k e = clash (cc)
leaves_one (load n) k e = clash (cc)
leaves_one (plain p) k e = clash (cc)

leaves_made : (o : Op) (k m : ℕ) → k ≤ m → asks o ≤ m → leaves o k ≤ made o m
leaves_made (control c) k m h l = omega (arith, asks_one c)
leaves_made (set a vs) k m h l = omega arith
leaves_made (load n) k m h l = omega arith
leaves_made (plain p) k m h l = h

-- ---- what holds of each state that a run comes to

record Inv (os : List Op) (s : State) : Type 0 where
  enough : known lanes os s.at ≤ length s.reg
  places : Places os (Landing os) s.calls s.table

abbrev pub Neither20Nor21 : ℕ → Type 0
Neither20Nor21 n = (n ≡ 20 → ⊥) × (n ≡ 21 → ⊥)

module _ (g : Given) (rules : KeepsRules g.ops) where
  asked : (s : State) → Inv g.ops s → s.at < length g.ops → asks (op_at g.ops s.at) ≤ length s.reg
  asked s i h = omega (arith, rules.enough s.at h, i.enough)

  spares : (s : State) (n l : ℕ) → Inv g.ops s → Refusal g s (op_at g.ops s.at) n l → Neither20Nor21 n
  spares s _ _ i (lost h b e) = absurd (closes_after g.ops rules s.at h b e)
  spares s _ _ i (narrow h l) = absurd (omega (arith, needs_asks (op_at g.ops s.at), asked s i h))
  spares s _ _ i (short m) = omega arith
  spares s _ _ i (cut m) = omega arith
  spares s n _ i (other h) = omega (arith, leb-true)

  -- after the op at a place, the lanes that it leaves
  after : (j n : ℕ) → j < length g.ops → leaves (op_at g.ops j) (known lanes g.ops j) ≤ n → known lanes g.ops (suc j) ≤ n
  after j n h l = omega (arith, known_suc lanes g.ops j h)

  keeps : (s t : State) (o : Op) → op_at g.ops s.at ≡ o → Inv g.ops s → Effect g (Landing g.ops) s o t → Inv g.ops t
  keeps s _ _ is i (turns {c = c} j ts cs b k) =
      let p = k i.places in
      let one = rw is at (asked s i (landing_below g.ops s.at (ap is_control is))) in
      record {
        enough = after j (length s.reg) (landing_below g.ops j p.0) (omega (arith, asks_one c, leaves_one (op_at g.ops j) (known lanes g.ops j) p.0));
        places = p.1;
      }
  keeps s _ o is i (acts p n r m rs ch j k os h e w z) =
      record {
        enough = after s.at (length r) h (rw (is, e) (leaves_made o (known lanes g.ops s.at) (length s.reg) i.enough (rw is at (asked s i h))));
        places = i.places;
      }

  run_spares : (budget : ℕ) (s : State) → Inv g.ops s → Neither20Nor21 (run g budget s).number × Inv g.ops (run g budget s).state
  run_spares =
      run_keeps Neither20Nor21 (Inv g.ops) (omega arith) (omega arith) g
      (λ s n l i e. spares s n l i (refused_gives (step g s) n l (step_does g (Landing g.ops) (λ j h. h) s) e))
      (λ s t i e. keeps s t _ refl i (next_gives (step g s) t (step_does g (Landing g.ops) (λ j h. h) s) e))

-- ---- demand 3

fresh_inv : (os : List Op) (cells : ℕ) → Inv os (fresh cells)
unfolding fresh
fresh_inv os cells = omega (arith, known_zero lanes os)

reached_inv : (os : List Op) → KeepsRules os → (s : State) → Reached os s → Inv os s
reached_inv os rules s (at_first cells) = fresh_inv os cells
reached_inv os rules s (run_on t mode input room budget r) = (run_spares (given os mode input room) rules budget t (reached_inv os rules t r)).1

-- from any state that runs of the patch came to, whatever is lent to this run
pub safe_resumed : (os : List Op) → KeepsRules os → (s : State) → Reached os s → (mode : ℕ) (input : List ℕ) (room budget : ℕ)
    → Neither20Nor21 (run (given os mode input room) budget s).number
safe_resumed os rules s r mode input room budget = (run_spares (given os mode input room) rules budget s (reached_inv os rules s r)).0

-- from fresh
pub safe : (os : List Op) → KeepsRules os → (mode : ℕ) (input : List ℕ) (room cells budget : ℕ) → Neither20Nor21 (run (given os mode input room) budget (fresh cells)).number
safe os rules mode input room cells budget = safe_resumed os rules (fresh cells) (at_first cells) mode input room budget
