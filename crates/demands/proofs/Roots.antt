-- 02, ask 9, on the model: what FFI Call sends, said without the rule that computes it. A square root is whatever `Root` says is one. Assumes nothing.
use mathlib.Core.Path.{◌≡◌, ◌∙◌, refl, ap, sym, subst}
use mathlib.Core.Bool.{false}
use mathlib.Core.List.{List, [], ◌∷◌, ◌++◌}
use Prim.Native.Nat.{ℕ, ◌^◌, ◌≤◌, ◌<◌}
use native.Mathlib.Omega.{arith}
use lib.ListN.{length, drop}
use borrow.Author.Tests.{lt-leb, lt-ltb, le-ltb}
use Rattle.basics.specs.Pick.{pick}
use Rattle.lanes.specs.Float.{float_add}
use Rattle.ops.specs.Syntax.Plain.{ffi_call}
use Rattle.ops.specs.Syntax.Op.{plain}
use Rattle.ops.specs.declared.op.Binding.{Binding}
use Rattle.ops.specs.declared.op.Binding.TheVariants.{SquareRoot, Add}
use Rattle.standard_device.specs.Root.{Root, root_rule}
use Rattle.standard_device.specs.Bindings.{inputs, result_of}
use Rattle.standard_device.proofs.Laws.{root_unique}
use Rattle.machine_model.specs.State.{State, Given, with_channel, on}
use Rattle.machine_model.specs.Scan.{op_at}
use Rattle.machine_model.specs.Step.{Outcome, step, exec, act, op, bar, lack, first_after}
use Rattle.machine_model.specs.Step.Outcome.{refused, next}

root_of : (a : ℕ) (vs : List ℕ) → result_of SquareRoot (a ∷ vs) ≡ root_rule a
unfolding result_of
root_of a vs = refl

sum_of : (a b : ℕ) (vs : List ℕ) → result_of Add (a ∷ b ∷ vs) ≡ float_add a b
unfolding result_of
sum_of a b vs = refl

-- a machine that runs and stands at an FFI Call
module _ (g : Given) (s : State) (runs : s.halted ≡ false) (here : s.at < length g.ops) where
  called : (b : Binding) → op_at g.ops s.at ≡ plain (ffi_call b) → step g s ≡ act g (ffi_call b) s
  unfolding step exec op lack pick
  called b e = rw (runs, lt-leb (length g.ops) s.at here, e, le-ltb (length s.reg) 0 (omega arith)) refl

  -- it goes on where as many values wait as it takes
  goes_on : (b : Binding) → op_at g.ops s.at ≡ plain (ffi_call b) → inputs b ≤ length s.channel
      → step g s ≡ next (on (with_channel s (first_after s (inputs b)) (drop (inputs b) s.channel ++ (result_of b s.channel ∷ []))))
  unfolding act bar
  goes_on b e h = called b e ∙ rw (le-ltb (length s.channel) (inputs b) h) refl

  abbrev sent : ℕ → List ℕ → ℕ → Outcome
  sent n vs v = next (on (with_channel s (first_after s n) (vs ++ (v ∷ []))))

  -- "takes its values from the front of the channel and puts its result at the back"
  pub sends_root : op_at g.ops s.at ≡ plain (ffi_call SquareRoot) → (a : ℕ) (vs : List ℕ) → s.channel ≡ a ∷ vs → a < 2 ^ 64 → (r : ℕ) → Root a r
      → step g s ≡ next (on (with_channel s (first_after s 1) (vs ++ (r ∷ []))))
  sends_root e a vs c b r h =
      goes_on SquareRoot e (subst (λ (l : List ℕ). 1 ≤ length l) (sym c) (omega arith))
      ∙ ap (λ (l : List ℕ). sent 1 (drop 1 l) (result_of SquareRoot l)) c
      ∙ ap (sent 1 vs) (root_of a vs ∙ sym (root_unique a r b h))

  pub sends_sum : op_at g.ops s.at ≡ plain (ffi_call Add) → (a b : ℕ) (vs : List ℕ) → s.channel ≡ a ∷ b ∷ vs
      → step g s ≡ next (on (with_channel s (first_after s 2) (vs ++ (float_add a b ∷ []))))
  sends_sum e a b vs c =
      goes_on Add e (subst (λ (l : List ℕ). 2 ≤ length l) (sym c) (omega arith))
      ∙ ap (λ (l : List ℕ). sent 2 (drop 2 l) (result_of Add l)) c
      ∙ ap (sent 2 vs) (sum_of a b vs)

  -- "33 when too few values wait, with none taken"
  pub too_few : (b : Binding) → op_at g.ops s.at ≡ plain (ffi_call b) → length s.channel < inputs b → step g s ≡ refused 33 0
  unfolding act bar
  too_few b e h = called b e ∙ rw (lt-ltb (length s.channel) (inputs b) h) refl
