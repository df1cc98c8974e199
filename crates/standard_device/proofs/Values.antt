-- What the functions make of the oldest values of a ring, by the places where these stand. Assumes nothing.
use mathlib.Core.Path.{◌≡◌, ◌∙◌, ap, ap₂, sym}
use mathlib.Core.Bool.{true}
use mathlib.Core.List.{List}
use Prim.Native.Nat.{ℕ, ◌+◌, ◌%◌, ◌^◌, ◌≤◌, ◌<◌}
use native.Mathlib.Omega.{arith}
use lib.ListN.{get_or}
use Rattle.lanes.specs.Lane.{cell_rule}
use Rattle.lanes.specs.declared.lane.CellOp.TheVariants.{FloatAdd}
use Rattle.ops.specs.declared.op.Binding.{Binding}
use Rattle.ops.specs.declared.op.Binding.TheVariants.{SquareRoot, Add}
use Rattle.testing_device.specs.Device.{ring}
use Rattle.testing_device.specs.Channel.{is_ring}
use Rattle.testing_device.proofs.Rings.{ringed, ring_get}
use Rattle.standard_device.specs.Root.{root_rule}
use Rattle.standard_device.specs.Bindings.{inputs, result_of}
use Rattle.lanes.proofs.Below.{cell_rule_below}
use Rattle.standard_device.proofs.Laws.{root_nearest, root_below}

pub inputs_few : (b : Binding) → (1 ≤ inputs b) × (inputs b ≤ 2)
inputs_few SquareRoot = (omega arith, omega arith)
inputs_few Add = (omega arith, omega arith)

-- what a function makes is a lane's pattern
pub result_below : (b : Binding) (vs : List ℕ) → get_or vs 0 0 < 2 ^ 64 → result_of b vs < 2 ^ 64
unfolding result_of cell_rule
result_below SquareRoot vs h = root_below (root_nearest (get_or vs 0 0) h)
result_below Add vs h = cell_rule_below FloatAdd (get_or vs 0 0) (get_or vs 1 0) h

module _ (l : List ℕ) (f n : ℕ) (r : is_ring l f n ≡ true) where
  first_value : 1 ≤ n → get_or (ring l f n) 0 0 ≡ get_or l f 0
  first_value h = let e : (f + 0) % 256 ≡ f = omega (arith, ringed l f n r) in ring_get l f n 0 (omega arith) ∙ ap (λ (k : ℕ). get_or l k 0) e

  pub root_of_first : 1 ≤ n → root_rule (get_or l f 0) ≡ result_of SquareRoot (ring l f n)
  unfolding result_of
  root_of_first h = ap root_rule (sym (first_value h))

  pub sum_of_two : 2 ≤ n → cell_rule FloatAdd (get_or l f 0) (get_or l ((f + 1) % 256) 0) ≡ result_of Add (ring l f n)
  unfolding result_of cell_rule
  sum_of_two h = ap₂ (cell_rule FloatAdd) (sym (first_value (omega arith))) (sym (ring_get l f n 1 (omega arith)))
