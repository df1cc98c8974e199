-- FFI Call: what the standard device's functions take and give, and the channel as a ring in a lent slice. Assumes nothing.
use Rattle.std.specs.Prelude.{ℕ, suc, ◌+◌, ◌-◌, ◌%◌, cond, List, ltb, Result, Ok, Err}
use lib.ListN.{get_or}
use lib.ListN
use Rattle.basics.specs.Limits.{depth}
use Rattle.lanes.specs.Float.{float_add}
use Rattle.ops.specs.declared.op.Binding.{Binding}
use Rattle.ops.specs.declared.op.Binding.TheVariants.{SquareRoot, Add}
use Rattle.testing_device.specs.Device.{ring}
use Rattle.testing_device.specs.Channel.{is_ring}
use Rattle.standard_device.specs.Root.{root_rule}
use Rattle.standard_device.specs.declared.bindings.Sent.{Sent}
use Rattle.standard_device.specs.declared.bindings.CallError.{CallError}
use Rattle.standard_device.specs.declared.bindings.CallError.TheVariants.{TooFew, NotARing}

-- 02, ask 9: "two bindings as `StandardDevice` has them": the Rust's square_root has one input, its add two
abbrev pub inputs : Binding → ℕ
inputs SquareRoot = 1
inputs Add = 2

-- what a function makes of the values that wait, oldest first: the root of the first, or the first plus the second
unfoldable pub result_of : Binding → List ℕ → ℕ
unfolding root_rule
result_of SquareRoot vs = root_rule (get_or vs 0 0)
result_of Add vs = float_add (get_or vs 0 0) (get_or vs 1 0)

-- ---- the first and the last column of 'Numbers given back', where op i is run: 02, ask 9: "33 when too few values wait"; "not a state"

abbrev pub called_number : Result Sent CallError → ℕ
called_number (Ok s) = 0
called_number (Err TooFew) = 33
called_number (Err NotARing) = 37

abbrev pub called_place : Result Sent CallError → ℕ → ℕ
called_place (Ok s) i = suc i
called_place (Err TooFew) i = i
called_place (Err NotARing) i = 0

-- ---- what the call leaves: its answer, and the channel

pub record CallLeft : Type 0 where
  pub answer : Result Sent CallError
  pub channel : List ℕ

abbrev pub call_left : Result Sent CallError → List ℕ → CallLeft
call_left a channel = record { answer = a; channel = channel }

-- "Each takes its values from the front of the channel and puts its result at the back", "with none taken" where they are too few. The place behind
-- those that wait is free, or of a full ring the first value's, which is taken
unfoldable pub call_in : Binding → List ℕ → ℕ → ℕ → CallLeft
unfolding ring result_of
call_in b channel first waiting =
    cond (is_ring channel first waiting)
    (cond (ltb waiting (inputs b)) (call_left (Err TooFew) channel)
    (call_left (Ok (record { first = (first + inputs b) % depth; waiting = waiting - inputs b + 1 })) (lib.ListN.set channel ((first + waiting) % depth) (result_of b (ring channel first waiting)))))
    (call_left (Err NotARing) channel)
