-- Why a run is laid after each step: to lay its last state over what was lent at entry is another thing. Assumes nothing.
use mathlib.Core.Path.{◌≡◌, refl}
use mathlib.Core.Bool.{false}
use mathlib.Core.List.{List, [], ◌∷◌}
use Prim.Native.Nat.{ℕ}
use Rattle.basics.specs.Pick.{pick}
use Rattle.byte_fields.specs.Bytes.{values_at}
use Rattle.byte_fields.specs.Storage.{fill}
use Rattle.kind_table.specs.Kinds.{kind_at, index_of, run_need, family_of}
use Rattle.ops.specs.Record.{record_at, body_at, length_ok, count_of, named_of, last_of}
use Rattle.ops.specs.Patch.{patch_of, mark_of}
use Rattle.ops.specs.Decode.{rows, row_at}
use Rattle.ops.specs.Decode as file
use Rattle.testing_device.specs.Device.{ring, fill_ring}
use Rattle.machine_model.specs.Run.{run}
use Rattle.tape_ops.specs.Tape.{set_of, tape_of}
use Rattle.machine_step.specs.Held.{Held, held}
use Rattle.machine_step.specs.Step.{op_of, step_of}
use Rattle.bridge.specs.View.{view, lay}
use Rattle.bridge.specs.Decoded.{code_of, given_to, patch_in}
use Rattle.bridge.specs.Run.{run_of}

-- set [1, 2], set [3], over a register that holds 9 9 9
two : List ℕ
two =
    18 ∷ 0 ∷ 0 ∷ 0 ∷ 1 ∷ 0 ∷ 1 ∷ 0 ∷ 0 ∷ 0 ∷ 0 ∷ 0 ∷ 0 ∷ 0 ∷ 2 ∷ 0 ∷ 0 ∷ 0 ∷ 0 ∷ 0 ∷ 0 ∷ 0
    ∷ 10 ∷ 0 ∷ 0 ∷ 0 ∷ 1 ∷ 0 ∷ 3 ∷ 0 ∷ 0 ∷ 0 ∷ 0 ∷ 0 ∷ 0 ∷ 0 ∷ []

start : Held
start = held (record { depth = 0; saved = 0; pointer = 0; position = 0; length = 0; lanes = 0; functions = 0; first = 0; waiting = 0; taken = 0; written = 0; halted = false; mode = 0 }) [] [] (9 ∷ 9 ∷ 9 ∷ []) [] [] [] []

by_steps : (run_of 5 0 (code_of two) [] start).held.register ≡ 3 ∷ 2 ∷ 9 ∷ []
unfolding two start code_of patch_of record_at body_at length_ok count_of named_of last_of kind_at index_of run_need mark_of run_of step_of op_of family_of tape_of set_of pick values_at fill
by_steps = refl

at_once : (lay (run (given_to two [] start) 5 (view start)).state start).register ≡ 3 ∷ 9 ∷ 9 ∷ []
unfolding two start patch_in patch_of record_at body_at length_ok count_of named_of last_of kind_at index_of mark_of file.op_at row_at rows lay run values_at fill ring fill_ring
at_once = refl
