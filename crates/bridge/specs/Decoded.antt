-- The patch that the machine reads is the file's: its arrays have the items that the reader found. Assumes nothing.
use Rattle.std.specs.Prelude.{List, map, ℕ, length}
use Rattle.ops.specs.Patch.{patch_of, row_in, count_in, need_in, payload_in}
use Rattle.ops.specs.Decode.{op_at}
use Rattle.ops.specs.Syntax.{Op}
use Rattle.machine_model.specs.State.{Given, given}
use Rattle.partners.specs.Columns.{partners_of, turns_of, functions_of}
use Rattle.machine_step.specs.Held.{Held, Code, code}

-- the file s as it is read
unfoldable pub code_of : List ℕ → Code
code_of s =
    let xs = (patch_of s).items in
    let ks = map row_in xs in
    code ks (map count_in xs) (map need_in xs) (map payload_in xs) (partners_of ks) (turns_of ks) (functions_of ks) s

-- the ops that its bytes mean
unfoldable pub patch_in : List ℕ → List Op
patch_in s = map (op_at s) (patch_of s).items

-- what a run of it is given, in the mode of c and with its output lent
abbrev pub given_to : List ℕ → List ℕ → Held → Given
given_to s input c = given (patch_in s) c.numbers.mode input (length c.output)
