-- A step as the code makes it is the model's step, laid. Assumes nothing.
use mathlib.Core.Path.{◌≡◌, ◌∙◌, refl, ap, sym}
use mathlib.Core.Bool.{Bool, false, ◌||◌}
use mathlib.Core.List.{List}
use Prim.Native.Nat.{ℕ, ◌≤◌, ◌<◌}
use native.Mathlib.Omega.{arith}
use lib.Dec.{leb, ltb}
use lib.ListN.{length, get_or}
use lib.Seq.{length-take-le}
use borrow.Author.Tests.{ltb-false, lt-leb}
use Rattle.basics.proofs.Tests.{by_case}
use Rattle.byte_fields.specs.Bytes.{u16_at, u64_at}
use Rattle.kind_table.specs.Kinds.{index_of, family_of}
use Rattle.ops.specs.Syntax.{Control, Plain, Op, is_function, needs, kind_of, plain_kind, control_kind}
use Rattle.ops.specs.Syntax.Control.{function, call, ret, while, if, else, end}
use Rattle.ops.specs.Syntax.Plain.{comment, store, move, swap, locate, offset, deref, refer, cell, lane, get, put, peek, poke, ffi_call, alloc, free}
use Rattle.ops.specs.Syntax.Sort.{ints, floats}
use Rattle.ops.specs.Syntax.Op.{control, set, load, plain}
use Rattle.ops.specs.Decode.{mode_in, binding_in, row_at, op_with, plain_with, op_count, plain_count}
use Rattle.ops.specs.Decode as file
use Rattle.file_laws.proofs.Meaning.{means}
use Rattle.machine_model.specs.State.{Given}
use Rattle.machine_model.specs.Scan.{op_at, functions}
use Rattle.machine_model.specs.Step.{exec, act, step, op, pick, bar}
use Rattle.machine_model.specs.Formed.{Formed}
use Rattle.machine_model.specs.Limited.{count}
use Rattle.control_ops.specs.Control.{control_of}
use Rattle.tape_ops.specs.Tape.{tape_of}
use Rattle.device_ops.specs.Device.{device_of}
use Rattle.machine_step.specs.Held.{Held}
use Rattle.machine_step.specs.Step.{op_of, step_of}
use Rattle.bridge.specs.View.{view, laid}
use Rattle.bridge.specs.Decoded.{code_of, given_to}
use Rattle.bridge.specs.Fits.{Counted, Fits}
use Rattle.bridge.proofs.Families.{cell_row_lem, lane_row_lem}
use Rattle.bridge.proofs.Control.{Rows, function_is, call_is, ret_is, while_is, if_is, else_is, end_is}
use Rattle.bridge.proofs.Tape.{next_is, set_is, load_is, store_is, move_is, where_is, deref_is, refer_is, alloc_is}
use Rattle.bridge.proofs.Lanes.{cell_is, swap_is, alone_is, offset_is}
use Rattle.bridge.proofs.Device.{get_is, put_is, peek_is, poke_is, ffi_call_is}
use Rattle.bridge.proofs.Decoded.{item_of, row_of, rows, op_is_item, kind_is, count_is, place_is, need_is, is_item, few, few_entered, bytes_are}

-- an op of any row, with n what its payload counts
module _ (g : Given) (ks bs : List ℕ) (n a : ℕ) (c : Held) (h : Counted c) (r : Rows g.ops ks) (f : Formed g (view c))
    (marked : count (functions g.ops) ≤ 256) (room : g.room ≡ length c.output) (mode : g.mode ≡ c.numbers.mode) (here : c.numbers.position < length ks) (small : n ≤ 1024) where
  control_op : (x : Control) → op_at g.ops c.numbers.position ≡ control x → needs (control x) ≤ c.numbers.lanes
      → op_of (index_of (control_kind x)) n a ks bs g.input c ≡ laid c (exec g (control x) (view c))
  unfolding index_of op_of family_of control_of pick exec
  control_op function e w = function_is g ks r c h f marked here (ap is_function e)
  control_op call e w = call_is g ks r c h f marked mode w
  control_op ret e w = ret_is g ks r c h
  control_op while e w = while_is g ks r c h here w
  control_op if e w = if_is g ks r c h here w
  control_op else e w = else_is g ks r c h here
  control_op end e w = end_is g ks r c h w

  plain_op : (p : Plain) → plain_count (plain_with bs a n p) ≡ n → needs (plain (plain_with bs a n p)) ≤ c.numbers.lanes
      → op_of (index_of (plain_kind p)) n a ks bs g.input c ≡ laid c (exec g (plain (plain_with bs a n p)) (view c))
  unfolding index_of op_of family_of tape_of device_of pick exec act
  plain_op (comment t) e w = next_is g c h
  plain_op (store k) e w = rw e (store_is g c h n (omega arith))
  plain_op (move v) e w = move_is g c h (u64_at bs a)
  plain_op (swap k) e w = rw e (swap_is g c h n (omega arith))
  plain_op locate e w = where_is g c h w
  plain_op (offset v k) e w = rw e (offset_is g c h (u64_at bs a) n (omega arith))
  plain_op deref e w = deref_is g c h
  plain_op refer e w = refer_is g c h
  plain_op (cell o k) e w = rw ((cell_row_lem {n = k} o).family, (cell_row_lem {n = k} o).rule, e) (cell_is g c h o n (omega arith))
  plain_op (lane o k) e w = rw ((lane_row_lem {n = k} o).family, (lane_row_lem {n = k} o).rule, e) (alone_is g c h o n (omega arith))
  plain_op (get d) e w = get_is g c h (mode_in (u16_at bs a)) w
  plain_op (put d) e w = put_is g c h (mode_in (u16_at bs a)) room w
  plain_op peek e w = peek_is g c h w
  plain_op poke e w = poke_is g c h w
  plain_op (ffi_call b) e w = ffi_call_is g c h (binding_in (u16_at bs a))
  plain_op alloc e w = alloc_is g c h w
  plain_op free e w = next_is g c h

  op_by : (o : Op) → op_at g.ops c.numbers.position ≡ op_with bs a n o → op_count (op_with bs a n o) ≡ n → needs (op_with bs a n o) ≤ c.numbers.lanes
      → op_of (index_of (kind_of o)) n a ks bs g.input c ≡ laid c (exec g (op_with bs a n o) (view c))
  unfolding index_of op_of family_of tape_of pick exec
  op_by (control x) q e w = control_op x q w
  op_by (set ints vs) q e w = set_is g c h ints n a bs small
  op_by (set floats vs) q e w = set_is g c h floats n a bs small
  op_by (load k) q e w = rw e (load_is g c h n small)
  op_by (plain p) q e w = plain_op p e w

-- ---- a step

neither : {a b : Bool} → a ≡ false → b ≡ false → (a || b) ≡ false
neither e f = rw (e, f) refl

module _ (s input : List ℕ) (c : Held) (h : Fits s input c) (here : c.numbers.position < length (code_of s).rows) where
  -- the op at the position
  here_is : (k n a : ℕ) → k ≡ (item_of s c.numbers.position).row → n ≡ (item_of s c.numbers.position).count → a ≡ (item_of s c.numbers.position).payload
      → needs (file.op_at s (item_of s c.numbers.position)) ≤ c.numbers.lanes
      → op_of k n a (code_of s).rows s input c ≡ laid c (exec (given_to s input c) (file.op_at s (item_of s c.numbers.position)) (view c))
  unfolding file.op_at
  here_is k n a ek en ea w =
      let i = c.numbers.position in let x = item_of s i in
      let q = is_item s i here in
      rw (ek, en, ea)
      (ap (λ (z : ℕ). op_of z x.count x.payload (code_of s).rows s input c) (sym (row_of s x q).number)
      ∙ op_by (given_to s input c) (code_of s).rows s x.count x.payload c h.counted (rows s) h.formed (few_entered s) refl refl here
      (omega (arith, few s i here, count_is s i))
      (row_at x.row) (op_is_item s i here) (means s x q).count w)

  step_by : (c.numbers.halted || leb (length (given_to s input c).ops) c.numbers.position) ≡ false
      → step_of (code_of s) input c ≡ laid c (step (given_to s input c) (view c))
  unfolding step_of pick step op bar
  step_by t =
      let i = c.numbers.position in let need = get_or (code_of s).needs i 0 in
      rw (t, op_is_item s i here, ← need_is s i here, length-take-le c.numbers.lanes c.register h.counted.lanes, bytes_are s)
      (by_case (ltb c.numbers.lanes need)
      (λ q. rw q refl)
      (λ q. rw q (here_is (get_or (code_of s).rows i 0) (get_or (code_of s).counts i 0) (get_or (code_of s).payloads i 0) (kind_is s i) (count_is s i) (place_is s i) (omega (arith, ltb-false c.numbers.lanes need q, need_is s i here)))))

  -- "Calling a step hands back the next machine": where it is not halted and has an op
  pub step_is : c.numbers.halted ≡ false → step_of (code_of s) input c ≡ laid c (step (given_to s input c) (view c))
  step_is e =
      let ops = (given_to s input c).ops in
      step_by (neither e (lt-leb (length ops) c.numbers.position (omega (arith, (rows s).many))))
