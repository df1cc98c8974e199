-- What the functions that read a payload say of the op: its values, its argument, its text, its mode and its binding are those
-- that stand in the file. Assumes nothing.
use mathlib.Core.Path.{◌≡◌, ◌∙◌, sym, ap}
use mathlib.Core.List.{List}
use Prim.Native.Nat.{ℕ}
use native.Mathlib.Omega.{arith}
use Rattle.ops.specs.declared.op.Mode.{Mode}
use Rattle.ops.specs.declared.op.Binding.{Binding}
use Rattle.byte_fields.specs.Bytes.{u16_at, u64_at, values_at, text_at}
use Rattle.ops.specs.Syntax.{Plain, Sort, Op}
use Rattle.ops.specs.Syntax.Plain.{comment, move, offset, get, put, ffi_call}
use Rattle.ops.specs.Syntax.Op.{set, plain}
use Rattle.ops.specs.Patch.{Item}
use Rattle.ops.specs.Decode.{mode_in, binding_in, plain_with, op_with, row_at, op_at}

-- a payload read twice is the payload
module _ (s : List ℕ) (p n : ℕ) where
  plain_again : (q : Plain) → plain_with s p n (plain_with s p n q) ≡ plain_with s p n q
  plain_again q = grind arith

  op_again : (o : Op) → op_with s p n (op_with s p n o) ≡ op_with s p n o
  op_again o = grind (arith, plain_again)

module _ (s : List ℕ) (i : Item) where
  -- an op of the file has the payload that stands at its place
  pub held : (o : Op) → op_at s i ≡ o → op_with s i.payload i.count o ≡ o
  unfolding op_at
  held o e = ap (op_with s i.payload i.count) (sym e) ∙ op_again s i.payload i.count (row_at i.row) ∙ e

  -- what `read_values` reads
  pub set_values : (k : Sort) (vs : List ℕ) → op_at s i ≡ set k vs → vs ≡ values_at s i.payload i.count
  set_values k vs e = cc (held (set k vs) e)

  -- what `u64_at` reads
  pub move_argument : (v : ℕ) → op_at s i ≡ plain (move v) → v ≡ u64_at s i.payload
  move_argument v e = cc (held (plain (move v)) e)

  pub offset_argument : (v n : ℕ) → op_at s i ≡ plain (offset v n) → v ≡ u64_at s i.payload
  offset_argument v n e = cc (held (plain (offset v n)) e)

  -- the part of the file that is a comment's text
  pub comment_text : (bs : List ℕ) → op_at s i ≡ plain (comment bs) → bs ≡ text_at s i.payload i.count
  comment_text bs e = cc (held (plain (comment bs)) e)

  -- what `mode_at` reads
  pub get_mode : (m : Mode) → op_at s i ≡ plain (get m) → m ≡ mode_in (u16_at s i.payload)
  get_mode m e = cc (held (plain (get m)) e)

  pub put_mode : (m : Mode) → op_at s i ≡ plain (put m) → m ≡ mode_in (u16_at s i.payload)
  put_mode m e = cc (held (plain (put m)) e)

  -- what `binding_at` reads
  pub ffi_binding : (b : Binding) → op_at s i ≡ plain (ffi_call b) → b ≡ binding_in (u16_at s i.payload)
  ffi_binding b e = cc (held (plain (ffi_call b)) e)
