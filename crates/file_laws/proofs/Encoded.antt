-- The table's row of an op that is written, and what its payload says where it stands. Assumes nothing.
use mathlib.Core.Path.{◌≡◌, ◌∙◌, refl, ap, ap₂, sym}
use mathlib.Core.Bool.{true, false}
use mathlib.Core.List.{List, [], ◌∷◌, ◌++◌, append_assoc}
use Prim.Native.Nat.{ℕ, ◌+◌, ◌*◌, ◌%◌, ◌^◌, ◌<◌, ◌≤◌}
use native.Mathlib.Omega.{arith}
use borrow.Author.Tests.{le-leb, eq-eqb}
use lib.Dec.{leb, eqb}
use lib.ListN.{length, drop, length-append}
use Rattle.lanes.specs.declared.lane.CellOp.{CellOp}
use Rattle.lanes.specs.declared.lane.CellOp.TheVariants.{Index, BitwiseNand, BitwiseAnd, BitwiseOr, BitwiseXor, LeftShift, LogicalRightShift, ArithmeticRightShift, And, Or, Add, Sub, Mul, Div, Rem, FloatAdd, FloatSub, FloatMul, FloatDiv, FloatRem}
use Rattle.lanes.specs.declared.lane.LaneOp.{LaneOp}
use Rattle.ops.specs.declared.op.Mode.{Mode}
use Rattle.ops.specs.declared.op.Binding.{Binding}
use Rattle.byte_fields.specs.Bytes.{u16_at, u32_at, u64_at, le16, le32, le64}
use Rattle.kind_table.specs.Kinds.{shape, left_out, kind_at, index_of}
use Rattle.kind_table.specs.declared.shape.Shape.TheVariants.{Empty, LaneCount}
use Rattle.ops.specs.Record.{length_ok, count_of, named_of, last_of}
use Rattle.ops.specs.Syntax.{Control, Plain, Op, kind_of}
use Rattle.ops.specs.Syntax.Plain.{comment, store, move, swap, locate, offset, deref, refer, cell, lane, get, put, peek, poke, ffi_call, alloc, free}
use Rattle.ops.specs.Syntax.Sort.{ints, floats}
use Rattle.ops.specs.Syntax.Op.{control, set, load, plain}
use Rattle.ops.specs.Patch.{mark_of}
use Rattle.ops.specs.Decode.{rows, row_at, mode_in, binding_in, op_with, op_count}
use Rattle.ops.specs.Write.{mode_number, binding_number, value_bytes, payload_of, PlainFits, Fits, mark_in}
use Rattle.file_laws.proofs.Rows.{rule}
use Rattle.file_laws.proofs.Digits.{after_two, at16, at32, at64, length_le64, at_values, at_text}

-- ---- the row

-- an op's kind has a row, which has its columns and becomes the op with its payload
abbrev pub Known : Op → Type 0
Known o =
    (leb 62 (index_of (kind_of o)) ≡ false)
    × (leb 65536 (kind_of o) ≡ false)
    × (kind_at (index_of (kind_of o)) ≡ rule o)
    × (mark_of (index_of (kind_of o)) ≡ mark_in o)
    × ((s : List ℕ) (p n : ℕ) → op_with s p n (row_at (index_of (kind_of o))) ≡ op_with s p n o)

control_known : (c : Control) → Known (control c)
unfolding index_of kind_at row_at rows mark_of
control_known c = grind arith

-- twenty ops of five parts are more splits than a tactic makes
cell_known : (k : CellOp) (n : ℕ) → Known (plain (cell k n))
unfolding index_of kind_at row_at rows mark_of
cell_known Index n = (refl, refl, refl, refl, λ s p m. refl)
cell_known BitwiseNand n = (refl, refl, refl, refl, λ s p m. refl)
cell_known BitwiseAnd n = (refl, refl, refl, refl, λ s p m. refl)
cell_known BitwiseOr n = (refl, refl, refl, refl, λ s p m. refl)
cell_known BitwiseXor n = (refl, refl, refl, refl, λ s p m. refl)
cell_known LeftShift n = (refl, refl, refl, refl, λ s p m. refl)
cell_known LogicalRightShift n = (refl, refl, refl, refl, λ s p m. refl)
cell_known ArithmeticRightShift n = (refl, refl, refl, refl, λ s p m. refl)
cell_known And n = (refl, refl, refl, refl, λ s p m. refl)
cell_known Or n = (refl, refl, refl, refl, λ s p m. refl)
cell_known Add n = (refl, refl, refl, refl, λ s p m. refl)
cell_known Sub n = (refl, refl, refl, refl, λ s p m. refl)
cell_known Mul n = (refl, refl, refl, refl, λ s p m. refl)
cell_known Div n = (refl, refl, refl, refl, λ s p m. refl)
cell_known Rem n = (refl, refl, refl, refl, λ s p m. refl)
cell_known FloatAdd n = (refl, refl, refl, refl, λ s p m. refl)
cell_known FloatSub n = (refl, refl, refl, refl, λ s p m. refl)
cell_known FloatMul n = (refl, refl, refl, refl, λ s p m. refl)
cell_known FloatDiv n = (refl, refl, refl, refl, λ s p m. refl)
cell_known FloatRem n = (refl, refl, refl, refl, λ s p m. refl)

lane_known : (k : LaneOp) (n : ℕ) → Known (plain (lane k n))
unfolding index_of kind_at row_at rows mark_of
lane_known k n = grind arith

plain_known : (q : Plain) → Known (plain q)
unfolding index_of kind_at row_at rows mark_of
plain_known (comment bs) = (refl, refl, refl, refl, λ s p m. refl)
plain_known (store n) = (refl, refl, refl, refl, λ s p m. refl)
plain_known (move v) = (refl, refl, refl, refl, λ s p m. refl)
plain_known (swap n) = (refl, refl, refl, refl, λ s p m. refl)
plain_known locate = (refl, refl, refl, refl, λ s p m. refl)
plain_known (offset v n) = (refl, refl, refl, refl, λ s p m. refl)
plain_known deref = (refl, refl, refl, refl, λ s p m. refl)
plain_known refer = (refl, refl, refl, refl, λ s p m. refl)
plain_known (get m) = (refl, refl, refl, refl, λ s p m. refl)
plain_known (put m) = (refl, refl, refl, refl, λ s p m. refl)
plain_known peek = (refl, refl, refl, refl, λ s p m. refl)
plain_known poke = (refl, refl, refl, refl, λ s p m. refl)
plain_known (ffi_call b) = (refl, refl, refl, refl, λ s p m. refl)
plain_known alloc = (refl, refl, refl, refl, λ s p m. refl)
plain_known free = (refl, refl, refl, refl, λ s p m. refl)
plain_known (cell k n) = cell_known k n
plain_known (lane k n) = lane_known k n

pub known : (o : Op) → Known o
unfolding index_of kind_at row_at rows mark_of
known (control c) = control_known c
known (set ints vs) = (refl, refl, refl, refl, λ s p m. refl)
known (set floats vs) = (refl, refl, refl, refl, λ s p m. refl)
known (load n) = (refl, refl, refl, refl, λ s p m. refl)
known (plain q) = plain_known q

-- ---- the payload

-- the payload that stands at byte p of s passes the tests of a record, counts what the op counts, and gives the op back
pub record Reads (s : List ℕ) (p : ℕ) (o : Op) : Type 0 where
  pub kept : left_out (shape (rule o)) ≡ false
  pub long : length_ok (shape (rule o)) (length (payload_of o)) ≡ true
  pub size : length (payload_of o) ≤ 8192
  pub counts : count_of s (shape (rule o)) p (length (payload_of o)) ≡ op_count o
  pub few : op_count o ≤ 1024
  pub named : named_of s (shape (rule o)) p ≤ last_of (shape (rule o))
  pub float : eqb (named_of s (shape (rule o)) p) 2 ≡ false
  pub back : op_with s p (op_count o) o ≡ o

mode_small : (m : Mode) → mode_number m ≤ 3
mode_small m = grind arith

mode_kept : (m : Mode) → eqb (mode_number m) 2 ≡ false
mode_kept m = grind arith

mode_back : (m : Mode) → mode_in (mode_number m) ≡ m
mode_back m = grind arith

binding_small : (b : Binding) → binding_number b ≤ 1
binding_small b = grind arith

binding_kept : (b : Binding) → eqb (binding_number b) 2 ≡ false
binding_kept b = grind arith

binding_back : (b : Binding) → binding_in (binding_number b) ≡ b
binding_back b = grind arith

pub length_bytes : (vs : List ℕ) → length (value_bytes vs) ≡ 8 * length vs
unfolding value_bytes
length_bytes [] = refl
length_bytes (v ∷ vs) = omega (arith, length-append (le64 v) (value_bytes vs), length_le64 v, length_bytes vs)

module _ (s : List ℕ) (p : ℕ) where
  none : (o : Op) → shape (rule o) ≡ Empty → payload_of o ≡ [] → op_count o ≡ 0 → op_with s p (op_count o) o ≡ o → Reads s p o
  unfolding length_ok count_of named_of last_of
  none o e f g h = record {
    kept = rw e refl;
    long = rw (e, f) refl;
    size = rw f (omega arith);
    counts = rw (e, g) refl;
    few = rw g (omega arith);
    named = rw e (omega arith);
    float = rw e refl;
    back = h;
  }

  count : (o : Op) (t : List ℕ) → shape (rule o) ≡ LaneCount → payload_of o ≡ le32 (op_count o) → op_count o ≤ 1024
      → drop p s ≡ payload_of o ++ t → (u32_at s p ≡ op_count o → op_with s p (op_count o) o ≡ o) → Reads s p o
  unfolding length_ok count_of named_of last_of le32 le16
  count o t e f g d h =
      let u : u32_at s p ≡ op_count o % 4294967296 = at32 s p (op_count o) t (rw f at d) in
      let w : u32_at s p ≡ op_count o = omega arith in
      record {
        kept = rw e refl;
        long = rw (e, f) refl;
        size = rw f (omega arith);
        counts = rw (e, w) refl;
        few = g;
        named = rw e (omega arith);
        float = rw e refl;
        back = h w;
      }

  -- a payload of two bytes that names the number k, a mode's or a binding's
  number : (o : Op) (k : ℕ) (t : List ℕ) → payload_of o ≡ le16 k → op_count o ≡ 0 → k < 65536
      → left_out (shape (rule o)) ≡ false → length_ok (shape (rule o)) 2 ≡ true → count_of s (shape (rule o)) p 2 ≡ 0 → named_of s (shape (rule o)) p ≡ u16_at s p
      → k ≤ last_of (shape (rule o)) → eqb k 2 ≡ false
      → drop p s ≡ payload_of o ++ t → (u16_at s p ≡ k → op_with s p (op_count o) o ≡ o) → Reads s p o
  unfolding le16
  number o k t f g b kept long counts named small left d h =
      let u : u16_at s p ≡ k % 65536 = at16 s p k t (rw f at d) in
      let w : u16_at s p ≡ k = omega arith in
      record {
        kept = kept;
        long = rw f long;
        size = rw f (omega arith);
        counts = rw f (counts ∙ sym g);
        few = rw g (omega arith);
        named = rw (named, w) small;
        float = rw (named, w) left;
        back = h w;
      }

  plain_reads : (q : Plain) (t : List ℕ) → PlainFits q → drop p s ≡ payload_of (plain q) ++ t → Reads s p (plain q)
  unfolding length_ok count_of named_of last_of le64 le32 le16
  plain_reads (comment bs) t w d = record {
    kept = refl;
    long = le-leb (length bs) 255 w.0;
    size = omega arith;
    counts = refl;
    few = omega arith;
    named = omega arith;
    float = refl;
    back = ap (λ (l : List ℕ). plain (comment l)) (at_text bs s p t d);
  }
  plain_reads (store n) t w d = count (plain (store n)) t refl refl w d (λ e. ap (λ (k : ℕ). plain (store k)) e)
  plain_reads (move v) t w d =
      let u : u64_at s p ≡ v % 2 ^ 64 = at64 s p v t d in
      let b : u64_at s p ≡ v = omega arith in
      record { kept = refl; long = refl; size = omega arith; counts = refl; few = omega arith; named = omega arith; float = refl; back = ap (λ (k : ℕ). plain (move k)) b }
  plain_reads (swap n) t w d = count (plain (swap n)) t refl refl w d (λ e. ap (λ (k : ℕ). plain (swap k)) e)
  plain_reads locate t w d = none (plain locate) refl refl refl refl
  plain_reads (offset v n) t w d =
      let a : v < 2 ^ 64 = w.0 in
      let f : n ≤ 1024 = w.1 in
      let u : u64_at s p ≡ v % 2 ^ 64 = at64 s p v (le32 n ++ t) (d ∙ append_assoc (le64 v) (le32 n) t) in
      let b : u64_at s p ≡ v = omega arith in
      let z : u32_at s (p + 8) ≡ n % 4294967296 = at32 s (p + 8) n t (after_two s p (le64 v) (le32 n) t d) in
      let c : u32_at s (p + 8) ≡ n = omega arith in
      record { kept = refl; long = refl; size = omega arith; counts = c; few = f; named = omega arith; float = refl; back = ap₂ (λ (k l : ℕ). plain (offset k l)) b c }
  plain_reads deref t w d = none (plain deref) refl refl refl refl
  plain_reads refer t w d = none (plain refer) refl refl refl refl
  plain_reads (cell k n) t w d = count (plain (cell k n)) t refl refl w d (λ e. ap (λ (m : ℕ). plain (cell k m)) e)
  plain_reads (lane k n) t w d = count (plain (lane k n)) t refl refl w d (λ e. ap (λ (m : ℕ). plain (lane k m)) e)
  plain_reads (get m) t w d = number (plain (get m)) (mode_number m) t refl refl (omega (arith, mode_small m)) refl refl refl refl (mode_small m) (mode_kept m) d (λ e. ap (λ (k : Mode). plain (get k)) (ap mode_in e ∙ mode_back m))
  plain_reads (put m) t w d = number (plain (put m)) (mode_number m) t refl refl (omega (arith, mode_small m)) refl refl refl refl (mode_small m) (mode_kept m) d (λ e. ap (λ (k : Mode). plain (put k)) (ap mode_in e ∙ mode_back m))
  plain_reads peek t w d = none (plain peek) refl refl refl refl
  plain_reads poke t w d = none (plain poke) refl refl refl refl
  plain_reads (ffi_call b) t w d = number (plain (ffi_call b)) (binding_number b) t refl refl (omega (arith, binding_small b)) refl refl refl refl (binding_small b) (binding_kept b) d (λ e. ap (λ (k : Binding). plain (ffi_call k)) (ap binding_in e ∙ binding_back b))
  plain_reads alloc t w d = none (plain alloc) refl refl refl refl
  plain_reads free t w d = none (plain free) refl refl refl refl

  pub payload_reads : (o : Op) (t : List ℕ) → Fits o → drop p s ≡ payload_of o ++ t → Reads s p o
  unfolding length_ok count_of named_of last_of
  payload_reads (control c) t w d = none (control c) refl refl refl refl
  payload_reads (set k vs) t w d =
      let l : length (value_bytes vs) ≡ 8 * length vs = length_bytes vs in
      let f : length vs ≤ 1024 = w.0 in
      record {
        kept = refl;
        long = eq-eqb (length (value_bytes vs) % 8) 0 (omega arith);
        size = omega arith;
        counts = omega arith;
        few = f;
        named = omega arith;
        float = refl;
        back = ap (set k) (at_values vs s p t w.1 d);
      }
  payload_reads (load n) t w d = count (load n) t refl refl w d (λ e. ap load e)
  payload_reads (plain q) t w d = plain_reads q t w d
