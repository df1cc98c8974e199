-- A record that is written is read as its op. Assumes nothing.
use mathlib.Core.Path.{◌≡◌, ◌∙◌, refl, sym, ap}
use mathlib.Core.Bool.{false}
use mathlib.Core.List.{List, [], ◌∷◌, ◌++◌, append_assoc}
use Prim.Native.Nat.{ℕ, ◌+◌, ◌-◌, ◌%◌, ◌<◌, ◌≤◌}
use native.Mathlib.Omega.{arith}
use borrow.Author.Tests.{le-ltb, leb-false}
use lib.Dec.{ltb}
use lib.ListN.{length, take, drop, length-append, length-drop}
use lib.Seq.{drop-append_seam, drop_at, length-take-le}
use Rattle.byte_fields.specs.Bytes.{u16_at, u32_at, le16, le32}
use Rattle.kind_table.specs.Kinds.{shape, kind_at, index_of}
use Rattle.ops.specs.Record.{whole, record_at, body_at, named_of, last_of}
use Rattle.ops.specs.Syntax.{Op, kind_of}
use Rattle.ops.specs.Patch.{Item, item}
use Rattle.ops.specs.Decode.{op_at, op_count}
use Rattle.byte_fields.specs.Storage.{placed}
use Rattle.ops.specs.Write.{record_of, payload_of, encode, encode_all, Fits}
use Rattle.file_laws.proofs.Rows.{rule}
use Rattle.file_laws.proofs.Digits.{after, at16, at32}
use Rattle.file_laws.proofs.Encoded.{known, Reads, payload_reads}

-- the item of op o whose record begins at byte p
abbrev pub item_of : Op → ℕ → Item
item_of o p = item (index_of (kind_of o)) (op_count o) (p + 6)

pub length_encode : (o : Op) → length (encode o) ≡ 6 + length (payload_of o)
unfolding encode record_of le32 le16
length_encode o = omega arith

pub encode_append : (xs ys : List Op) → encode_all (xs ++ ys) ≡ encode_all xs ++ encode_all ys
unfolding encode_all
encode_append [] ys = refl
encode_append (x ∷ xs) ys = ap (λ (l : List ℕ). encode x ++ l) (encode_append xs ys) ∙ sym (append_assoc (encode x) (encode_all xs) (encode_all ys))

-- the record's three parts, where they stand
module _ (o : Op) (s : List ℕ) (p : ℕ) (t : List ℕ) (d : drop p s ≡ encode o ++ t) where
  pub parts : drop p s ≡ le32 (length (payload_of o) + 2) ++ (le16 (kind_of o) ++ (payload_of o ++ t))
  unfolding encode record_of
  parts =
      d
      ∙ append_assoc (le32 (length (payload_of o) + 2) ++ le16 (kind_of o)) (payload_of o) t
      ∙ append_assoc (le32 (length (payload_of o) + 2)) (le16 (kind_of o)) (payload_of o ++ t)

  kind_part : drop (p + 4) s ≡ le16 (kind_of o) ++ (payload_of o ++ t)
  unfolding le32 le16
  kind_part = after s p (le32 (length (payload_of o) + 2)) _ parts

  payload_part : drop (p + 6) s ≡ payload_of o ++ t
  unfolding le16
  payload_part =
      let e : p + 4 + 2 ≡ p + 6 = omega arith in
      ap (λ (k : ℕ). drop k s) (sym e) ∙ after s (p + 4) (le16 (kind_of o)) (payload_of o ++ t) kind_part

  pub ends : p + 6 + length (payload_of o) ≤ length s
  ends =
      let l : length (drop p s) ≡ length (encode o ++ t) = ap length d in
      omega (arith, length-drop p s, length-append (encode o) t, length_encode o)

  module _ (f : Fits o) where
    pub reads : Reads s (p + 6) o
    reads = payload_reads s (p + 6) o t f payload_part

    -- the record at p is whole
    pub written : record_at s p ≡ whole (index_of (kind_of o)) (p + 6) (length (payload_of o)) (op_count o) (p + 6 + length (payload_of o))
    unfolding record_at body_at
    written =
        let r = reads in
        let n = length (payload_of o) in
        let z : n ≤ 8192 = r.size in
        let w : kind_of o < 65536 = leb-false 65536 (kind_of o) (known o).1 in
        let u : u32_at s p ≡ (n + 2) % 4294967296 = at32 s p (n + 2) _ parts in
        let a : u32_at s p ≡ n + 2 = omega arith in
        let v : u16_at s (p + 4) ≡ kind_of o % 65536 = at16 s (p + 4) (kind_of o) _ kind_part in
        let b : u16_at s (p + 4) ≡ kind_of o = omega arith in
        let e = ends in
        let h : n + 2 - 2 ≡ n = omega arith in
        let t₁ : ltb (length s) (p + 4) ≡ false = le-ltb (length s) (p + 4) (omega arith) in
        let t₂ : ltb (n + 2) 2 ≡ false = le-ltb (n + 2) 2 (omega arith) in
        let t₃ : ltb (length s) (p + 4 + (n + 2)) ≡ false = le-ltb (length s) (p + 4 + (n + 2)) (omega arith) in
        let q : shape (kind_at (index_of (kind_of o))) ≡ shape (rule o) = ap shape (known o).2 in
        let t₄ : ltb 1024 (op_count o) ≡ false = le-ltb 1024 (op_count o) r.few in
        let t₅ : ltb (last_of (shape (rule o))) (named_of s (shape (rule o)) (p + 6)) ≡ false = le-ltb (last_of (shape (rule o))) (named_of s (shape (rule o)) (p + 6)) r.named in
        rw (t₁, a, t₂, t₃, b, (known o).0, q, r.kept, h, r.long, r.counts, t₄, t₅, r.float) refl

    -- and its item means the op
    pub read_back : op_at s (item_of o p) ≡ o
    unfolding op_at
    read_back = (known o).4 s (p + 6) (op_count o) ∙ reads.back

-- a record that is written anywhere is read as its op
pub record_back : (pre post : List ℕ) (o : Op) → Fits o
    → (record_at (pre ++ (encode o ++ post)) (length pre) ≡ whole (index_of (kind_of o)) (length pre + 6) (length (payload_of o)) (op_count o) (length pre + 6 + length (payload_of o)))
    × (op_at (pre ++ (encode o ++ post)) (item_of o (length pre)) ≡ o)
record_back pre post o f =
    let s = pre ++ (encode o ++ post) in
    let d : drop (length pre) s ≡ encode o ++ post = drop-append_seam pre (encode o ++ post) in
    (written o s (length pre) post d f, read_back o s (length pre) post d f)

-- what the writer leaves of lent bytes is read as the op
pub placed_back : (out : List ℕ) (at : ℕ) (o : Op) → Fits o → at ≤ length out
    → (record_at (placed out at (encode o)) at ≡ whole (index_of (kind_of o)) (at + 6) (length (payload_of o)) (op_count o) (at + 6 + length (payload_of o)))
    × (op_at (placed out at (encode o)) (item_of o at) ≡ o)
unfolding placed
placed_back out at o f h =
    let t = drop (at + length (encode o)) out in
    let s = take at out ++ encode o ++ t in
    let d : drop at s ≡ encode o ++ t =
    ap (drop at) (append_assoc (take at out) (encode o) t)
    ∙ drop_at (take at out) (encode o ++ t) at (length-take-le at out h) in
    (written o s at t d f, read_back o s at t d f)
