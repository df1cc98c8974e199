-- Ops that are written as a file and read again are the same ops. Assumes nothing.
use mathlib.Core.Path.{◌≡◌, ◌∙◌, refl, sym, ap, ap₂}
use mathlib.Core.Bool.{false}
use mathlib.Core.List.{List, [], ◌∷◌, ◌++◌, map, append-nil}
use Prim.Native.Nat.{ℕ, suc, ◌+◌, ◌-◌, ◌<◌, ◌≤◌}
use native.Mathlib.Nat.{add-zero, zero-add}
use native.Mathlib.Omega.{arith}
use borrow.Author.Tests.{le-ltb}
use lib.Dec.{ltb}
use lib.ListN.{length, drop, length-drop, length-append}
use Rattle.kind_table.specs.Kinds.{index_of}
use Rattle.ops.specs.Syntax.{Op, kind_of}
use Rattle.ops.specs.Patch.{Item, Loaded, push, walk, patch_of, mark_of}
use Rattle.ops.specs.Decode.{op_at, op_count, ops_of}
use Rattle.ops.specs.Decode.Patch.{ops}
use Rattle.ops.specs.Write.{payload_of, encode, encode_all, Fits, Each, mark_in, marks_in, AllFit}
use Rattle.file_laws.proofs.Digits.{after}
use Rattle.patch_reader.proofs.Reading.{prepend, walk_end, walk_op}
use Rattle.file_laws.proofs.Encoded.{known}
use Rattle.file_laws.proofs.Written.{item_of, length_encode, written, read_back}

-- the items of ops whose records begin at byte p
abbrev pub items_of : List Op → ℕ → List Item
items_of [] p = []
items_of (o ∷ os) p = item_of o p ∷ items_of os (p + 6 + length (payload_of o))

pub length_items : (os : List Op) (p : ℕ) → length (items_of os p) ≡ length os
length_items [] p = refl
length_items (o ∷ os) p = ap suc (length_items os (p + 6 + length (payload_of o)))

abbrev good : List Item → Loaded
good is = record { items = is; number = 0; place = 0 }

module _ (s : List ℕ) where
  next_part : (o : Op) (p : ℕ) (t : List ℕ) → drop p s ≡ encode o ++ t → drop (p + 6 + length (payload_of o)) s ≡ t
  next_part o p t d =
      let e : p + length (encode o) ≡ p + 6 + length (payload_of o) = omega (arith, length_encode o) in
      ap (λ (k : ℕ). drop k s) (sym e) ∙ after s p (encode o) t d

  -- ops of the file are read, and the walk goes on behind them
  pub walk_part : (os more : List Op) (left m p : ℕ) → Each Fits os → m + marks_in os ≤ 256 → drop p s ≡ encode_all (os ++ more)
      → walk s (length os + left) m p ≡ prepend (items_of os p) (walk s left (m + marks_in os) (p + length (encode_all os)))
  unfolding encode_all
  walk_part [] more left m p f w d =
      ap (λ (j : ℕ). walk s j m p) (zero-add left) ∙ ap₂ (λ (j q : ℕ). walk s left j q) (sym (add-zero m)) (sym (add-zero p))
  walk_part (o ∷ os) more left m p f w d =
      let k = index_of (kind_of o) in
      let next = p + 6 + length (payload_of o) in
      let l : length (drop p s) ≡ length (encode o ++ encode_all (os ++ more)) = ap length d in
      let b : p < length s = omega (arith, length-drop p s, length-append (encode o) (encode_all (os ++ more)), length_encode o) in
      let q : mark_of k ≡ mark_in o = (known o).3 in
      let c : m + mark_of k ≤ 256 = omega arith in
      let r : m + mark_of k + marks_in os ≤ 256 = omega arith in
      let e : length (o ∷ os) + left ≡ suc (length os + left) = omega arith in
      let u : m + mark_of k + marks_in os ≡ m + marks_in (o ∷ os) = omega arith in
      let v : next + length (encode_all os) ≡ p + length (encode o ++ encode_all os) = omega (arith, length-append (encode o) (encode_all os), length_encode o) in
      ap (λ (j : ℕ). walk s j m p) e
      ∙ walk_op s m p (length os + left) k (p + 6) (length (payload_of o)) (op_count o) next b (sym (written o s p (encode_all (os ++ more)) d f.0)) c
      ∙ ap (push (item_of o p)) (walk_part os more left (m + mark_of k) next f.1 r (next_part o p (encode_all (os ++ more)) d))
      ∙ ap₂ (λ (i j : ℕ). prepend (items_of (o ∷ os) p) (walk s left i j)) u v

  all_back : (os : List Op) (p : ℕ) → Each Fits os → drop p s ≡ encode_all os → map (op_at s) (items_of os p) ≡ os
  unfolding encode_all
  all_back [] p f d = refl
  all_back (o ∷ os) p f d =
      ap₂ (λ (x : Op) (xs : List Op). x ∷ xs)
      (read_back o s p (encode_all os) d f.0)
      (all_back os (p + 6 + length (payload_of o)) f.1 (next_part o p (encode_all os) d))

pub ops_back : (os : List Op) → AllFit os → ops_of (encode_all os) ≡ ops os
unfolding ops_of patch_of
ops_back os f =
    let s = encode_all os in
    let t : ltb 65536 (length s) ≡ false = le-ltb 65536 (length s) f.bytes in
    let n : length os + (4096 - length os) ≡ 4096 = omega (arith, f.ops) in
    let d : drop 0 s ≡ encode_all (os ++ []) = ap encode_all (sym (append-nil os)) in
    let e : walk s 4096 0 0 ≡ good (items_of os 0) =
    ap (λ (j : ℕ). walk s j 0 0) (sym n)
    ∙ walk_part s os [] (4096 - length os) 0 0 f.each (omega (arith, f.marks)) d
    ∙ ap (prepend (items_of os 0)) (walk_end s (0 + marks_in os) (0 + length s) (4096 - length os) (omega arith))
    ∙ ap good (append-nil (items_of os 0)) in
    rw (t, e) (ap ops (all_back s os 0 f.each refl))
