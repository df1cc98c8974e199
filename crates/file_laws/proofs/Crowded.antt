-- A file with one op or one mark too many is refused at that op's record, whatever the ops are; then the smallest such files.
-- Assumes nothing.
use mathlib.Core.Path.{◌≡◌, ◌∙◌, refl, sym, ap}
use mathlib.Core.Bool.{false}
use mathlib.Core.List.{List, [], ◌∷◌, ◌++◌, append-nil}
use Prim.Native.Nat.{ℕ, zero, suc, ◌+◌, ◌*◌, ◌-◌, ◌<◌, ◌≤◌}
use native.Mathlib.Nat.{zero-add, zero-mul, suc-mul}
use native.Mathlib.Omega.{arith}
use borrow.Author.Tests.{le-ltb}
use lib.Dec.{ltb, eqb}
use lib.ListN.{length, drop, replicate, length-replicate, length-append, length-drop}
use Rattle.kind_table.specs.Kinds.{index_of}
use Rattle.ops.specs.Refusals.{number_of}
use Rattle.ops.specs.Syntax.{Op, kind_of}
use Rattle.ops.specs.Syntax.Control.{function, end}
use Rattle.ops.specs.Syntax.Op.{control}
use Rattle.ops.specs.Patch.{stop, walk, patch_of, mark_of}
use Rattle.patch_reader.specs.Answer.{read_of, refused_at}
use Rattle.ops.specs.Write.{encode, encode_all, Fits, Each, mark_in, marks_in}
use Rattle.ops.specs.declared.refusals.Refusal.{Refusal}
use Rattle.ops.specs.declared.refusals.Refusal.TheVariants.{TooManyOps, TooManyMarks}
use Rattle.file_laws.proofs.Digits.{after}
use Rattle.patch_reader.proofs.Reading.{prepend, walk_full, walk_marks}
use Rattle.file_laws.proofs.Encoded.{known}
use Rattle.file_laws.proofs.Written.{length_encode, encode_append, written}
use Rattle.file_laws.proofs.RoundTrip.{items_of, length_items, walk_part}

module _ (os : List Op) (o : Op) (more : List Op) (each : Each Fits os) (fits : Fits o) (bytes : length (encode_all (os ++ (o ∷ more))) ≤ 65536)
    (marks : marks_in os ≤ 256) (some : length os ≤ 4096) where
  abbrev file : List ℕ
  file = encode_all (os ++ (o ∷ more))

  abbrev behind : ℕ
  behind = 0 + length (encode_all os)

  -- the record of o stands behind those of os
  record_behind : drop behind file ≡ encode o ++ encode_all more
  unfolding encode_all
  record_behind = after file 0 (encode_all os) (encode o ++ encode_all more) (encode_append os (o ∷ more))

  within : behind < length file
  within =
      let l : length (drop behind file) ≡ length (encode o ++ encode_all more) = ap length record_behind in
      omega (arith, length-drop behind file, length-append (encode o) (encode_all more), length_encode o)

  -- what stops the walk there is what the file is refused with
  refused : (r : Refusal) → eqb (number_of r) 0 ≡ false → walk file (4096 - length os) (0 + marks_in os) behind ≡ stop r behind
      → read_of (patch_of file) ≡ refused_at r (length (encode_all os)) (length os)
  unfolding patch_of read_of refused_at
  refused r z w =
      let t : ltb 65536 (length file) ≡ false = le-ltb 65536 (length file) bytes in
      let n : length os + (4096 - length os) ≡ 4096 = omega arith in
      let e : walk file 4096 0 0 ≡ prepend (items_of os 0) (stop r behind) =
      ap (λ (j : ℕ). walk file j 0 0) (sym n)
      ∙ walk_part file os (o ∷ more) (4096 - length os) 0 0 each (omega arith) refl
      ∙ ap (prepend (items_of os 0)) w in
      rw (t, e) (simp (z, append-nil, length_items os 0) (ap (λ (p : ℕ). refused_at r p (length os)) (zero-add (length (encode_all os)))))

  pub too_many_ops : length os ≡ 4096 → read_of (patch_of file) ≡ refused_at TooManyOps (length (encode_all os)) 4096
  unfolding number_of
  too_many_ops n =
      refused TooManyOps refl
      (walk_full file (0 + marks_in os) behind (length os) _ _ _ _ _ within (sym (written o file behind (encode_all more) record_behind fits)) (omega arith))
      ∙ ap (refused_at TooManyOps (length (encode_all os))) n

  pub too_many_marks : length os < 4096 → marks_in os ≡ 256 → mark_in o ≡ 1 → read_of (patch_of file) ≡ refused_at TooManyMarks (length (encode_all os)) (length os)
  unfolding number_of
  too_many_marks n m one =
      let k : mark_of (index_of (kind_of o)) ≡ mark_in o = (known o).3 in
      refused TooManyMarks refl
      (walk_marks file (0 + marks_in os) behind (length os) (index_of (kind_of o)) _ _ _ _ within (sym (written o file behind (encode_all more) record_behind fits)) n (omega arith))

-- ---- the same op again and again

module _ (o : Op) where
  each_again : Fits o → (n : ℕ) → Each Fits (replicate n o)
  each_again f zero = tt
  each_again f (suc n) = (f, each_again f n)

  long_again : (n : ℕ) → length (encode_all (replicate n o)) ≡ n * length (encode o)
  unfolding encode_all
  long_again zero = sym (zero-mul _)
  long_again (suc n) = omega (arith, length-append (encode o) (encode_all (replicate n o)), long_again n, suc-mul n (length (encode o)))

  marks_again : (n : ℕ) → marks_in (replicate n o) ≡ n * mark_in o
  marks_again zero = sym (zero-mul _)
  marks_again (suc n) = omega (arith, marks_again n, suc-mul n (mark_in o))

  once_more : (n : ℕ) → replicate n o ++ (o ∷ []) ≡ replicate (suc n) o
  once_more zero = refl
  once_more (suc n) = ap (λ (l : List Op). o ∷ l) (once_more n)

-- 4,097 Ends are 7 at the last one's record, 257 marks 8
pub ends : read_of (patch_of (encode_all (replicate 4097 (control end)))) ≡ refused_at TooManyOps 24576 4096
ends =
    let e = control end in
    ap (λ (l : List Op). read_of (patch_of (encode_all l))) (sym (once_more e 4096))
    ∙ too_many_ops (replicate 4096 e) e [] (each_again e tt 4096) tt
    (omega (arith, ap (λ (l : List Op). length (encode_all l)) (once_more e 4096), long_again e 4097, length_encode e))
    (omega (arith, marks_again e 4096)) (omega (arith, length-replicate {A = Op} 4096 e)) (length-replicate {A = Op} 4096 e)
    ∙ ap (λ (p : ℕ). refused_at TooManyOps p 4096) (omega (arith, long_again e 4096, length_encode e))

pub functions : read_of (patch_of (encode_all (replicate 257 (control function)))) ≡ refused_at TooManyMarks 1536 256
functions =
    let e = control function in
    ap (λ (l : List Op). read_of (patch_of (encode_all l))) (sym (once_more e 256))
    ∙ too_many_marks (replicate 256 e) e [] (each_again e tt 256) tt
    (omega (arith, ap (λ (l : List Op). length (encode_all l)) (once_more e 256), long_again e 257, length_encode e))
    (omega (arith, marks_again e 256)) (omega (arith, length-replicate {A = Op} 256 e)) (omega (arith, length-replicate {A = Op} 256 e))
    (omega (arith, marks_again e 256)) refl
    ∙ ap (λ (p : ℕ). refused_at TooManyMarks p 256) (omega (arith, long_again e 256, length_encode e))
