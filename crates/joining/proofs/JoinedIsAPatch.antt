-- A file joined is a patch again, no longer than the file; what an answer of `join` says, by its number and place; and two answers
-- coincide. Assumes nothing.
use mathlib.Core.Path.{◌≡◌, refl, ap, sym, ◌∙◌}
use Prim.Native.Nat.{ℕ, ◌^◌, ◌<◌, ◌≤◌}
use native.Mathlib.Omega.{arith}
use mathlib.Core.Bool.{Bool, true, false}
use mathlib.Core.List.{List, [], ◌∷◌}
use lib.IntN.{ℤ, pos, negsuc, ◌+ℤ◌}
use lib.ListN.{length, get_or}
use lib.Signed.{non_neg}
use borrow.Author.Tests.{lt-ltb, le-ltb}
use Rattle.lanes.specs.Int.{wrap, bit, signed}
use Rattle.byte_fields.specs.Storage.{fill}
use Rattle.ops.specs.Decode.{ops_of}
use Rattle.ops.specs.Decode.Patch.{ops, refused}
use Rattle.ops.specs.Syntax.{Op, arg_of, values_of}
use Rattle.ops.specs.Write.{encode_all, Below, Fits, mark_in, marks_in, AllFit}
use Rattle.file_laws.proofs.Fitting.{file_fit}
use Rattle.file_laws.proofs.Rewritten.{bytes_back}
use Rattle.file_laws.proofs.RoundTrip.{ops_back}
use Rattle.joining.specs.Join.{join}
use Rattle.joining.specs.Joined.{Outcome, outcome, write, joined_as, join_of}
use Rattle.answers.specs.Join.{Joining, number_of, place_of, length_of}
use Rattle.answers.specs.declared.join.JoinError.TheVariants.{NoRoom}
use Rattle.std.specs.Prelude.{Err}
use Rattle.joining.proofs.Pushes.{weigh, join_light, join_has}
use Rattle.joining.proofs.Sizes.{join_shorter}

-- ---- the limits

wrap_below : (z : ℤ) → wrap z < 2 ^ 64
wrap_below (pos n) = omega arith
wrap_below (negsuc n) = omega arith

bit_below : (b : Bool) → bit b < 2 ^ 64
bit_below true = omega arith
bit_below false = omega arith

count_all : (os : List Op) → weigh (λ o. 1) os ≡ length os
count_all [] = refl
count_all (o ∷ os) = omega (arith, count_all os)

marks_all : (os : List Op) → weigh mark_in os ≡ marks_in os
marks_all [] = refl
marks_all (o ∷ os) = omega (arith, marks_all os)

pub join_fewer : (os : List Op) → length (join os) ≤ length os
join_fewer os =
    omega (arith, join_light (λ o. 1) (λ last new e. omega arith) (λ last new n e. omega arith) os, count_all os, count_all (join os))

join_fits : (os : List Op) → AllFit os → AllFit (join os)
join_fits os f = record {
  each = join_has Fits (λ last new e. (omega arith, (bit_below (non_neg (signed (get_or (values_of last) 0 0))), tt)))
      (λ last new. wrap_below (signed (arg_of last) +ℤ signed (arg_of new)))
      os f.each;
  ops = omega (arith, join_fewer os, f.ops);
  marks = omega (arith, join_light mark_in (λ last new e. omega arith) (λ last new n e. omega arith) os, marks_all os, marks_all (join os), f.marks);
  bytes = omega (arith, join_shorter os, f.bytes);
}

-- ---- a file

-- a patch, read and joined, is written as a patch of the joined ops, and is no longer than the file
pub joined_again : (s : List ℕ) → Below 256 s → (os : List Op) → ops_of s ≡ ops os
    → (ops_of (encode_all (join os)) ≡ ops (join os)) × (length (encode_all (join os)) ≤ length s)
joined_again s w os e =
    let b : length (encode_all os) ≡ length s = ap length (bytes_back s w os e) in
    (ops_back (join os) (join_fits os (file_fit s w os e)), omega (arith, join_shorter os))

-- ---- the answers

module _ (s out : List ℕ) (a : Joining) (out' : List ℕ) (e : outcome a out' ≡ join_of s out) where
  -- a bad file's own number and place, and nothing written
  pub says_refused : (n p : ℕ) → ops_of s ≡ refused n p → (number_of a ≡ n) × ((place_of a ≡ p) × (out' ≡ out))
  unfolding join_of
  says_refused n p q =
      let x = e ∙ ap (λ x. joined_as x s out) q in
      (ap (λ (o : Outcome). number_of o.answer) x, (ap (λ (o : Outcome). place_of o.answer) x, ap (λ (o : Outcome). o.bytes) x))

  module _ (os : List Op) (q : ops_of s ≡ ops os) where
    -- 40 at 0, and nothing written
    pub says_no_room : length out < length s → (number_of a ≡ 40) × ((place_of a ≡ 0) × (out' ≡ out))
    unfolding join_of
    says_no_room h =
        let x : outcome a out' ≡ outcome (Err NoRoom) out = e ∙ ap (λ x. joined_as x s out) q ∙ rw (lt-ltb (length out) (length s) h) refl in
        (ap (λ (o : Outcome). number_of o.answer) x, (ap (λ (o : Outcome). place_of o.answer) x, ap (λ (o : Outcome). o.bytes) x))

    -- 0, the result's op count and byte length, and the result over the start of the lent bytes
    pub says_written : length s ≤ length out
        → (number_of a ≡ 0) × ((place_of a ≡ length (join os)) × ((length_of a ≡ length (encode_all (join os))) × (out' ≡ fill (encode_all (join os)) out)))
    unfolding join_of
    says_written h =
        let x : outcome a out' ≡ write (join os) out = e ∙ ap (λ x. joined_as x s out) q ∙ rw (le-ltb (length out) (length s) h) refl in
        (ap (λ (o : Outcome). number_of o.answer) x, (ap (λ (o : Outcome). place_of o.answer) x, (ap (λ (o : Outcome). length_of o.answer) x, ap (λ (o : Outcome). o.bytes) x)))

  -- two answers that meet the contract of `join` coincide, and so do the bytes
  pub one_answer : (b : Joining) (out'' : List ℕ) → outcome b out'' ≡ join_of s out → (a ≡ b) × (out' ≡ out'')
  one_answer b out'' f =
      let x = e ∙ sym f in
      (ap (λ (o : Outcome). o.answer) x, ap (λ (o : Outcome). o.bytes) x)
