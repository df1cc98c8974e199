-- What joining hands on is the read of what it wrote: of the joined ops, or of nothing where it was refused. Assumes nothing.
use mathlib.Core.Path.{◌≡◌, ◌∙◌, refl, ap, sym}
use mathlib.Core.List.{List, []}
use Prim.Native.Nat.{ℕ, ◌≤◌}
use native.Mathlib.Omega.{arith}
use lib.Dec.{ltb}
use lib.ListN.{length, take, drop, length-append}
use lib.Seq.{take_at}
use borrow.Author.Tests.{le-ltb}
use Rattle.basics.proofs.Tests.{by_case}
use Rattle.byte_fields.specs.Storage.{fill}
use Rattle.ops.specs.Decode.{Patch, ops_of}
use Rattle.ops.specs.Decode.Patch.{ops, refused}
use Rattle.ops.specs.Syntax.{Op}
use Rattle.ops.specs.Write.{encode_all}
use Rattle.answers.specs.Join.{Joining, number_of, length_of}
use Rattle.std.specs.Prelude.{Ok, Err}
use Rattle.partners.specs.Read.{patch_read}
use Rattle.joining.specs.Join.{join}
use Rattle.joining.specs.Joined.{Outcome, joined_as, join_of}
use Rattle.joining.specs.Handed.{Handed, handed, written_in, join_patch_of}
use Rattle.joining.specs.declared.handed.JoinedPatch.{JoinedPatch}

-- no more was written than is lent
module _ (s out : List ℕ) where
  within_by : (p : Patch) → length_of (joined_as p s out).answer ≤ length (joined_as p s out).bytes
  unfolding fill
  within_by (refused n p) = omega arith
  within_by (ops os) =
      by_case (ltb (length out) (length s))
      (λ e. rw e (omega arith))
      (λ e. rw e (omega (arith, length-append (encode_all (join os)) (drop (length (encode_all (join os))) out))))

  pub within : length_of (join_of s out).answer ≤ length (join_of s out).bytes
  unfolding join_of
  within = within_by (ops_of s)

-- the same for an answer and bytes that meet the contract of `join`
pub fits_in : (s out : List ℕ) (o : Outcome) → o ≡ join_of s out → length_of o.answer ≤ length o.bytes
fits_in s out o e = rw e (within s out)

-- what a caller of `join_patch` has, and `run_patch` asks: the patch as it is read of the bytes that were written
pub hands_on : (s out : List ℕ) (r : JoinedPatch) (out' : List ℕ) → handed r out' ≡ join_patch_of s out → r.patch ≡ patch_read (take (length_of r.answer) out')
unfolding join_patch_of
hands_on s out r out' e = ap (λ (h : Handed). h.patch) e ∙ ap (λ (h : Handed). patch_read (written_in h.joined)) (sym e)

-- two answers that meet the contract of `join_patch` coincide, and so do the bytes and the patches
pub one_handed : (s out : List ℕ) (r q : JoinedPatch) (o p : List ℕ) → handed r o ≡ join_patch_of s out → handed q p ≡ join_patch_of s out
    → (r.answer ≡ q.answer) × ((o ≡ p) × (r.patch ≡ q.patch))
one_handed s out r q o p e f =
    let x = e ∙ sym f in
    (ap (λ (h : Handed). h.joined.answer) x, (ap (λ (h : Handed). h.joined.bytes) x, ap (λ (h : Handed). h.patch) x))

nothing : (a : Joining) → (number_of a ≡ 0 → ⊥) → length_of a ≡ 0
nothing (Ok j) z = absurd (z refl)
nothing (Err e) z = refl

pub record HandedOn (s out : List ℕ) : Type 0 where
  pub written : (os : List Op) → ops_of s ≡ ops os → length s ≤ length out → (join_patch_of s out).patch ≡ patch_read (encode_all (join os))
  pub refused : (number_of (join_of s out).answer ≡ 0 → ⊥) → (join_patch_of s out).patch ≡ patch_read []

pub handed_on : (s out : List ℕ) → HandedOn s out
unfolding join_patch_of join_of fill
handed_on s out = record {
  written = λ os e h.
      let b = encode_all (join os) in
      ap patch_read (ap (λ (p : Patch). written_in (joined_as p s out)) e ∙ rw (le-ltb (length out) (length s) h) (take_at b (drop (length b) out) (length b) refl));
  refused = λ z. ap (λ (n : ℕ). patch_read (take n (join_of s out).bytes)) (nothing (join_of s out).answer z);
}
