-- What flattening hands on is the read of what it wrote: of the flattened ops, or of nothing where it was refused. Assumes nothing.
use mathlib.Core.Path.{◌≡◌, ◌∙◌, refl, ap, sym}
use mathlib.Core.Bool.{false}
use mathlib.Core.List.{List, []}
use Prim.Native.Nat.{ℕ, ◌≤◌}
use native.Mathlib.Omega.{arith}
use lib.ListN.{length, take, drop, length-append}
use lib.Seq.{take_at}
use Rattle.std.specs.Prelude.{Ok, Err}
use Rattle.basics.proofs.Tests.{by_case}
use Rattle.byte_fields.specs.Storage.{fill}
use Rattle.ops.specs.Decode.{Patch, ops_of}
use Rattle.ops.specs.Decode.Patch.{ops, refused}
use Rattle.ops.specs.Syntax.{Op}
use Rattle.ops.specs.Write.{encode_all, marks_in}
use Rattle.answers.specs.Flatten.{Flattening, number_of, bytes_of}
use Rattle.partners.specs.Read.{patch_read}
use Rattle.flattening.specs.declared.body.Body.{Body}
use Rattle.flattening.specs.Flatten.{Flat, flatten}
use Rattle.flattening.specs.Flatten.Flat.{loose, flat}
use Rattle.flattening.specs.Flattened.{Outcome, outcome, too_short, of_flat, of_patch, flatten_of}
use Rattle.flattening.specs.Handed.{Handed, handed, written_in, flatten_patch_of}
use Rattle.flattening.specs.declared.handed.FlattenedPatch.{FlattenedPatch}

nothing : (a : Flattening) → (number_of a ≡ 0 → ⊥) → bytes_of a ≡ 0
nothing (Ok f) z = absurd (z refl)
nothing (Err e) z = refl

module _ (s o ns fs cs : List ℕ) where
  -- no more was written than is lent
  flat_within : (m : ℕ) (f : Flat) → bytes_of (of_flat s o ns fs cs m f).answer ≤ length (of_flat s o ns fs cs m f).out
  unfolding fill
  flat_within m (loose p) = omega arith
  flat_within m (flat gs bs) =
      by_case (too_short s o ns fs cs m)
      (λ e. rw e (omega arith))
      (λ e. rw e (omega (arith, length-append (encode_all gs) (drop (length (encode_all gs)) o))))

  within_by : (p : Patch) → bytes_of (of_patch s o ns fs cs p).answer ≤ length (of_patch s o ns fs cs p).out
  within_by (refused n p) = omega arith
  within_by (ops os) = flat_within (marks_in os) (flatten os)

  within : bytes_of (flatten_of s o ns fs cs).answer ≤ length (flatten_of s o ns fs cs).out
  unfolding flatten_of
  within = within_by (ops_of s)

  -- the same for an answer and lists that meet the contract of `flatten_numbers`
  pub fits_in : (x : Outcome) → x ≡ flatten_of s o ns fs cs → bytes_of x.answer ≤ length x.out
  fits_in x e = rw e within

-- what a caller of `flatten_patch` has, and `run_patch` asks: the patch as it is read of the bytes that were written
pub hands_on : (s o ns fs cs : List ℕ) (r : FlattenedPatch) (o' ns' fs' cs' : List ℕ) → handed r o' ns' fs' cs' ≡ flatten_patch_of s o ns fs cs
    → r.patch ≡ patch_read (take (bytes_of r.answer) o')
unfolding flatten_patch_of
hands_on s o ns fs cs r o' ns' fs' cs' e = ap (λ (h : Handed). h.patch) e ∙ ap (λ (h : Handed). patch_read (written_in h.flattened)) (sym e)

-- two answers that meet the contract of `flatten_patch` coincide, and so do all that they leave and the patches
pub one_handed : (s o ns fs cs : List ℕ) (r q : FlattenedPatch) (o₁ ns₁ fs₁ cs₁ o₂ ns₂ fs₂ cs₂ : List ℕ)
    → handed r o₁ ns₁ fs₁ cs₁ ≡ flatten_patch_of s o ns fs cs → handed q o₂ ns₂ fs₂ cs₂ ≡ flatten_patch_of s o ns fs cs
    → (outcome r.answer o₁ ns₁ fs₁ cs₁ ≡ outcome q.answer o₂ ns₂ fs₂ cs₂) × (r.patch ≡ q.patch)
one_handed s o ns fs cs r q o₁ ns₁ fs₁ cs₁ o₂ ns₂ fs₂ cs₂ e f =
    let x = e ∙ sym f in (ap (λ (h : Handed). h.flattened) x, ap (λ (h : Handed). h.patch) x)

pub record HandedOn (s o ns fs cs : List ℕ) : Type 0 where
  pub written : (os gs : List Op) (bs : List Body) → ops_of s ≡ ops os → flatten os ≡ flat gs bs → too_short s o ns fs cs (marks_in os) ≡ false
      → (flatten_patch_of s o ns fs cs).patch ≡ patch_read (encode_all gs)
  pub refused : (number_of (flatten_of s o ns fs cs).answer ≡ 0 → ⊥) → (flatten_patch_of s o ns fs cs).patch ≡ patch_read []

pub handed_on : (s o ns fs cs : List ℕ) → HandedOn s o ns fs cs
unfolding flatten_patch_of flatten_of fill
handed_on s o ns fs cs = record {
  written = λ os gs bs e f h.
      let b = encode_all gs in
      ap patch_read
      (ap (λ (p : Patch). written_in (of_patch s o ns fs cs p)) e
      ∙ ap (λ (x : Flat). written_in (of_flat s o ns fs cs (marks_in os) x)) f
      ∙ rw h (take_at b (drop (length b) o) (length b) refl));
  refused = λ z. ap (λ (n : ℕ). patch_read (take n (flatten_of s o ns fs cs).out)) (nothing (flatten_of s o ns fs cs).answer z);
}
