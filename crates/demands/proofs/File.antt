-- The check of a file passes exactly the patches that keep the rules, and two answers that meet its contract coincide. Assumes nothing.
use Prim.Native.Nat.{ℕ}
use borrow.Author.Tests.{eqb-true, eqb-false}
use mathlib.Core.Path.{◌≡◌, refl, ap, sym, ◌∙◌, subst}
use mathlib.Core.Bool.{Bool, true, false}
use mathlib.Core.List.{List, map}
use mathlib.Core.Logic.{◌↔◌}
use lib.Dec.{eqb}
use Rattle.basics.proofs.Clash.{clash}
use Rattle.ops.specs.Syntax.{Op}
use Rattle.ops.specs.Patch.{patch_of}
use Rattle.ops.specs.Decode.{Patch, op_at, ops_of}
use Rattle.ops.specs.Decode.Patch.{ops, refused}
use Rattle.file_laws.proofs.Meaning.{ops_are, refused_are}
use Rattle.patch_check.specs.Rules.{KeepsRules}
use Rattle.answers.specs.Check.{Verdict, number_of}
use Rattle.patch_check.specs.Check.{check}
use Rattle.patch_check.specs.File.{check_patch, check_of, KeepsFile}
use Rattle.demands.proofs.Checked.{passes}

module _ (s : List ℕ) where
  -- the check of the file is that of what it holds
  pub check_is : (x : Patch) → ops_of s ≡ x → check_of s ≡ check_patch x
  unfolding check_of
  check_is x e = ap check_patch e

  one_patch : (os ps : List Op) → ops os ≡ ops ps → os ≡ ps
  one_patch os ps e = cc

  -- a file that is refused has a number that is not 0, and holds no patch
  passes_by : (b : Bool) → eqb (patch_of s).number 0 ≡ b → (number_of (check_of s) ≡ 0) ↔ KeepsFile s
  passes_by true e =
      let os = map (op_at s) (patch_of s).items in
      let is : ops_of s ≡ ops os = ops_are s (eqb-true (patch_of s).number 0 e) in
      let q : check_of s ≡ check os = check_is (ops os) is in (
        λ z. record { patch = os; is = is; rules = (passes os).0 (ap number_of (sym q) ∙ z) },
        λ k. ap number_of q ∙ (passes os).1 (subst (λ (x : List Op). KeepsRules x) (one_patch k.patch os (sym k.is ∙ is)) k.rules),
      )
  passes_by false e =
      let n = (patch_of s).number in
      let bad : n ≡ 0 → ⊥ = eqb-false n 0 e in
      let is : ops_of s ≡ refused n (patch_of s).place = refused_are s bad in (
        λ z. absurd (bad (ap number_of (sym (check_is (refused n (patch_of s).place) is)) ∙ z)),
        λ k. let w : ops k.patch ≡ refused n (patch_of s).place = sym k.is ∙ is in clash (cc),
      )

  -- for every byte string: an answer that meets the contract of `check` has number 0 exactly where the file is a patch that keeps the rules
  pub check_passes : (r : Verdict) → r ≡ check_of s → (number_of r ≡ 0) ↔ KeepsFile s
  check_passes r e =
      let p = passes_by (eqb (patch_of s).number 0) refl in
      (λ z. p.0 (ap number_of (sym e) ∙ z), λ k. ap number_of e ∙ p.1 k)

  -- two answers that meet the contract of `check` coincide
  pub one_answer : (a b : Verdict) → a ≡ check_of s → b ≡ check_of s → a ≡ b
  one_answer a b p q = p ∙ sym q
