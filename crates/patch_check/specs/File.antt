-- What the check answers to a patch file, and the files that keep the rules. Assumes nothing.
use Rattle.std.specs.Prelude.{ℕ, ◌≡◌, List, Err}
use Rattle.ops.specs.Syntax.{Op}
use Rattle.ops.specs.Decode.{Patch, ops_of}
use Rattle.ops.specs.Decode.Patch.{ops, refused}
use Rattle.patch_check.specs.Rules.{KeepsRules}
use Rattle.patch_check.specs.Check.{check}
use Rattle.answers.specs.Check.{Verdict}
use Rattle.answers.specs.declared.check.CheckError.TheVariants.{BadFile}

-- "Every public call reads the patch first": a bad file's refusal, else the check of its ops
abbrev pub check_patch : Patch → Verdict
check_patch (ops os) = check os
check_patch (refused n p) = Err (BadFile n p)

unfoldable pub check_of : List ℕ → Verdict
unfolding check ops_of
check_of s = check_patch (ops_of s)

-- the bytes are a patch file, and its ops keep the rules
pub record KeepsFile (s : List ℕ) : Type 0 where
  pub patch : List Op
  pub is : ops_of s ≡ ops patch
  pub rules : KeepsRules patch
