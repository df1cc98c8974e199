-- The flattened patch handed on. 02, ask 7: "Flattening, joining .. hand on patches whose partners are right for the new op places."
-- Assumes nothing.
use Rattle.std.specs.Prelude.{List, ℕ, take}
use Rattle.answers.specs.Flatten.{bytes_of}
use Rattle.partners.specs.declared.patch.Patch.{Patch}
use Rattle.partners.specs.Read.{patch_read}
use Rattle.flattening.specs.Flattened.{Outcome, outcome, flatten_of}
use Rattle.flattening.specs.declared.handed.FlattenedPatch.{FlattenedPatch}

-- what flattening leaves, and the patch that it hands on
pub record Handed : Type 0 where
  pub flattened : Outcome
  pub patch : Patch

abbrev pub handed : FlattenedPatch → List ℕ → List ℕ → List ℕ → List ℕ → Handed
handed r s ns fs cs = record { flattened = outcome r.answer s ns fs cs; patch = r.patch }

-- the bytes that were written; none where flattening was refused
abbrev pub written_in : Outcome → List ℕ
written_in o = take (bytes_of o.answer) o.out

-- as it is read of the written bytes
unfoldable pub flatten_patch_of : List ℕ → List ℕ → List ℕ → List ℕ → List ℕ → Handed
flatten_patch_of s out ns fs cs =
    let o = flatten_of s out ns fs cs in record { flattened = o; patch = patch_read (written_in o) }
