-- The joined patch handed on. 02, ask 7: "Flattening, joining .. hand on patches whose partners are right for the new op places."
-- Assumes nothing.
use Rattle.std.specs.Prelude.{List, ℕ, take}
use Rattle.answers.specs.Join.{length_of}
use Rattle.partners.specs.declared.patch.Patch.{Patch}
use Rattle.partners.specs.Read.{patch_read}
use Rattle.joining.specs.Joined.{Outcome, outcome, join_of}
use Rattle.joining.specs.declared.handed.JoinedPatch.{JoinedPatch}

-- what joining leaves, and the patch that it hands on
pub record Handed : Type 0 where
  pub joined : Outcome
  pub patch : Patch

abbrev pub handed : JoinedPatch → List ℕ → Handed
handed r s = record { joined = outcome r.answer s; patch = r.patch }

-- the bytes that were written; none where joining was refused
abbrev pub written_in : Outcome → List ℕ
written_in o = take (length_of o.answer) o.bytes

-- as it is read of the written bytes
unfoldable pub join_patch_of : List ℕ → List ℕ → Handed
join_patch_of s out = record { joined = join_of s out; patch = patch_read (written_in (join_of s out)) }
