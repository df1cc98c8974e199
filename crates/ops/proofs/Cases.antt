-- Computed cases of the writer of one record: an End where it has room, and where one byte is missing. Assumes nothing.
use mathlib.Core.Path.{◌≡◌, refl}
use mathlib.Core.List.{List, [], ◌∷◌, map}
use Prim.Native.Nat.{ℕ}
use Rattle.byte_fields.specs.Bytes.{le16, le32}
use Rattle.byte_fields.specs.Storage.{placed}
use Rattle.ops.specs.Write.{Wrote, record_of, has_room, write_of}

unfoldable pub writes : List Wrote
writes =
    write_of (7 ∷ 7 ∷ 7 ∷ 7 ∷ 7 ∷ 7 ∷ 7 ∷ 7 ∷ []) 1 8 []
    ∷ write_of (7 ∷ 7 ∷ 7 ∷ 7 ∷ 7 ∷ 7 ∷ []) 1 8 []
    ∷ []

-- 01's number and place, and the lent bytes
abbrev pub shown : Wrote → ℕ × (ℕ × List ℕ)
shown w = (w.number, (w.place, w.bytes))

pub told : map shown writes
    ≡ (0, (7, 7 ∷ 2 ∷ 0 ∷ 0 ∷ 0 ∷ 8 ∷ 0 ∷ 7 ∷ []))
    ∷ (40, (0, 7 ∷ 7 ∷ 7 ∷ 7 ∷ 7 ∷ 7 ∷ []))
    ∷ []
unfolding writes write_of has_room record_of placed le16 le32
told = refl
