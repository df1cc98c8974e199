-- A record where it has room, in its three parts. Assumes nothing.
use mathlib.Core.Path.{◌≡◌, ◌∙◌, refl, ap}
use mathlib.Core.Bool.{true}
use mathlib.Core.List.{List, ◌++◌}
use Prim.Native.Nat.{ℕ, ◌+◌, ◌≤◌}
use native.Mathlib.Omega.{arith}
use lib.ListN.{length}
use Rattle.byte_fields.specs.Bytes.{text_at, le16, le32}
use Rattle.byte_fields.specs.Storage.{placed}
use Rattle.ops.specs.Write.{record_of, has_room}
use Rattle.byte_fields.proofs.Storage.{placed_then}
use Rattle.byte_fields.proofs.TextAt.{text_whole}

pub room_fits : (size at len : ℕ) → has_room size at len ≡ true → (at + 6 + len ≤ size) × (at + 6 + len ≤ 65536)
unfolding has_room
room_fits size at len e = grind arith

-- the length, then the kind, then the payload
pub record_placed : (out : List ℕ) (at k : ℕ) (payload : List ℕ) → at + 6 + length payload ≤ length out
    → placed (placed (placed out at (le32 (length payload + 2))) (at + 4) (le16 k)) (at + 6) (text_at payload 0 (length payload)) ≡ placed out at (record_of k payload)
unfolding le16 le32 record_of
record_placed out at k payload h =
    ap (λ (l : List ℕ). placed (placed (placed out at (le32 (length payload + 2))) (at + 4) (le16 k)) (at + 6) l) (text_whole payload)
    ∙ ap (λ (l : List ℕ). placed l (at + 6) payload) (placed_then out at (le32 (length payload + 2)) (le16 k) (at + 4) refl (omega arith))
    ∙ placed_then out at (le32 (length payload + 2) ++ le16 k) payload (at + 6) refl (omega arith)
