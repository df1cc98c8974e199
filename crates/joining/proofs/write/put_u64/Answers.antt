-- `joining::write::put_u64` meets its contract. Assumes nothing.
use mathlib.Core.Path.{◌≡◌, ◌∙◌, refl}
use Prim.Native.Nat.{ℕ, ◌/◌}
use native.Mathlib.Omega.{arith}
use Rattle.std.specs.Int.{to_le_bytes, w64}
use Rattle.byte_fields.specs.Bytes.{le16, le32, le64}
use Rattle.byte_fields.proofs.Storage.{placed_part}
use Rattle.joining.proofs.write.put_u64.Goals as goal

-- they are those that the library writes
bytes_64 : (n : ℕ) → to_le_bytes w64 n ≡ le64 n
unfolding le16 le32 le64
bytes_64 n =
    let a : n / 16777216 ≡ n / 65536 / 256 = omega arith in
    let b : n / 1099511627776 ≡ n / 4294967296 / 256 = omega arith in
    let c : n / 281474976710656 ≡ n / 4294967296 / 65536 = omega arith in
    let d : n / 72057594037927936 ≡ n / 4294967296 / 65536 / 256 = omega arith in
    rw (a, b, c, d) refl

pub returns : goal.returns
unfolding le16 le32 le64
returns c = placed_part _ _ _ _ _ (c.copy_from_slice.ensures.after ∙ c.to_le_bytes.ensures ∙ bytes_64 _) refl
