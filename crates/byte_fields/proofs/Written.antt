-- The bytes of a u16 and of a u32 are those that the library writes. Assumes nothing.
use mathlib.Core.Path.{◌≡◌, refl}
use Prim.Native.Nat.{ℕ, ◌/◌, ◌%◌}
use native.Mathlib.Omega.{arith}
use Rattle.std.specs.Int.{to_le_bytes, w16, w32}
use Rattle.byte_fields.specs.Bytes.{le16, le32}

pub bytes_16 : (n : ℕ) → to_le_bytes w16 (n % 65536) ≡ le16 n
unfolding le16
bytes_16 n =
    let a : n % 65536 % 256 ≡ n % 256 = omega arith in
    let b : n % 65536 / 256 % 256 ≡ n / 256 % 256 = omega arith in
    rw (a, b) refl

pub bytes_32 : (n : ℕ) → to_le_bytes w32 (n % 4294967296) ≡ le32 n
unfolding le16 le32
bytes_32 n =
    let a : n % 4294967296 % 256 ≡ n % 256 = omega arith in
    let b : n % 4294967296 / 256 % 256 ≡ n / 256 % 256 = omega arith in
    let c : n % 4294967296 / 65536 % 256 ≡ n / 65536 % 256 = omega arith in
    let d : n % 4294967296 / 16777216 % 256 ≡ n / 65536 / 256 % 256 = omega arith in
    rw (a, b, c, d) refl
