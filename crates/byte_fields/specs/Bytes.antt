-- "little-endian": the numbers that bytes write, and the bytes of a number. Assumes nothing.
use Rattle.std.specs.Prelude.{ℕ, zero, suc, ◌+◌, ◌*◌, ◌/◌, ◌%◌, List, [], ◌∷◌, ◌++◌, get_or, take, drop}

-- the u16, the u32 and the u64 (or the bits of the i64) at byte i
abbrev pub u16_at : List ℕ → ℕ → ℕ
u16_at s i = get_or s i 0 + 256 * get_or s (i + 1) 0

abbrev pub u32_at : List ℕ → ℕ → ℕ
u32_at s i = u16_at s i + 65536 * u16_at s (i + 2)

abbrev pub u64_at : List ℕ → ℕ → ℕ
u64_at s i = u32_at s i + 4294967296 * u32_at s (i + 4)

-- "8 bytes a value": the n values from byte i on
unfoldable pub values_at : List ℕ → ℕ → ℕ → List ℕ
values_at s i zero = []
values_at s i (suc n) = u64_at s i ∷ values_at s (i + 8) n

-- the n bytes from byte i on
unfoldable pub text_at : List ℕ → ℕ → ℕ → List ℕ
text_at s i n = take n (drop i s)

-- "little-endian": the bytes of a u16, a u32 and a u64
unfoldable pub le16 : ℕ → List ℕ
le16 n = n % 256 ∷ n / 256 % 256 ∷ []

unfoldable pub le32 : ℕ → List ℕ
le32 n = le16 n ++ le16 (n / 65536)

unfoldable pub le64 : ℕ → List ℕ
le64 n = le32 n ++ le32 (n / 4294967296)
