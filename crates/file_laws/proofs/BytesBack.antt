-- Numbers that are read from bytes and written again are the same bytes. Assumes nothing.
use mathlib.Core.Path.{◌≡◌, ◌∙◌, refl, sym, ap, ap₂}
use mathlib.Core.List.{List, [], ◌∷◌, ◌++◌}
use Prim.Native.Nat.{ℕ, zero, suc, ◌+◌, ◌*◌, ◌/◌, ◌%◌, ◌<◌, ◌≤◌}
use native.Mathlib.Numerals.{add-one}
use native.Mathlib.Omega.{arith}
use lib.ListN.{length, get_or, take, drop}
use lib.Seq.{drop-cons, drop-drop, take-add}
use Rattle.byte_fields.specs.Bytes.{u16_at, u32_at, u64_at, values_at, text_at, le16, le32, le64}
use Rattle.ops.specs.Write.{value_bytes, Below}

-- ---- numbers

pub byte_below : (s : List ℕ) (i : ℕ) → Below 256 s → get_or s i 0 < 256
byte_below [] i w = omega arith
byte_below (x ∷ s) zero w = w.0
byte_below (x ∷ s) (suc i) w = byte_below s i w.1

pub text_add : (s : List ℕ) (i m n : ℕ) → text_at s i (m + n) ≡ text_at s i m ++ text_at s (i + m) n
unfolding text_at
text_add s i m n = take-add m n (drop i s) ∙ ap (λ (l : List ℕ). take m (drop i s) ++ take n l) (drop-drop m i s)

text_two : (s : List ℕ) (i : ℕ) → i + 2 ≤ length s → text_at s i 2 ≡ get_or s i 0 ∷ get_or s (i + 1) 0 ∷ []
unfolding text_at
text_two s i h =
    let a : drop i s ≡ get_or s i 0 ∷ drop (suc i) s = drop-cons s i 0 (omega arith) in
    let b : drop (suc i) s ≡ get_or s (suc i) 0 ∷ drop (suc (suc i)) s = drop-cons s (suc i) 0 (omega arith) in
    ap (take 2) (a ∙ ap (λ (l : List ℕ). get_or s i 0 ∷ l) b) ∙ rw add-one refl

le16_low : (a b : ℕ) → le16 (a + 65536 * b) ≡ le16 a
unfolding le16
le16_low a b =
    let x : (a + 65536 * b) % 256 ≡ a % 256 = omega arith in
    let h : (a + 65536 * b) / 256 ≡ a / 256 + 256 * b = omega arith in
    let y : (a / 256 + 256 * b) % 256 ≡ a / 256 % 256 = omega arith in
    rw (x, h, y) refl

le32_low : (a b : ℕ) → le32 (a + 4294967296 * b) ≡ le32 a
unfolding le32
le32_low a b =
    let x : a + 4294967296 * b ≡ a + 65536 * (65536 * b) = omega arith in
    let y : (a + 4294967296 * b) / 65536 ≡ a / 65536 + 65536 * b = omega arith in
    ap₂ (λ (l r : List ℕ). l ++ r) (ap le16 x ∙ le16_low a (65536 * b)) (ap le16 y ∙ le16_low (a / 65536) b)

module _ (s : List ℕ) (w : Below 256 s) where
  pub small16 : (i : ℕ) → u16_at s i < 65536
  small16 i = omega (arith, byte_below s i w, byte_below s (i + 1) w)

  pub back16 : (i : ℕ) → i + 2 ≤ length s → le16 (u16_at s i) ≡ text_at s i 2
  unfolding le16
  back16 i h =
      let a = byte_below s i w in
      let b = byte_below s (i + 1) w in
      let x : u16_at s i % 256 ≡ get_or s i 0 = omega arith in
      let q : u16_at s i / 256 ≡ get_or s (i + 1) 0 = omega arith in
      let y : get_or s (i + 1) 0 % 256 ≡ get_or s (i + 1) 0 = omega arith in
      ap₂ (λ (l r : ℕ). l ∷ r ∷ []) x (ap (λ (k : ℕ). k % 256) q ∙ y) ∙ sym (text_two s i h)

  pub back32 : (i : ℕ) → i + 4 ≤ length s → le32 (u32_at s i) ≡ text_at s i 4
  unfolding le32
  back32 i h =
      let a = small16 i in
      let y : u32_at s i / 65536 ≡ u16_at s (i + 2) = omega arith in
      ap₂ (λ (l r : List ℕ). l ++ r) (le16_low (u16_at s i) (u16_at s (i + 2)) ∙ back16 i (omega arith)) (ap le16 y ∙ back16 (i + 2) (omega arith))
      ∙ sym (text_add s i 2 2)

  pub back64 : (i : ℕ) → i + 8 ≤ length s → le64 (u64_at s i) ≡ text_at s i 8
  unfolding le64
  back64 i h =
      let a = small16 i in
      let b = small16 (i + 2) in
      let y : u64_at s i / 4294967296 ≡ u32_at s (i + 4) = omega arith in
      ap₂ (λ (l r : List ℕ). l ++ r) (le32_low (u32_at s i) (u32_at s (i + 4)) ∙ back32 i (omega arith)) (ap le32 y ∙ back32 (i + 4) (omega arith))
      ∙ sym (text_add s i 4 4)

  pub back_values : (n i : ℕ) → i + 8 * n ≤ length s → value_bytes (values_at s i n) ≡ text_at s i (8 * n)
  unfolding values_at value_bytes text_at
  back_values zero i h = refl
  back_values (suc n) i h =
      let e : 8 + 8 * n ≡ 8 * suc n = omega arith in
      ap₂ (λ (l r : List ℕ). l ++ r) (back64 i (omega arith)) (back_values n (i + 8) (omega arith))
      ∙ sym (text_add s i 8 (8 * n))
      ∙ ap (text_at s i) e
