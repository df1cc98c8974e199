-- A number's bytes read again where they stand. Assumes nothing.
use mathlib.Core.Path.{◌≡◌, ◌∙◌, refl, sym, ap}
use mathlib.Core.List.{List, [], ◌∷◌, ◌++◌, append_assoc}
use Prim.Native.Nat.{ℕ, ◌+◌, ◌/◌, ◌%◌, ◌^◌, ◌<◌}
use native.Mathlib.Nat.{add-zero}
use native.Mathlib.Omega.{arith}
use lib.ListN.{length, get_or, take, drop}
use lib.Seq.{get_or-drop, drop-drop, drop-append_seam, take-append_seam}
use Rattle.byte_fields.specs.Bytes.{u16_at, u32_at, u64_at, values_at, text_at, le16, le32, le64}
use Rattle.ops.specs.Write.{value_bytes, Below}

-- what stands after a part
pub after : (s : List ℕ) (p : ℕ) (xs t : List ℕ) → drop p s ≡ xs ++ t → drop (p + length xs) s ≡ t
after s p xs t e = sym (drop-drop (length xs) p s) ∙ ap (drop (length xs)) e ∙ drop-append_seam xs t

pub after_two : (s : List ℕ) (p : ℕ) (xs ys t : List ℕ) → drop p s ≡ xs ++ ys ++ t → drop (p + length xs) s ≡ ys ++ t
after_two s p xs ys t e = after s p xs (ys ++ t) (e ∙ append_assoc xs ys t)

first_byte : (s : List ℕ) (p : ℕ) → get_or s p 0 ≡ get_or (drop p s) 0 0
first_byte s p = ap (λ (k : ℕ). get_or s k 0) (sym (add-zero p)) ∙ sym (get_or-drop p s 0 0)

pub at16 : (s : List ℕ) (p n : ℕ) (t : List ℕ) → drop p s ≡ le16 n ++ t → u16_at s p ≡ n % 65536
unfolding le16
at16 s p n t e =
    let a : get_or s p 0 ≡ n % 256 = first_byte s p ∙ ap (λ (l : List ℕ). get_or l 0 0) e in
    let b : get_or s (p + 1) 0 ≡ n / 256 % 256 = sym (get_or-drop p s 1 0) ∙ ap (λ (l : List ℕ). get_or l 1 0) e in
    omega arith

pub at32 : (s : List ℕ) (p n : ℕ) (t : List ℕ) → drop p s ≡ le32 n ++ t → u32_at s p ≡ n % 4294967296
unfolding le32 le16
at32 s p n t e =
    let a : u16_at s p ≡ n % 65536 = at16 s p n (le16 (n / 65536) ++ t) e in
    let b : u16_at s (p + 2) ≡ n / 65536 % 65536 = at16 s (p + 2) (n / 65536) t (after s p (le16 n) (le16 (n / 65536) ++ t) e) in
    omega arith

pub at64 : (s : List ℕ) (p n : ℕ) (t : List ℕ) → drop p s ≡ le64 n ++ t → u64_at s p ≡ n % 2 ^ 64
unfolding le64 le32 le16
at64 s p n t e =
    let a : u32_at s p ≡ n % 4294967296 = at32 s p n (le32 (n / 4294967296) ++ t) e in
    let b : u32_at s (p + 4) ≡ n / 4294967296 % 4294967296 = at32 s (p + 4) (n / 4294967296) t (after s p (le32 n) (le32 (n / 4294967296) ++ t) e) in
    omega arith

pub length_le64 : (n : ℕ) → length (le64 n) ≡ 8
unfolding le64 le32 le16
length_le64 n = refl

pub at_values : (vs s : List ℕ) (p : ℕ) (t : List ℕ) → Below (2 ^ 64) vs → drop p s ≡ value_bytes vs ++ t → values_at s p (length vs) ≡ vs
unfolding values_at value_bytes
at_values [] s p t w e = refl
at_values (v ∷ vs) s p t w e =
    let e' : drop p s ≡ le64 v ++ (value_bytes vs ++ t) = e ∙ append_assoc (le64 v) (value_bytes vs) t in
    let a : u64_at s p ≡ v % 2 ^ 64 = at64 s p v (value_bytes vs ++ t) e' in
    let k : v < 2 ^ 64 = w.0 in
    let b : u64_at s p ≡ v = omega arith in
    let r : drop (p + 8) s ≡ value_bytes vs ++ t = rw length_le64 at (after s p (le64 v) (value_bytes vs ++ t) e') in
    rw (b, at_values vs s (p + 8) t w.1 r) refl

pub at_text : (bs s : List ℕ) (p : ℕ) (t : List ℕ) → drop p s ≡ bs ++ t → text_at s p (length bs) ≡ bs
unfolding text_at
at_text bs s p t e = ap (take (length bs)) e ∙ take-append_seam bs t
