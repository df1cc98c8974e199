-- The bytes of a part of a file: how many they are, and one more of them. Assumes nothing.
use mathlib.Core.Path.{◌≡◌, ◌∙◌, refl, sym, ap}
use mathlib.Core.List.{List, [], ◌∷◌, ◌++◌}
use Prim.Native.Nat.{ℕ, ◌+◌, ◌≤◌, ◌<◌}
use native.Mathlib.Omega.{arith}
use native.Mathlib.Numerals.{add-one}
use lib.ListN.{length, get_or, set, drop, length-drop}
use lib.Seq.{length-take-le, take-suc, get_or-drop, take-length}
use Rattle.byte_fields.specs.Bytes.{text_at}
use Rattle.byte_fields.specs.Storage.{placed}
use Rattle.byte_fields.proofs.Storage.{placed_snoc}

pub length_text : (s : List ℕ) (i n : ℕ) → i + n ≤ length s → length (text_at s i n) ≡ n
unfolding text_at
length_text s i n h = length-take-le n (drop i s) (simp length-drop (omega arith))

pub text_snoc : (s : List ℕ) (i n : ℕ) → i + n < length s → text_at s i (n + 1) ≡ text_at s i n ++ (get_or s (i + n) 0 ∷ [])
unfolding text_at
text_snoc s i n h = rw add-one (rw (take-suc (drop i s) n 0 (simp length-drop (omega arith)), get_or-drop) refl)

pub text_whole : (s : List ℕ) → text_at s 0 (length s) ≡ s
unfolding text_at
text_whole s = take-length s

-- a turn of the loop that copies
pub text_more : (out : List ℕ) (at : ℕ) (s : List ℕ) (i n : ℕ) → at + n < length out → i + n < length s
    → set (placed out at (text_at s i n)) (at + n) (get_or s (i + n) 0) ≡ placed out at (text_at s i (n + 1))
text_more out at s i n h k =
    placed_snoc out at (text_at s i n) (get_or s (i + n) 0) (at + n) (ap (λ (j : ℕ). at + j) (length_text s i n (omega arith))) h
    ∙ ap (placed out at) (sym (text_snoc s i n k))
