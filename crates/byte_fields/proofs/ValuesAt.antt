-- The values of a payload: how many they are, and one more of them in a register. Assumes nothing.
use mathlib.Core.Path.{◌≡◌, ◌∙◌, refl, sym, ap}
use mathlib.Core.List.{List, [], ◌∷◌, ◌++◌}
use Prim.Native.Nat.{ℕ, zero, suc, ◌+◌, ◌*◌, ◌<◌}
use native.Mathlib.Nat.{add-zero}
use native.Mathlib.Numerals.{add-one}
use native.Mathlib.Omega.{arith}
use lib.ListN.{length, set}
use Rattle.byte_fields.specs.Bytes.{u64_at, values_at}
use Rattle.byte_fields.specs.Storage.{fill}
use Rattle.byte_fields.proofs.Storage.{fill_snoc}

pub length_values : (s : List ℕ) (i n : ℕ) → length (values_at s i n) ≡ n
unfolding values_at
length_values s i zero = refl
length_values s i (suc n) = ap suc (length_values s (i + 8) n)

pub values_snoc : (s : List ℕ) (i n : ℕ) → values_at s i (suc n) ≡ values_at s i n ++ (u64_at s (i + 8 * n) ∷ [])
unfolding values_at
values_snoc s i zero = ap (λ (k : ℕ). u64_at s k ∷ []) (sym (add-zero i))
values_snoc s i (suc n) =
    let e : i + 8 + 8 * n ≡ i + 8 * suc n = omega arith in
    ap (λ (l : List ℕ). u64_at s i ∷ l) (values_snoc s (i + 8) n)
    ∙ ap (λ (k : ℕ). u64_at s i ∷ (values_at s (i + 8) n ++ (u64_at s k ∷ []))) e

pub values_more : (s old : List ℕ) (i n : ℕ) → n < length old
    → set (fill (values_at s i n) old) n (u64_at s (i + 8 * n)) ≡ fill (values_at s i (n + 1)) old
values_more s old i n h =
    fill_snoc (values_at s i n) old (u64_at s (i + 8 * n)) n (length_values s i n) h
    ∙ ap (λ (l : List ℕ). fill l old) (sym (values_snoc s i n) ∙ ap (values_at s i) (sym (add-one n)))
