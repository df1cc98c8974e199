-- Which floats the cases of `Root` are, as lib.Ieee reads the patterns: the zeros, infinity, a NaN or what is negative, and what is positive and finite
-- (`steps_value` of Laws.antt, with `steps_pos`). Assumes nothing.
use mathlib.Core.Path.{◌≡◌, refl, ◌∙◌, ap, sym, subst}
use mathlib.Core.Bool.{Bool, true, false, cond}
use mathlib.Core.Logic.{◌⊎◌, inl, inr, ⊎_elim}
use Prim.Native.Nat.{ℕ, ◌+◌, ◌*◌, ◌%◌, ◌^◌, ◌<◌, ◌≤◌}
use native.Mathlib.Omega.{arith}
use native.Mathlib.Nat.{mul-pos}
use lib.IntN.{pos}
use lib.Ieee as ieee
use lib.Ieee.{Float, nan, inf, fin, binary64, up, down, lt, neg, of_bits}
use lib.Ieee.Fits.{down_pos}
use lib.Ieee.Exact.{HasValue}
use lib.Ieee.Bits.{nan_bits_above}
use lib.Pow.{pow_pos}
use borrow.Author.Tests.{lt-ltb, le-leb}
use Rattle.lanes.specs.Float.{loaded_of}
use Rattle.lanes.proofs.Ints.{lt_or_ge}
use Rattle.lanes.proofs.Floats.{nan_loaded, signed_is}
use Rattle.standard_device.specs.Root.{infinity, places, steps}
use Rattle.lanes.proofs.Steps.{digits_some}
use Rattle.standard_device.proofs.Laws.{steps_value}

pub zeros : (loaded_of 0 ≡ fin false 0 (pos 0)) × (loaded_of (2 ^ 63) ≡ fin true 0 (pos 0))
unfolding of_bits ieee.of_fields ieee.odd
zeros = (refl, refl)

pub infinite : loaded_of infinity ≡ inf false
unfolding of_bits ieee.of_fields
infinite = refl

-- a positive finite float
pub steps_pos : (a : ℕ) → 0 < a → 0 < steps a
unfolding steps
steps_pos a p = mul-pos (digits_some a p) (pow_pos (places a))

-- a float that is a positive number of steps, with the sign: below zero
below_zero : (x : Float) (s c : ℕ) → HasValue x false s c → 0 < s → lt (neg x) (fin false 0 (pos 0)) ≡ true
unfolding lt neg
below_zero nan s c v p = absurd v
below_zero (inf t) s c v p = absurd v
below_zero (fin true m e) s c v p = cc
below_zero (fin false m e) s c v p = lt-ltb 0 _ (small m (up e) c (down e) s v.1 p (down_pos e))
  where
    small : (m u c d s : ℕ) → m * u * c ≡ s * d → 0 < s → 0 < d → 0 < m * u * 1 + 0 * 1 * d
    small m u c d s q h k = ⊎_elim (λ (l : 0 < m * u). omega arith) (λ (g : m * u ≤ 0). let e : m * u ≡ 0 = omega arith in absurd (omega (arith, ap (λ (x : ℕ). x * c) e, mul-pos h k))) (lt_or_ge 0 (m * u))

minus_infinite : lt (neg (loaded_of infinity)) (fin false 0 (pos 0)) ≡ true
unfolding lt neg of_bits ieee.of_fields
minus_infinite = refl

-- a NaN, or negative
pub not_positive : (a : ℕ) → a < 2 ^ 64 → infinity < a → (a ≡ 2 ^ 63 → ⊥) → (loaded_of a ≡ nan) ⊎ (lt (loaded_of a) (fin false 0 (pos 0)) ≡ true)
not_positive a b l n = ⊎_elim
    (λ (k : infinity < a % 2 ^ 63). inl (sym (nan_loaded a refl (nan_bits_above binary64 a ∙ lt-ltb infinity (a % 2 ^ 63) k))))
    (λ (k : a % 2 ^ 63 ≤ infinity).
    let e : loaded_of a ≡ neg (loaded_of (a % 2 ^ 63)) = signed_is a b ∙ ap (λ (t : Bool). cond t (neg (loaded_of (a % 2 ^ 63))) (loaded_of (a % 2 ^ 63))) (le-leb (2 ^ 63) a (omega arith)) in
    inr (ap (λ (x : Float). lt x (fin false 0 (pos 0))) e ∙ ⊎_elim (λ (m : a % 2 ^ 63 < infinity). finite (a % 2 ^ 63) m some) (λ (m : infinity ≤ a % 2 ^ 63). let q : infinity ≡ a % 2 ^ 63 = omega arith in subst (λ (p : ℕ). lt (neg (loaded_of p)) (fin false 0 (pos 0)) ≡ true) q minus_infinite) (lt_or_ge (a % 2 ^ 63) infinity)))
    (lt_or_ge infinity (a % 2 ^ 63))
  where
    some : 0 < a % 2 ^ 63
    some = ⊎_elim (λ z. z) (λ (g : a % 2 ^ 63 ≤ 0). absurd (n (omega arith))) (lt_or_ge 0 (a % 2 ^ 63))

    finite : (p : ℕ) → p < infinity → 0 < p → lt (neg (loaded_of p)) (fin false 0 (pos 0)) ≡ true
    finite p h k = below_zero (loaded_of p) (steps p) (2 ^ 1074) (steps_value p h) (steps_pos p k)
