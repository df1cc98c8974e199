-- `lanes::float::to_int` meets its contract: the magnitude's whole part or an end of the range, with the sign. Assumes nothing.
use Rattle.std.proofs.Common.{◌≡◌, ℕ, ◌-◌, ◌%◌, ◌^◌, ◌<◌, Bool, true, false, cond, not, T, leb, pos, neg_ℤ, sym, ap, ◌∙◌, subst}
use lib.Ieee.{Float, binary64, fin, of_bits, nan_bits, is_nan, lt, to_signed, to_unsigned}
use lib.Ieee.Bits.{nan_bits_is}
use Rattle.lanes.specs.Int.{wrap, signed_by}
use Rattle.lanes.specs.Float.{loaded_of, to_int}
use Rattle.lanes.proofs.Floats.{untrue, nan_loaded, magnitude_unsigned, magnitude_nan, signed_is, above, wider, within, beyond}
use Rattle.lanes.proofs.float.to_int.Goals as goal

not-above : (x : Float) → lt x (fin false 1 (pos 63)) ≡ true → T (lt x (fin false 1 (pos 64)))
not-above x p = subst T (sym (wider x p)) tt

-- n is its whole part
whole : (a n r : ℕ) → a < 2 ^ 64 → lt (loaded_of (a % 2 ^ 63)) (fin false 1 (pos 63)) ≡ true → n ≡ to_unsigned 64 (loaded_of (a % 2 ^ 63))
    → r ≡ wrap (signed_by (leb (2 ^ 63) a) n) → r ≡ to_int a
whole a n r h l e q =
    q
    ∙ ap wrap
    (ap (λ (m : ℕ). signed_by (leb (2 ^ 63) a) m) e
    ∙ sym (ap (λ (x : Float). to_signed 63 x) (signed_is a h) ∙ within (leb (2 ^ 63) a) _ (magnitude_unsigned a) l))

-- t is the answer of `nan_bits`
module _ (a : ℕ) (t : Bool) (p : t ≡ nan_bits binary64 a) where
  of_nan : t ≡ true → 0 ≡ to_int a
  unfolding to_signed
  of_nan q = ap (λ (x : Float). wrap (to_signed 63 x)) (nan_loaded a p q)

  module _ (q : t ≡ false) where
    no_nan : T (not (nan_bits binary64 (a % 2 ^ 63)))
    no_nan = untrue (magnitude_nan a ∙ sym p ∙ q)

    number : is_nan (loaded_of (a % 2 ^ 63)) ≡ false
    number = sym (nan_bits_is binary64 (a % 2 ^ 63)) ∙ magnitude_nan a ∙ sym p ∙ q

    not-below : T (lt (fin true 1 (pos 0)) (loaded_of (a % 2 ^ 63)))
    not-below = subst T (sym (above (loaded_of (a % 2 ^ 63)) (magnitude_unsigned a) number)) tt

-- an end of the range, by the sign
end_of : (s : Bool) (a : ℕ) (t : Bool) → t ≡ nan_bits binary64 a → t ≡ false → a < 2 ^ 64 → lt (loaded_of (a % 2 ^ 63)) (fin false 1 (pos 63)) ≡ false → leb (2 ^ 63) a ≡ s
    → wrap (cond s (neg_ℤ (pos (2 ^ 63))) (pos (2 ^ 63 - 1))) ≡ to_int a
end_of s a t p q h l e =
    sym
    (ap (λ (x : Float). wrap (to_signed 63 x)) (signed_is a h)
    ∙ ap wrap (beyond (leb (2 ^ 63) a) _ (magnitude_unsigned a) (number a t p q) l)
    ∙ ap (λ (b : Bool). wrap (cond b (neg_ℤ (pos (2 ^ 63))) (pos (2 ^ 63 - 1)))) e)

ruleset laws = (of_nan, no_nan, not-below, not-above, whole)

pub returns-then-nan_bits : goal.returns-then-nan_bits
unfolding of_bits
returns-then-nan_bits c = search laws

pub float_from_bits-x : goal.float_from_bits-x
unfolding of_bits
float_from_bits-x c = search laws

pub truncating_f64_to_u64-requires : goal.truncating_f64_to_u64-requires
unfolding of_bits
truncating_f64_to_u64-requires c = search laws

pub returns-then-x : goal.returns-then-x
unfolding of_bits
returns-then-x c = search laws

pub returns-then-negative : goal.returns-then-negative
unfolding of_bits
returns-then-negative c = search (end_of true)

pub returns-else-negative : goal.returns-else-negative
unfolding of_bits
returns-else-negative c = search (end_of false)
