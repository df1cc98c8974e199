-- What the parts of a decimal's reading ask and ensure. Assumes nothing.
use Rattle.std.specs.Prelude.{◌≡◌, ℕ, ◌+◌, ◌-◌, ◌*◌, ◌^◌, ◌<◌, ◌≤◌, true, List, length, drop, slice_index, slice_range}
use Rattle.decimals.specs.Chars.{is_digit, leading}
use Rattle.decimals.specs.Decimal.{point, after_point, whole_of}

-- the values from place i up to place e
abbrev pub part : List ℕ → ℕ → ℕ → List ℕ
part l i e = slice_range l i e

-- from one place up to another there are digits only
pub record Digits (l : List ℕ) (from to : ℕ) : Type 0 where
  pub order : from ≤ to
  pub inside : (i : ℕ) → from ≤ i → i < to → i < length l
  pub digit : (i : ℕ) → from ≤ i → i < to → is_digit (slice_index l i) ≡ true

-- the number that they write after the number a, and how large it gets
pub record Summed (l : List ℕ) (from to a r : ℕ) : Type 0 where
  pub sum : r ≡ whole_of a (part l from to)
  pub bound : r + 1 ≤ (a + 1) * 10 ^ (to - from)

-- at place e a point, or none: where the digits after it start and end
pub record Fraction (l : List ℕ) (e start end : ℕ) : Type 0 where
  pub first : start ≡ e + point (drop e l)
  pub last : end ≡ start + leading is_digit (after_point (drop e l))
