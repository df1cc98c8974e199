-- Where values that have a property end: one more, none more, and no more than there are. Assumes nothing.
use Rattle.std.proofs.Common.{◌≡◌, ℕ, zero, suc, ◌+◌, ◌%◌, ◌<◌, ◌≤◌, Bool, true, false, cond, leb, List, [], ◌∷◌, length, get_or, drop, sym, refl, ◌∙◌, le_of_suc-le-suc, not-suc-le-zero, add-zero, add-one, arith, length-drop, drop_of_length-le, drop-cons, leb-true, leb-false, max}
use Rattle.basics.proofs.Tests.{by_case, and_left, and_right}
use Rattle.decimals.specs.Chars.{is_digit, leading, past}

module _ (p : ℕ → Bool) (l : List ℕ) (i : ℕ) where
  -- none beyond the end, none where the value there has not the property, one more where it has
  pub leading_end : length l ≤ i → leading p (drop i l) ≡ 0
  unfolding leading
  leading_end h = rw (drop_of_length-le l h) refl

  pub leading_stop : i < length l → p (get_or l i 0) ≡ false → leading p (drop i l) ≡ 0
  unfolding leading
  leading_stop h e = rw (drop-cons l i 0 h, e) refl

  pub leading_more : i < length l → p (get_or l i 0) ≡ true → leading p (drop i l) ≡ suc (leading p (drop (i + 1) l))
  unfolding leading
  leading_more h e = rw (drop-cons l i 0 h, e, add-one i) refl

-- the loop that passes them: from place i on it ends where it was to end
module _ (p : ℕ → Bool) (l : List ℕ) (i x : ℕ) (inv : past p l i ≡ x) where
  pub ended : length l ≤ i → i ≡ x
  ended h = sym (sym inv ∙ rw (leading_end p l i h) (add-zero i))

  module _ (h : i < length l) (t : Bool) (e : t ≡ p (get_or l i 0)) where
    pub stopped : t ≡ false → i ≡ x
    stopped n = sym (sym inv ∙ rw (leading_stop p l i h (sym e ∙ n)) (add-zero i))

    pub further : t ≡ true → past p l (i + 1) ≡ x
    further n = omega (arith, inv, leading_more p l i h (sym e ∙ n))

-- none was left that has not the property: the loop has come to the end, or began beyond it
pub last : (p : ℕ → Bool) (l : List ℕ) (i at : ℕ) → past p l i ≡ past p l at → at ≤ i → (at ≤ length l → i ≤ length l) → length l ≤ i → max at (length l) ≡ past p l at
last p l i at e a b h =
    by_case (leb at (length l))
    (λ t. let k = leb-true at (length l) t in omega (arith, ended p l i (past p l at) e h, b k))
    (λ t. let k = leb-false at (length l) t in omega (arith, leading_end p l at))

pub leading_length : (p : ℕ → Bool) (l : List ℕ) → leading p l ≤ length l
unfolding leading
leading_length p [] = omega arith
leading_length p (v ∷ vs) = by_case (p v) (λ e. let h = leading_length p vs in rw e (omega arith)) (λ e. rw e (omega arith))

pub past_inside : (p : ℕ → Bool) (l : List ℕ) (i : ℕ) → i ≤ length l → past p l i ≤ length l
past_inside p l i h = omega (arith, leading_length p (drop i l), length-drop i l)

pub leading_all : (p : ℕ → Bool) (l : List ℕ) (k : ℕ) → k < leading p l → p (get_or l k 0) ≡ true
unfolding leading
leading_all p [] k h = absurd (not-suc-le-zero h)
leading_all p (v ∷ vs) zero h = go (p v) refl h
  where
    go : (t : Bool) → p v ≡ t → 0 < cond t (suc (leading p vs)) 0 → p v ≡ true
    go true e g = e
    go false e g = absurd (not-suc-le-zero g)
leading_all p (v ∷ vs) (suc k) h = go (p v) (leading_all p vs k) h
  where
    go : (t : Bool) → (k < leading p vs → p (get_or vs k 0) ≡ true) → suc k < cond t (suc (leading p vs)) 0 → p (get_or vs k 0) ≡ true
    go true less g = less (le_of_suc-le-suc g)
    go false less g = absurd (not-suc-le-zero g)

-- ---- a digit's value

pub digit_least : (v : ℕ) → is_digit v ≡ true → 48 ≤ v % 256
digit_least v e = leb-true 48 (v % 256) (and_left (leb 48 (v % 256)) (leb (v % 256) 57) e)

pub digit_most : (v : ℕ) → is_digit v ≡ true → v % 256 ≤ 57
digit_most v e = leb-true (v % 256) 57 (and_right (leb 48 (v % 256)) (leb (v % 256) 57) e)
