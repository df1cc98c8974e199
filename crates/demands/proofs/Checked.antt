-- Two answers that the rules allow coincide, and the check gives 0 exactly where the rules are kept. Assumes nothing.
use Prim.Native.Nat.{ℕ, ◌<◌}
use native.Mathlib.Decide.{dec_lt}
use native.Mathlib.Omega.{arith}
use mathlib.Core.Path.{◌≡◌, refl, ap, subst}
use mathlib.Core.List.{List}
use mathlib.Core.Logic.{◌↔◌, ◌⊎◌, inl, inr}
use lib.ListN.{length}
use Rattle.basics.proofs.Clash.{clash}
use Rattle.ops.specs.Syntax.{Op}
use Rattle.patch_check.specs.Rules.{KeepsRules, Breaks, NeverClosed, Says}
use Rattle.patch_check.specs.Rules.Breaks.{no_end, no_else, few}
use Rattle.patch_check.specs.Rules.Says.{fine, wrong, open_left}
use Rattle.answers.specs.Check.{number_of, answer}
use Rattle.patch_check.specs.Check.{check}
use Rattle.demands.proofs.Partner.{closes_after}
use Rattle.demands.proofs.Scanned.{check_says}

which : (a b : ℕ) → (a < b) ⊎ ((a ≡ b) ⊎ (b < a))
which a b = by (dec_lt a b) (dec_lt b a)
  where
    by : Dec (a < b) → Dec (b < a) → (a < b) ⊎ ((a ≡ b) ⊎ (b < a))
    by (yes h) e = inl h
    by (no h) (yes e) = inr (inr e)
    by (no h) (no e) = inr (inl (omega arith))

module _ (os : List Op) where
  kept_unbroken : (i n : ℕ) → i < length os → KeepsRules os → Breaks os i n → ⊥
  kept_unbroken i n l k (no_end e h) = h (k.ends i l e)
  kept_unbroken i n l k (no_else e h) = h (k.elses i l e)
  kept_unbroken i n l k (few e f h) = omega (arith, k.enough i l)

  kept_closed : (i : ℕ) → KeepsRules os → NeverClosed os i → ⊥
  kept_closed i k c = closes_after os k i c.within (inl c.opening) c.lost

  one_number : (i n m : ℕ) → Breaks os i n → Breaks os i m → n ≡ m
  one_number i n m (no_end e h) (no_end f g) = refl
  one_number i n m (no_end e h) (no_else f g) = clash (cc)
  one_number i n m (no_end e h) (few f g k) = absurd (h (f e))
  one_number i n m (no_else e h) (no_end f g) = clash (cc)
  one_number i n m (no_else e h) (no_else f g) = refl
  one_number i n m (no_else e h) (few f g k) = absurd (h (g e))
  one_number i n m (few e f h) (no_end x y) = absurd (y (e x))
  one_number i n m (few e f h) (no_else x y) = absurd (y (f x))
  one_number i n m (few e f h) (few x y z) = refl

  pair : (n m p q : ℕ) → n ≡ m → p ≡ q → ◌≡◌ {A = ℕ × ℕ} (n, p) (m, q)
  pair n m p q a b = λ i. (a i, b i)

  -- two answers that the rules allow coincide
  pub same : (r t : ℕ × ℕ) → Says os r → Says os t → r ≡ t
  same r t (fine k) (fine l) = refl
  same r t (fine k) (wrong n p l b f) = absurd (kept_unbroken p n l k b)
  same r t (fine k) (open_left p f c g) = absurd (kept_closed p k c)
  same r t (wrong n p l b f) (fine k) = absurd (kept_unbroken p n l k b)
  same r t (wrong n p l b f) (wrong m q h c g) = by (which p q)
    where
      by : (p < q) ⊎ ((p ≡ q) ⊎ (q < p)) → ◌≡◌ {A = ℕ × ℕ} (n, p) (m, q)
      by (inl x) = absurd (g p n x b)
      by (inr (inl x)) = pair n m p q (one_number q n m (subst (λ (y : ℕ). Breaks os y n) x b) c) x
      by (inr (inr x)) = absurd (f q m x c)
  same r t (wrong n p l b f) (open_left q g c h) = absurd (g p n l b)
  same r t (open_left p f c g) (fine k) = absurd (kept_closed p k c)
  same r t (open_left p f c g) (wrong m q h b k) = absurd (f q m h b)
  same r t (open_left p f c g) (open_left q h d k) = by (which p q)
    where
      by : (p < q) ⊎ ((p ≡ q) ⊎ (q < p)) → ◌≡◌ {A = ℕ × ℕ} (13, p) (13, q)
      by (inl x) = absurd (k p x c)
      by (inr (inl x)) = pair 13 13 p q refl x
      by (inr (inr x)) = absurd (g q x d)

  zero_keeps : (r : ℕ × ℕ) → Says os r → r.0 ≡ 0 → KeepsRules os
  zero_keeps r (fine k) e = k
  zero_keeps r (wrong n p l (no_end a b) f) e = absurd (omega arith)
  zero_keeps r (wrong n p l (no_else a b) f) e = absurd (omega arith)
  zero_keeps r (wrong n p l (few a b c) f) e = absurd (omega arith)
  zero_keeps r (open_left p f c g) e = absurd (omega arith)

  -- the check passes exactly the patches that keep its rules
  pub passes : (number_of (check os) ≡ 0) ↔ KeepsRules os
  passes =
      (zero_keeps (answer (check os)) (check_says os), λ k. ap (λ (r : ℕ × ℕ). r.0) (same (answer (check os)) (0, length os) (check_says os) (fine k)))
