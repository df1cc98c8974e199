-- The bodies seen, as flags by number: setting a flag enters its number, and the flags say which numbers are taken. Assumes nothing.
use Prim.Native.Nat.{ℕ, zero, suc, ◌+◌, ◌≤◌, ◌<◌}
use native.Mathlib.Nat.{not-suc-le-zero, le_of_suc-le-suc, add-zero}
use native.Mathlib.Omega.{arith}
use borrow.Author.Tests.{lt-ltb, le-ltb, eq-eqb, ne_eqb}
use mathlib.Core.Path.{◌≡◌, refl, ap, sym, ◌∙◌}
use mathlib.Core.Bool.{Bool, true, false, cond}
use mathlib.Core.List.{List, [], ◌∷◌}
use lib.ListN.{length, get_or, set, drop, replicate}
use lib.Seq.{drop-cons}
use Rattle.machine_model.specs.Step.{enter}
use Rattle.machine_model.specs.Formed.{Each}
use Rattle.machine_model.proofs.Each.{each_to}
use Rattle.flattening.specs.Flatten.{has, others}
use Rattle.flattening.specs.Scope.{listed}

-- ---- what is listed from p on is not below p

pub listed_above : (p : ℕ) (ts : List Bool) → Each (λ y. p ≤ y) (listed p ts)
unfolding listed
listed_above p [] = tt
listed_above p (t ∷ ts) = by t (each_to (λ y. suc p ≤ y) (λ y. p ≤ y) (λ y h. omega arith) (listed (suc p) ts) (listed_above (suc p) ts))
  where
    by : (b : Bool) → Each (λ y. p ≤ y) (listed (suc p) ts) → Each (λ y. p ≤ y) (cond b (p ∷ listed (suc p) ts) (listed (suc p) ts))
    by true e = (omega arith, e)
    by false e = e

later : (p : ℕ) (ts : List Bool) → Each (λ y. p < y) (listed (suc p) ts)
later p ts = each_to (λ y. suc p ≤ y) (λ y. p < y) (λ y h. omega arith) (listed (suc p) ts) (listed_above (suc p) ts)

enter_front : (p : ℕ) (ys : List ℕ) → Each (λ y. p < y) ys → enter p ys ≡ p ∷ ys
unfolding enter
enter_front p [] e = refl
enter_front p (y ∷ ys) e = rw (lt-ltb p y e.0) refl

pub has_none : (p : ℕ) (ys : List ℕ) → Each (λ y. p < y) ys → has p ys ≡ false
has_none p [] e = refl
has_none p (y ∷ ys) e = rw (ne_eqb p y (λ z. omega (arith, e.0)), has_none p ys e.1) refl

-- ---- one flag

pub flag_enter : (ts : List Bool) (p j : ℕ) → j < length ts → listed p (set ts j true) ≡ enter (p + j) (listed p ts)
unfolding listed enter
flag_enter [] p j h = absurd (not-suc-le-zero h)
flag_enter (t ∷ ts) p zero h = by t
  where
    by : (b : Bool) → p ∷ listed (suc p) ts ≡ enter (p + 0) (cond b (p ∷ listed (suc p) ts) (listed (suc p) ts))
    by true = rw (add-zero p, le-ltb p p (omega arith), eq-eqb p p refl) refl
    by false = rw (add-zero p) (sym (enter_front p (listed (suc p) ts) (later p ts)))
flag_enter (t ∷ ts) p (suc j) h = by t (flag_enter ts (suc p) j (le_of_suc-le-suc h))
  where
    q : suc p + j ≡ p + suc j
    q = omega arith

    by : (b : Bool) → listed (suc p) (set ts j true) ≡ enter (suc p + j) (listed (suc p) ts)
        → cond b (p ∷ listed (suc p) (set ts j true)) (listed (suc p) (set ts j true)) ≡ enter (p + suc j) (cond b (p ∷ listed (suc p) ts) (listed (suc p) ts))
    by false e = e ∙ ap (λ (k : ℕ). enter k (listed (suc p) ts)) q
    by true e =
        rw (le-ltb (p + suc j) p (omega arith), ne_eqb (p + suc j) p (λ z. omega arith))
        (ap (λ (l : List ℕ). p ∷ l) (e ∙ ap (λ (k : ℕ). enter k (listed (suc p) ts)) q))

pub flag_has : (ts : List Bool) (p j : ℕ) → has (p + j) (listed p ts) ≡ get_or ts j false
unfolding listed
flag_has [] p j = refl
flag_has (t ∷ ts) p zero = by t
  where
    by : (b : Bool) → has (p + 0) (cond b (p ∷ listed (suc p) ts) (listed (suc p) ts)) ≡ b
    by true = rw (add-zero p, eq-eqb p p refl) refl
    by false = rw (add-zero p) (has_none p (listed (suc p) ts) (later p ts))
flag_has (t ∷ ts) p (suc j) = by t (flag_has ts (suc p) j)
  where
    q : suc p + j ≡ p + suc j
    q = omega arith

    by : (b : Bool) → has (suc p + j) (listed (suc p) ts) ≡ get_or ts j false
        → has (p + suc j) (cond b (p ∷ listed (suc p) ts) (listed (suc p) ts)) ≡ get_or ts j false
    by false e = ap (λ (k : ℕ). has k (listed (suc p) ts)) (sym q) ∙ e
    by true e = rw (ne_eqb (p + suc j) p (λ z. omega arith)) (ap (λ (k : ℕ). has k (listed (suc p) ts)) (sym q) ∙ e)

pub flag_count : (ts : List Bool) (p j : ℕ) → j < length ts → length (listed p (set ts j true)) ≡ length (listed p ts) + cond (get_or ts j false) 0 1
unfolding listed
flag_count [] p j h = absurd (not-suc-le-zero h)
flag_count (t ∷ ts) p zero h = by t
  where
    by : (b : Bool) → suc (length (listed (suc p) ts)) ≡ length (cond b (p ∷ listed (suc p) ts) (listed (suc p) ts)) + cond b 0 1
    by true = omega arith
    by false = omega arith
flag_count (t ∷ ts) p (suc j) h = by t (flag_count ts (suc p) j (le_of_suc-le-suc h))
  where
    by : (b : Bool) → length (listed (suc p) (set ts j true)) ≡ length (listed (suc p) ts) + cond (get_or ts j false) 0 1
        → length (cond b (p ∷ listed (suc p) (set ts j true)) (listed (suc p) (set ts j true))) ≡ length (cond b (p ∷ listed (suc p) ts) (listed (suc p) ts)) + cond (get_or ts j false) 0 1
    by true e = omega (arith, e)
    by false e = e

-- ---- no flag, and the flags from a number on

pub listed_none : (n p : ℕ) → listed p (replicate n false) ≡ []
unfolding listed
listed_none zero p = refl
listed_none (suc n) p = listed_none n (suc p)

others_same : (xs : List ℕ) → Each (λ y. 0 < y) xs → others xs ≡ xs
others_same [] e = refl
others_same (zero ∷ xs) e = absurd (omega (arith, e.0))
others_same (suc x ∷ xs) e = refl

-- the functions' bodies: the flags from 1 on
pub others_listed : (ts : List Bool) → 0 < length ts → others (listed 0 ts) ≡ listed 1 (drop 1 ts)
unfolding listed
others_listed [] h = absurd (not-suc-le-zero h)
others_listed (t ∷ ts) h = by t
  where
    by : (b : Bool) → others (cond b (0 ∷ listed 1 ts) (listed 1 ts)) ≡ listed 1 ts
    by true = refl
    by false = others_same (listed 1 ts) (later 0 ts)

module _ (ts : List Bool) (b : ℕ) (h : b < length ts) where
  pub listed_over : get_or ts b false ≡ false → listed b (drop b ts) ≡ listed (suc b) (drop (suc b) ts)
  unfolding listed
  listed_over e = rw (drop-cons ts b false h, e) refl

  pub listed_at : get_or ts b false ≡ true → listed b (drop b ts) ≡ b ∷ listed (suc b) (drop (suc b) ts)
  unfolding listed
  listed_at e = rw (drop-cons ts b false h, e) refl
