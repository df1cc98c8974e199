-- The function table: entering a place keeps it rising, and a rising table of marks is no longer than there are marks. Assumes nothing.
use Prim.Native.Nat.{ℕ, suc, ◌-◌, ◌≤◌, ◌<◌}
use native.Mathlib.Nat.{sub-zero}
use native.Mathlib.Omega.{arith}
use borrow.Author.Tests.{ltb-true, ltb-false, eqb-true, eqb-false}
use mathlib.Core.Path.{◌≡◌, refl, ap, sym, ◌∙◌}
use mathlib.Core.Bool.{Bool, true, false, cond}
use mathlib.Core.List.{List, [], ◌∷◌}
use lib.Dec.{ltb, eqb}
use lib.ListN.{length, get_or}
use Rattle.basics.proofs.Clash.{clash}
use Rattle.machine_model.specs.State.{Given}
use Rattle.machine_model.specs.Scan.{functions}
use Rattle.machine_model.specs.Step.{enter}
use Rattle.machine_model.specs.Formed.{Each, Rising, Marked}
use Rattle.machine_model.specs.Limited.{count}
use Rattle.machine_model.proofs.Each.{each_to}
use Rattle.machine_model.proofs.Scans.{functions_at}

pub each_enter : (P : ℕ → Type 0) (p : ℕ) (xs : List ℕ) → P p → Each P xs → Each P (enter p xs)
unfolding enter
each_enter P p [] h a = (h, tt)
each_enter P p (q ∷ qs) h a = by (ltb p q) (eqb p q) (each_enter P p qs h a.1)
  where
    by : (b c : Bool) → Each P (enter p qs) → Each P (cond b (p ∷ q ∷ qs) (cond c (q ∷ qs) (q ∷ enter p qs)))
    by true c tail = (h, a)
    by false true tail = a
    by false false tail = (a.0, tail)

pub rising_enter : (p : ℕ) (xs : List ℕ) → Rising xs → Rising (enter p xs)
unfolding enter
rising_enter p [] r = (tt, tt)
rising_enter p (q ∷ qs) r = by (rising_enter p qs r.1) (ltb p q) (eqb p q) refl refl
  where
    by : Rising (enter p qs) → (b c : Bool) → ltb p q ≡ b → eqb p q ≡ c → Rising (cond b (p ∷ q ∷ qs) (cond c (q ∷ qs) (q ∷ enter p qs)))
    by tail true c e f =
        let l : p < q = ltb-true p q e in
        ((l, each_to (λ y. q < y) (λ y. p < y) (λ y h. omega arith) qs r.0), r)
    by tail false true e f = r
    by tail false false e f =
        let h : q ≤ p = ltb-false p q e in
        let n : p ≡ q → ⊥ = eqb-false p q f in
        (each_enter (λ y. q < y) p qs (omega arith) r.0, tail)

-- ---- no more entries than marks

-- the test of the place t in a list whose first is at p, where t is not before p
abbrev Told : List Bool → ℕ → ℕ → Type 0
Told bs p t = (p ≤ t) × (get_or bs (t - p) false ≡ true)

told_on : (b : Bool) (bs : List Bool) (p t : ℕ) → p < t → get_or (b ∷ bs) (t - p) false ≡ true → Told bs (suc p) t
told_on b bs p t l e =
    let q : t - p ≡ suc (t - suc p) = omega arith in
    (l, sym (ap (λ (i : ℕ). get_or (b ∷ bs) i false) q) ∙ e)

count_on : (b : Bool) (bs : List Bool) → count bs ≤ count (b ∷ bs)
count_on true bs = omega arith
count_on false bs = omega arith

told_all : (b : Bool) (bs : List Bool) (p t : ℕ) (ts : List ℕ) → p ≤ t → Each (λ y. t < y) ts → Each (Told (b ∷ bs) p) ts → Each (Told bs (suc p)) ts
told_all b bs p t [] l r a = tt
told_all b bs p t (x ∷ ts) l r a = (told_on b bs p x (omega (arith, r.0)) a.0.1, told_all b bs p t ts l r.1 a.1)

count_first : (b : Bool) (bs : List Bool) → b ≡ true → suc (count bs) ≤ count (b ∷ bs)
count_first true bs e = omega arith
count_first false bs e = clash (cc)

told_few : (bs : List Bool) (p : ℕ) (ts : List ℕ) → Rising ts → Each (Told bs p) ts → length ts ≤ count bs
told_few bs p [] r a = omega arith
told_few [] p (t ∷ ts) r a = clash (let e : get_or [] (t - p) false ≡ true = a.0.1 in cc)
told_few (b ∷ bs) p (t ∷ ts) r a = by (eqb t p) refl (told_few bs (suc p) ts r.1 rest) (told_few bs (suc p) (t ∷ ts) r)
  where
    rest : Each (Told bs (suc p)) ts
    rest = told_all b bs p t ts a.0.0 r.0 a.1

    by : (c : Bool) → eqb t p ≡ c → length ts ≤ count bs → (Each (Told bs (suc p)) (t ∷ ts) → suc (length ts) ≤ count bs) → suc (length ts) ≤ count (b ∷ bs)
    by true e few more =
        let q : t ≡ p = eqb-true t p e in
        let z : t - p ≡ 0 = omega arith in
        omega (arith, count_first b bs (sym (ap (λ (i : ℕ). get_or (b ∷ bs) i false) z) ∙ a.0.1))
    by false e few more =
        let n : t ≡ p → ⊥ = eqb-false t p e in
        let l : p ≤ t = a.0.0 in
        let m : p < t = omega arith in
        omega (arith, more (told_on b bs p t m a.0.1, rest), count_on b bs)

-- a rising list of marks is no longer than there are marks
pub marks_few : (g : Given) (ts : List ℕ) → Rising ts → Each (Marked g) ts → length ts ≤ count (functions g.ops)
marks_few g ts r m =
    told_few (functions g.ops) 0 ts r
    (each_to (Marked g) (Told (functions g.ops) 0) (λ t e. (omega arith, ap (λ (i : ℕ). get_or (functions g.ops) i false) (sub-zero t) ∙ functions_at g.ops t ∙ e)) ts m)
