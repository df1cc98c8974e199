-- Which mark a Call means: in either mode a mark of the patch, which a table that has it keeps as it is; and the list of a patch's marks: a rising table
-- that holds every one is that list. Assumes nothing.
use Prim.Native.Nat.{ℕ, zero, suc, ◌+◌, ◌≤◌, ◌<◌}
use native.Mathlib.Omega.{arith}
use borrow.Author.Tests.{ltb-true, le-ltb, eq-eqb, ne_eqb}
use mathlib.Core.Path.{◌≡◌, refl, ap, sym, subst, ◌∙◌}
use mathlib.Core.Bool.{Bool, true, false, ◌&&◌}
use mathlib.Core.List.{List, [], ◌∷◌}
use mathlib.Core.Logic.{inl, inr}
use mathlib.Core.Option.{some}
use lib.Dec.{ltb, eqb}
use lib.ListN.{length, get_or}
use Rattle.basics.proofs.Clash.{clash}
use Rattle.basics.proofs.Tests.{by_case, and_right}
use Rattle.ops.specs.Syntax.{Op, is_function}
use Rattle.machine_model.specs.State.{rust_table}
use Rattle.machine_model.specs.Scan.{op_at, functions, kth, places_from, marks}
use Rattle.machine_model.specs.Step.{pick, routine, enter}
use Rattle.machine_model.specs.Formed.{Each, Rising}
use Rattle.machine_model.specs.Modes.{In}
use Rattle.machine_model.proofs.Each.{each_at, each_to}
use Rattle.machine_model.proofs.Scans.{functions_at, kth_is, nth, nth_inside, kth_nth}

-- ---- a mark of the patch

pub routine_is : (os : List Op) (mode : ℕ) (ts : List ℕ) (k : ℕ) → Each (λ m. is_function (op_at os m) ≡ true) ts
    → (m : ℕ) → routine mode ts os k ≡ some m → is_function (op_at os m) ≡ true
unfolding routine pick
routine_is os mode ts k a m = by (eqb mode rust_table && ltb k (length ts)) refl
  where
    by : (b : Bool) → (eqb mode rust_table && ltb k (length ts)) ≡ b → pick b (some (get_or ts k 0)) (kth 0 k (functions os)) ≡ some m → is_function (op_at os m) ≡ true
    by true e q =
        let i : get_or ts k 0 ≡ m = cc in
        subst (λ (j : ℕ). is_function (op_at os j) ≡ true) i (each_at (λ j. is_function (op_at os j) ≡ true) ts k (ltb-true _ _ (and_right (eqb mode rust_table) _ e)) a)
    by false e q = kth_is os k m q

-- ---- what is in a list

pub in_at : (ts : List ℕ) (k : ℕ) → k < length ts → In (get_or ts k 0) ts
in_at [] k h = absurd (omega arith)
in_at (t ∷ ts) zero h = inl refl
in_at (t ∷ ts) (suc k) h = inr (in_at ts k (omega arith))

pub each_in : (P : ℕ → Type 0) (m : ℕ) (ts : List ℕ) → Each P ts → In m ts → P m
each_in P m [] a i = absurd i
each_in P m (t ∷ ts) a (inl e) = subst P e a.0
each_in P m (t ∷ ts) a (inr i) = each_in P m ts a.1 i

-- entering what is in a rising table changes nothing
pub entry_stays : (m : ℕ) (ts : List ℕ) → Rising ts → In m ts → enter m ts ≡ ts
unfolding enter
entry_stays m [] r i = absurd i
entry_stays m (t ∷ ts) r (inl e) = rw (le-ltb m t (omega arith), eq-eqb m t (sym e)) refl
entry_stays m (t ∷ ts) r (inr i) =
    let l : t < m = each_in (λ y. t < y) m ts r.0 i in
    rw (le-ltb m t (omega arith), ne_eqb m t (λ e. omega arith)) (ap (λ (z : List ℕ). t ∷ z) (entry_stays m ts r.1 i))

-- ---- two rising lists, each in the other, are one

after : (x : ℕ) (xs ys : List ℕ) → Each (λ z. x < z) xs → Each (λ z. In z (x ∷ ys)) xs → Each (λ z. In z ys) xs
after x [] ys r a = tt
after x (z ∷ xs) ys r a = (by a.0, after x xs ys r.1 a.1)
  where
    by : In z (x ∷ ys) → In z ys
    by (inl e) = absurd (omega (arith, r.0))
    by (inr i) = i

first_same : (x y : ℕ) (xs ys : List ℕ) → Rising (x ∷ xs) → Rising (y ∷ ys) → In x (y ∷ ys) → In y (x ∷ xs) → x ≡ y
first_same x y xs ys r q (inl e) j = sym e
first_same x y xs ys r q (inr i) (inl e) = e
first_same x y xs ys r q (inr i) (inr j) =
    let a : y < x = each_in (λ z. y < z) x ys q.0 i in
    let b : x < y = each_in (λ z. x < z) y xs r.0 j in
    absurd (omega arith)

same_rising : (xs ys : List ℕ) → Rising xs → Rising ys → Each (λ x. In x ys) xs → Each (λ y. In y xs) ys → xs ≡ ys
same_rising [] [] r q a b = refl
same_rising [] (y ∷ ys) r q a b = absurd b.0
same_rising (x ∷ xs) [] r q a b = absurd a.0
same_rising (x ∷ xs) (y ∷ ys) r q a b =
    let e = first_same x y xs ys r q a.0 b.0 in
    let a' = after x xs ys r.0 (subst (λ (w : ℕ). Each (λ z. In z (w ∷ ys)) xs) (sym e) a.1) in
    let b' = after x ys xs (subst (λ (w : ℕ). Each (λ z. w < z) ys) (sym e) q.0) b.1 in
    ap (λ (z : ℕ). z ∷ xs) e ∙ ap (λ (z : List ℕ). y ∷ z) (same_rising xs ys r.1 q.1 a' b')

-- ---- the list of the marks

not_before : (p : ℕ) (bs : List Bool) → Each (λ m. p ≤ m) (places_from p bs)
not_before p [] = tt
not_before p (true ∷ bs) = (omega arith, each_to (λ m. suc p ≤ m) (λ m. p ≤ m) (λ m h. omega arith) (places_from (suc p) bs) (not_before (suc p) bs))
not_before p (false ∷ bs) = each_to (λ m. suc p ≤ m) (λ m. p ≤ m) (λ m h. omega arith) (places_from (suc p) bs) (not_before (suc p) bs)

places_rise : (p : ℕ) (bs : List Bool) → Rising (places_from p bs)
places_rise p [] = tt
places_rise p (true ∷ bs) = (each_to (λ m. suc p ≤ m) (λ m. p < m) (λ m h. omega arith) (places_from (suc p) bs) (not_before (suc p) bs), places_rise (suc p) bs)
places_rise p (false ∷ bs) = places_rise (suc p) bs

place_in : (p i : ℕ) (bs : List Bool) → get_or bs i false ≡ true → In (p + i) (places_from p bs)
place_in p i [] e = clash (cc)
place_in p zero (true ∷ bs) e = inl (omega arith)
place_in p zero (false ∷ bs) e = clash (cc)
place_in p (suc i) (true ∷ bs) e = inr (subst (λ (m : ℕ). In m (places_from (suc p) bs)) (omega arith) (place_in (suc p) i bs e))
place_in p (suc i) (false ∷ bs) e = subst (λ (m : ℕ). In m (places_from (suc p) bs)) (omega arith) (place_in (suc p) i bs e)

pub mark_in : (os : List Op) (m : ℕ) → is_function (op_at os m) ≡ true → In m (marks os)
mark_in os m e = subst (λ (i : ℕ). In i (marks os)) (omega arith) (place_in 0 m (functions os) (functions_at os m ∙ e))

-- a rising table of marks that has every one is their list
pub full_table : (os : List Op) (ts : List ℕ) → Rising ts → Each (λ m. is_function (op_at os m) ≡ true) ts → Each (λ m. In m ts) (marks os) → ts ≡ marks os
full_table os ts r a h =
    same_rising ts (marks os) r (places_rise 0 (functions os)) (each_to (λ m. is_function (op_at os m) ≡ true) (λ m. In m (marks os)) (mark_in os) ts a) h

-- ---- the two modes

-- by mark: the k-th of the list, or none
pub by_mark_nth : (mode : ℕ) (ts : List ℕ) (os : List Op) (k : ℕ) → eqb mode rust_table ≡ false → routine mode ts os k ≡ nth k (marks os)
unfolding routine pick
by_mark_nth mode ts os k e = rw e (kth_nth 0 k (functions os))

-- and in any mode where the table holds every mark
pub full_nth : (mode : ℕ) (ts : List ℕ) (os : List Op) (k : ℕ) → ts ≡ marks os → routine mode ts os k ≡ nth k (marks os)
unfolding routine pick
full_nth mode ts os k e =
    by_case (eqb mode rust_table && ltb k (length ts))
    (λ h. rw h (ap (λ (l : List ℕ). some (get_or l k 0)) e ∙ sym (nth_inside k (marks os) (subst (λ (l : List ℕ). k < length l) e (ltb-true _ _ (and_right (eqb mode rust_table) _ h))))))
    (λ h. rw h (kth_nth 0 k (functions os)))
