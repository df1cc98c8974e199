-- The places of the Function marks, found in one pass: the k-th of them is what the search for the k-th mark finds. Assumes nothing.
use mathlib.Core.Path.{◌≡◌, ◌∙◌, refl, ap, sym, subst}
use mathlib.Core.Bool.{Bool, true, false}
use mathlib.Core.List.{List, [], ◌∷◌, ◌++◌, map}
use Prim.Native.Nat.{ℕ, zero, suc, ◌+◌, ◌-◌, ◌≤◌, ◌<◌}
use native.Mathlib.Omega.{arith}
use native.Mathlib.Nat.{sub-zero}
use lib.Dec.{leb, eqb}
use lib.ListN.{length, get_or, set, take, drop, length-append, length-map, get_or-map, drop_of_length-le}
use lib.Seq.{drop-cons, take_all, length-take-le}
use borrow.Author.Tests.{leb-true, leb-false, eqb-true}
use Rattle.basics.specs.Pick.{pick}
use Rattle.basics.proofs.Tests.{by_case}
use Rattle.machine_model.specs.Scan.{places_from}
use Rattle.machine_model.specs.Limited.{count}
use Rattle.machine_model.proofs.Scans.{nth_inside, nth_outside, kth_nth}
use Rattle.partners.specs.Columns.{row_function, place, mark_of, functions_of, fill_end, nth_of}
use Rattle.partners.specs.Pass.{Entered, entered_of}

-- ---- the k-th of them

-- the k-th of the marks' places is what the search for the k-th mark finds
pub nth_mark : (ks : List ℕ) (k : ℕ) → nth_of k (functions_of ks) ≡ mark_of ks k
unfolding nth_of pick functions_of mark_of
nth_mark ks k =
    let found = ap place (kth_nth 0 k (map row_function ks)) in
    by_case (leb (length (functions_of ks)) k)
    (λ e. rw e (sym (found ∙ ap place (nth_outside k (functions_of ks) (leb-true (length (functions_of ks)) k e)))))
    (λ e. rw e (sym (found ∙ ap place (nth_inside k (functions_of ks) (leb-false (length (functions_of ks)) k e)))))

pub nth_by : (ks fs : List ℕ) (k r : ℕ) → fs ≡ functions_of ks → r ≡ nth_of k fs → r ≡ mark_of ks k
nth_by ks fs k r e q = q ∙ ap (nth_of k) e ∙ nth_mark ks k

-- they are as many as the tests that are true
pub count_places : (p : ℕ) (bs : List Bool) → length (places_from p bs) ≡ count bs
count_places p [] = refl
count_places p (true ∷ bs) = ap suc (count_places (suc p) bs)
count_places p (false ∷ bs) = count_places (suc p) bs

-- of those that there are, a place of the patch
places_inside : (p : ℕ) (bs : List Bool) (k : ℕ) → k < length (places_from p bs) → get_or (places_from p bs) k 0 < p + length bs
places_inside p [] k h = absurd (omega arith)
places_inside p (true ∷ bs) zero h = omega arith
places_inside p (true ∷ bs) (suc k) h = omega (arith, places_inside (suc p) bs k (omega arith))
places_inside p (false ∷ bs) k h = omega (arith, places_inside (suc p) bs k h)

pub mark_inside : (ks fs : List ℕ) (k : ℕ) → fs ≡ functions_of ks → k < length fs → (mark_of ks k ≡ get_or fs k 0) × (mark_of ks k < length ks)
unfolding functions_of mark_of
mark_inside ks fs k e h =
    let l : k < length (functions_of ks) = rw e at h in
    let is : mark_of ks k ≡ get_or (functions_of ks) k 0 = ap place (kth_nth 0 k (map row_function ks) ∙ nth_inside k (functions_of ks) l) in
    (rw e is, omega (arith, is, places_inside 0 (map row_function ks) k l, length-map ks row_function))

-- ---- the pass

-- the places of the marks from i on
abbrev pub places_at : List ℕ → ℕ → List ℕ
places_at ks i = places_from i (drop i (map row_function ks))

more_before : (p q i : ℕ) (bs : List Bool) → length (places_from q (drop i bs)) ≤ length (places_from p bs)
more_before p q zero [] = omega arith
more_before p q zero (true ∷ bs) = omega (arith, more_before (suc p) (suc q) zero bs)
more_before p q zero (false ∷ bs) = more_before (suc p) (suc q) zero bs
more_before p q (suc i) [] = omega arith
more_before p q (suc i) (true ∷ bs) = omega (arith, more_before (suc p) q i bs)
more_before p q (suc i) (false ∷ bs) = more_before (suc p) q i bs

set_last : (xs ys : List ℕ) (m v : ℕ) → m < length xs → set (take (suc m) xs ++ ys) m v ≡ take m xs ++ (v ∷ ys)
set_last [] ys m v h = absurd (omega arith)
set_last (x ∷ xs) ys zero v h = refl
set_last (x ∷ xs) ys (suc m) v h = ap (λ (l : List ℕ). x ∷ l) (set_last xs ys m v (omega arith))

-- one more before those that stand at the end
fill_before : (ys old : List ℕ) (m v : ℕ) → suc m + length ys ≡ length old → set (fill_end ys old) m v ≡ fill_end (v ∷ ys) old
unfolding fill_end
fill_before ys old m v e =
    let a : length old - length ys ≡ suc m = omega arith in
    let b : length old - suc (length ys) ≡ m = omega arith in
    rw (a, b) (set_last old ys m v (omega arith))

-- what holds at place i: the marks from it on stand at the end, from m on
pub record Marks (ks old : List ℕ) (i m : ℕ) (fs : List ℕ) : Type 0 where
  pub many : m + length (places_at ks i) ≡ length old
  pub written : fs ≡ fill_end (places_at ks i) old

pub long : (ks old : List ℕ) (i m : ℕ) (fs : List ℕ) → Marks ks old i m fs → length fs ≡ length old
unfolding fill_end
long ks old i m fs h =
    let n = length old - length (places_at ks i) in
    ap (λ (l : List ℕ). length l) h.written
    ∙ length-append (take n old) (places_at ks i)
    ∙ omega (arith, length-take-le n old (omega arith), h.many)

module _ (ks old : List ℕ) where
  pub marks_first : (m : ℕ) → length old ≡ m → Marks ks old (length ks) m old
  unfolding fill_end
  marks_first m e =
      let z : drop (length ks) (map row_function ks) ≡ [] = drop_of_length-le (map row_function ks) {i = length ks} (omega (arith, length-map ks row_function)) in
      record {
        many = rw z (omega (arith, e));
        written = rw (z, sub-zero (length old)) (sym (append_none (take (length old) old) ∙ take_all (length old) old (omega arith)));
      }
    where
      append_none : (l : List ℕ) → l ++ [] ≡ l
      append_none [] = refl
      append_none (x ∷ l) = ap (λ (z : List ℕ). x ∷ z) (append_none l)

  module _ (i : ℕ) (here : i < length ks) where
    next_places : places_at ks i ≡ places_from i (row_function (get_or ks i 0) ∷ drop (suc i) (map row_function ks))
    unfolding row_function
    next_places =
        ap (places_from i)
        (drop-cons (map row_function ks) i false (omega (arith, here, length-map ks row_function))
        ∙ ap (λ (b : Bool). b ∷ drop (suc i) (map row_function ks)) (get_or-map row_function ks i 0))

    -- there is room for a Function
    pub marks_room : (m : ℕ) (fs : List ℕ) → length (functions_of ks) ≤ length old → Marks ks old (suc i) m fs → get_or ks i 0 ≡ 2 → 0 < m
    unfolding functions_of row_function
    marks_room m fs room h e =
        let n : places_at ks i ≡ i ∷ places_at ks (suc i) = next_places ∙ rw e refl in
        let l : length (places_at ks i) ≡ suc (length (places_at ks (suc i))) = ap (λ (x : List ℕ). length x) n in
        omega (arith, l, h.many, room, more_before 0 i i (map row_function ks))

    -- the op at i, as the code enters it
    pub marks_on : (m : ℕ) (fs : List ℕ) → length (functions_of ks) ≤ length old → Marks ks old (suc i) m fs
        → (q : Entered) → q ≡ entered_of (get_or ks i 0) i m fs → Marks ks old i q.first q.marks
    unfolding entered_of pick row_function
    marks_on m fs room h q s =
        by_case (eqb (get_or ks i 0) 2)
        (λ e. let n : places_at ks i ≡ i ∷ places_at ks (suc i) = next_places ∙ rw e refl in
        let z : 0 < m = marks_room m fs room h (eqb-true (get_or ks i 0) 2 e) in
        let w : suc (m - 1) + length (places_at ks (suc i)) ≡ length old = omega (arith, z, h.many) in
        rw (s, e) (record {
          many = rw n (omega (arith, z, h.many));
          written = rw (n, h.written) (fill_before (places_at ks (suc i)) old (m - 1) i w);
        }))
        (λ e. let n : places_at ks i ≡ places_at ks (suc i) = next_places ∙ rw e refl in
        rw (s, e) (record { many = rw n h.many; written = rw n h.written }))

  -- what a turn asks, and what it leaves
  module _ (i m : ℕ) (fs : List ℕ) (z : 0 < i) (within : i ≤ length ks) (room : length (functions_of ks) ≤ length old) (h : Marks ks old i m fs) where
    back : Marks ks old (suc (i - 1)) m fs
    back = let e : i ≡ suc (i - 1) = omega (arith, z) in subst (λ (x : ℕ). Marks ks old x m fs) e h

    pub mark_asks : get_or ks (i - 1) 0 ≡ 2 → 0 < m
    mark_asks e = marks_room (i - 1) (omega (arith, z, within)) m fs room back e

    pub marks_turn : (q : Entered) → q ≡ entered_of (get_or ks (i - 1) 0) (i - 1) m fs → Marks ks old (i - 1) q.first q.marks
    marks_turn q s = marks_on (i - 1) (omega (arith, z, within)) m fs room back q s

  -- after the last turn
  pub marks_last : (i m : ℕ) (fs : List ℕ) → i ≡ 0 → Marks ks old i m fs → (m + length (functions_of ks) ≡ length old) × (fs ≡ fill_end (functions_of ks) old)
  unfolding functions_of
  marks_last i m fs z h = let k : Marks ks old 0 m fs = subst (λ (x : ℕ). Marks ks old x m fs) z h in (k.many, k.written)
