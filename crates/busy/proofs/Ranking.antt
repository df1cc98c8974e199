-- The laws of the busy list: it falls, each of its ops is a counted one, none stands twice, and what is left out is not busier. Assumes nothing.
use mathlib.Core.Path.{◌≡◌, ◌∙◌, refl, sym, ap, subst}
use mathlib.Core.Bool.{Bool, true, false, cond, true≢false}
use mathlib.Core.List.{List, [], ◌∷◌}
use mathlib.Core.Logic.{◌⊎◌, inl, inr, ⊎_elim}
use Prim.Native.Nat.{ℕ, zero, suc, ◌+◌, ◌-◌, ◌≤◌, ◌<◌}
use native.Mathlib.Nat.{add-zero}
use native.Mathlib.Omega.{arith}
use lib.Dec.{ltb, eqb}
use lib.ListN.{length, get_or, take, length-take}
use borrow.Author.Tests.{ltb-true, ltb-false, lt-ltb, le-ltb, ne_eqb}
use Rattle.busy.specs.declared.busiest.Op.{Op}
use Rattle.busy.specs.Busiest.{op, busier, first_of, other_of, insert, with_op, ranked, busiest_of}
use Rattle.busy.specs.Order.{Each, Has, Falling, Once}

-- ---- the order

abbrev Leads : Op → Op → Type 0
Leads a b = (b.count < a.count) ⊎ ((a.count ≡ b.count) × (a.place < b.place))

leads : (a b : Op) → busier a b ≡ true → Leads a b
unfolding busier
leads a b = go (ltb b.count a.count) (ltb a.count b.count) refl refl
  where
    go : (t u : Bool) → ltb b.count a.count ≡ t → ltb a.count b.count ≡ u → cond t true (cond u false (ltb a.place b.place)) ≡ true → Leads a b
    go true u e f h = inl (ltb-true b.count a.count e)
    go false true e f h = absurd (true≢false (sym h))
    go false false e f h = inr (omega (arith, ltb-false b.count a.count e, ltb-false a.count b.count f), ltb-true a.place b.place h)

led : (a b : Op) → Leads a b → busier a b ≡ true
unfolding busier
led a b (inl h) = rw (lt-ltb b.count a.count h) refl
led a b (inr h) =
    let x : a.count ≤ b.count = omega (arith, h.0) in
    let y : b.count ≤ a.count = omega (arith, h.0) in
    rw (le-ltb b.count a.count x, le-ltb a.count b.count y) (lt-ltb a.place b.place h.1)

leads_on : (a b c : Op) → Leads a b → Leads b c → Leads a c
leads_on a b c (inl h) (inl k) = inl (omega arith)
leads_on a b c (inl h) (inr k) = inl (omega (arith, h, k.0))
leads_on a b c (inr h) (inl k) = inl (omega (arith, k, h.0))
leads_on a b c (inr h) (inr k) = inr (h.0 ∙ k.0, omega (arith, h.1, k.1))

busier_on : (a b c : Op) → busier a b ≡ true → busier b c ≡ true → busier a c ≡ true
busier_on a b c h k = led a c (leads_on a b c (leads a b h) (leads b c k))

-- one of two ops at two places stands before the other
abbrev Ordered : Op → Op → Type 0
Ordered a b = (busier a b ≡ true) ⊎ (busier b a ≡ true)

ordered : (a b : Op) → a.place < b.place → Ordered a b
ordered a b h = go (ltb a.count b.count) refl
  where
    go : (t : Bool) → ltb a.count b.count ≡ t → Ordered a b
    go true e = inr (led b a (inl (ltb-true a.count b.count e)))
    go false e = inl (led a b (low (ltb b.count a.count) refl))
      where
        low : (u : Bool) → ltb b.count a.count ≡ u → Leads a b
        low true f = inl (ltb-true b.count a.count f)
        low false f = inr (omega (arith, ltb-false a.count b.count e, ltb-false b.count a.count f), h)

-- ---- every op of a list

each_on : (P Q : Op → Type 0) → ((y : Op) → P y → Q y) → (l : List Op) → Each P l → Each Q l
each_on P Q f [] e = tt
each_on P Q f (y ∷ ys) e = (f y e.0, each_on P Q f ys e.1)

each_take : (P : Op → Type 0) (n : ℕ) (l : List Op) → Each P l → Each P (take n l)
each_take P zero l e = tt
each_take P (suc n) [] e = tt
each_take P (suc n) (y ∷ ys) e = (e.0, each_take P n ys e.1)

each_has : (P : Op → Type 0) (x : Op) (l : List Op) → Each P l → Has x l → P x
each_has P x [] e h = absurd h
each_has P x (y ∷ ys) e (inl h) = subst P (sym h) e.0
each_has P x (y ∷ ys) e (inr h) = each_has P x ys e.1 h

each_insert : (P : Op → Type 0) (x : Op) (l : List Op) → P x → Each P l → Each P (insert x l)
unfolding insert first_of other_of
each_insert P x [] h e = (h, tt)
each_insert P x (y ∷ ys) h e = go (busier x y) (each_insert P y ys e.0 e.1) (each_insert P x ys h e.1)
  where
    go : (t : Bool) → Each P (insert y ys) → Each P (insert x ys) → P (cond t x y) × Each P (insert (cond t y x) ys)
    go true i j = (h, i)
    go false i j = (e.0, j)

each_with : (P : Op → Type 0) (p c : ℕ) (l : List Op) → (0 < c → P (op p c)) → Each P l → Each P (with_op p c l)
unfolding with_op
each_with P p c l h e = go (eqb c 0) refl
  where
    go : (t : Bool) → eqb c 0 ≡ t → Each P (cond t l (insert (op p c) l))
    go true w = e
    go false w = each_insert P (op p c) l (h (above c w)) e
      where
        above : (c : ℕ) → eqb c 0 ≡ false → 0 < c
        above zero w = absurd (true≢false w)
        above (suc c) w = omega arith

-- ---- one of a list

has_self : (x : Op) (l : List Op) → Has x (insert x l)
unfolding insert first_of other_of
has_self x [] = inl refl
has_self x (y ∷ ys) = go (busier x y) (has_self x ys)
  where
    go : (t : Bool) → Has x (insert x ys) → (x ≡ cond t x y) ⊎ Has x (insert (cond t y x) ys)
    go true i = inl refl
    go false i = inr i

has_insert : (x z : Op) (l : List Op) → Has z l → Has z (insert x l)
unfolding insert first_of other_of
has_insert x z [] h = absurd h
has_insert x z (y ∷ ys) h = go (busier x y) (has_self y ys) (λ (w : Op). has_insert w z ys) h
  where
    go : (t : Bool) → Has y (insert y ys) → ((w : Op) → Has z ys → Has z (insert w ys)) → (z ≡ y) ⊎ Has z ys
        → (z ≡ cond t x y) ⊎ Has z (insert (cond t y x) ys)
    go true s i (inl e) = inr (subst (λ (w : Op). Has w (insert y ys)) (sym e) s)
    go true s i (inr k) = inr (i y k)
    go false s i (inl e) = inl e
    go false s i (inr k) = inr (i x k)

has_with : (p c : ℕ) (z : Op) (l : List Op) → Has z l → Has z (with_op p c l)
unfolding with_op
has_with p c z l h = go (eqb c 0)
  where
    go : (t : Bool) → Has z (cond t l (insert (op p c) l))
    go true = h
    go false = has_insert (op p c) z l h

-- ---- a falling list

falling_insert : (x : Op) (l : List Op) → Each (Ordered x) l → Falling l → Falling (insert x l)
unfolding insert first_of other_of
falling_insert x [] o f = (tt, tt)
falling_insert x (y ∷ ys) o f =
    go (busier x y) refl
    (falling_insert y ys (each_on (λ (z : Op). busier y z ≡ true) (Ordered y) (λ (z : Op) (h : busier y z ≡ true). inl h) ys f.0) f.1)
    (falling_insert x ys o.1 f.1) o.0
  where
    go : (t : Bool) → busier x y ≡ t → Falling (insert y ys) → Falling (insert x ys) → Ordered x y → Falling (cond t x y ∷ insert (cond t y x) ys)
    go true e i j q = (
      each_insert (λ (z : Op). busier x z ≡ true) y ys e
          (each_on (λ (z : Op). busier y z ≡ true) (λ (z : Op). busier x z ≡ true) (λ (z : Op) (h : busier y z ≡ true). busier_on x y z e h) ys f.0),
      i,
    )
    go false e i j (inl q) = absurd (true≢false (sym q ∙ e))
    go false e i j (inr q) = (each_insert (λ (z : Op). busier y z ≡ true) x ys q f.0, j)

falling_take : (n : ℕ) (l : List Op) → Falling l → Falling (take n l)
falling_take zero l f = tt
falling_take (suc n) [] f = tt
falling_take (suc n) (y ∷ ys) f = (each_take (λ (z : Op). busier y z ≡ true) n ys f.0, falling_take n ys f.1)

-- ---- the ops of the counts

-- what an op of the list of counts from place p on is
abbrev Counted : ℕ → List ℕ → Op → Type 0
Counted p cs y = (p ≤ y.place) × (y.place < p + length cs) × (y.count ≡ get_or cs (y.place - p) 0) × (0 < y.count)

ranked_counted : (p : ℕ) (cs : List ℕ) → Each (Counted p cs) (ranked p cs)
unfolding ranked
ranked_counted p [] = tt
ranked_counted p (c ∷ cs) =
    each_with (Counted p (c ∷ cs)) p c (ranked (suc p) cs) self
    (each_on (Counted (suc p) cs) (Counted p (c ∷ cs)) on (ranked (suc p) cs) (ranked_counted (suc p) cs))
  where
    self : 0 < c → Counted p (c ∷ cs) (op p c)
    self h = let z : p - p ≡ 0 = omega arith in (omega arith, omega arith, rw z refl, h)

    on : (y : Op) → Counted (suc p) cs y → Counted p (c ∷ cs) y
    on y k =
        let z : y.place - p ≡ suc (y.place - suc p) = omega (arith, k.0) in
        (omega (arith, k.0), omega (arith, k.1), rw z k.2, k.3)

ranked_falls : (p : ℕ) (cs : List ℕ) → Falling (ranked p cs)
unfolding ranked with_op
ranked_falls p [] = tt
ranked_falls p (c ∷ cs) = go (eqb c 0) (ranked_falls (suc p) cs)
  where
    go : (t : Bool) → Falling (ranked (suc p) cs) → Falling (cond t (ranked (suc p) cs) (insert (op p c) (ranked (suc p) cs)))
    go true i = i
    go false i =
        falling_insert (op p c) (ranked (suc p) cs)
        (each_on (Counted (suc p) cs) (Ordered (op p c)) (λ (y : Op) (k : Counted (suc p) cs y). ordered (op p c) y k.0) (ranked (suc p) cs) (ranked_counted (suc p) cs))
        i

ranked_has : (p : ℕ) (cs : List ℕ) (i : ℕ) → i < length cs → 0 < get_or cs i 0 → Has (op (p + i) (get_or cs i 0)) (ranked p cs)
unfolding ranked with_op
ranked_has p [] i h k = absurd (omega arith)
ranked_has p (c ∷ cs) zero h k =
    rw (add-zero p, ne_eqb c 0 (λ (z : c ≡ 0). omega (arith, z, k))) (has_self (op p c) (ranked (suc p) cs))
ranked_has p (c ∷ cs) (suc i) h k =
    let e : suc p + i ≡ p + suc i = omega arith in
    has_with p c (op (p + suc i) (get_or cs i 0)) (ranked (suc p) cs)
    (subst (λ (j : ℕ). Has (op j (get_or cs i 0)) (ranked (suc p) cs)) e (ranked_has (suc p) cs i (omega arith) k))

-- an op of a falling list is one of its first n, or these are n and each stands before it
first_or : (n : ℕ) (x : Op) (l : List Op) → Falling l → Has x l
    → Has x (take n l) ⊎ ((length (take n l) ≡ n) × Each (λ y. busier y x ≡ true) (take n l))
first_or zero x l f h = inr (refl, tt)
first_or (suc n) x [] f h = absurd h
first_or (suc n) x (y ∷ ys) f (inl h) = inl (inl h)
first_or (suc n) x (y ∷ ys) f (inr h) =
    ⊎_elim
    (λ (k : Has x (take n ys)). inl (inr k))
    (λ (k : (length (take n ys) ≡ n) × Each (λ z. busier z x ≡ true) (take n ys)). inr (ap suc k.0, (each_has (λ (z : Op). busier y z ≡ true) x ys f.0 h, k.1)))
    (first_or n x ys f.1 h)

-- ---- the laws

-- ten at most
pub few_listed : (counts : List ℕ) → length (busiest_of counts) ≤ 10
unfolding busiest_of
few_listed counts = omega (arith, length-take 10 (ranked 0 counts))

-- sorted by count falling, then place rising
pub busiest_falls : (counts : List ℕ) → Falling (busiest_of counts)
unfolding busiest_of
busiest_falls counts = falling_take 10 (ranked 0 counts) (ranked_falls 0 counts)

-- each is an op of the patch with its count, which is not zero
pub busiest_counted : (counts : List ℕ) → Each (λ y. (y.place < length counts) × (y.count ≡ get_or counts y.place 0) × (0 < y.count)) (busiest_of counts)
unfolding busiest_of
busiest_counted counts =
    each_on (Counted 0 counts) (λ (y : Op). (y.place < length counts) × (y.count ≡ get_or counts y.place 0) × (0 < y.count)) on (take 10 (ranked 0 counts))
    (each_take (Counted 0 counts) 10 (ranked 0 counts) (ranked_counted 0 counts))
  where
    on : (y : Op) → Counted 0 counts y → (y.place < length counts) × (y.count ≡ get_or counts y.place 0) × (0 < y.count)
    on y k = let z : y.place - 0 ≡ y.place = omega arith in (omega (arith, k.1), rw z at k.2, k.3)

once : (counts : List ℕ) (l : List Op) → Falling l → Each (λ y. (y.place < length counts) × (y.count ≡ get_or counts y.place 0) × (0 < y.count)) l → Once l
once counts [] f e = tt
once counts (x ∷ xs) f e =
    (apart xs f.0 e.1, once counts xs f.1 e.1)
  where
    apart : (ys : List Op) → Each (λ y. busier x y ≡ true) ys → Each (λ y. (y.place < length counts) × (y.count ≡ get_or counts y.place 0) × (0 < y.count)) ys
        → Each (λ y. x.place ≡ y.place → ⊥) ys
    apart [] g h = tt
    apart (y ∷ ys) g h = (other (leads x y g.0), apart ys g.1 h.1)
      where
        other : Leads x y → x.place ≡ y.place → ⊥
        other (inl q) w =
            let same : x.count ≡ y.count = e.0.1 ∙ ap (λ (j : ℕ). get_or counts j 0) w ∙ sym h.0.1 in omega (arith, q, same)
        other (inr q) w = omega (arith, q.1, w)

-- no place twice
pub busiest_once : (counts : List ℕ) → Once (busiest_of counts)
busiest_once counts = once counts (busiest_of counts) (busiest_falls counts) (busiest_counted counts)

-- an op with a count is in the list, or the list is full and each of its ops stands before that op
pub busiest_whole : (counts : List ℕ) (i : ℕ) → i < length counts → 0 < get_or counts i 0
    → Has (op i (get_or counts i 0)) (busiest_of counts) ⊎ ((length (busiest_of counts) ≡ 10) × Each (λ y. busier y (op i (get_or counts i 0)) ≡ true) (busiest_of counts))
unfolding busiest_of
busiest_whole counts i h k =
    let e : 0 + i ≡ i = omega arith in
    first_or 10 (op i (get_or counts i 0)) (ranked 0 counts) (ranked_falls 0 counts)
    (subst (λ (j : ℕ). Has (op j (get_or counts i 0)) (ranked 0 counts)) e (ranked_has 0 counts i h k))
