-- What 01 says of flattening describes the Rust: for every list of ops its `flatten` returns the ops, bodies and main of Flatten, or panics
-- at the same stray End. Assumes nothing.
use Prim.Native.Nat.{ℕ, zero, suc, ◌+◌, ◌-◌, ◌≤◌, ◌<◌}
use native.Mathlib.Omega.{arith}
use borrow.Author.Tests.{ltb-true, eqb-true, eqb-false, eq-eqb, ne_eqb}
use mathlib.Core.Path.{◌≡◌, refl, ap, sym, ◌∙◌}
use mathlib.Core.Bool.{Bool, true, false, cond, ◌||◌}
use mathlib.Core.List.{List, [], ◌∷◌, ◌++◌, append-nil, append_assoc}
use lib.Dec.{eqb, ltb}
use lib.ListN.{length, length-append}
use Rattle.basics.proofs.Clash.{clash}
use Rattle.ops.specs.Syntax.{Op}
use Rattle.machine_model.specs.Step.{enter}
use Rattle.machine_model.specs.Formed.{Each, Rising}
use Rattle.machine_model.proofs.Each.{each_end, each_to}
use Rattle.machine_model.proofs.Table.{each_enter, rising_enter}
use Rattle.flattening.specs.Flatten.{Note, note, notes, Numbered, named, has, fresh, number, body, bodies, gathered, others, laid, flatten}
use Rattle.flattening.specs.declared.body.Body.{Body}
use Rattle.flattening.specs.Flatten.Note.{enters, opens, closes, stays}
use Rattle.flattening.specs.Flatten.Numbered.{stray, numbered}
use Rattle.flattening.specs.Flatten.Flat.{flat}
use Rattle.flattening.specs.Rust.{push, contains, body_in, remove, outside, next, turn, Rust, insert, finish, onward, loop, rust, entries, flat_of}
use Rattle.flattening.specs.Rust.Scopes.{scopes}
use Rattle.flattening.specs.Rust.Rust.{panics, returns}
use Rattle.flattening.proofs.Flags.{has_none}
use Rattle.flattening.proofs.Flattened.{has_self, has_more}

-- ---- the map that the Rust has when bs are the bodies seen, and cs the bodies of the ops so far

unfoldable pub table : List ℕ → List ℕ → List Op → List (ℕ × List Op)
unfolding body
table [] cs os = []
table (b ∷ bs) cs os = (b, body b cs os) ∷ table bs cs os

length_table : (bs cs : List ℕ) (os : List Op) → length (table bs cs os) ≡ length bs
unfolding table
length_table [] cs os = refl
length_table (b ∷ bs) cs os = ap suc (length_table bs cs os)

contains_table : (k : ℕ) (bs cs : List ℕ) (os : List Op) → contains k (table bs cs os) ≡ has k bs
unfolding table contains
contains_table k [] cs os = refl
contains_table k (b ∷ bs) cs os = ap (λ (x : Bool). eqb k b || x) (contains_table k bs cs os)

-- the Rust's next number is the model's
next_table : (b : ℕ) (bs cs : List ℕ) (os : List Op) → next b (table bs cs os) ≡ fresh b bs
unfolding next
next_table b bs cs os = rw (contains_table (suc b) bs cs os, length_table bs cs os) refl

-- ---- one op more

body_snoc : (b c : ℕ) (cs : List ℕ) (o : Op) (os : List Op) → length cs ≡ length os
    → body b (cs ++ (c ∷ [])) (os ++ (o ∷ [])) ≡ cond (eqb b c) (body b cs os ++ (o ∷ [])) (body b cs os)
unfolding body
body_snoc b c [] o [] l = refl
body_snoc b c [] o (x ∷ os) l = absurd (omega (arith, l))
body_snoc b c (d ∷ cs) o [] l = absurd (omega (arith, l))
body_snoc b c (d ∷ cs) o (x ∷ os) l = by (eqb b d) (eqb b c) (body b (cs ++ (c ∷ [])) (os ++ (o ∷ []))) (body_snoc b c cs o os (omega (arith, l)))
  where
    by : (y z : Bool) (r : List Op) → r ≡ cond z (body b cs os ++ (o ∷ [])) (body b cs os)
        → cond y (x ∷ r) r ≡ cond z (cond y (x ∷ body b cs os) (body b cs os) ++ (o ∷ [])) (cond y (x ∷ body b cs os) (body b cs os))
    by true true r e = ap (λ (t : List Op). x ∷ t) e
    by true false r e = ap (λ (t : List Op). x ∷ t) e
    by false true r e = e
    by false false r e = e

-- a body that was not seen has no op
body_none : (b : ℕ) (seen cs : List ℕ) (os : List Op) → Each (λ c. has c seen ≡ true) cs → has b seen ≡ false → body b cs os ≡ []
unfolding body
body_none b seen [] os a h = refl
body_none b seen (c ∷ cs) [] a h = refl
body_none b seen (c ∷ cs) (o ∷ os) a h = by (eqb b c) refl a.0 (body_none b seen cs os a.1 h)
  where
    by : (x : Bool) → eqb b c ≡ x → has c seen ≡ true → body b cs os ≡ [] → cond x (o ∷ body b cs os) (body b cs os) ≡ []
    by true e t r =
        let q : b ≡ c = eqb-true b c e in
        let z : true ≡ false = sym t ∙ ap (λ (y : ℕ). has y seen) (sym q) ∙ h in
        clash (cc)
    by false e t r = r

module _ (cs : List ℕ) (os : List Op) (l : length cs ≡ length os) (k : ℕ) (o : Op) where
  body_same : (b : ℕ) → b ≡ k → body b (cs ++ (k ∷ [])) (os ++ (o ∷ [])) ≡ body b cs os ++ (o ∷ [])
  body_same b e = body_snoc b k cs o os l ∙ rw (eq-eqb b k e) refl

  body_other : (b : ℕ) → (b ≡ k → ⊥) → body b (cs ++ (k ∷ [])) (os ++ (o ∷ [])) ≡ body b cs os
  body_other b n = body_snoc b k cs o os l ∙ rw (ne_eqb b k n) refl

  table_other : (bs : List ℕ) → Each (λ b. k < b) bs → table bs (cs ++ (k ∷ [])) (os ++ (o ∷ [])) ≡ table bs cs os
  unfolding table
  table_other [] e = refl
  table_other (b ∷ bs) e = rw (body_other b (λ z. omega (arith, z, e.0)), table_other bs e.1) refl

  -- the op is pushed to the body k, which is entered
  pushed : (seen : List ℕ) → Rising seen → (has k seen ≡ false → body k cs os ≡ [])
      → push k o (table seen cs os) ≡ table (enter k seen) (cs ++ (k ∷ [])) (os ++ (o ∷ []))
  unfolding push table enter
  pushed [] r n = rw (body_same k refl, n refl) refl
  pushed (q ∷ qs) r n = by (ltb k q) (eqb k q) refl refl (λ (f : has k qs ≡ false → body k cs os ≡ []). pushed qs r.1 f)
    where
      later : k ≤ q → Each (λ y. k < y) qs
      later h = each_to (λ y. q < y) (λ y. k < y) (λ y w. omega (arith, w, h)) qs r.0

      by : (x y : Bool) → ltb k q ≡ x → eqb k q ≡ y
          → ((has k qs ≡ false → body k cs os ≡ []) → push k o (table qs cs os) ≡ table (enter k qs) (cs ++ (k ∷ [])) (os ++ (o ∷ [])))
          → cond x ((k, o ∷ []) ∷ (q, body q cs os) ∷ table qs cs os) (cond y ((q, body q cs os ++ (o ∷ [])) ∷ table qs cs os) ((q, body q cs os) ∷ push k o (table qs cs os)))
          ≡ table (cond x (k ∷ q ∷ qs) (cond y (q ∷ qs) (q ∷ enter k qs))) (cs ++ (k ∷ [])) (os ++ (o ∷ []))
      by true y e f ih =
          let h : k < q = ltb-true k q e in
          rw (body_same k refl, n (has_none k (q ∷ qs) (h, later (omega (arith, h)))), body_other q (λ z. omega (arith, z, h)), table_other qs (later (omega (arith, h)))) refl
      by false true e f ih =
          let h : k ≡ q = eqb-true k q f in
          rw (body_same q (sym h), table_other qs (later (omega (arith, h)))) refl
      by false false e f ih =
          let h : k ≡ q → ⊥ = eqb-false k q f in
          rw (body_other q (λ z. h (sym z)), ih (λ (x : has k qs ≡ false). n (ap (λ (y : Bool). y || has k qs) f ∙ x))) refl

-- ---- the bodies in rising number, then main

-- entries of main: the map begins with main's, if main has an op
abbrev Mains : List (ℕ × List Op) → Type 0
Mains [] = Unit {0}
Mains (f ∷ fs) = (f.0 ≡ 0) × Mains fs

-- a number below all bodies is not in the map
module _ (cs : List ℕ) (os : List Op) (i : ℕ) where
  in_none : (bs : List ℕ) → Each (λ b. i < b) bs → body_in i (table bs cs os) ≡ []
  unfolding body_in table
  in_none [] e = refl
  in_none (b ∷ bs) e = rw (ne_eqb i b (λ z. omega (arith, z, e.0))) (in_none bs e.1)

  remove_none : (bs : List ℕ) → Each (λ b. i < b) bs → remove i (table bs cs os) ≡ table bs cs os
  unfolding remove table
  remove_none [] e = refl
  remove_none (b ∷ bs) e = rw (ne_eqb i b (λ z. omega (arith, z, e.0)), remove_none bs e.1) refl

-- a function's number is looked for past main
module _ (i : ℕ) (h : 0 < i) (fs : List (ℕ × List Op)) where
  in_past : (ms : List (ℕ × List Op)) → Mains ms → body_in i (ms ++ fs) ≡ body_in i fs
  unfolding body_in
  in_past [] m = refl
  in_past (f ∷ ms) m = rw (ne_eqb i f.0 (λ z. omega (arith, z, h, m.0))) (in_past ms m.1)

  remove_past : (ms : List (ℕ × List Op)) → Mains ms → remove i (ms ++ fs) ≡ ms ++ remove i fs
  unfolding remove
  remove_past [] m = refl
  remove_past (f ∷ ms) m = rw (ne_eqb i f.0 (λ z. omega (arith, z, h, m.0)), remove_past ms m.1) refl

-- one number further
insert_on : (n i : ℕ) (r x : List Op) (fs gs : List (ℕ × List Op)) → body_in i fs ≡ x → remove i fs ≡ gs → insert (suc n) i r fs ≡ insert n (suc i) (r ++ x) gs
unfolding insert
insert_on n i r x fs gs e f = rw (e, f) refl

module _ (cs : List ℕ) (os : List Op) (ms : List (ℕ × List Op)) (m : Mains ms) where
  -- no body has the number i
  insert_none : (n i : ℕ) (r : List Op) (bs : List ℕ) → 0 < i → Each (λ b. i < b) bs
      → insert (suc n) i r (ms ++ table bs cs os) ≡ insert n (suc i) r (ms ++ table bs cs os)
  insert_none n i r bs h e =
      insert_on n i r [] (ms ++ table bs cs os) (ms ++ table bs cs os)
      (in_past i h (table bs cs os) ms m ∙ in_none cs os i bs e)
      (remove_past i h (table bs cs os) ms m ∙ ap (λ (t : List (ℕ × List Op)). ms ++ t) (remove_none cs os i bs e))
      ∙ ap (λ (t : List Op). insert n (suc i) t (ms ++ table bs cs os)) (append-nil r)

  -- the n numbers from i on are all there is
  inserted : (n i : ℕ) (r : List Op) (bs : List ℕ) → 0 < i → Rising bs → Each (λ b. i ≤ b) bs → Each (λ b. b < i + n) bs
      → insert n i r (ms ++ table bs cs os) ≡ r ++ (gathered bs cs os ++ body_in 0 ms)
  unfolding insert gathered table
  inserted zero i r [] h w lo hi = ap (λ (t : List (ℕ × List Op)). r ++ body_in 0 t) (append-nil ms)
  inserted zero i r (b ∷ bs) h w lo hi = absurd (omega (arith, lo.0, hi.0))
  inserted (suc n) i r [] h w lo hi = insert_none n i r [] h tt ∙ inserted n (suc i) r [] (omega arith) tt tt tt
  inserted (suc n) i r (b ∷ bs) h w lo hi =
      by (eqb i b) refl
      (λ (x : List Op) (a : Each (λ y. suc i ≤ y) bs). inserted n (suc i) x bs (omega arith) w.1 a (high bs hi.1))
      (λ (a : Each (λ y. suc i ≤ y) (b ∷ bs)). inserted n (suc i) r (b ∷ bs) (omega arith) w a (high (b ∷ bs) hi))
    where
      high : (ys : List ℕ) → Each (λ y. y < i + suc n) ys → Each (λ y. y < suc i + n) ys
      high ys a = each_to (λ y. y < i + suc n) (λ y. y < suc i + n) (λ y z. omega (arith, z)) ys a

      above : i ≤ b → Each (λ y. i < y) bs
      above e = each_to (λ y. b < y) (λ y. i < y) (λ y z. omega (arith, z, e)) bs w.0

      by : (x : Bool) → eqb i b ≡ x
          → ((x : List Op) → Each (λ y. suc i ≤ y) bs → insert n (suc i) x (ms ++ table bs cs os) ≡ x ++ (gathered bs cs os ++ body_in 0 ms))
          → (Each (λ y. suc i ≤ y) (b ∷ bs) → insert n (suc i) r (ms ++ table (b ∷ bs) cs os) ≡ r ++ (gathered (b ∷ bs) cs os ++ body_in 0 ms))
          → insert (suc n) i r (ms ++ table (b ∷ bs) cs os) ≡ r ++ (gathered (b ∷ bs) cs os ++ body_in 0 ms)
      by true e met past =
          insert_on n i r (body b cs os) (ms ++ table (b ∷ bs) cs os) (ms ++ table bs cs os)
          (in_past i h (table (b ∷ bs) cs os) ms m ∙ rw e refl)
          (remove_past i h (table (b ∷ bs) cs os) ms m ∙ rw e refl)
          ∙ met (r ++ body b cs os) (above lo.0)
          ∙ append_assoc r (body b cs os) (gathered bs cs os ++ body_in 0 ms)
          ∙ ap (λ (t : List Op). r ++ t) (sym (append_assoc (body b cs os) (gathered bs cs os) (body_in 0 ms)))
      by false e met past =
          let d : i ≡ b → ⊥ = eqb-false i b e in
          let l : i < b = omega (arith, lo.0) in
          insert_none n i r (b ∷ bs) h (l, above lo.0) ∙ past (l, above lo.0)

-- ---- what the Rust returns, by the model's numbering

-- the stray End, or the flattened ops, the functions' bodies by number, and main's body; cs are the bodies of the ops
abbrev pub shown : List Op → Numbered → Rust
shown os (stray p) = panics p
shown os (numbered cs seen) = returns (gathered (others seen) cs os ++ body 0 cs os) (table (others seen) cs os) (body 0 cs os)

-- the same with os to come, where ks are the ops before and cs their bodies
abbrev whole : List ℕ → List Op → List Op → Numbered → Rust
whole cs ks os (stray p) = panics p
whole cs ks os (numbered ds seen) = shown (ks ++ os) (numbered (cs ++ ds) seen)

whole_on : (b : ℕ) (cs : List ℕ) (o : Op) (ks os : List Op) (r : Numbered) → whole (cs ++ (b ∷ [])) (ks ++ (o ∷ [])) os r ≡ whole cs ks (o ∷ os) (named b r)
whole_on b cs o ks os (stray p) = refl
whole_on b cs o ks os (numbered ds seen) = rw (append_assoc cs (b ∷ []) ds, append_assoc ks (o ∷ []) os) refl

finish_is : (b m : ℕ) (st : List (ℕ × ℕ)) (fs gs : List (ℕ × List Op)) (is r : List Op) → insert (suc (length fs)) 1 [] fs ≡ r → remove 0 fs ≡ gs
    → finish (scopes b m st fs is) ≡ returns r gs is
unfolding finish
finish_is b m st fs gs is r e f = rw (e, f) refl

-- after the last op
module _ (b m : ℕ) (st : List (ℕ × ℕ)) (cs : List ℕ) (os : List Op) where
  finished : (seen : List ℕ) → Rising seen → Each (λ c. has c seen ≡ true) cs → Each (λ k. k ≤ suc (length seen)) seen
      → finish (scopes b m st (table seen cs os) (body 0 cs os))
      ≡ returns (gathered (others seen) cs os ++ body 0 cs os) (table (others seen) cs os) (body 0 cs os)
  unfolding table remove body_in
  finished [] r a low =
      finish_is b m st [] [] (body 0 cs os) _
      (inserted cs os [] tt 1 1 [] [] (omega arith) tt tt tt ∙ ap (λ (t : List Op). gathered [] cs os ++ t) (sym (body_none 0 [] cs os a refl)))
      refl
  finished (zero ∷ bs) r a low =
      finish_is b m st (table (0 ∷ bs) cs os) (table bs cs os) (body 0 cs os) _
      (inserted cs os ((0, body 0 cs os) ∷ []) (refl, tt) (suc (length (table (0 ∷ bs) cs os))) 1 [] bs (omega arith) r.1
      (each_to (λ y. 0 < y) (λ y. 1 ≤ y) (λ y z. omega (arith, z)) bs r.0)
      (each_to (λ y. y ≤ suc (suc (length bs))) (λ y. y < 1 + suc (suc (length (table bs cs os)))) (λ y z. omega (arith, z, length_table bs cs os)) bs low.1))
      refl
  finished (suc k ∷ bs) r a low =
      let up : Each (λ y. 0 < y) (suc k ∷ bs) = (omega arith, each_to (λ y. suc k < y) (λ y. 0 < y) (λ y z. omega (arith, z)) bs r.0) in
      finish_is b m st (table (suc k ∷ bs) cs os) (table (suc k ∷ bs) cs os) (body 0 cs os) _
      (inserted cs os [] tt (suc (length (table (suc k ∷ bs) cs os))) 1 [] (suc k ∷ bs) (omega arith) r
      (each_to (λ y. 0 < y) (λ y. 1 ≤ y) (λ y z. omega (arith, z)) (suc k ∷ bs) up)
      (each_to (λ y. y ≤ suc (suc (length bs))) (λ y. y < 1 + suc (suc (length (table bs cs os)))) (λ y z. omega (arith, z, length_table bs cs os)) (suc k ∷ bs) low)
      ∙ ap (λ (t : List Op). gathered (suc k ∷ bs) cs os ++ t) (sym (body_none 0 (suc k ∷ bs) cs os a (has_none 0 (suc k ∷ bs) up))))
      (remove_none cs os 0 (suc k ∷ bs) up)

-- ---- no number is beyond the count of bodies, so that the Rust's `for` meets each

longer : (p : ℕ) (xs : List ℕ) → length xs ≤ length (enter p xs)
unfolding enter
longer p [] = omega arith
longer p (q ∷ qs) = by (ltb p q) (eqb p q) (longer p qs)
  where
    by : (x y : Bool) → length qs ≤ length (enter p qs) → suc (length qs) ≤ length (cond x (p ∷ q ∷ qs) (cond y (q ∷ qs) (q ∷ enter p qs)))
    by true y h = omega arith
    by false true h = omega arith
    by false false h = omega (arith, h)

longer_new : (p : ℕ) (xs : List ℕ) → has p xs ≡ false → length (enter p xs) ≡ suc (length xs)
unfolding enter
longer_new p [] h = refl
longer_new p (q ∷ qs) h = by (ltb p q) (eqb p q) h (λ (e : has p qs ≡ false). longer_new p qs e)
  where
    by : (x y : Bool) → (y || has p qs) ≡ false → (has p qs ≡ false → length (enter p qs) ≡ suc (length qs))
        → length (cond x (p ∷ q ∷ qs) (cond y (q ∷ qs) (q ∷ enter p qs))) ≡ suc (suc (length qs))
    by true y e ih = refl
    by false true e ih = clash (cc)
    by false false e ih = ap suc (ih e)

module _ (b : ℕ) (seen : List ℕ) (h : b ≤ suc (length seen)) where
  fresh_low : fresh b seen ≤ suc (length (enter (fresh b seen) seen))
  fresh_low = by (has (suc b) seen) refl
    where
      by : (x : Bool) → has (suc b) seen ≡ x → cond x (suc (length seen)) (suc b) ≤ suc (length (enter (cond x (suc (length seen)) (suc b)) seen))
      by true e = omega (arith, longer (suc (length seen)) seen)
      by false e = omega (arith, h, longer_new (suc b) seen e)

  fresh_up : 0 < fresh b seen
  fresh_up = by (has (suc b) seen)
    where
      by : (x : Bool) → 0 < cond x (suc (length seen)) (suc b)
      by true = omega arith
      by false = omega arith

-- only main is outside of all functions, and the numbers of the bodies around are at most l
abbrev Within : ℕ → ℕ → List (ℕ × ℕ) → Type 0
Within l b [] = b ≡ 0
Within l b (q ∷ st) = ((0 < b) × (b ≤ l)) × Within l q.0 st

within_low : (l b : ℕ) (st : List (ℕ × ℕ)) → Within l b st → b ≤ l
within_low l b [] w = omega (arith, w)
within_low l b (q ∷ st) w = w.0.1

within_up : (l n b : ℕ) (st : List (ℕ × ℕ)) → l ≤ n → Within l b st → Within n b st
within_up l n b [] h w = w
within_up l n b (q ∷ st) h w = ((w.0.0, omega (arith, h, w.0.1)), within_up l n q.0 st h w.1)

-- ---- what holds between two turns

record Good (b : ℕ) (st : List (ℕ × ℕ)) (seen cs : List ℕ) (ks : List Op) : Type 0 where
  rising : Rising seen
  met : Each (λ c. has c seen ≡ true) cs
  even : length cs ≡ length ks
  low : Each (λ k. k ≤ suc (length seen)) seen
  within : Within (suc (length seen)) b st

good_on : (a k b : ℕ) (rt st : List (ℕ × ℕ)) (seen cs : List ℕ) (o : Op) (ks : List Op) → Good a rt seen cs ks → k ≤ suc (length (enter k seen))
    → Within (suc (length (enter k seen))) b st → Good b st (enter k seen) (cs ++ (k ∷ [])) (ks ++ (o ∷ []))
good_on a k b rt st seen cs o ks g h w = record {
  rising = rising_enter k seen g.rising;
  met = each_end (λ c. has c (enter k seen) ≡ true) cs k (each_to (λ c. has c seen ≡ true) (λ c. has c (enter k seen) ≡ true) (λ c e. has_more k c seen e) cs g.met) (has_self k seen);
  even = omega (arith, g.even, length-append cs (k ∷ []), length-append ks (o ∷ []));
  low = each_enter (λ c. c ≤ suc (length (enter k seen))) k seen h
      (each_to (λ c. c ≤ suc (length seen)) (λ c. c ≤ suc (length (enter k seen))) (λ c e. omega (arith, e, longer k seen)) seen g.low);
  within = w;
}

-- ---- the loop

module _ (b : ℕ) (st : List (ℕ × ℕ)) (seen cs : List ℕ) (ks : List Op) (g : Good b st seen cs ks) (o : Op) where
  pushed_on : (k : ℕ) → push k o (table seen cs ks) ≡ table (enter k seen) (cs ++ (k ∷ [])) (ks ++ (o ∷ []))
  pushed_on k = pushed cs ks g.even k o seen g.rising (body_none k seen cs ks g.met)

  -- `main_instructions` is main's body
  outside_on : (l : ℕ) → Within l b st → outside st o (body 0 cs ks) ≡ body 0 (cs ++ (b ∷ [])) (ks ++ (o ∷ []))
  outside_on l w = by st w
    where
      by : (rt : List (ℕ × ℕ)) → Within l b rt → outside rt o (body 0 cs ks) ≡ body 0 (cs ++ (b ∷ [])) (ks ++ (o ∷ []))
      by [] v = sym (body_same cs ks g.even b o 0 (sym v))
      by (q ∷ rt) v = sym (body_other cs ks g.even b o 0 (λ z. omega (arith, z, v.0.0)))

-- the rest of the loop does what the model does with the ops to come
abbrev Follows : List Op → ℕ → Type 0
Follows os p =
    (b m : ℕ) (st : List (ℕ × ℕ)) (seen cs : List ℕ) (ks : List Op) → Good b st seen cs ks
    → loop os p (scopes b m st (table seen cs ks) (body 0 cs ks)) ≡ whole cs ks os (number p b m st seen (notes os))

module _ (o : Op) (os : List Op) (p : ℕ) (rest : Follows os (suc p)) (seen cs : List ℕ) (ks : List Op) where
  -- an op of the body k, which leaves b, m and st
  one_on : (a k b m : ℕ) (rt st : List (ℕ × ℕ)) (fs : List (ℕ × List Op)) (is : List Op) → Good a rt seen cs ks → k ≤ suc (length (enter k seen))
      → Within (suc (length (enter k seen))) b st
      → fs ≡ table (enter k seen) (cs ++ (k ∷ [])) (ks ++ (o ∷ [])) → is ≡ body 0 (cs ++ (k ∷ [])) (ks ++ (o ∷ []))
      → loop os (suc p) (scopes b m st fs is) ≡ whole cs ks (o ∷ os) (named k (number (suc p) b m st (enter k seen) (notes os)))
  one_on a k b m rt st fs is g h w e f =
      rw (e, f) (rest b m st (enter k seen) (cs ++ (k ∷ [])) (ks ++ (o ∷ [])) (good_on a k b rt st seen cs o ks g h w))
      ∙ whole_on k cs o ks os (number (suc p) b m st (enter k seen) (notes os))

  -- an op of the body that the loop is in
  own_on : (b c m : ℕ) (rt st : List (ℕ × ℕ)) → Good b rt seen cs ks → Within (suc (length (enter b seen))) c st
      → loop os (suc p) (scopes c m st (push b o (table seen cs ks)) (outside rt o (body 0 cs ks)))
      ≡ whole cs ks (o ∷ os) (named b (number (suc p) c m st (enter b seen) (notes os)))
  own_on b c m rt st g w =
      one_on b b c m rt st _ _ g (omega (arith, within_low (suc (length seen)) b rt g.within, longer b seen)) w
      (pushed_on b rt seen cs ks g o b) (outside_on b rt seen cs ks g o (suc (length seen)) g.within)

  kept : (b : ℕ) (st : List (ℕ × ℕ)) → Good b st seen cs ks → Within (suc (length (enter b seen))) b st
  kept b st g = within_up (suc (length seen)) (suc (length (enter b seen))) b st (omega (arith, longer b seen)) g.within

  turned : (n : Note) (b m : ℕ) (st : List (ℕ × ℕ)) → Good b st seen cs ks
      → onward p (loop os (suc p)) (turn n o (scopes b m st (table seen cs ks) (body 0 cs ks))) ≡ whole cs ks (o ∷ os) (number p b m st seen (n ∷ notes os))
  unfolding turn number
  turned enters b m st g =
      let k = fresh b seen in
      let l : b ≤ suc (length seen) = within_low (suc (length seen)) b st g.within in
      let h : k ≤ suc (length (enter k seen)) = fresh_low b seen l in
      let w : Within (suc (length (enter k seen))) b st = within_up (suc (length seen)) (suc (length (enter k seen))) b st (omega (arith, longer k seen)) g.within in
      rw (next_table b seen cs ks)
      (one_on b k k 0 st ((b, m) ∷ st) _ _ g h ((fresh_up b seen l, h), w) (pushed_on b st seen cs ks g o k)
      (sym (body_other cs ks g.even k o 0 (λ z. omega (arith, z, fresh_up b seen l)))))
  turned opens b m st g = own_on b b (suc m) st st g (kept b st g)
  turned closes b zero [] g = refl
  turned closes b zero (q ∷ st) g = own_on b q.0 q.1 (q ∷ st) st g (kept b (q ∷ st) g).1
  turned closes b (suc m) st g = own_on b b m st st g (kept b st g)
  turned stays b m st g = own_on b b m st st g (kept b st g)

follows : (os : List Op) (p : ℕ) → Follows os p
unfolding loop number
follows [] p b m st seen cs ks g =
    finished b m st cs ks seen g.rising g.met g.low ∙ rw (append-nil cs, append-nil ks) refl
follows (o ∷ os) p b m st seen cs ks g = turned o os p (follows os (suc p)) seen cs ks (note o) b m st g

-- ---- the theorems

-- for every list of ops the Rust's code, its body of each number and its main are the model's, or its panic is at the stray End
pub same_bodies : (os : List Op) → rust os ≡ shown os (number 0 0 0 [] [] (notes os))
unfolding rust table body
same_bodies os = follows os 0 0 0 [] [] [] [] (record { rising = tt; met = tt; even = refl; low = tt; within = refl }) ∙ by (number 0 0 0 [] [] (notes os))
  where
    by : (r : Numbered) → whole [] [] os r ≡ shown os r
    by (stray p) = refl
    by (numbered cs seen) = refl

entries_are : (p : ℕ) (bs cs : List ℕ) (os : List Op) → entries p (table bs cs os) ≡ bodies p bs cs os
unfolding table bodies
entries_are p [] cs os = refl
entries_are p (b ∷ bs) cs os =
    ap (λ (t : List Body). record { number = b - 1; first = p; count = length (body b cs os) } ∷ t) (entries_are (p + length (body b cs os)) bs cs os)

-- what the Rust returns, with its functions as entries, is what Flatten says of the ops
pub as_the_rust : (os : List Op) → flat_of (rust os) ≡ flatten os
unfolding flatten
as_the_rust os = ap flat_of (same_bodies os) ∙ by (number 0 0 0 [] [] (notes os))
  where
    by : (r : Numbered) → flat_of (shown os r) ≡ laid os r
    by (stray p) = refl
    by (numbered cs seen) = ap (flat (gathered (others seen) cs os ++ body 0 cs os)) (entries_are 0 (others seen) cs os)
