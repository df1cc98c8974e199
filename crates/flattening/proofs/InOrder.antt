-- The order of numbers is the order of marks: each Function mark's body has a number above all before it, so that the functions' bodies in
-- rising number are those of the marks in file order, one for each. Assumes nothing.
use Prim.Native.Nat.{ℕ, zero, suc, ◌+◌, ◌-◌, ◌≤◌, ◌<◌}
use native.Mathlib.Nat.{not-suc-le-zero, le_of_suc-le-suc}
use native.Mathlib.Omega.{arith}
use borrow.Author.Tests.{ltb-true, eqb-true, lt-ltb, le-ltb, ne_eqb}
use mathlib.Core.Path.{◌≡◌, refl, ap, sym, ◌∙◌, subst}
use mathlib.Core.Bool.{Bool, true, false, cond}
use mathlib.Core.List.{List, [], ◌∷◌, ◌++◌, append-nil, append_assoc, map}
use mathlib.Core.Logic.{◌⊎◌, inl, inr}
use lib.Dec.{eqb, ltb}
use lib.ListN.{length, get_or, length-append, length-map}
use Rattle.basics.proofs.Clash.{clash}
use Rattle.basics.proofs.Tests.{by_case, or_either}
use Rattle.ops.specs.Syntax.{Op, is_function}
use Rattle.ops.specs.Syntax.Op.{control, set, load, plain}
use Rattle.ops.specs.Syntax.Control.{function, call, ret, while, if, else, end}
use Rattle.ops.specs.Write.{marks_in}
use Rattle.machine_model.specs.Scan.{op_at}
use Rattle.machine_model.specs.Step.{enter}
use Rattle.machine_model.specs.Formed.{Each, Rising}
use Rattle.machine_model.proofs.Each.{each_to}
use Rattle.machine_model.proofs.Table.{each_enter, rising_enter}
use Rattle.flattening.specs.Flatten.{Note, note, notes, Numbered, named, has, fresh, number, body, bodies, gathered, others, of_marks, laid, flatten}
use Rattle.flattening.specs.Flatten.Note.{enters, opens, closes, stays}
use Rattle.flattening.specs.Flatten.Numbered.{stray, numbered}
use Rattle.flattening.specs.Flatten.Flat.{flat}
use Rattle.flattening.specs.Flattened.{number_in}
use Rattle.flattening.specs.declared.body.Body.{Body}
use Rattle.flattening.proofs.Flags.{has_none}
use Rattle.flattening.proofs.Flattened.Ok.{good}
use Rattle.flattening.proofs.Flattened.{Ok, number_ok, has_self, has_more}

-- ---- entering a number

-- one that is there stays as it is
enter_known : (p : ℕ) (xs : List ℕ) → Rising xs → has p xs ≡ true → enter p xs ≡ xs
unfolding enter
enter_known p [] r h = clash (cc)
enter_known p (q ∷ qs) r h = by (ltb p q) (eqb p q) refl refl (λ (e : has p qs ≡ true). enter_known p qs r.1 e)
  where
    by : (x y : Bool) → ltb p q ≡ x → eqb p q ≡ y → (has p qs ≡ true → enter p qs ≡ qs) → cond x (p ∷ q ∷ qs) (cond y (q ∷ qs) (q ∷ enter p qs)) ≡ q ∷ qs
    by true y e f ih =
        let l : p < q = ltb-true p q e in
        let n : has p (q ∷ qs) ≡ false = has_none p (q ∷ qs) (l, each_to (λ z. q < z) (λ z. p < z) (λ z w. omega arith) qs r.0) in
        clash (cc)
    by false true e f ih = refl
    by false false e f ih = ap (λ (l : List ℕ). q ∷ l) (or_either (eqb p q) (has p qs) _ h (λ w. clash (cc)) ih)

-- main's comes first
enter_main : (xs : List ℕ) → enter 0 xs ≡ 0 ∷ others xs
unfolding enter
enter_main [] = refl
enter_main (zero ∷ xs) = refl
enter_main (suc x ∷ xs) = rw (lt-ltb 0 (suc x) (omega arith)) refl

-- one above all comes last
enter_last : (p : ℕ) (xs : List ℕ) → Each (λ y. y < p) xs → enter p xs ≡ xs ++ (p ∷ [])
unfolding enter
enter_last p [] a = refl
enter_last p (x ∷ xs) a = rw (le-ltb p x (omega (arith, a.0)), ne_eqb p x (λ e. omega (arith, a.0)), enter_last p xs a.1) refl

-- and a function's last of the functions'
others_last : (p : ℕ) (xs : List ℕ) → 0 < p → others (xs ++ (p ∷ [])) ≡ others xs ++ (p ∷ [])
others_last zero xs h = absurd (not-suc-le-zero h)
others_last (suc p) [] h = refl
others_last (suc p) (zero ∷ xs) h = refl
others_last (suc p) (suc x ∷ xs) h = refl

-- what was seen stays seen
still : {P : Type 0} (p c : ℕ) (xs : List ℕ) → has c xs ≡ true → has c (enter p xs) ≡ false → P
still p c xs t e = let u : true ≡ false = sym (has_more p c xs t) ∙ e in clash (cc)

-- ---- main, or a body that was seen

abbrev Known : List ℕ → ℕ → Type 0
Known seen b = (b ≡ 0) ⊎ (has b seen ≡ true)

known_more : (p b : ℕ) (seen : List ℕ) → Known seen b → Known (enter p seen) b
known_more p b seen (inl e) = inl e
known_more p b seen (inr e) = inr (has_more p b seen e)

each_known : (P : ℕ → Type 0) (seen : List ℕ) → P 0 → Each P seen → (b : ℕ) → Known seen b → P b
each_known P seen z a b (inl e) = subst P (sym e) z
each_known P [] z a b (inr e) = clash (cc)
each_known P (x ∷ xs) z a b (inr e) =
    or_either (eqb b x) (has b xs) (P b) e (λ t. subst P (sym (eqb-true b x t)) a.0) (λ t. each_known P xs z a.1 b (inr t))

-- an op of such a body leaves the bodies seen as they are, or puts main's first
module _ (P : List ℕ → Type 0) (seen : List ℕ) (same : P seen) (main : P (0 ∷ others seen)) where
  known_enter : (b : ℕ) → Rising seen → Known seen b → P (enter b seen)
  known_enter b r (inl e) = subst (λ (j : ℕ). P (enter j seen)) (sym e) (subst P (sym (enter_main seen)) main)
  known_enter b r (inr e) = subst P (sym (enter_known b seen r e)) same

-- ---- what holds between two ops

-- the number after a body around is taken: by the function in it, or before
abbrev Around : List ℕ → List (ℕ × ℕ) → Type 0
Around seen [] = Unit {0}
Around seen (q ∷ st) = (Known seen q.0 × (has (suc q.0) seen ≡ true)) × Around seen st

around_more : (p : ℕ) (seen : List ℕ) (st : List (ℕ × ℕ)) → Around seen st → Around (enter p seen) st
around_more p seen [] a = tt
around_more p seen (q ∷ st) a = ((known_more p q.0 seen a.0.0, has_more p (suc q.0) seen a.0.1), around_more p seen st a.1)

-- no number is beyond the count of bodies, and if the one after b is not taken, none is above b
record Good (b : ℕ) (st : List (ℕ × ℕ)) (seen : List ℕ) : Type 0 where
  rising : Rising seen
  low : Each (λ y. y ≤ length seen) seen
  here : Known seen b
  next : has (suc b) seen ≡ false → Each (λ y. y < suc b) seen
  around : Around seen st

low_main : (seen : List ℕ) → Each (λ y. y ≤ length seen) seen → Each (λ y. y ≤ suc (length (others seen))) (0 ∷ others seen)
low_main [] a = (omega arith, tt)
low_main (zero ∷ xs) a = a
low_main (suc x ∷ xs) a = (omega arith, each_to (λ y. y ≤ suc (length xs)) (λ y. y ≤ suc (suc (length xs))) (λ y h. omega arith) (suc x ∷ xs) a)

module _ (b : ℕ) (st : List (ℕ × ℕ)) (seen : List ℕ) (g : Good b st seen) where
  -- an op of the body b
  others_kept : others (enter b seen) ≡ others seen
  others_kept = known_enter (λ l. others l ≡ others seen) seen refl refl b g.rising g.here

  -- after which c is the body
  good_own : (c : ℕ) (rt : List (ℕ × ℕ)) → Known seen c → (has (suc c) (enter b seen) ≡ false → Each (λ y. y < suc c) (enter b seen)) → Around seen rt
      → Good c rt (enter b seen)
  good_own c rt k n a = record {
    rising = rising_enter b seen g.rising;
    low = known_enter (λ l. Each (λ y. y ≤ length l) l) seen g.low (low_main seen g.low) b g.rising g.here;
    here = known_more b c seen k;
    next = n;
    around = around_more b seen rt a;
  }

  good_in : Good b st (enter b seen)
  good_in =
      good_own b st g.here (λ e. each_enter (λ y. y < suc b) b seen (omega arith) (by_case (has (suc b) seen) (λ t. still b (suc b) seen t e) g.next))
      g.around

-- the End of a function's body
good_out : (b : ℕ) (q : ℕ × ℕ) (st : List (ℕ × ℕ)) (seen : List ℕ) → Good b (q ∷ st) seen → Good q.0 st (enter b seen)
good_out b q st seen g = good_own b (q ∷ st) seen g q.0 st g.around.0.0 (λ e. still b (suc q.0) seen g.around.0.1 e) g.around.1

-- ---- a Function mark's body

record Fresh (b f : ℕ) (seen : List ℕ) : Type 0 where
  above : Each (λ y. y < f) seen
  past_main : 0 < f
  low : f ≤ suc (length seen)
  next : has (suc b) (enter f seen) ≡ true

module _ (b : ℕ) (st : List (ℕ × ℕ)) (seen : List ℕ) (g : Good b st seen) where
  fresh_is : Fresh b (fresh b seen) seen
  fresh_is = by (has (suc b) seen) refl
    where
      by : (x : Bool) → has (suc b) seen ≡ x → Fresh b (cond x (suc (length seen)) (suc b)) seen
      by true e = record {
        above = each_to (λ y. y ≤ length seen) (λ y. y < suc (length seen)) (λ y h. omega arith) seen g.low;
        past_main = omega arith;
        low = omega arith;
        next = has_more (suc (length seen)) (suc b) seen e;
      }
      by false e = record {
        above = g.next e;
        past_main = omega arith;
        low = omega (arith, each_known (λ y. y ≤ length seen) seen (omega arith) g.low b g.here);
        next = has_self (suc b) seen;
      }

  -- it is above all that were seen, and so the last
  fresh_above : (y : ℕ) → Known seen y → y < fresh b seen
  fresh_above = each_known (λ y. y < fresh b seen) seen fresh_is.past_main fresh_is.above

  others_fresh : others (enter (fresh b seen) seen) ≡ others seen ++ (fresh b seen ∷ [])
  others_fresh = ap others (enter_last (fresh b seen) seen fresh_is.above) ∙ others_last (fresh b seen) seen fresh_is.past_main

  good_fresh : (m : ℕ) → Good (fresh b seen) ((b, m) ∷ st) (enter (fresh b seen) seen)
  good_fresh m =
      let f = fresh b seen in
      let l : length (enter f seen) ≡ suc (length seen) = ap length (enter_last f seen fresh_is.above) ∙ omega (arith, length-append seen (f ∷ [])) in
      record {
        rising = rising_enter f seen g.rising;
        low = each_enter (λ y. y ≤ length (enter f seen)) f seen (omega (arith, l, fresh_is.low))
            (each_to (λ y. y ≤ length seen) (λ y. y ≤ length (enter f seen)) (λ y h. omega (arith, l)) seen g.low);
        here = inr (has_self f seen);
        next = λ e. each_enter (λ y. y < suc f) f seen (omega arith) (each_to (λ y. y < f) (λ y. y < suc f) (λ y h. omega arith) seen fresh_is.above);
        around = ((known_more f b seen g.here, fresh_is.next), around_more f seen st g.around);
      }

-- ---- the numbering

-- the marks among the ops to come have bodies above those seen, and above those of the ops before them
abbrev Own : List ℕ → List ℕ → List Op → Type 0
Own seen cs os =
    (j : ℕ) → is_function (op_at os j) ≡ true
    → ((y : ℕ) → Known seen y → y < get_or cs j 0) × ((i : ℕ) → i < j → get_or cs i 0 < get_or cs j 0)

abbrev InOrder : List ℕ → List Op → Numbered → Type 0
InOrder seen os (stray p) = Unit {0}
InOrder seen os (numbered cs found) = (others found ≡ others seen ++ of_marks cs os) × Own seen cs os

-- one op at the front, of body k
module _ (o : Op) (os : List Op) (k : ℕ) (seen : List ℕ) (new : is_function o ≡ true → (y : ℕ) → Known seen y → y < k)
    (last : others (enter k seen) ≡ others seen ++ cond (is_function o) (k ∷ []) []) where
  own_on : (cs : List ℕ) → Own (enter k seen) cs os → Own seen (k ∷ cs) (o ∷ os)
  own_on cs w zero t = (new t, λ i l. absurd (not-suc-le-zero l))
  own_on cs w (suc j) t = (λ y h. (w j t).0 y (known_more k y seen h), before)
    where
      before : (i : ℕ) → i < suc j → get_or (k ∷ cs) i 0 < get_or cs j 0
      before zero l = (w j t).0 k (inr (has_self k seen))
      before (suc i) l = (w j t).1 i (le_of_suc-le-suc l)

  order_on : (cs found : List ℕ) (x : Bool) → others (enter k seen) ≡ others seen ++ cond x (k ∷ []) []
      → others found ≡ others (enter k seen) ++ of_marks cs os → others found ≡ others seen ++ cond x (k ∷ of_marks cs os) (of_marks cs os)
  order_on cs found true e f = f ∙ ap (λ (l : List ℕ). l ++ of_marks cs os) e ∙ append_assoc (others seen) (k ∷ []) (of_marks cs os)
  order_on cs found false e f = f ∙ ap (λ (l : List ℕ). l ++ of_marks cs os) (e ∙ append-nil (others seen))

  on : (r : Numbered) → InOrder (enter k seen) os r → InOrder seen (o ∷ os) (named k r)
  on (stray p) w = tt
  on (numbered cs found) w = (order_on cs found (is_function o) last w.0, own_on cs w.1)

-- only a Function mark enters a body
abbrev is_enter : Note → Bool
is_enter enters = true
is_enter opens = false
is_enter closes = false
is_enter stays = false

is_mark : (o : Op) → is_function o ≡ is_enter (note o)
is_mark (control function) = refl
is_mark (control call) = refl
is_mark (control ret) = refl
is_mark (control while) = refl
is_mark (control if) = refl
is_mark (control else) = refl
is_mark (control end) = refl
is_mark (set k vs) = refl
is_mark (load n) = refl
is_mark (plain p) = refl

abbrev Goes : List Op → Type 0
Goes os = (p b m : ℕ) (st : List (ℕ × ℕ)) (seen : List ℕ) → Good b st seen → InOrder seen os (number p b m st seen (notes os))

module _ (o : Op) (os : List Op) (rest : Goes os) where
  -- an op of the body b, after which c is the body
  in_body : is_function o ≡ false → (p b c m : ℕ) (rt st : List (ℕ × ℕ)) (seen : List ℕ) → Good b rt seen → Good c st (enter b seen)
      → InOrder seen (o ∷ os) (named b (number p c m st (enter b seen) (notes os)))
  in_body t p b c m rt st seen g h =
      on o os b seen (λ u. clash (cc)) (others_kept b rt seen g ∙ rw t (sym (append-nil (others seen)))) (number p c m st (enter b seen) (notes os))
      (rest p c m st (enter b seen) h)

  turned : (n : Note) → is_function o ≡ is_enter n → (p b m : ℕ) (st : List (ℕ × ℕ)) (seen : List ℕ) → Good b st seen
      → InOrder seen (o ∷ os) (number p b m st seen (n ∷ notes os))
  unfolding number
  turned enters t p b m st seen g =
      let f = fresh b seen in
      on o os f seen (λ u. fresh_above b st seen g) (others_fresh b st seen g ∙ rw t refl) (number (suc p) f 0 ((b, m) ∷ st) (enter f seen) (notes os))
      (rest (suc p) f 0 ((b, m) ∷ st) (enter f seen) (good_fresh b st seen g m))
  turned opens t p b m st seen g = in_body t (suc p) b b (suc m) st st seen g (good_in b st seen g)
  turned closes t p b zero [] seen g = tt
  turned closes t p b zero (q ∷ st) seen g = in_body t (suc p) b q.0 q.1 (q ∷ st) st seen g (good_out b q st seen g)
  turned closes t p b (suc m) st seen g = in_body t (suc p) b b m st st seen g (good_in b st seen g)
  turned stays t p b m st seen g = in_body t (suc p) b b m st st seen g (good_in b st seen g)

in_order : (os : List Op) → Goes os
unfolding number
in_order [] p b m st seen g = (sym (append-nil (others seen)), λ j t. clash (cc))
in_order (o ∷ os) p b m st seen g = turned o os (in_order os) (note o) (is_mark o) p b m st seen g

-- ---- the theorems

-- as many as there are marks, where each op has a body
counted : (cs : List ℕ) (os : List Op) → length cs ≡ length os → length (of_marks cs os) ≡ marks_in os
counted [] [] l = refl
counted [] (o ∷ os) l = absurd (omega arith)
counted (c ∷ cs) [] l = absurd (omega arith)
counted (c ∷ cs) (o ∷ os) l = by (is_function o) (counted cs os (omega arith))
  where
    by : (x : Bool) → length (of_marks cs os) ≡ marks_in os → length (cond x (c ∷ of_marks cs os) (of_marks cs os)) ≡ cond x 1 0 + marks_in os
    by true e = omega (arith, e)
    by false e = omega (arith, e)

-- cs are the bodies of the ops, and seen the bodies, by the numbering
module _ (os : List Op) (cs seen : List ℕ) (e : number 0 0 0 [] [] (notes os) ≡ numbered cs seen) where
  ordered : InOrder [] os (numbered cs seen)
  ordered = subst (InOrder [] os) e (in_order os 0 0 0 [] [] (record { rising = tt; low = tt; here = inl refl; next = λ n. tt; around = tt }))

  given : (length cs ≡ length (notes os)) × Rising seen
  given = by (subst (Ok [] (notes os)) e (number_ok (notes os) 0 0 0 [] [] tt))
    where
      by : Ok [] (notes os) (numbered cs seen) → (length cs ≡ length (notes os)) × Rising seen
      by (good _ _ l s r h) = (l, r)

  -- the bodies of the marks in file order are the functions' bodies in rising number
  pub marks_in_order : of_marks cs os ≡ others seen
  marks_in_order = sym ordered.0

  pub each_has_body : length cs ≡ length os
  each_has_body = given.0 ∙ length-map os note

  -- a body for each Function mark
  pub as_many_marks : length (of_marks cs os) ≡ marks_in os
  as_many_marks = counted cs os each_has_body

  pub as_many_bodies : length (others seen) ≡ marks_in os
  as_many_bodies = ap length ordered.0 ∙ as_many_marks

  -- main's number and then the marks', in file order, rise: no two marks have one body, and none has main's
  pub bodies_rise : Rising (0 ∷ of_marks cs os)
  bodies_rise = subst Rising (enter_main seen ∙ ap (λ (l : List ℕ). 0 ∷ l) ordered.0) (rising_enter 0 seen given.1)

  -- "a nested function is its own body": the body of the mark at j has no op before it, so that it is not that of the function around it,
  -- whose mark stands before it
  pub own_body : (i j : ℕ) → i < j → is_function (op_at os j) ≡ true → get_or cs i 0 < get_or cs j 0
  own_body i j l t = (ordered.1 j t).1 i l

  -- nor main's
  pub not_main : (j : ℕ) → is_function (op_at os j) ≡ true → 0 < get_or cs j 0
  not_main j t = (ordered.1 j t).0 0 (inl refl)

-- ---- the flattened ops and the entries

-- "each function's own ops in order of marks, then main", and the entries in the same order
pub record ByMarks (os fs : List Op) (es : List Body) : Type 0 where
  pub cs : List ℕ
  pub seen : List ℕ
  pub numbering : number 0 0 0 [] [] (notes os) ≡ numbered cs seen
  pub ops : fs ≡ gathered (of_marks cs os) cs os ++ body 0 cs os
  pub entries : es ≡ bodies 0 (of_marks cs os) cs os

-- as many entries as bodies
pub length_bodies : (p : ℕ) (bs cs : List ℕ) (os : List Op) → length (bodies p bs cs os) ≡ length bs
unfolding bodies
length_bodies p [] cs os = refl
length_bodies p (b ∷ bs) cs os = ap suc (length_bodies (p + length (body b cs os)) bs cs os)

bodies_numbers : (p : ℕ) (bs cs : List ℕ) (os : List Op) → map number_in (bodies p bs cs os) ≡ map (λ b. b - 1) bs
unfolding bodies
bodies_numbers p [] cs os = refl
bodies_numbers p (b ∷ bs) cs os = ap (λ (l : List ℕ). (b - 1) ∷ l) (bodies_numbers (p + length (body b cs os)) bs cs os)

each_less : (a : ℕ) (bs : List ℕ) → 0 < a → Each (λ y. a < y) bs → Each (λ y. a - 1 < y) (map (λ b. b - 1) bs)
each_less a [] h e = tt
each_less a (b ∷ bs) h e = (omega (arith, e.0), each_less a bs h e.1)

rising_less : (bs : List ℕ) → Rising (0 ∷ bs) → Rising (map (λ b. b - 1) bs)
rising_less [] r = tt
rising_less (b ∷ bs) r = (each_less b bs r.0.0 r.1.0, rising_less bs (r.0.1, r.1.1))

module _ (os fs : List Op) (es : List Body) (e : flatten os ≡ flat fs es) where
  pub by_marks : ByMarks os fs es
  unfolding flatten
  by_marks = by (number 0 0 0 [] [] (notes os)) refl e
    where
      by : (r : Numbered) → number 0 0 0 [] [] (notes os) ≡ r → laid os r ≡ flat fs es → ByMarks os fs es
      by (stray p) n x = clash (cc)
      by (numbered cs seen) n x =
          let m : of_marks cs os ≡ others seen = marks_in_order os cs seen n in
          record { cs = cs; seen = seen; numbering = n; ops = rw m (cc); entries = rw m (cc) }

  -- the entries' numbers are, in file order, those of the marks' bodies less one
  pub entry_numbers : map number_in es ≡ map (λ b. b - 1) (of_marks by_marks.cs os)
  entry_numbers = ap (map number_in) by_marks.entries ∙ bodies_numbers 0 (of_marks by_marks.cs os) by_marks.cs os

  -- and rise
  pub numbers_rise : Rising (map number_in es)
  numbers_rise = subst Rising (sym entry_numbers) (rising_less (of_marks by_marks.cs os) (bodies_rise os by_marks.cs by_marks.seen by_marks.numbering))

  -- an entry for each Function mark
  pub as_many_entries : length es ≡ marks_in os
  as_many_entries =
      sym (length-map es number_in) ∙ ap length entry_numbers ∙ length-map (of_marks by_marks.cs os) (λ b. b - 1)
      ∙ as_many_marks os by_marks.cs by_marks.seen by_marks.numbering
