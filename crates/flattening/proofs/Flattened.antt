-- Flattening loses nothing: whatever is counted of the ops, the flattened patch has as much, be it ops, marks or bytes. Assumes nothing.
use Prim.Native.Nat.{ℕ, zero, suc, ◌+◌, ◌<◌}
use native.Mathlib.Omega.{arith}
use borrow.Author.Tests.{eqb-true, eqb-false, eq-eqb, ne_eqb}
use mathlib.Core.Path.{◌≡◌, refl, ap, sym, ◌∙◌, subst}
use mathlib.Core.Bool.{Bool, true, false, cond}
use mathlib.Core.List.{List, [], ◌∷◌, ◌++◌}
use lib.Dec.{eqb, ltb}
use lib.ListN.{length, length-append, length-map}
use Rattle.basics.proofs.Clash.{clash}
use Rattle.basics.proofs.Tests.{or_first, or_second, or_either}
use Rattle.ops.specs.Syntax.{Op}
use Rattle.ops.specs.Write.{encode, encode_all, mark_in, marks_in}
use Rattle.machine_model.specs.Step.{enter}
use Rattle.machine_model.specs.Formed.{Each, Rising}
use Rattle.flattening.specs.Flatten.{Note, note, notes, Numbered, named, has, fresh, number, body, gathered, others, laid, flatten}
use Rattle.flattening.specs.declared.body.Body.{Body}
use Rattle.flattening.specs.Flatten.Note.{enters, opens, closes, stays}
use Rattle.flattening.specs.Flatten.Numbered.{stray, numbered}
use Rattle.flattening.specs.Flatten.Flat.{flat}
use Rattle.machine_model.proofs.Table.{rising_enter}

-- the sum of a number that each op has
unfoldable pub tally : (Op → ℕ) → List Op → ℕ
tally f [] = 0
tally f (o ∷ os) = f o + tally f os

-- ---- numbers that were seen stay seen

has_cond : (b : Bool) (c : ℕ) (xs ys : List ℕ) → has c xs ≡ true → has c ys ≡ true → has c (cond b xs ys) ≡ true
has_cond true c xs ys p q = p
has_cond false c xs ys p q = q

same_has : (c : ℕ) (xs : List ℕ) → has c (c ∷ xs) ≡ true
same_has c xs = or_first (eqb c c) _ (eq-eqb c c refl)

pub has_self : (c : ℕ) (xs : List ℕ) → has c (enter c xs) ≡ true
unfolding enter
has_self c [] = same_has c []
has_self c (x ∷ xs) =
    has_cond (ltb c x) c _ _ (same_has c (x ∷ xs))
    (by (eqb c x) refl (has_self c xs))
  where
    by : (b : Bool) → eqb c x ≡ b → has c (enter c xs) ≡ true → has c (cond b (x ∷ xs) (x ∷ enter c xs)) ≡ true
    by true e h = or_first (eqb c x) _ e
    by false e h = or_second (eqb c x) _ h

pub has_more : (p c : ℕ) (xs : List ℕ) → has c xs ≡ true → has c (enter p xs) ≡ true
unfolding enter
has_more p c [] e = clash (cc)
has_more p c (x ∷ xs) e =
    has_cond (ltb p x) c _ _ (or_second (eqb c p) _ e)
    (has_cond (eqb p x) c _ _ e
    (or_either (eqb c x) (has c xs) _ e (λ h. or_first (eqb c x) _ h) (λ h. or_second (eqb c x) _ (has_more p c xs h))))

-- ---- what the numbering gives

pub data Ok (seen : List ℕ) (ns : List Note) : Numbered → Type 0 where
  bad : {p : ℕ} → Ok seen ns (stray p)
  good : (cs seen' : List ℕ) → length cs ≡ length ns → ((c : ℕ) → has c seen ≡ true → has c seen' ≡ true) → Rising seen'
      → Each (λ c. has c seen' ≡ true) cs → Ok seen ns (numbered cs seen')

named_ok : (b : ℕ) (seen : List ℕ) (n : Note) (ns : List Note) (r : Numbered) → Ok (enter b seen) ns r → Ok seen (n ∷ ns) (named b r)
named_ok b seen n ns r bad = bad
named_ok b seen n ns r (good cs seen' l s r' e) =
    good (b ∷ cs) seen' (ap suc l) (λ c h. s c (has_more b c seen h)) r' (s b (has_self b seen), e)

pub number_ok : (ns : List Note) (p b m : ℕ) (st : List (ℕ × ℕ)) (seen : List ℕ) → Rising seen → Ok seen ns (number p b m st seen ns)
unfolding number
number_ok [] p b m st seen r = good [] seen refl (λ c h. h) r tt
number_ok (enters ∷ ns) p b m st seen r =
    named_ok (fresh b seen) seen enters ns _ (number_ok ns (suc p) (fresh b seen) 0 ((b, m) ∷ st) (enter (fresh b seen) seen) (rising_enter (fresh b seen) seen r))
number_ok (opens ∷ ns) p b m st seen r = named_ok b seen opens ns _ (number_ok ns (suc p) b (suc m) st (enter b seen) (rising_enter b seen r))
number_ok (closes ∷ ns) p b zero [] seen r = bad
number_ok (closes ∷ ns) p b zero (q ∷ st) seen r = named_ok b seen closes ns _ (number_ok ns (suc p) q.0 q.1 st (enter b seen) (rising_enter b seen r))
number_ok (closes ∷ ns) p b (suc m) st seen r = named_ok b seen closes ns _ (number_ok ns (suc p) b m st (enter b seen) (rising_enter b seen r))
number_ok (stays ∷ ns) p b m st seen r = named_ok b seen stays ns _ (number_ok ns (suc p) b m st (enter b seen) (rising_enter b seen r))

-- ---- the bodies together have each op once

module _ (f : Op → ℕ) where
  tally_append : (a b : List Op) → tally f (a ++ b) ≡ tally f a + tally f b
  unfolding tally
  tally_append [] b = omega arith
  tally_append (o ∷ a) b = omega (arith, tally_append a b)

  module _ (c : ℕ) (cs : List ℕ) (o : Op) (os : List Op) where
    -- the op's body is not among those listed
    missed : (bs : List ℕ) → Each (λ b. c < b) bs → gathered bs (c ∷ cs) (o ∷ os) ≡ gathered bs cs os
    unfolding gathered body
    missed [] e = refl
    missed (b ∷ bs) e = rw (ne_eqb b c (λ z. omega (arith, e.0)), missed bs e.1)

    -- or it is, once
    met : (bs : List ℕ) → Rising bs → has c bs ≡ true → tally f (gathered bs (c ∷ cs) (o ∷ os)) ≡ f o + tally f (gathered bs cs os)
    unfolding gathered body tally
    met [] r h = clash (cc)
    met (b ∷ bs) r h = by (λ x. met bs r.1 x) (eqb b c) refl
      where
        by : (has c bs ≡ true → tally f (gathered bs (c ∷ cs) (o ∷ os)) ≡ f o + tally f (gathered bs cs os)) → (x : Bool) → eqb b c ≡ x
            → tally f (cond x (o ∷ body b cs os) (body b cs os) ++ gathered bs (c ∷ cs) (o ∷ os)) ≡ f o + tally f (body b cs os ++ gathered bs cs os)
        by ih true e =
            let q : b ≡ c = eqb-true b c e in
            ap (λ (l : List Op). f o + tally f (body b cs os ++ l)) (missed bs (subst (λ (y : ℕ). Each (λ z. y < z) bs) q r.0))
        by ih false e =
            let n : b ≡ c → ⊥ = eqb-false b c e in
            or_either (eqb c b) (has c bs) _ h (λ x. absurd (n (sym (eqb-true c b x))))
            (λ x. omega (arith, ih x, tally_append (body b cs os) (gathered bs (c ∷ cs) (o ∷ os)), tally_append (body b cs os) (gathered bs cs os)))

  empty : (bs : List ℕ) → gathered bs [] [] ≡ []
  unfolding gathered body
  empty [] = refl
  empty (b ∷ bs) = empty bs

  gathered_all : (bs cs : List ℕ) (os : List Op) → Rising bs → Each (λ c. has c bs ≡ true) cs → length cs ≡ length os → tally f (gathered bs cs os) ≡ tally f os
  unfolding tally
  gathered_all bs [] [] r e l = ap (tally f) (empty bs)
  gathered_all bs [] (o ∷ os) r e l = absurd (omega arith)
  gathered_all bs (c ∷ cs) [] r e l = absurd (omega arith)
  gathered_all bs (c ∷ cs) (o ∷ os) r e l = met c cs o os bs r e.0 ∙ ap (λ (n : ℕ). f o + n) (gathered_all bs cs os r e.1 (omega arith))

-- main comes first in the list that has all numbers
above : (a : ℕ) (xs : List ℕ) → Each (λ y. a < y) xs → Each (λ y. 0 < y) xs
above a [] e = tt
above a (x ∷ xs) e = (omega (arith, e.0), above a xs e.1)

others_rising : (xs : List ℕ) → Rising xs → Rising (0 ∷ others xs)
others_rising [] r = (tt, tt)
others_rising (zero ∷ xs) r = r
others_rising (suc x ∷ xs) r = ((omega arith, above (suc x) xs r.0), r)

others_has : (c : ℕ) (xs : List ℕ) → has c xs ≡ true → has c (0 ∷ others xs) ≡ true
others_has c [] h = clash (cc)
others_has c (zero ∷ xs) h = h
others_has c (suc x ∷ xs) h = or_second (eqb c 0) _ h

each_has : (xs ys cs : List ℕ) → ((c : ℕ) → has c xs ≡ true → has c ys ≡ true) → Each (λ c. has c xs ≡ true) cs → Each (λ c. has c ys ≡ true) cs
each_has xs ys [] s e = tt
each_has xs ys (c ∷ cs) s e = (s c e.0, each_has xs ys cs s e.1)

-- whatever is counted, the flattened patch has as much
pub nothing_lost : (f : Op → ℕ) (os fs : List Op) (bs : List Body) → flatten os ≡ flat fs bs → tally f fs ≡ tally f os
unfolding flatten gathered
nothing_lost f os fs bs e = by (number 0 0 0 [] [] (notes os)) (number_ok (notes os) 0 0 0 [] [] tt) e
  where
    by : (r : Numbered) → Ok [] (notes os) r → laid os r ≡ flat fs bs → tally f fs ≡ tally f os
    by k bad x = clash (cc)
    by k (good cs seen l s r h) x =
        let q : gathered (others seen) cs os ++ body 0 cs os ≡ fs = cc in
        ap (tally f) (sym q)
        ∙ tally_append f (gathered (others seen) cs os) (body 0 cs os)
        ∙ omega (arith, tally_append f (body 0 cs os) (gathered (others seen) cs os), gathered_all f (0 ∷ others seen) cs os (others_rising seen r) (each_has seen (0 ∷ others seen) cs (λ c z. others_has c seen z) h) (l ∙ length-map os note))

-- every op appears once: as many ops pass any test
pub each_once : (t : Op → Bool) (os fs : List Op) (bs : List Body) → flatten os ≡ flat fs bs → tally (λ o. cond (t o) 1 0) fs ≡ tally (λ o. cond (t o) 1 0) os
each_once t = nothing_lost (λ o. cond (t o) 1 0)

tally_ops : (os : List Op) → tally (λ o. 1) os ≡ length os
unfolding tally
tally_ops [] = refl
tally_ops (o ∷ os) = omega (arith, tally_ops os)

tally_bytes : (os : List Op) → tally (λ o. length (encode o)) os ≡ length (encode_all os)
unfolding tally encode_all
tally_bytes [] = refl
tally_bytes (o ∷ os) = omega (arith, tally_bytes os, length-append (encode o) (encode_all os))

tally_marks : (os : List Op) → tally mark_in os ≡ marks_in os
unfolding tally
tally_marks [] = refl
tally_marks (o ∷ os) = omega (arith, tally_marks os)

-- the flattened patch has the same op count, the same byte length and the same number of marks
module _ (os fs : List Op) (bs : List Body) (e : flatten os ≡ flat fs bs) where
  pub same_ops : length fs ≡ length os
  same_ops = sym (tally_ops fs) ∙ nothing_lost (λ o. 1) os fs bs e ∙ tally_ops os

  pub same_bytes : length (encode_all fs) ≡ length (encode_all os)
  same_bytes = sym (tally_bytes fs) ∙ nothing_lost (λ o. length (encode o)) os fs bs e ∙ tally_bytes os

  pub same_marks : marks_in fs ≡ marks_in os
  same_marks = sym (tally_marks fs) ∙ nothing_lost mark_in os fs bs e ∙ tally_marks os
