-- How many entries of the function table move when a place is entered: those above it and no others, none when routines are opened in order; and no
-- placing can move fewer. Assumes nothing.
use mathlib.Core.Path.{◌≡◌, ◌∙◌, refl, ap, sym}
use mathlib.Core.List.{List, [], ◌∷◌, ◌++◌}
use Prim.Native.Nat.{ℕ, zero, suc, ◌≤◌, ◌<◌}
use native.Mathlib.Omega.{arith}
use lib.Dec.{ltb}
use lib.ListN.{length, get_or}
use borrow.Author.Tests.{lt-ltb, le-ltb, ne_eqb}
use Rattle.basics.specs.Pick.{pick}
use Rattle.basics.proofs.Tests.{by_case}
use Rattle.machine_model.specs.Step.{enter}
use Rattle.machine_model.specs.Formed.{Each, Rising}
use Rattle.machine_model.proofs.Each.{each_at, each_end}
use Rattle.searches.specs.Found.{below, above, sought_in, moves_at, moves_for, moves_for_all}
use Rattle.searches.proofs.Tables.{past}
use Rattle.std.specs.Prelude.{Result, Ok, Err}

-- "never more than the entries there are"
pub moves_few : (v : ℕ) (qs : List ℕ) → above v qs ≤ length qs
unfolding above
moves_few v [] = omega arith
moves_few v (q ∷ qs) = by_case (ltb v q) (λ e. rw e (omega (arith, moves_few v qs))) (λ e. rw e (omega (arith, moves_few v qs)))

-- ---- opened in order

module _ (v : ℕ) where
  none_above : (qs : List ℕ) → Each (λ q. q < v) qs → above v qs ≡ 0
  unfolding above
  none_above [] a = refl
  none_above (q ∷ qs) a = rw (le-ltb v q (omega (arith, a.0))) (none_above qs a.1)

  goes_last : (qs : List ℕ) → Each (λ q. q < v) qs → enter v qs ≡ qs ++ (v ∷ [])
  unfolding enter
  goes_last [] a = refl
  goes_last (q ∷ qs) a = past v q qs a.0 ∙ ap (λ (z : List ℕ). q ∷ z) (goes_last qs a.1)

  none_moves : (qs : List ℕ) → Each (λ q. q < v) qs → moves_for v qs ≡ 0
  unfolding moves_for
  none_moves qs a = rw (none_above qs a) (by (sought_in v qs))
    where
      by : (s : Result ℕ ℕ) → moves_at s 0 ≡ 0
      by (Ok k) = refl
      by (Err k) = refl

in_order : (vs qs : List ℕ) → Rising vs → Each (λ v. Each (λ q. q < v) qs) vs → moves_for_all vs qs ≡ 0
unfolding moves_for_all
in_order [] qs r a = refl
in_order (v ∷ vs) qs r a =
    let rest = in_order vs (qs ++ (v ∷ [])) r.1 (longer vs a.1 r.0) in
    rw (none_moves v qs a.0, goes_last v qs a.0, rest) refl
  where
    longer : (ws : List ℕ) → Each (λ w. Each (λ q. q < w) qs) ws → Each (λ w. v < w) ws → Each (λ w. Each (λ q. q < w) (qs ++ (v ∷ []))) ws
    longer [] a b = tt
    longer (w ∷ ws) a b = (each_end (λ q. q < w) qs v a.0 b.0, longer ws a.1 b.1)

-- routines opened in order move nothing
pub opened_in_order : (vs : List ℕ) → Rising vs → moves_for_all vs [] ≡ 0
opened_in_order vs r = in_order vs [] r (none vs)
  where
    none : (vs : List ℕ) → Each (λ v. Each (λ q. q < v) []) vs
    none [] = tt
    none (v ∷ vs) = (tt, none vs)

-- opened from the last to the first, each moves all that were opened before it: of 256 routines 0 + 1 + .. + 255 moves
abbrev pub falling : ℕ → List ℕ
falling zero = []
falling (suc n) = n ∷ falling n

pub opened_from_the_last : moves_for_all (falling 256) [] ≡ 32640
unfolding moves_for_all moves_for sought_in below above enter pick
opened_from_the_last = refl

-- ---- no placing can move fewer

rises : (q : ℕ) (qs : List ℕ) (i : ℕ) → Rising (q ∷ qs) → i < length qs → get_or (q ∷ qs) i 0 < get_or qs i 0
rises q qs zero r h = each_at (λ y. q < y) qs 0 h r.0
rises q [] (suc i) r h = absurd (omega arith)
rises q (p ∷ qs) (suc i) r h = rises p qs i r.1 (omega arith)

-- every entry above v stands one place higher in the result, and where it stood is a lower one
pub above_move : (v : ℕ) (qs : List ℕ) → Rising qs → Each (λ q. q ≡ v → ⊥) qs → (i : ℕ) → i < length qs → v < get_or qs i 0
    → (get_or (enter v qs) (suc i) 0 ≡ get_or qs i 0) × (get_or (enter v qs) i 0 < get_or qs i 0)
unfolding enter
above_move v [] r n i h l = absurd (omega arith)
above_move v (q ∷ qs) r n zero h l = rw (lt-ltb v q l) (refl, l)
above_move v (q ∷ qs) r n (suc i) h l =
    by_case (ltb v q) (λ e. rw e (refl, rises q qs i r (omega arith))) (λ e.
    rw (e, ne_eqb v q (λ f. n.0 (sym f))) (above_move v qs r.1 n.1 i (omega arith) l))
