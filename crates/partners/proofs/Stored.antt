-- The places in the columns are those that the searches of 01-scope.md find, for every list of ops, whether it passes the check or not.
-- Assumes nothing.
use mathlib.Core.Path.{◌≡◌, ◌∙◌, refl, ap, sym}
use mathlib.Core.List.{List, map}
use mathlib.Core.Option.{Option, none, some}
use Prim.Native.Nat.{ℕ, suc, ◌+◌, ◌≤◌, ◌<◌}
use native.Mathlib.Omega.{arith}
use native.Mathlib.Numerals.{add-one}
use lib.ListN.{length, get_or, drop, length-map, length-drop}
use borrow.Author.Tests.{ne_eqb}
use Rattle.basics.specs.Pick.{pick}
use Rattle.ops.specs.Syntax.{Bracket}
use Rattle.machine_model.specs.Scan.{to_end}
use Rattle.partners.specs.Columns.{row_bracket, nowhere, place, end_of, else_of, open_of, to_mid, partner_by, partner_at, turn_at, partners_of, turns_of, Places, first_of}
use Rattle.partners.proofs.Pairs.{either, else_or_end, mid_below}
use Rattle.partners.proofs.Frames.{length_column, get_or_column}

-- the first of two stored places is the place of the first of two finds
first_either : (x y : Option ℕ) → ((j : ℕ) → x ≡ some j → j < nowhere) → first_of (place x) (place y) ≡ place (either x y)
unfolding first_of pick
first_either none y b = refl
first_either (some j) y b = let l : j < nowhere = b j refl in rw (ne_eqb j nowhere (λ q. omega arith)) refl

-- an entry of a stored column
pub partner_at_lem : (ks ps : List ℕ) → ps ≡ partners_of ks → (i : ℕ) → i < length ks → (i < length ps) × (get_or ps i 0 ≡ partner_at ks i)
unfolding partners_of
partner_at_lem ks ps e i h =
    let n : 0 + i ≡ i = omega arith in
    (rw (e, length_column (partner_at ks) 0 (length ks)) h, rw e (get_or_column (partner_at ks) 0 (length ks) i h ∙ ap (partner_at ks) n))

module _ (ks : List ℕ) (i w : ℕ) (ts fs : List ℕ) (s : Places ks i w ts fs) where
  abbrev ms : List Bracket
  ms = map row_bracket ks

  at_row : (k : ℕ) → get_or ks i 0 ≡ k → w ≡ place (partner_by (row_bracket k) ms i)
  unfolding partner_at
  at_row k e = s.partner ∙ ap (λ (x : ℕ). place (partner_by (row_bracket x) ms i)) e

  -- an op that opens and an Else hold the End that the search finds
  end_at : (k : ℕ) → get_or ks i 0 ≡ k → partner_by (row_bracket k) ms i ≡ to_end (suc i) 0 (drop (suc i) ms) → w ≡ end_of ks (i + 1)
  unfolding end_of
  end_at k e b = at_row k e ∙ ap place b ∙ rw (add-one i) refl

  pub function_end : get_or ks i 0 ≡ 2 → w ≡ end_of ks (i + 1)
  unfolding partner_by row_bracket pick
  function_end e = end_at 2 e refl

  pub while_end : get_or ks i 0 ≡ 5 → w ≡ end_of ks (i + 1)
  unfolding partner_by row_bracket pick
  while_end e = end_at 5 e refl

  pub else_end : get_or ks i 0 ≡ 7 → w ≡ end_of ks (i + 1)
  unfolding partner_by row_bracket pick
  else_end e = end_at 7 e refl

  -- an End holds the op that it closes
  pub end_open : get_or ks i 0 ≡ 8 → w ≡ open_of ks i
  unfolding open_of partner_by row_bracket pick
  end_open e = at_row 8 e

  -- an If holds the Else that its search meets first, and goes to that or else to its End
  module _ (h : i < length ks) where
    pub turn_here : i < length ts
    unfolding turns_of
    turn_here = rw (s.turns, length_column (turn_at ks) 0 (length ks)) h

    if_turn : get_or ks i 0 ≡ 6 → get_or ts i 0 ≡ place (to_mid (suc i) 0 (drop (suc i) (map row_bracket ks)))
    unfolding turns_of turn_at pick
    if_turn e =
        let n : 0 + i ≡ i = omega arith in
        ap (λ (l : List ℕ). get_or l i 0) s.turns
        ∙ get_or_column (turn_at ks) 0 (length ks) i h
        ∙ ap (turn_at ks) n
        ∙ rw e refl

    pub if_jump : length ks ≤ nowhere → get_or ks i 0 ≡ 6 → first_of (get_or ts i 0) w ≡ else_of ks (i + 1)
    unfolding else_of partner_by row_bracket pick
    if_jump few e =
        let rest : suc i + length (drop (suc i) ms) ≤ nowhere = omega (arith, few, h, length-map ks row_bracket, length-drop (suc i) ms) in
        let x = to_mid (suc i) 0 (drop (suc i) ms) in
        rw (if_turn e, at_row 6 e)
        (first_either x (to_end (suc i) 0 (drop (suc i) ms)) (λ j q. omega (arith, mid_below (suc i) 0 (drop (suc i) ms) j q, rest))
        ∙ ap place (sym (else_or_end (suc i) 0 (drop (suc i) ms)))
        ∙ rw (add-one i) refl)
