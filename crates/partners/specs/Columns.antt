-- The columns that a patch keeps beside its ops. 02, ask 7: "Find each bracket's partner, an If's Else and an Else's End, when the patch is
-- read, and keep them. .. A bracket without one holds 'none'." Each place is what the search of 01-scope.md finds from that op, in a patch
-- that passes the check or not. Assumes nothing.
use Rattle.std.specs.Prelude.{Bool, ◌≡◌, List, [], ◌∷◌, ◌++◌, map, reverse, ℕ, zero, suc, ◌-◌, length, get_or, take, drop, leb, eqb}
use Rattle.std.proofs.Math.Option.{Option, none, some}
use Rattle.basics.specs.Pick.{pick}
use Rattle.kind_table.specs.Rows as row
use Rattle.ops.specs.Syntax.{Bracket}
use Rattle.ops.specs.Syntax.Bracket.{up, down, mid, flat}
use Rattle.machine_model.specs.Scan.{to_end, to_else, to_open, kth, places_from}

-- what a row of the table of kinds is to a search: Function, While and If open, End closes, Else stands between
unfoldable pub row_bracket : ℕ → Bracket
unfolding pick
row_bracket k =
    pick (eqb k row.end) down (pick (eqb k row.else) mid (pick (eqb k row.function) up (pick (eqb k row.while) up (pick (eqb k row.if) up flat))))

unfoldable pub row_function : ℕ → Bool
row_function k = eqb k row.function

-- 'none' is one reserved value that is no place
abbrev pub nowhere : ℕ
nowhere = 65535

abbrev pub place : Option ℕ → ℕ
place none = nowhere
place (some p) = p

-- ---- the searches of the model over the rows ks

-- the End that closes the bracket open before the place; the Else or End of an If; the op that the End at the place closes; the k-th mark
unfoldable pub end_of : List ℕ → ℕ → ℕ
end_of ks from = place (to_end from 0 (drop from (map row_bracket ks)))

unfoldable pub else_of : List ℕ → ℕ → ℕ
else_of ks from = place (to_else from 0 (drop from (map row_bracket ks)))

unfoldable pub open_of : List ℕ → ℕ → ℕ
open_of ks at = place (to_open 0 (reverse (take at (map row_bracket ks))))

unfoldable pub mark_of : List ℕ → ℕ → ℕ
mark_of ks k = place (kth 0 k (map row_function ks))

-- ---- the columns

-- the Else at depth 1 that an If's search meets before the End; p is the place of the list's first
unfoldable pub to_mid : ℕ → ℕ → List Bracket → Option ℕ
to_mid p d [] = none
to_mid p d (up ∷ ms) = to_mid (suc p) (suc d) ms
to_mid p zero (down ∷ ms) = none
to_mid p (suc d) (down ∷ ms) = to_mid (suc p) d ms
to_mid p zero (mid ∷ ms) = some p
to_mid p (suc d) (mid ∷ ms) = to_mid (suc p) (suc d) ms
to_mid p d (flat ∷ ms) = to_mid (suc p) d ms

-- the partner of the op at i, by what it is to a search: the End of an op that opens and of an Else, loose or not; the op that an End closes
unfoldable pub partner_by : Bracket → List Bracket → ℕ → Option ℕ
partner_by up ms i = to_end (suc i) 0 (drop (suc i) ms)
partner_by mid ms i = to_end (suc i) 0 (drop (suc i) ms)
partner_by down ms i = to_open 0 (reverse (take i ms))
partner_by flat ms i = none

unfoldable pub partner_at : List ℕ → ℕ → ℕ
partner_at ks i = place (partner_by (row_bracket (get_or ks i 0)) (map row_bracket ks) i)

-- the Else of the If at i
unfoldable pub turn_at : List ℕ → ℕ → ℕ
unfolding pick
turn_at ks i = pick (eqb (get_or ks i 0) row.if) (place (to_mid (suc i) 0 (drop (suc i) (map row_bracket ks)))) nowhere

-- n entries from place p on
abbrev pub column : (ℕ → ℕ) → ℕ → ℕ → List ℕ
column f p zero = []
column f p (suc n) = f p ∷ column f (suc p) n

unfoldable pub partners_of : List ℕ → List ℕ
partners_of ks = column (partner_at ks) 0 (length ks)

unfoldable pub turns_of : List ℕ → List ℕ
turns_of ks = column (turn_at ks) 0 (length ks)

-- "the places of the Function marks in file order"
unfoldable pub functions_of : List ℕ → List ℕ
functions_of ks = places_from 0 (map row_function ks)

-- what is written over the end of a list
unfoldable pub fill_end : List ℕ → List ℕ → List ℕ
fill_end new old = take (length old - length new) old ++ new

-- ---- what the columns of the rows ks hold

pub record Stored (ks ps ts fs : List ℕ) : Type 0 where
  pub partners : ps ≡ partners_of ks
  pub turns : ts ≡ turns_of ks
  pub marks : fs ≡ functions_of ks

-- what the op at i is given of them: its partner, the column of the Elses, and the marks
pub record Places (ks : List ℕ) (i with : ℕ) (ts fs : List ℕ) : Type 0 where
  pub partner : with ≡ partner_at ks i
  pub turns : ts ≡ turns_of ks
  pub marks : fs ≡ functions_of ks

-- the first of two stored places that is one: an If's Else, or else its End
unfoldable pub first_of : ℕ → ℕ → ℕ
unfolding pick
first_of t e = pick (eqb t nowhere) e t

-- the n-th of the marks fs
unfoldable pub nth_of : ℕ → List ℕ → ℕ
unfolding pick
nth_of n fs = pick (leb (length fs) n) nowhere (get_or fs n 0)
