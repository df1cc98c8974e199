-- Odd patches, computed: what their columns hold, and that the searches of the model find the same. Rows: 0 Comment, 2 Function, 3 Call,
-- 4 Return, 5 While, 6 If, 7 Else, 8 End, 9 Store, 61 StandardCall. Assumes nothing.
use mathlib.Core.Path.{◌≡◌, refl}
use mathlib.Core.List.{List, [], ◌∷◌}
use Prim.Native.Nat.{ℕ, suc}
use lib.ListN.{length, get_or}
use lib.Dec.{eqb}
use Rattle.basics.specs.Pick.{pick}
use Rattle.machine_model.specs.Scan.{to_end, to_else, to_open, kth}
use Rattle.partners.specs.Columns.{row_bracket, row_function, end_of, else_of, open_of, mark_of, to_mid, partner_by, partner_at, turn_at, column, partners_of, turns_of, functions_of, first_of, nth_of}

-- a patch with its columns
record Case : Type 0 where
  rows : List ℕ
  partners : List ℕ
  turns : List ℕ
  marks : List ℕ

abbrev case : List ℕ → List ℕ → List ℕ → List ℕ → Case
case k p t m = record { rows = k; partners = p; turns = t; marks = m }

abbrev found : List Case → List Case
found [] = []
found (c ∷ cs) = case c.rows (partners_of c.rows) (turns_of c.rows) (functions_of c.rows) ∷ found cs

-- no place
abbrev no : ℕ
no = 65535

abbrev cases : List Case
cases =
    -- nothing
    case [] [] [] []
    -- `comment, call, return, store, standard_call`: ops that are no brackets
    ∷ case (0 ∷ 3 ∷ 4 ∷ 9 ∷ 61 ∷ []) (no ∷ no ∷ no ∷ no ∷ no ∷ []) (no ∷ no ∷ no ∷ no ∷ no ∷ []) []
    -- `end`: one stray End
    ∷ case (8 ∷ []) (no ∷ []) (no ∷ []) []
    -- `else`: one loose Else with no End
    ∷ case (7 ∷ []) (no ∷ []) (no ∷ []) []
    -- `if, end`: no Else
    ∷ case (6 ∷ 8 ∷ []) (1 ∷ 0 ∷ []) (no ∷ no ∷ []) []
    -- `else, end`: a loose Else holds the stray End, which holds none
    ∷ case (7 ∷ 8 ∷ []) (1 ∷ no ∷ []) (no ∷ no ∷ []) []
    -- `else, else, end`: so do two
    ∷ case (7 ∷ 7 ∷ 8 ∷ []) (2 ∷ 2 ∷ no ∷ []) (no ∷ no ∷ no ∷ []) []
    -- `if, else`: with no End the If still has its Else
    ∷ case (6 ∷ 7 ∷ []) (no ∷ no ∷ []) (1 ∷ no ∷ []) []
    -- `end, if, end`: a stray End before
    ∷ case (8 ∷ 6 ∷ 8 ∷ []) (no ∷ 2 ∷ 1 ∷ []) (no ∷ no ∷ no ∷ []) []
    -- `if, end, end`: a stray End after
    ∷ case (6 ∷ 8 ∷ 8 ∷ []) (1 ∷ 0 ∷ no ∷ []) (no ∷ no ∷ no ∷ []) []
    -- `end, end, while, end, end, else, end`: stray Ends before and after, with a loose Else between two of them
    ∷ case (8 ∷ 8 ∷ 5 ∷ 8 ∷ 8 ∷ 7 ∷ 8 ∷ []) (no ∷ no ∷ 3 ∷ 2 ∷ no ∷ 6 ∷ no ∷ []) (no ∷ no ∷ no ∷ no ∷ no ∷ no ∷ no ∷ []) []
    -- `if, else, else, end`: the first Else; both hold the End
    ∷ case (6 ∷ 7 ∷ 7 ∷ 8 ∷ []) (3 ∷ 3 ∷ 3 ∷ 0 ∷ []) (1 ∷ no ∷ no ∷ no ∷ []) []
    -- `if, else, end, else, end`: the second Else is loose and holds the stray End
    ∷ case (6 ∷ 7 ∷ 8 ∷ 7 ∷ 8 ∷ []) (2 ∷ 2 ∷ 0 ∷ 4 ∷ no ∷ []) (1 ∷ no ∷ no ∷ no ∷ no ∷ []) []
    -- `if, end, else, end`: an Else behind the End is not the If's
    ∷ case (6 ∷ 8 ∷ 7 ∷ 8 ∷ []) (1 ∷ 0 ∷ 3 ∷ no ∷ []) (no ∷ no ∷ no ∷ no ∷ []) []
    -- `while, else, end`: only an If holds an Else
    ∷ case (5 ∷ 7 ∷ 8 ∷ []) (2 ∷ 2 ∷ 0 ∷ []) (no ∷ no ∷ no ∷ []) []
    -- `function, else, end`: a mark holds none either
    ∷ case (2 ∷ 7 ∷ 8 ∷ []) (2 ∷ 2 ∷ 0 ∷ []) (no ∷ no ∷ no ∷ []) (0 ∷ [])
    -- `if, if, else, end, end`: only the inner If has an Else
    ∷ case (6 ∷ 6 ∷ 7 ∷ 8 ∷ 8 ∷ []) (4 ∷ 3 ∷ 3 ∷ 1 ∷ 0 ∷ []) (no ∷ 2 ∷ no ∷ no ∷ no ∷ []) []
    -- `if, if, end, else, end`: only the outer If has an Else
    ∷ case (6 ∷ 6 ∷ 8 ∷ 7 ∷ 8 ∷ []) (4 ∷ 2 ∷ 1 ∷ 4 ∷ 0 ∷ []) (3 ∷ no ∷ no ∷ no ∷ no ∷ []) []
    -- `if, if, else, end, else, end`: both have one
    ∷ case (6 ∷ 6 ∷ 7 ∷ 8 ∷ 7 ∷ 8 ∷ []) (5 ∷ 3 ∷ 3 ∷ 1 ∷ 5 ∷ 0 ∷ []) (4 ∷ 2 ∷ no ∷ no ∷ no ∷ no ∷ []) []
    -- `if, else, if, else, end, end`: the inner If within the outer Else
    ∷ case (6 ∷ 7 ∷ 6 ∷ 7 ∷ 8 ∷ 8 ∷ []) (5 ∷ 5 ∷ 4 ∷ 4 ∷ 2 ∷ 0 ∷ []) (1 ∷ no ∷ 3 ∷ no ∷ no ∷ no ∷ []) []
    -- `if, while, else, end, end`: the Else of a While within is not the If's
    ∷ case (6 ∷ 5 ∷ 7 ∷ 8 ∷ 8 ∷ []) (4 ∷ 3 ∷ 3 ∷ 1 ∷ 0 ∷ []) (no ∷ no ∷ no ∷ no ∷ no ∷ []) []
    -- `if, if, else, end`: the outer If never closes, and the Else is that of the inner one
    ∷ case (6 ∷ 6 ∷ 7 ∷ 8 ∷ []) (no ∷ 3 ∷ 3 ∷ 1 ∷ []) (no ∷ 2 ∷ no ∷ no ∷ []) []
    -- `if, if, else, end, else`: nor does it here, but it has an Else of its own
    ∷ case (6 ∷ 6 ∷ 7 ∷ 8 ∷ 7 ∷ []) (no ∷ 3 ∷ 3 ∷ 1 ∷ no ∷ []) (4 ∷ 2 ∷ no ∷ no ∷ no ∷ []) []
    -- `if, while, end, else`: past a closed bracket to an Else with no End
    ∷ case (6 ∷ 5 ∷ 8 ∷ 7 ∷ []) (no ∷ 2 ∷ 1 ∷ no ∷ []) (3 ∷ no ∷ no ∷ no ∷ []) []
    -- `else, if, else, if, else`: each If never closes and has the Else that comes next
    ∷ case (7 ∷ 6 ∷ 7 ∷ 6 ∷ 7 ∷ []) (no ∷ no ∷ no ∷ no ∷ no ∷ []) (no ∷ 2 ∷ no ∷ 4 ∷ no ∷ []) []
    -- `while, end, else, while, end, else, if, end`: loose Elses between brackets hold none
    ∷ case (5 ∷ 8 ∷ 7 ∷ 5 ∷ 8 ∷ 7 ∷ 6 ∷ 8 ∷ []) (1 ∷ 0 ∷ no ∷ 4 ∷ 3 ∷ no ∷ 7 ∷ 6 ∷ []) (no ∷ no ∷ no ∷ no ∷ no ∷ no ∷ no ∷ no ∷ []) []
    -- `while, end, else, while, end, else, end`: before a stray End they hold that
    ∷ case (5 ∷ 8 ∷ 7 ∷ 5 ∷ 8 ∷ 7 ∷ 8 ∷ []) (1 ∷ 0 ∷ 6 ∷ 4 ∷ 3 ∷ 6 ∷ no ∷ []) (no ∷ no ∷ no ∷ no ∷ no ∷ no ∷ no ∷ []) []
    -- `if, store, while, function, call, end, store, end, else, store, end`: a mark in a While in an If
    ∷ case (6 ∷ 9 ∷ 5 ∷ 2 ∷ 3 ∷ 8 ∷ 9 ∷ 8 ∷ 7 ∷ 9 ∷ 8 ∷ [])
    (10 ∷ no ∷ 7 ∷ 5 ∷ no ∷ 3 ∷ no ∷ 2 ∷ 10 ∷ no ∷ 0 ∷ [])
    (8 ∷ no ∷ no ∷ no ∷ no ∷ no ∷ no ∷ no ∷ no ∷ no ∷ no ∷ [])
    (3 ∷ [])
    -- `function, while, if`: opening ops that never close
    ∷ case (2 ∷ 5 ∷ 6 ∷ []) (no ∷ no ∷ no ∷ []) (no ∷ no ∷ no ∷ []) (0 ∷ [])
    -- `if, while, function, end`: the End is that of the nearest
    ∷ case (6 ∷ 5 ∷ 2 ∷ 8 ∷ []) (no ∷ no ∷ 3 ∷ 2 ∷ []) (no ∷ no ∷ no ∷ no ∷ []) (2 ∷ [])
    -- `function, end, function, end, function, end`: three marks in file order
    ∷ case (2 ∷ 8 ∷ 2 ∷ 8 ∷ 2 ∷ 8 ∷ []) (1 ∷ 0 ∷ 3 ∷ 2 ∷ 5 ∷ 4 ∷ []) (no ∷ no ∷ no ∷ no ∷ no ∷ no ∷ []) (0 ∷ 2 ∷ 4 ∷ [])
    -- `function, function, end, store, function, end, end`: nested marks
    ∷ case (2 ∷ 2 ∷ 8 ∷ 9 ∷ 2 ∷ 8 ∷ 8 ∷ []) (6 ∷ 2 ∷ 1 ∷ no ∷ 5 ∷ 4 ∷ 0 ∷ []) (no ∷ no ∷ no ∷ no ∷ no ∷ no ∷ no ∷ []) (0 ∷ 1 ∷ 4 ∷ [])
    -- `end, function, end, end, function, else`: marks among stray Ends, the last with no End
    ∷ case (8 ∷ 2 ∷ 8 ∷ 8 ∷ 2 ∷ 7 ∷ []) (no ∷ 2 ∷ 1 ∷ no ∷ no ∷ no ∷ []) (no ∷ no ∷ no ∷ no ∷ no ∷ no ∷ []) (1 ∷ 4 ∷ [])
    -- `if, function, else, end, else, call, end, function, end`: a mark's Else within an If, and a mark behind it
    ∷ case (6 ∷ 2 ∷ 7 ∷ 8 ∷ 7 ∷ 3 ∷ 8 ∷ 2 ∷ 8 ∷ [])
    (6 ∷ 3 ∷ 3 ∷ 1 ∷ 6 ∷ no ∷ 0 ∷ 8 ∷ 7 ∷ [])
    (4 ∷ no ∷ no ∷ no ∷ no ∷ no ∷ no ∷ no ∷ no ∷ [])
    (1 ∷ 7 ∷ [])
    -- twenty brackets deep, `if, while, function, if` five times; the innermost If has the Else
    ∷ case (6 ∷ 5 ∷ 2 ∷ 6 ∷ 6 ∷ 5 ∷ 2 ∷ 6 ∷ 6 ∷ 5 ∷ 2 ∷ 6 ∷ 6 ∷ 5 ∷ 2 ∷ 6 ∷ 6 ∷ 5 ∷ 2 ∷ 6 ∷ 7 ∷ 9 ∷ 8 ∷ 8 ∷ 8 ∷ 8 ∷ 8 ∷ 8 ∷ 8 ∷ 8 ∷ 8 ∷ 8 ∷ 8 ∷ 8 ∷ 8 ∷ 8 ∷ 8 ∷ 8 ∷ 8 ∷ 8 ∷ 8 ∷ 8 ∷ [])
    (41 ∷ 40 ∷ 39 ∷ 38 ∷ 37 ∷ 36 ∷ 35 ∷ 34 ∷ 33 ∷ 32 ∷ 31 ∷ 30 ∷ 29 ∷ 28 ∷ 27 ∷ 26 ∷ 25 ∷ 24 ∷ 23 ∷ 22 ∷ 22 ∷ no ∷ 19 ∷ 18 ∷ 17 ∷ 16 ∷ 15 ∷ 14 ∷ 13 ∷ 12 ∷ 11 ∷ 10 ∷ 9 ∷ 8 ∷ 7 ∷ 6 ∷ 5 ∷ 4 ∷ 3 ∷ 2 ∷ 1 ∷ 0 ∷ [])
    (no ∷ no ∷ no ∷ no ∷ no ∷ no ∷ no ∷ no ∷ no ∷ no ∷ no ∷ no ∷ no ∷ no ∷ no ∷ no ∷ no ∷ no ∷ no ∷ 20 ∷ no ∷ no ∷ no ∷ no ∷ no ∷ no ∷ no ∷ no ∷ no ∷ no ∷ no ∷ no ∷ no ∷ no ∷ no ∷ no ∷ no ∷ no ∷ no ∷ no ∷ no ∷ no ∷ [])
    (2 ∷ 6 ∷ 10 ∷ 14 ∷ 18 ∷ [])
    -- twenty Ifs deep; only the outermost has an Else
    ∷ case (6 ∷ 6 ∷ 6 ∷ 6 ∷ 6 ∷ 6 ∷ 6 ∷ 6 ∷ 6 ∷ 6 ∷ 6 ∷ 6 ∷ 6 ∷ 6 ∷ 6 ∷ 6 ∷ 6 ∷ 6 ∷ 6 ∷ 6 ∷ 8 ∷ 8 ∷ 8 ∷ 8 ∷ 8 ∷ 8 ∷ 8 ∷ 8 ∷ 8 ∷ 8 ∷ 8 ∷ 8 ∷ 8 ∷ 8 ∷ 8 ∷ 8 ∷ 8 ∷ 8 ∷ 8 ∷ 7 ∷ 8 ∷ [])
    (40 ∷ 38 ∷ 37 ∷ 36 ∷ 35 ∷ 34 ∷ 33 ∷ 32 ∷ 31 ∷ 30 ∷ 29 ∷ 28 ∷ 27 ∷ 26 ∷ 25 ∷ 24 ∷ 23 ∷ 22 ∷ 21 ∷ 20 ∷ 19 ∷ 18 ∷ 17 ∷ 16 ∷ 15 ∷ 14 ∷ 13 ∷ 12 ∷ 11 ∷ 10 ∷ 9 ∷ 8 ∷ 7 ∷ 6 ∷ 5 ∷ 4 ∷ 3 ∷ 2 ∷ 1 ∷ 40 ∷ 0 ∷ [])
    (39 ∷ no ∷ no ∷ no ∷ no ∷ no ∷ no ∷ no ∷ no ∷ no ∷ no ∷ no ∷ no ∷ no ∷ no ∷ no ∷ no ∷ no ∷ no ∷ no ∷ no ∷ no ∷ no ∷ no ∷ no ∷ no ∷ no ∷ no ∷ no ∷ no ∷ no ∷ no ∷ no ∷ no ∷ no ∷ no ∷ no ∷ no ∷ no ∷ no ∷ no ∷ [])
    []
    -- twenty deep with nineteen Ends: the outermost bracket alone never closes
    ∷ case (5 ∷ 5 ∷ 5 ∷ 5 ∷ 5 ∷ 5 ∷ 5 ∷ 5 ∷ 5 ∷ 5 ∷ 6 ∷ 6 ∷ 6 ∷ 6 ∷ 6 ∷ 6 ∷ 6 ∷ 6 ∷ 6 ∷ 6 ∷ 7 ∷ 8 ∷ 8 ∷ 8 ∷ 8 ∷ 8 ∷ 8 ∷ 8 ∷ 8 ∷ 8 ∷ 8 ∷ 8 ∷ 8 ∷ 8 ∷ 8 ∷ 8 ∷ 8 ∷ 8 ∷ 8 ∷ 8 ∷ [])
    (no ∷ 39 ∷ 38 ∷ 37 ∷ 36 ∷ 35 ∷ 34 ∷ 33 ∷ 32 ∷ 31 ∷ 30 ∷ 29 ∷ 28 ∷ 27 ∷ 26 ∷ 25 ∷ 24 ∷ 23 ∷ 22 ∷ 21 ∷ 21 ∷ 19 ∷ 18 ∷ 17 ∷ 16 ∷ 15 ∷ 14 ∷ 13 ∷ 12 ∷ 11 ∷ 10 ∷ 9 ∷ 8 ∷ 7 ∷ 6 ∷ 5 ∷ 4 ∷ 3 ∷ 2 ∷ 1 ∷ [])
    (no ∷ no ∷ no ∷ no ∷ no ∷ no ∷ no ∷ no ∷ no ∷ no ∷ no ∷ no ∷ no ∷ no ∷ no ∷ no ∷ no ∷ no ∷ no ∷ 20 ∷ no ∷ no ∷ no ∷ no ∷ no ∷ no ∷ no ∷ no ∷ no ∷ no ∷ no ∷ no ∷ no ∷ no ∷ no ∷ no ∷ no ∷ no ∷ no ∷ no ∷ [])
    []
    ∷ []

pub odd_patches : found cases ≡ cases
unfolding to_end to_open pick row_bracket row_function to_mid partner_by partner_at turn_at partners_of turns_of functions_of
odd_patches = refl

-- ---- the same places by the searches of the model, op by op

-- what an op of row k at i goes to: the End behind an op that opens or an Else; what an End closes
abbrev sought_by : ℕ → List ℕ → ℕ → ℕ
sought_by k ks i =
    pick (eqb k 8) (open_of ks i) (pick (eqb k 2) (end_of ks (suc i)) (pick (eqb k 5) (end_of ks (suc i)) (pick (eqb k 6) (end_of ks (suc i)) (pick (eqb k 7) (end_of ks (suc i)) no))))

-- an If's way: the Else or the End
abbrev ways : List ℕ → (ℕ → ℕ) → List ℕ
ways ks f = column (λ i. pick (eqb (get_or ks i 0) 6) (f i) no) 0 (length ks)

-- the marks, and one beyond them
abbrev counted : (ℕ → ℕ) → List ℕ → List ℕ
counted f fs = column f 0 (suc (length fs))

-- the partners, the Ifs' ways and the marks by number: as the columns tell them, and as the searches do
abbrev told : List Case → List Case
told [] = []
told (c ∷ cs) =
    case c.rows c.partners (ways c.rows (λ i. first_of (get_or c.turns i 0) (get_or c.partners i 0))) (counted (λ k. nth_of k c.marks) c.marks)
    ∷ told cs

abbrev sought : List Case → List Case
sought [] = []
sought (c ∷ cs) =
    case c.rows (column (λ i. sought_by (get_or c.rows i 0) c.rows i) 0 (length c.rows)) (ways c.rows (λ i. else_of c.rows (suc i))) (counted (mark_of c.rows) c.marks)
    ∷ sought cs

pub odd_searches : sought cases ≡ told cases
unfolding to_end to_else to_open kth pick row_bracket row_function end_of else_of open_of mark_of first_of nth_of
odd_searches = refl
