-- The searches of the patch: "The search for a partner stops inside the scan, counting If, While, Function up and End down", and the k-th
-- mark. Assumes nothing.
use Rattle.std.specs.Prelude.{ℕ, zero, suc, Bool, true, false, List, [], ◌∷◌, length, get_or}
use Rattle.std.proofs.Math.Option.{Option, none, some}
use Rattle.ops.specs.Syntax.{Op, Bracket, bracket, is_function}
use Rattle.ops.specs.Syntax.Op.{plain}
use Rattle.ops.specs.Syntax.Plain.{comment}
use Rattle.ops.specs.Syntax.Bracket.{up, down, mid, flat}

-- the op at a place; beyond the last, one that does nothing
abbrev pub op_at : List Op → ℕ → Op
op_at os i = get_or os i (plain (comment []))

-- what each op is to a scan
abbrev pub brackets : List Op → List Bracket
brackets [] = []
brackets (o ∷ os) = bracket o ∷ brackets os

-- which ops are Function marks
abbrev pub functions : List Op → List Bool
functions [] = []
functions (o ∷ os) = is_function o ∷ functions os

-- the End that closes d + 1 brackets; p is the place of the list's first
unfoldable pub to_end : ℕ → ℕ → List Bracket → Option ℕ
to_end p d [] = none
to_end p d (up ∷ ms) = to_end (suc p) (suc d) ms
to_end p zero (down ∷ ms) = some p
to_end p (suc d) (down ∷ ms) = to_end (suc p) d ms
to_end p d (mid ∷ ms) = to_end (suc p) d ms
to_end p d (flat ∷ ms) = to_end (suc p) d ms

-- the same, or "its Else at depth 1" if that is met first
unfoldable pub to_else : ℕ → ℕ → List Bracket → Option ℕ
to_else p d [] = none
to_else p d (up ∷ ms) = to_else (suc p) (suc d) ms
to_else p zero (down ∷ ms) = some p
to_else p (suc d) (down ∷ ms) = to_else (suc p) d ms
to_else p zero (mid ∷ ms) = some p
to_else p (suc d) (mid ∷ ms) = to_else (suc p) (suc d) ms
to_else p d (flat ∷ ms) = to_else (suc p) d ms

-- an End's partner: backwards over the ops before it, the nearest first
unfoldable pub to_open : ℕ → List Bracket → Option ℕ
to_open d [] = none
to_open zero (up ∷ ms) = some (length ms)
to_open (suc d) (up ∷ ms) = to_open d ms
to_open d (down ∷ ms) = to_open (suc d) ms
to_open d (mid ∷ ms) = to_open d ms
to_open d (flat ∷ ms) = to_open d ms

-- "the k-th mark from the start, counted from 0"; p is the place of the list's first
unfoldable pub kth : ℕ → ℕ → List Bool → Option ℕ
kth p k [] = none
kth p k (false ∷ bs) = kth (suc p) k bs
kth p zero (true ∷ bs) = some p
kth p (suc k) (true ∷ bs) = kth (suc p) k bs

-- the places of the marks: "every Function op in file order, nested ones too"; p is the place of the list's first
abbrev pub places_from : ℕ → List Bool → List ℕ
places_from p [] = []
places_from p (true ∷ bs) = p ∷ places_from (suc p) bs
places_from p (false ∷ bs) = places_from (suc p) bs

abbrev pub marks : List Op → List ℕ
marks os = places_from 0 (functions os)
