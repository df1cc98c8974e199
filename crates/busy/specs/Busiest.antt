-- The ten busiest ops. Assumes nothing.
use Rattle.std.specs.Prelude.{Bool, true, false, cond, List, [], ◌∷◌, ◌++◌, ℕ, suc, ◌-◌, length, take, drop, replicate, ltb, eqb}
use Rattle.std.specs.declared.cmp.Ordering.{Ordering}
use Rattle.std.specs.Ordering.{nat_cmp, on, flip_args, then_cmp}
use Rattle.busy.specs.declared.busiest.Op.{Op}
use Rattle.busy.specs.declared.busiest.Busy.{Busy}

abbrev pub op : ℕ → ℕ → Op
op p c = record { place = p; count = c }

-- "higher count first, lower place on ties"
unfoldable pub busier : Op → Op → Bool
busier a b = cond (ltb b.count a.count) true (cond (ltb a.count b.count) false (ltb a.place b.place))

-- the same as an order of the library
abbrev pub busy_order : Op → Op → Ordering
busy_order = then_cmp (flip_args (on (λ x. x.count) nat_cmp)) (on (λ x. x.place) nat_cmp)

unfoldable pub first_of : Op → Op → Op
first_of a b = cond (busier a b) a b

unfoldable pub other_of : Op → Op → Op
other_of a b = cond (busier a b) b a

-- an op put in its place: the busier of it and the first, then the other in the rest
unfoldable pub insert : Op → List Op → List Op
insert x [] = x ∷ []
insert x (y ∷ ys) = first_of x y ∷ insert (other_of x y) ys

-- "zero counts left out"
unfoldable pub with_op : ℕ → ℕ → List Op → List Op
with_op p c l = cond (eqb c 0) l (insert (op p c) l)

-- the ops whose counts these are, from place p on, in that order
unfoldable pub ranked : ℕ → List ℕ → List Op
ranked p [] = []
ranked p (c ∷ cs) = with_op p c (ranked (suc p) cs)

unfoldable pub busiest_of : List ℕ → List Op
busiest_of counts = take 10 (ranked 0 counts)

-- so many blank entries
unfoldable pub blanks : ℕ → List Op
blanks n = replicate n (op 0 0)

-- the whole answer: the ops, and blank entries after them, ten in all
unfoldable pub busy_of : List ℕ → Busy
busy_of counts = record { ops = busiest_of counts ++ blanks (10 - length (busiest_of counts)); n = length (busiest_of counts) }

-- what an answer lists
unfoldable pub listed : Busy → List Op
listed b = take b.n b.ops

-- what follows that in the array
unfoldable pub unlisted : Busy → List Op
unlisted b = drop b.n b.ops
