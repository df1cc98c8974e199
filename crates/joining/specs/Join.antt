-- Joining: "pushes each core op through `StandardProgram::op`, each standard op as `std_op` does". The list has its last op first, and the
-- tests stand in the order of the Rust's arms. Assumes nothing.
use Rattle.std.specs.Prelude.{ℕ, Bool, cond, ◌&&◌, List, [], ◌∷◌, reverse, eqb, length, get_or}
use Rattle.kind_table.specs.Rows as row
use Rattle.lanes.specs.Int.{int_add, int_gez}
use Rattle.ops.specs.Syntax.{Op, kind_of, arg_of, values_of}
use Rattle.ops.specs.Syntax.Plain.{move}
use Rattle.ops.specs.Syntax.Sort.{ints}
use Rattle.ops.specs.Syntax.Op.{set, plain}

-- what the last op and the new one make of each other: the new one is pushed, or left out; the last one is popped, then nothing is pushed,
-- another op is pushed on what is left, the new one is pushed on what is left and the last one after it, or a move by n stands for both
pub data Rule : Type 0 where
  push skip pop : Rule
  again : Op → Rule
  under : Rule
  sum : ℕ → Rule

-- the last op is of kind a, the new one of kind b: of core kinds, which have their row's number
abbrev pub both : ℕ → ℕ → Op → Op → Bool
both a b last new = eqb (kind_of new) b && eqb (kind_of last) a

-- the same, with the same count
abbrev pub alike : ℕ → ℕ → Op → Op → Bool
alike a b last new = both a b last new && eqb (arg_of last) (arg_of new)

-- two moves: their sum, which wraps; nothing is left where it is 0
abbrev pub total : Op → Op → ℕ
total last new = int_add (arg_of last) (arg_of new)

-- gez at a set: only a core Set of exactly one value, and a gez of one lane
abbrev pub decided : Op → Op → Bool
decided last new = both row.set row.is_non_negative last new && eqb (arg_of new) 1 && eqb (length (values_of last)) 1

abbrev pub tested : Op → Op
tested last = set ints (int_gez (get_or (values_of last) 0 0) ∷ [])

-- the arms of `op`, in their order. A standard op is of no kind that is named here: it is pushed, and it stops joining
unfoldable pub rule : Op → Op → Rule
rule last new =
    cond (both row.move row.move last new) (cond (eqb (total last new) 0) pop (sum (total last new)))
    (cond (both row.set row.set last new) (again new)
    (cond (both row.deref row.refer last new) pop
    (cond (both row.else row.end last new) (again new)
    (cond (both row.move row.refer last new) (again new)
    (cond (both row.move row.set last new) under
    (cond (both row.move row.offset last new) under
    (cond (alike row.store row.store last new) skip
    (cond (alike row.load row.load last new) skip
    (cond (alike row.store row.load last new) skip
    (cond (alike row.load row.store last new) skip
    (cond (decided last new) (again (tested last))
    push)))))))))))

-- a move is pushed: the second call where a move gives way, which calls nothing again. That it is `op` is proved in proofs/Pushes
unfoldable pub moved : List Op → Op → List Op
moved [] new = new ∷ []
moved (last ∷ st) new =
    cond (eqb (kind_of last) row.move) (cond (eqb (total last new) 0) st (plain (move (total last new)) ∷ st)) (new ∷ last ∷ st)

-- what is done, where f pushes on what is left of the list
abbrev pub react : Rule → Op → List Op → Op → (Op → List Op) → List Op
unfolding moved
react push last st new f = new ∷ last ∷ st
react skip last st new f = last ∷ st
react pop last st new f = st
react (again o) last st new f = f o
react under last st new f = moved (f new) last
react (sum n) last st new f = plain (move n) ∷ st

-- "`op` calling itself: recursion on the falling length"
unfoldable pub op : List Op → Op → List Op
unfolding rule moved
op [] new = new ∷ []
op (last ∷ st) new = react (rule last new) last st new (op st)

unfoldable pub pushes : List Op → List Op → List Op
unfolding op
pushes st [] = st
pushes st (o ∷ os) = pushes (op st o) os

-- a patch joined
unfoldable pub join : List Op → List Op
unfolding pushes
join os = reverse (pushes [] os)
