-- The stack that the code joins on: its entries, the push of one, and the file's ops that they stand for. Assumes nothing.
use Rattle.std.specs.Prelude.{ℕ, zero, suc, ◌<◌, Bool, true, false, cond, List, [], ◌∷◌, map, reverse, eqb, get_or}
use Rattle.kind_table.specs.Rows as row
use Rattle.lanes.specs.Int.{int_add, int_gez}
use Rattle.byte_fields.specs.Bytes.{u64_at}
use Rattle.ops.specs.Patch.{Item}
use Rattle.ops.specs.Decode.{op_at}
use Rattle.ops.specs.Syntax.{Op}
use Rattle.ops.specs.Write.{encode_all}
use Rattle.ops.specs.Syntax.Plain.{move}
use Rattle.ops.specs.Syntax.Sort.{ints}
use Rattle.ops.specs.Syntax.Op.{set, plain}
use Rattle.joining.specs.Source.{item_at}
use Rattle.joining.specs.declared.entry.Entry.{Entry}
use Rattle.joining.specs.declared.entry.Seen.{Seen}
use Rattle.joining.specs.declared.met.Met.{Met}
use Rattle.joining.specs.declared.met.Met.TheVariants.{Push, Skip, Pop, Again, Test, Under, Sum}
use Rattle.joining.specs.declared.stack.Stack.{Stack}

-- ---- entries

-- op i, with the value v by now
abbrev pub entry : ℕ → ℕ → Entry
entry i v = record { op = i; value = v }

-- whether an op of row k that counts n has a value of its own
unfoldable pub valued : ℕ → ℕ → Bool
valued k n = cond (eqb k row.move) true (cond (eqb k row.set) (eqb n 1) false)

-- the value that it has in the file s, at byte p
unfoldable pub value_of : List ℕ → ℕ → ℕ → ℕ → ℕ
value_of s k n p = cond (valued k n) (u64_at s p) 0

-- ---- the push of an entry, where ks and ns have the file's rows and counts

-- two cell ops: the second of the same count does nothing more
unfoldable pub cells : ℕ → ℕ → ℕ → Met
cells yk yn xn = cond (eqb yn xn) (cond (eqb yk row.store) Skip (cond (eqb yk row.load) Skip Push)) Push

-- gez after a set
unfoldable pub tests : ℕ → ℕ → ℕ → ℕ → Met
tests yk yn yv xn = cond (eqb xn 1) (cond (eqb yk row.set) (cond (eqb yn 1) (Test (int_gez yv)) Push) Push) Push

-- what the last op y and the new one x make of each other, by row, count and value
unfoldable pub meet : ℕ → ℕ → ℕ → ℕ → ℕ → ℕ → Met
meet yk yn yv xk xn xv =
    cond (eqb xk row.move) (cond (eqb yk row.move) (cond (eqb (int_add yv xv) 0) Pop (Sum (int_add yv xv))) Push)
    (cond (eqb xk row.set) (cond (eqb yk row.set) Again (cond (eqb yk row.move) Under Push))
    (cond (eqb xk row.refer) (cond (eqb yk row.deref) Pop (cond (eqb yk row.move) Again Push))
    (cond (eqb xk row.end) (cond (eqb yk row.else) Again Push)
    (cond (eqb xk row.offset) (cond (eqb yk row.move) Under Push)
    (cond (eqb xk row.store) (cells yk yn xn)
    (cond (eqb xk row.load) (cells yk yn xn)
    (cond (eqb xk row.is_non_negative) (tests yk yn yv xn) Push)))))))

abbrev pub met : List ℕ → List ℕ → Entry → Entry → Met
met ks ns y x = meet (get_or ks y.op 0) (get_or ns y.op 0) y.value (get_or ks x.op 0) (get_or ns x.op 0) x.value

abbrev pub seen_of : List ℕ → List ℕ → Entry → Seen
seen_of ks ns e = record { row = get_or ks e.op 0; count = get_or ns e.op 0; value = e.value }

-- a move is pushed
abbrev pub moved_on : List ℕ → List Entry → Entry → List Entry
moved_on ks [] m = m ∷ []
moved_on ks (y ∷ st) m =
    cond (eqb (get_or ks y.op 0) row.move)
    (cond (eqb (int_add y.value m.value) 0) st (entry y.op (int_add y.value m.value) ∷ st))
    (m ∷ y ∷ st)

abbrev pub react_on : List ℕ → Met → Entry → List Entry → Entry → (Entry → List Entry) → List Entry
react_on ks Push y st x f = x ∷ y ∷ st
react_on ks Skip y st x f = y ∷ st
react_on ks Pop y st x f = st
react_on ks Again y st x f = f x
react_on ks (Test v) y st x f = f (entry y.op v)
react_on ks Under y st x f = moved_on ks (f x) y
react_on ks (Sum v) y st x f = entry y.op v ∷ st

abbrev pub push_on : List ℕ → List ℕ → List Entry → Entry → List Entry
push_on ks ns [] x = x ∷ []
push_on ks ns (y ∷ st) x = react_on ks (met ks ns y x) y st x (push_on ks ns st)

-- the first n entries of a list of ops and one of their values, the last one first
abbrev pub top_down : List ℕ → List ℕ → ℕ → List Entry
top_down is vs zero = []
top_down is vs (suc n) = entry (get_or is n 0) (get_or vs n 0) ∷ top_down is vs n

abbrev pub stack : Stack → List Entry
stack st = top_down st.ops st.values st.n

-- the entry at a place
abbrev pub entry_in : Stack → ℕ → Entry
entry_in st i = entry (get_or st.ops i 0) (get_or st.values i 0)

-- ---- the file's ops

-- the entry of the op i of s
abbrev pub entry_at : List ℕ → ℕ → Entry
entry_at s i = entry i (value_of s (item_at s i).row (item_at s i).count (item_at s i).payload)

-- the stack after the first i ops of s
abbrev pub after : List ℕ → List ℕ → List ℕ → ℕ → List Entry
after s ks ns zero = []
after s ks ns (suc i) = push_on ks ns (after s ks ns i) (entry_at s i)

-- the op that an item stands for where its own value, if it has one, is v
abbrev pub op_within : List ℕ → Item → ℕ → Op
op_within s i v = cond (eqb i.row row.move) (plain (move v)) (cond (eqb i.row row.set) (cond (eqb i.count 1) (set ints (v ∷ [])) (op_at s i)) (op_at s i))

-- the op that an entry stands for
abbrev pub op_of : List ℕ → Entry → Op
op_of s e = op_within s (item_at s e.op) e.value

-- the file of the ops that the entries stand for, the first one first
unfoldable pub file : List ℕ → List Entry → List ℕ
file s st = encode_all (reverse (map (op_of s) st))

-- each entry is of one of n ops
abbrev pub Within : ℕ → List Entry → Type 0
Within n [] = Unit {0}
Within n (e ∷ st) = (e.op < n) × Within n st
