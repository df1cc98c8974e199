-- The ops that steer, on the machine's numbers: ks has the rows of the patch's kinds, cs the saved calls, g the register, ts the table. Assumes nothing.
use Rattle.std.specs.Prelude.{Bool, ◌&&◌, ◌||◌, List, ℕ, ◌+◌, ◌-◌, ◌^◌, length, get_or, set, leb, ltb, eqb}
use Rattle.basics.specs.Limits.{depth}
use Rattle.basics.specs.Pick.{pick}
use Rattle.kind_table.specs.Rows as row
use Rattle.machine_numbers.specs.Numbers.{at_position, of_depth, of_functions, halt, next, answered, OneList, one_list, Steered, steered, OpAnswer}
use Rattle.partners.specs.Columns.{end_of, else_of, open_of, mark_of}
use Rattle.searches.specs.Found.{entered_in, counted_in}
use Rattle.machine_numbers.specs.declared.numbers.Numbers.{Numbers}

-- after the op at e, or 20 where e is no place
unfoldable pub jump_of : List ℕ → Numbers → ℕ → OpAnswer
unfolding pick
jump_of ks p e = pick (leb (length ks) e) (answered 20 p) (answered 0 (at_position p (e + 1)))

-- "enter its place in the table (sorted, once), go past its End (20)"
unfoldable pub function_of : List ℕ → Numbers → List ℕ → OneList
unfolding pick
function_of ks p ts =
    pick (leb (length ks) (end_of ks (p.position + 1))) (one_list (answered 20 p) ts)
    (one_list
    (answered 0 (at_position (of_functions p (counted_in p.position p.functions ts)) (end_of ks (p.position + 1) + 1)))
    (entered_in p.position p.functions ts))

-- "table entry k if the table has more than k", and by 02, ask 4, in the Rust's mode only
unfoldable pub asks_table : ℕ → ℕ → ℕ → Bool
asks_table mode k n = eqb mode 0 && ltb k n

-- what an entry of the table ts is held to: in the Rust's mode the table itself, by mark the marks fs
unfoldable pub held_to : ℕ → List ℕ → List ℕ → List ℕ
unfolding pick
held_to mode ts fs = pick (eqb mode 0) ts fs

-- whether entry k of the table is the mark that is meant: by mark, where it is the k-th of the marks fs
unfoldable pub stands_in : ℕ → ℕ → ℕ → List ℕ → List ℕ → Bool
stands_in mode k n ts fs = ltb k n && (eqb mode 0 || eqb (get_or ts k 0) (get_or fs k 0))

-- "21, 28, 32, 29 .. table entry k .., else the k-th mark .. entered in the table"
unfoldable pub call_of : List ℕ → Numbers → List ℕ → List ℕ → List ℕ → Steered
unfolding pick
call_of ks p cs g ts =
    pick (leb (2 ^ 63) (get_or g 0 0)) (steered (answered 28 p) cs ts)
    (pick (leb depth p.depth) (steered (answered 32 p) cs ts)
    (pick (asks_table p.mode (get_or g 0 0) p.functions)
    (steered (answered 0 (at_position (of_depth p (p.depth + 1)) (get_or ts (get_or g 0 0) 0 + 1))) (set cs p.depth p.position) ts)
    (pick (leb (length ks) (mark_of ks (get_or g 0 0))) (steered (answered 29 p) cs ts)
    (steered
    (answered 0 (at_position (of_functions (of_depth p (p.depth + 1)) (counted_in (mark_of ks (get_or g 0 0)) p.functions ts)) (mark_of ks (get_or g 0 0) + 1)))
    (set cs p.depth p.position)
    (entered_in (mark_of ks (get_or g 0 0)) p.functions ts)))))

-- "after the saved place; none saved, halt with position one on"
unfoldable pub ret_of : Numbers → List ℕ → OpAnswer
unfolding pick
ret_of p cs =
    pick (eqb p.depth 0) (answered 0 (next (halt p)))
    (answered 0 (at_position (of_depth p (p.depth - 1)) (get_or cs (p.depth - 1) 0 + 1)))

-- "While at zero: after its End"
unfoldable pub while_of : List ℕ → Numbers → List ℕ → OpAnswer
unfolding pick jump_of
while_of ks p g = pick (eqb (get_or g 0 0) 0) (jump_of ks p (end_of ks (p.position + 1))) (answered 0 (next p))

-- "If at zero: after its Else at depth 1, or after its End"
unfoldable pub if_of : List ℕ → Numbers → List ℕ → OpAnswer
unfolding pick jump_of
if_of ks p g = pick (eqb (get_or g 0 0) 0) (jump_of ks p (else_of ks (p.position + 1))) (answered 0 (next p))

-- "Else: after the enclosing End"
unfoldable pub elses_of : List ℕ → Numbers → OpAnswer
unfolding jump_of
elses_of ks p = jump_of ks p (end_of ks (p.position + 1))

-- "lane 0 not zero and its partner a While: the op after that While. Otherwise go on, partner or none"
unfoldable pub ends_of : List ℕ → Numbers → List ℕ → OpAnswer
unfolding pick
ends_of ks p g =
    pick (eqb (get_or g 0 0) 0) (answered 0 (next p))
    (pick (leb (length ks) (open_of ks p.position)) (answered 0 (next p))
    (pick (eqb (get_or ks (open_of ks p.position) 0) row.while) (answered 0 (at_position p (open_of ks p.position + 1))) (answered 0 (next p))))

-- the table's change beside the calls
abbrev pub in_table : List ℕ → OneList → Steered
in_table cs l = steered l.answer cs l.list

-- the op of row k
unfoldable pub control_of : ℕ → List ℕ → Numbers → List ℕ → List ℕ → List ℕ → Steered
unfolding pick
control_of k ks p cs g ts =
    pick (eqb k row.function) (in_table cs (function_of ks p ts))
    (pick (eqb k row.call) (call_of ks p cs g ts)
    (pick (eqb k row.ret) (steered (ret_of p cs) cs ts)
    (pick (eqb k row.while) (steered (while_of ks p g) cs ts)
    (pick (eqb k row.if) (steered (if_of ks p g) cs ts)
    (pick (eqb k row.else) (steered (elses_of ks p) cs ts)
    (pick (eqb k row.end) (steered (ends_of ks p g) cs ts)
    (steered (answered 0 (next p)) cs ts)))))))
