-- The ops of the register as a whole, of the pointer and of the tape: g is the register, t the tape, rs the saved pointers. Assumes nothing.
use Rattle.std.specs.Prelude.{List, ℕ, ◌+◌, ◌-◌, ◌*◌, ◌/◌, ◌^◌, length, get_or, set, drop, leb, ltb, eqb}
use Rattle.basics.specs.Limits.{depth, farthest, longest, first_block}
use Rattle.basics.specs.Pick.{pick}
use Rattle.kind_table.specs.Rows as row
use Rattle.lane_loops.specs.Loops.{zip_to, beside}
use Rattle.byte_fields.specs.Bytes.{u64_at, values_at}
use Rattle.byte_fields.specs.Storage.{fill}
use Rattle.machine_numbers.specs.Parts.{copied}
use Rattle.machine_numbers.specs.Numbers.{at_pointer, of_length, of_lanes, of_saved, next, lacking, answered, OneList, one_list, Taped, taped, OpAnswer}
use Rattle.machine_numbers.specs.declared.numbers.Numbers.{Numbers}

abbrev pub growth : ℕ
growth = 100_000

-- "if pointer + n is not below the counted length, add 100,000 times (floor((pointer + n - length) / 100,000) + 1)": e is pointer + n
unfoldable pub reach : ℕ → ℕ → ℕ
unfolding pick
reach l e = pick (ltb e l) l (l + growth * ((e - l) / growth + 1))

-- "Set: the register is its values": n of them, from byte a on
unfoldable pub set_of : ℕ → ℕ → Numbers → List ℕ → List ℕ → OneList
set_of n a p g bs = one_list (answered 0 (next (of_lanes p n))) (fill (values_at bs a n) g)

-- "Load makes the register n lanes. Order .. 23 (only if n > 0)"
unfoldable pub load_of : ℕ → Numbers → List ℕ → List ℕ → OneList
unfolding pick
load_of n p g t =
    pick (eqb n 0) (one_list (answered 0 (next (of_lanes (of_length p (reach p.length (p.pointer + n))) n))) g)
    (pick (ltb (length t) (p.pointer + n)) (one_list (lacking 23 (length t - p.pointer) p) g)
    (one_list (answered 0 (next (of_lanes (of_length p (reach p.length (p.pointer + n))) n))) (zip_to beside n g (drop p.pointer t))))

unfoldable pub store_of : ℕ → Numbers → List ℕ → List ℕ → OneList
unfolding pick
store_of n p g t =
    pick (eqb n 0) (one_list (answered 0 (next (of_length p (reach p.length (p.pointer + n))))) t)
    (pick (ltb (length t) (p.pointer + n)) (one_list (lacking 23 (length t - p.pointer) p) t)
    (one_list (answered 0 (next (of_length p (reach p.length (p.pointer + n))))) (copied t p.pointer g n)))

-- "Move: 24, 25", by the signed amount that the pattern a has
unfoldable pub move_of : ℕ → Numbers → OpAnswer
unfolding pick
move_of a p =
    pick (ltb a (2 ^ 63))
    (pick (leb (p.pointer + a) farthest) (answered 0 (next (at_pointer p (p.pointer + a)))) (answered 25 p))
    (pick (leb (2 ^ 64 - a) p.pointer) (answered 0 (next (at_pointer p (p.pointer - (2 ^ 64 - a))))) (answered 24 p))

-- "Where: 21; pointer to lane 0"
unfoldable pub where_of : Numbers → List ℕ → OneList
where_of p g = one_list (answered 0 (next p)) (set g 0 p.pointer)

-- "Deref saves the pointer and takes the cell's value for it: 32, 23 (pointer not below the lent tape), 26, 25"
unfoldable pub deref_of : Numbers → List ℕ → List ℕ → OneList
unfolding pick
deref_of p rs t =
    pick (leb depth p.saved) (one_list (answered 32 p) rs)
    (pick (leb (length t) p.pointer) (one_list (answered 23 p) rs)
    (pick (leb (2 ^ 63) (get_or t p.pointer 0)) (one_list (answered 26 p) rs)
    (pick (ltb farthest (get_or t p.pointer 0)) (one_list (answered 25 p) rs)
    (one_list
    (answered 0 (next (at_pointer (of_saved (of_length p (reach p.length p.pointer)) (p.saved + 1)) (get_or t p.pointer 0))))
    (set rs p.saved p.pointer)))))

-- "Refer takes back the last saved: 27"
unfoldable pub refer_of : Numbers → List ℕ → OpAnswer
unfolding pick
refer_of p rs = pick (eqb p.saved 0) (answered 27 p) (answered 0 (next (at_pointer (of_saved p (p.saved - 1)) (get_or rs (p.saved - 1) 0))))

-- 02, ask 12: "let Alloc test for zero only"
unfoldable pub stocked : ℕ → ℕ
unfolding pick
stocked l = pick (eqb l 0) first_block l

-- "Alloc: 21, 30; .. answer length - 1, then grow by lane 0"
unfoldable pub alloc_of : Numbers → List ℕ → OneList
unfolding pick
alloc_of p g =
    pick (leb (2 ^ 63) (get_or g 0 0)) (one_list (answered 30 p) g)
    (pick (ltb longest (stocked p.length + get_or g 0 0)) (one_list (answered 30 p) g)
    (one_list (answered 0 (next (of_length p (stocked p.length + get_or g 0 0)))) (set g 0 (stocked p.length - 1))))

-- a list's change among the three
abbrev pub in_register : List ℕ → List ℕ → OneList → Taped
in_register rs t l = taped l.answer rs l.list t

abbrev pub in_tape : List ℕ → List ℕ → OneList → Taped
in_tape rs g l = taped l.answer rs g l.list

abbrev pub in_refs : List ℕ → List ℕ → OneList → Taped
in_refs g t l = taped l.answer l.list g t

-- the op of row k, with n lanes or values and its payload at byte a
unfoldable pub tape_of : ℕ → ℕ → ℕ → Numbers → List ℕ → List ℕ → List ℕ → List ℕ → Taped
unfolding pick
tape_of k n a p rs g t bs =
    pick (eqb k row.set) (in_register rs t (set_of n a p g bs))
    (pick (eqb k row.store) (in_tape rs g (store_of n p g t))
    (pick (eqb k row.load) (in_register rs t (load_of n p g t))
    (pick (eqb k row.move) (taped (move_of (u64_at bs a) p) rs g t)
    (pick (eqb k row.locate) (in_register rs t (where_of p g))
    (pick (eqb k row.deref) (in_refs g t (deref_of p rs t))
    (pick (eqb k row.refer) (taped (refer_of p rs) rs g t)
    (pick (eqb k row.standard_set) (in_register rs t (set_of n a p g bs))
    (pick (eqb k row.alloc) (in_register rs t (alloc_of p g))
    (taped (answered 0 (next p)) rs g t)))))))))
