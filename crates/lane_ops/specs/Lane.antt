-- The cell ops and the lane-only ops: "21, 22, 23; n = 0 touches nothing", with the lanes of 02's ask 3. Assumes nothing.
use Rattle.std.specs.Prelude.{◌≡◌, List, ℕ, ◌+◌, ◌-◌, length, drop, ltb, eqb}
use Rattle.basics.specs.Pick.{pick}
use Rattle.lanes.specs.Int.{int_add}
use Rattle.lanes.specs.Lane.{cell_rule, lane_rule}
use Rattle.lane_loops.specs.Loops.{zip_to, map_to, beside}
use Rattle.lane_loops.specs.Rows.{cell_row, lane_row}
use Rattle.kind_table.specs.Columns.{cell_family, lane_family}
use Rattle.kind_table.specs.Kinds.{family_of}
use Rattle.lanes.specs.declared.lane.CellOp.{CellOp}
use Rattle.lanes.specs.declared.lane.LaneOp.{LaneOp}
use Rattle.machine_numbers.specs.Numbers.{at_pointer, of_length, next, lacking, answered, having, onward, OneList, one_list, Swapped, swapped}
use Rattle.machine_numbers.specs.Parts.{copied}
use Rattle.machine_numbers.specs.declared.numbers.Numbers.{Numbers}

-- n cells at the pointer `at`, of the counted length l and of a lent tape of m cells
unfoldable pub reached_of : ℕ → ℕ → ℕ → ℕ → ℕ
unfolding having pick
reached_of n at l m = pick (eqb (having 22 l at n) 0) (having 23 m at n) (having 22 l at n)

unfoldable pub cell_of : CellOp → ℕ → Numbers → List ℕ → List ℕ → OneList
unfolding pick
cell_of o n p g t =
    pick (eqb n 0) (one_list (answered 0 (next p)) g)
    (pick (ltb p.length (p.pointer + n)) (one_list (lacking 22 (p.length - p.pointer) p) g)
    (pick (ltb (length t) (p.pointer + n)) (one_list (lacking 23 (length t - p.pointer) p) g)
    (one_list (answered 0 (next p)) (zip_to (cell_rule o) n g (drop p.pointer t)))))

unfoldable pub swap_of : ℕ → Numbers → List ℕ → List ℕ → Swapped
unfolding pick
swap_of n p g t =
    pick (eqb n 0) (swapped (answered 0 (next p)) g t)
    (pick (ltb p.length (p.pointer + n)) (swapped (lacking 22 (p.length - p.pointer) p) g t)
    (pick (ltb (length t) (p.pointer + n)) (swapped (lacking 23 (length t - p.pointer) p) g t)
    (swapped (answered 0 (next p)) (zip_to beside n g (drop p.pointer t)) (copied t p.pointer g n))))

unfoldable pub alone_of : LaneOp → ℕ → Numbers → List ℕ → OneList
alone_of o n p g = one_list (answered 0 (next p)) (map_to (lane_rule o) n g)

-- by the pattern v
unfoldable pub offset_of : ℕ → ℕ → Numbers → List ℕ → OneList
offset_of v n p g = one_list (answered 0 (next p)) (map_to (λ x. int_add x v) n g)

-- what the op of row k leaves that answers r, at the pointer `at` of a tape of the counted length l, over any numbers of a machine: g' is the register
-- after it. Of a row of another family it says nothing.
pub record LaneDone (k n at l r : ℕ) (g t g' : List ℕ) : Type 0 where
  pub cell : family_of k ≡ cell_family → (p : Numbers)
      → one_list (onward r (of_length (at_pointer p at) l)) g' ≡ cell_of (cell_row k) n (of_length (at_pointer p at) l) g t
  pub alone : family_of k ≡ lane_family → (p : Numbers) → one_list (onward r p) g' ≡ alone_of (lane_row k) n p g
