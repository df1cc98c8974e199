-- The families of the kinds. Assumes nothing.
use Rattle.std.specs.Prelude.{ℕ}

-- ---- the families: the tape's, those that steer, lanes with cells, lanes alone, the device's, Offset, Swap

abbrev pub tape_family : ℕ
tape_family = 0

abbrev pub control_family : ℕ
control_family = 1

abbrev pub cell_family : ℕ
cell_family = 2

abbrev pub lane_family : ℕ
lane_family = 3

abbrev pub device_family : ℕ
device_family = 4

abbrev pub offset_family : ℕ
offset_family = 5

abbrev pub swap_family : ℕ
swap_family = 6
