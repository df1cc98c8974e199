-- `lane_ops::lane::lane_op` meets its contract: each arm is its op's, by the family of its row and by its rule. Assumes nothing.
use mathlib.Core.Path.{refl}
use native.Mathlib.Omega.{arith}
use Rattle.kind_table.specs.Kinds.{family_of}
use Rattle.lanes.specs.Lane.{cell_rule, lane_rule}
use Rattle.lane_loops.specs.Rows.{cell_row, lane_row}
use Rattle.lane_ops.proofs.Rows.{cell_done, alone_done, none_done}
use borrow.Author.Rules.{rules}
use Rattle.lane_ops.proofs.lane.lane_op.Goals as goal

pub returns-in-15 : goal.returns-in-15
unfolding family_of cell_row cell_rule
returns-in-15 c = cell_done c.requires.0 c.in-15.is _ _ _ _ _ _ _ refl (c.cell.ensures _ (λ a b r p. search rules))

pub returns-in-17 : goal.returns-in-17
unfolding family_of cell_row cell_rule
returns-in-17 c = cell_done c.requires.0 c.in-17.is _ _ _ _ _ _ _ refl (c.cell-in-17.ensures _ (λ a b r p. search rules))

pub returns-in-18 : goal.returns-in-18
unfolding family_of cell_row cell_rule
returns-in-18 c = cell_done c.requires.0 c.in-18.is _ _ _ _ _ _ _ refl (c.cell-in-18.ensures _ (λ a b r p. search rules))

pub returns-in-19 : goal.returns-in-19
unfolding family_of cell_row cell_rule
returns-in-19 c = cell_done c.requires.0 c.in-19.is _ _ _ _ _ _ _ refl (c.cell-in-19.ensures _ (λ a b r p. search rules))

pub returns-in-20 : goal.returns-in-20
unfolding family_of cell_row cell_rule
returns-in-20 c = cell_done c.requires.0 c.in-20.is _ _ _ _ _ _ _ refl (c.cell-in-20.ensures _ (λ a b r p. search rules))

pub returns-in-21 : goal.returns-in-21
unfolding family_of lane_row lane_rule
returns-in-21 c = alone_done c.requires.0 c.in-21.is _ _ _ _ _ _ _ refl (c.alone.ensures _ (λ a r p. search rules))

pub returns-in-22 : goal.returns-in-22
unfolding family_of cell_row cell_rule
returns-in-22 c = cell_done c.requires.0 c.in-22.is _ _ _ _ _ _ _ refl (c.cell-in-22.ensures _ (λ a b r p. search rules))

pub returns-in-23 : goal.returns-in-23
unfolding family_of cell_row cell_rule
returns-in-23 c = cell_done c.requires.0 c.in-23.is _ _ _ _ _ _ _ refl (c.cell-in-23.ensures _ (λ a b r p. search rules))

pub returns-in-24 : goal.returns-in-24
unfolding family_of cell_row cell_rule
returns-in-24 c = cell_done c.requires.0 c.in-24.is _ _ _ _ _ _ _ refl (c.cell-in-24.ensures _ (λ a b r p. search rules))

pub returns-in-25 : goal.returns-in-25
unfolding family_of cell_row cell_rule
returns-in-25 c = cell_done c.requires.0 c.in-25.is _ _ _ _ _ _ _ refl (c.cell-in-25.ensures _ (λ a b r p. search rules))

pub returns-in-26 : goal.returns-in-26
unfolding family_of cell_row cell_rule
returns-in-26 c = cell_done c.requires.0 c.in-26.is _ _ _ _ _ _ _ refl (c.cell-in-26.ensures _ (λ a b r p. search rules))

pub returns-in-27 : goal.returns-in-27
unfolding family_of lane_row lane_rule
returns-in-27 c = alone_done c.requires.0 c.in-27.is _ _ _ _ _ _ _ refl (c.alone-in-27.ensures _ (λ a r p. search rules))

pub returns-in-28 : goal.returns-in-28
unfolding family_of cell_row cell_rule
returns-in-28 c = cell_done c.requires.0 c.in-28.is _ _ _ _ _ _ _ refl (c.cell-in-28.ensures _ (λ a b r p. search rules))

pub returns-in-29 : goal.returns-in-29
unfolding family_of cell_row cell_rule
returns-in-29 c = cell_done c.requires.0 c.in-29.is _ _ _ _ _ _ _ refl (c.cell-in-29.ensures _ (λ a b r p. search rules))

pub returns-in-30 : goal.returns-in-30
unfolding family_of cell_row cell_rule
returns-in-30 c = cell_done c.requires.0 c.in-30.is _ _ _ _ _ _ _ refl (c.cell-in-30.ensures _ (λ a b r p. search rules))

pub returns-in-31 : goal.returns-in-31
unfolding family_of cell_row cell_rule
returns-in-31 c = cell_done c.requires.0 c.in-31.is _ _ _ _ _ _ _ refl (c.cell-in-31.ensures _ (λ a b r p. search rules))

pub returns-in-32 : goal.returns-in-32
unfolding family_of cell_row cell_rule
returns-in-32 c = cell_done c.requires.0 c.in-32.is _ _ _ _ _ _ _ refl (c.cell-in-32.ensures _ (λ a b r p. search rules))

pub returns-in-33 : goal.returns-in-33
unfolding family_of lane_row lane_rule
returns-in-33 c = alone_done c.requires.0 c.in-33.is _ _ _ _ _ _ _ refl (c.alone-in-33.ensures _ (λ a r p. search rules))

pub returns-in-34 : goal.returns-in-34
unfolding family_of lane_row lane_rule
returns-in-34 c = alone_done c.requires.0 c.in-34.is _ _ _ _ _ _ _ refl (c.alone-in-34.ensures _ (λ a r p. search rules))

pub returns-in-35 : goal.returns-in-35
unfolding family_of lane_row lane_rule
returns-in-35 c = alone_done c.requires.0 c.in-35.is _ _ _ _ _ _ _ refl (c.alone-in-35.ensures _ (λ a r p. search rules))

pub returns-in-37 : goal.returns-in-37
unfolding family_of lane_row lane_rule
returns-in-37 c = alone_done c.requires.0 c.in-37.is _ _ _ _ _ _ _ refl (c.alone-in-37.ensures _ (λ a r p. search rules))

pub returns-in-43 : goal.returns-in-43
unfolding family_of lane_row lane_rule
returns-in-43 c = alone_done c.requires.0 c.in-43.is _ _ _ _ _ _ _ refl (c.alone-in-43.ensures _ (λ a r p. search rules))

pub returns-in-44 : goal.returns-in-44
unfolding family_of lane_row lane_rule
returns-in-44 c = alone_done c.requires.0 c.in-44.is _ _ _ _ _ _ _ refl (c.alone-in-44.ensures _ (λ a r p. search rules))

pub returns-in-45 : goal.returns-in-45
unfolding family_of cell_row cell_rule
returns-in-45 c = cell_done c.requires.0 c.in-45.is _ _ _ _ _ _ _ refl (c.cell-in-45.ensures _ (λ a b r p. search rules))

pub returns-in-46 : goal.returns-in-46
unfolding family_of cell_row cell_rule
returns-in-46 c = cell_done c.requires.0 c.in-46.is _ _ _ _ _ _ _ refl (c.cell-in-46.ensures _ (λ a b r p. search rules))

pub returns-in-47 : goal.returns-in-47
unfolding family_of cell_row cell_rule
returns-in-47 c = cell_done c.requires.0 c.in-47.is _ _ _ _ _ _ _ refl (c.cell-in-47.ensures _ (λ a b r p. search rules))

pub returns-in-48 : goal.returns-in-48
unfolding family_of cell_row cell_rule
returns-in-48 c = cell_done c.requires.0 c.in-48.is _ _ _ _ _ _ _ refl (c.cell-in-48.ensures _ (λ a b r p. search rules))

pub returns-in-49 : goal.returns-in-49
unfolding family_of cell_row cell_rule
returns-in-49 c = cell_done c.requires.0 c.in-49.is _ _ _ _ _ _ _ refl (c.cell-in-49.ensures _ (λ a b r p. search rules))

pub returns-in-50 : goal.returns-in-50
unfolding family_of lane_row lane_rule
returns-in-50 c = alone_done c.requires.0 c.in-50.is _ _ _ _ _ _ _ refl (c.alone-in-50.ensures _ (λ a r p. search rules))

pub returns-in-51 : goal.returns-in-51
unfolding family_of lane_row lane_rule
returns-in-51 c = alone_done c.requires.0 c.in-51.is _ _ _ _ _ _ _ refl (c.alone-in-51.ensures _ (λ a r p. search rules))

pub returns-in-62 : goal.returns-in-62
returns-in-62 c = let h = c.requires.0 in absurd (omega (arith, h, c.in-62.is))

pub returns-in_default : goal.returns-in_default
returns-in_default c = none_done c.requires.0 c.in_default.in_default-own.rest _ _ _ _ _ _ _
