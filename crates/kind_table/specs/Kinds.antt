-- "A fixed table gives each kind its payload and lane need": the 62 kinds, by row, with the lanes known after an op of the kind, and its
-- family. Assumes nothing.
use Rattle.std.specs.Prelude.{ℕ, ◌+◌, ◌-◌, Bool, true, false, cond, List, [], ◌∷◌, get_or, ltb}
use Rattle.kind_table.specs.Columns.{tape_family, control_family, cell_family, lane_family, device_family, offset_family, swap_family}
use Rattle.kind_table.specs.declared.kinds.Kind.{Kind}
use Rattle.kind_table.specs.declared.shape.Shape.{Shape}
use Rattle.kind_table.specs.declared.shape.Shape.TheVariants.{Empty, Text, Values, LaneCount, Amount, AmountAndLanes, Mode, LeftOut, Binding}
use Rattle.kind_table.specs.declared.need.Need.{Need}
use Rattle.kind_table.specs.declared.need.Need.TheVariants.{NoLane, OneLane, OwnLanes, OneInCheck}
use Rattle.kind_table.specs.declared.known.Known.{Known}
use Rattle.kind_table.specs.declared.known.Known.TheVariants.{AsBefore, OwnCount, OneKnown}

abbrev pub kind : Shape → Need → Known → Kind
kind s n a = record { shape = s; need = n; known = a }

abbrev pub shape : Kind → Shape
shape k = k.shape

-- the kind is left out
abbrev pub left_out : Shape → Bool
left_out Empty = false
left_out Text = false
left_out Values = false
left_out LaneCount = false
left_out Amount = false
left_out AmountAndLanes = false
left_out Mode = false
left_out LeftOut = true
left_out Binding = false

abbrev pub need : Kind → Need
need k = k.need

abbrev pub after : Kind → Known
after k = k.known

abbrev pub kinds : List Kind
kinds =
    -- Comment
    kind Text NoLane AsBefore ∷
    -- Set
    kind Values NoLane OwnCount ∷
    -- Function, Call, Return, While, If, Else, End
    kind Empty OneInCheck OneKnown ∷
    kind Empty OneLane OneKnown ∷
    kind Empty OneInCheck OneKnown ∷
    kind Empty OneLane OneKnown ∷
    kind Empty OneLane OneKnown ∷
    kind Empty OneInCheck OneKnown ∷
    kind Empty OneLane OneKnown ∷
    -- Store, Load
    kind LaneCount OwnLanes AsBefore ∷
    kind LaneCount NoLane OwnCount ∷
    -- Move
    kind Amount NoLane AsBefore ∷
    -- Where, Deref, Refer
    kind Empty OneLane AsBefore ∷
    kind Empty NoLane AsBefore ∷
    kind Empty NoLane AsBefore ∷
    -- Index
    kind LaneCount OwnLanes AsBefore ∷
    -- Offset
    kind AmountAndLanes OwnLanes AsBefore ∷
    -- BitwiseNand, BitwiseAnd, BitwiseOr, BitwiseXor, BitwiseNot, LeftShift, LogicalRightShift, ArithmeticRightShift
    kind LaneCount OwnLanes AsBefore ∷
    kind LaneCount OwnLanes AsBefore ∷
    kind LaneCount OwnLanes AsBefore ∷
    kind LaneCount OwnLanes AsBefore ∷
    kind LaneCount OwnLanes AsBefore ∷
    kind LaneCount OwnLanes AsBefore ∷
    kind LaneCount OwnLanes AsBefore ∷
    kind LaneCount OwnLanes AsBefore ∷
    -- And, Or, Not
    kind LaneCount OwnLanes AsBefore ∷
    kind LaneCount OwnLanes AsBefore ∷
    kind LaneCount OwnLanes AsBefore ∷
    -- Add, Sub, Mul, Div, Rem
    kind LaneCount OwnLanes AsBefore ∷
    kind LaneCount OwnLanes AsBefore ∷
    kind LaneCount OwnLanes AsBefore ∷
    kind LaneCount OwnLanes AsBefore ∷
    kind LaneCount OwnLanes AsBefore ∷
    -- Neg, Inc, Dec, Swap, IsNonNegative
    kind LaneCount OwnLanes AsBefore ∷
    kind LaneCount OwnLanes AsBefore ∷
    kind LaneCount OwnLanes AsBefore ∷
    kind LaneCount OwnLanes AsBefore ∷
    kind LaneCount OwnLanes AsBefore ∷
    -- Get, Put
    kind Mode OneLane AsBefore ∷
    kind Mode OneLane AsBefore ∷
    -- standard Set
    kind Values NoLane OwnCount ∷
    -- Alloc, Free
    kind Empty OneLane AsBefore ∷
    kind Empty NoLane AsBefore ∷
    -- ToInt, ToFloat
    kind LaneCount OwnLanes AsBefore ∷
    kind LaneCount OwnLanes AsBefore ∷
    -- FloatAdd, FloatSub, FloatMul, FloatDiv, FloatRem
    kind LaneCount OwnLanes AsBefore ∷
    kind LaneCount OwnLanes AsBefore ∷
    kind LaneCount OwnLanes AsBefore ∷
    kind LaneCount OwnLanes AsBefore ∷
    kind LaneCount OwnLanes AsBefore ∷
    -- FloatNeg, FloatIsNonNegative
    kind LaneCount OwnLanes AsBefore ∷
    kind LaneCount OwnLanes AsBefore ∷
    -- Sin, Cos, Tan, ASin, ACos, ATan, Pow: left out
    kind LeftOut NoLane AsBefore ∷
    kind LeftOut NoLane AsBefore ∷
    kind LeftOut NoLane AsBefore ∷
    kind LeftOut NoLane AsBefore ∷
    kind LeftOut NoLane AsBefore ∷
    kind LeftOut NoLane AsBefore ∷
    kind LeftOut NoLane AsBefore ∷
    -- Peek, Poke
    kind Empty OneLane AsBefore ∷
    kind Empty OneLane AsBefore ∷
    -- standard Call: 02, ask 9: "The check needs no lane for it"
    kind Binding NoLane AsBefore ∷
    []

-- row k; blank beyond the last
unfoldable pub kind_at : ℕ → Kind
kind_at k = get_or kinds k (kind Empty NoLane AsBefore)

-- the number of a standard kind, by its row
abbrev pub standard : ℕ → ℕ
standard k = k + 216

-- "Core kinds 0 to 39 ..; standard kinds 256 to 277": the row of a kind's number, 62 where no kind has it
unfoldable pub index_of : ℕ → ℕ
index_of k = cond (ltb k 40) k (cond (ltb k 256) 62 (cond (ltb k 278) (k - 216) 62))

-- the lanes that a run of an op of row k asks for, where the op counts n
abbrev pub lanes_asked : Need → ℕ → ℕ
lanes_asked NoLane n = 0
lanes_asked OneLane n = 1
lanes_asked OwnLanes n = n
lanes_asked OneInCheck n = 0

unfoldable pub run_need : ℕ → ℕ → ℕ
run_need k n = lanes_asked (need (kind_at k)) n

-- the family of each row
abbrev pub families : List ℕ
families =
    -- Comment
    tape_family ∷
    -- Set
    tape_family ∷
    -- Function, Call, Return, While, If, Else, End
    control_family ∷ control_family ∷ control_family ∷ control_family ∷ control_family ∷ control_family ∷ control_family ∷
    -- Store, Load
    tape_family ∷ tape_family ∷
    -- Move
    tape_family ∷
    -- Where, Deref, Refer
    tape_family ∷ tape_family ∷ tape_family ∷
    -- Index
    cell_family ∷
    -- Offset
    offset_family ∷
    -- BitwiseNand, BitwiseAnd, BitwiseOr, BitwiseXor, BitwiseNot, LeftShift, LogicalRightShift, ArithmeticRightShift
    cell_family ∷ cell_family ∷ cell_family ∷ cell_family ∷ lane_family ∷ cell_family ∷ cell_family ∷ cell_family ∷
    -- And, Or, Not
    cell_family ∷ cell_family ∷ lane_family ∷
    -- Add, Sub, Mul, Div, Rem
    cell_family ∷ cell_family ∷ cell_family ∷ cell_family ∷ cell_family ∷
    -- Neg, Inc, Dec, Swap, IsNonNegative
    lane_family ∷ lane_family ∷ lane_family ∷ swap_family ∷ lane_family ∷
    -- Get, Put
    device_family ∷ device_family ∷
    -- standard Set
    tape_family ∷
    -- Alloc, Free
    tape_family ∷ tape_family ∷
    -- ToInt, ToFloat
    lane_family ∷ lane_family ∷
    -- FloatAdd, FloatSub, FloatMul, FloatDiv, FloatRem
    cell_family ∷ cell_family ∷ cell_family ∷ cell_family ∷ cell_family ∷
    -- FloatNeg, FloatIsNonNegative
    lane_family ∷ lane_family ∷
    -- Sin, Cos, Tan, ASin, ACos, ATan, Pow: left out
    tape_family ∷ tape_family ∷ tape_family ∷ tape_family ∷ tape_family ∷ tape_family ∷ tape_family ∷
    -- Peek, Poke
    device_family ∷ device_family ∷
    -- standard Call
    device_family ∷
    []

unfoldable pub family_of : ℕ → ℕ
family_of k = get_or families k tape_family
