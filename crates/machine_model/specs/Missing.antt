-- 02, ask 3: "the first lane that could not be had", said of the state alone. Assumes nothing.
use Rattle.std.specs.Prelude.{ℕ, ◌+◌, ◌<◌, ◌≡◌, length}
use Rattle.lanes.specs.declared.lane.CellOp.{CellOp}
use Rattle.ops.specs.Syntax.{Op, needs}
use Rattle.ops.specs.Syntax.Plain.{store, swap, deref, cell}
use Rattle.ops.specs.Syntax.Op.{load, plain}
use Rattle.machine_model.specs.State.{State}

-- the ops that ask for n cells, from the pointer on
pub data AsksCells : Op → ℕ → Type 0 where
  loads : {n : ℕ} → AsksCells (load n) n
  stores : {n : ℕ} → AsksCells (plain (store n)) n
  swaps : {n : ℕ} → AsksCells (plain (swap n)) n
  combines : {k : CellOp} {n : ℕ} → AsksCells (plain (cell k n)) n
  derefs : AsksCells (plain deref) 1

-- of n lanes that an op asks for every one before l can be had, l can not, and l is one of them
pub record FirstMissing (Had : ℕ → Type 0) (n l : ℕ) : Type 0 where
  pub before : (j : ℕ) → j < l → Had j
  pub missing : Had l → ⊥
  pub asked : l < n

-- the same of the cells that the op o asks for
pub record FirstCell (Had : ℕ → Type 0) (o : Op) (l : ℕ) : Type 0 where
  pub count : ℕ
  pub asks : AsksCells o count
  pub first : FirstMissing Had count l

-- what the number n and the lane l say of the op o in the state s: of the register for 21, of the counted length for 22, of the lent tape for 23
pub record Missing (s : State) (o : Op) (n l : ℕ) : Type 0 where
  pub register : n ≡ 21 → FirstMissing (λ j. j < length s.reg) (needs o) l
  pub counted : n ≡ 22 → FirstCell (λ j. s.pointer + j < s.counted) o l
  pub tape : n ≡ 23 → FirstCell (λ j. s.pointer + j < length s.tape) o l
  pub others : (n ≡ 21 → ⊥) → (n ≡ 22 → ⊥) → (n ≡ 23 → ⊥) → l ≡ 0
