-- What the check asks of a patch: 01's rules, stated without the check. Assumes nothing.
use Rattle.std.specs.Prelude.{ℕ, zero, suc, ◌≤◌, ◌<◌, ◌≡◌, List, [], ◌∷◌, length, take, drop}
use Rattle.std.proofs.Math.Option.{none}
use Rattle.ops.specs.Syntax.{Op, Control, Bracket, bracket, needs}
use Rattle.ops.specs.Syntax.Control.{function, call, ret, while, if, else, end}
use Rattle.ops.specs.Syntax.Op.{control, set, load, plain}
use Rattle.ops.specs.Syntax.Bracket.{up, down, mid, flat}
use Rattle.machine_model.specs.State.{lanes}
use Rattle.machine_model.specs.Scan.{op_at, brackets, to_end}

-- ---- lanes

-- "Function, Call, Return, While, If, Else, End .. need 1", though a step of Function, Return or Else needs none
abbrev pub asks_of : Control → ℕ
asks_of function = 1
asks_of call = 1
asks_of ret = 1
asks_of while = 1
asks_of if = 1
asks_of else = 1
asks_of end = 1

-- "Where, Get, Put, Peek, Poke, Alloc need 1; Store, the other cell ops and the lane-only ops need n": what a step of them needs
abbrev pub asks : Op → ℕ
asks (control c) = asks_of c
asks (set k vs) = 0
asks (load n) = 0
asks (plain p) = needs (plain p)

-- "Set and Load make their own count; after Function, Call, Return, While, If, Else, End it is 1; other ops keep it": the lanes known after
-- the op, where k were known before it
abbrev pub leaves : Op → ℕ → ℕ
leaves (control c) k = 1
leaves (set a vs) k = length vs
leaves (load n) k = n
leaves (plain p) k = k

-- the lanes known before the op at place i, where k are known before the first
abbrev pub known : ℕ → List Op → ℕ → ℕ
known k [] i = k
known k (o ∷ os) zero = k
known k (o ∷ os) (suc i) = known (leaves o k) os i

-- ---- brackets

-- how many brackets are opened, and how many closed
abbrev pub opens : List Bracket → ℕ
opens [] = 0
opens (up ∷ ms) = suc (opens ms)
opens (down ∷ ms) = opens ms
opens (mid ∷ ms) = opens ms
opens (flat ∷ ms) = opens ms

abbrev pub closes : List Bracket → ℕ
closes [] = 0
closes (up ∷ ms) = closes ms
closes (down ∷ ms) = suc (closes ms)
closes (mid ∷ ms) = closes ms
closes (flat ∷ ms) = closes ms

-- a bracket is open before place i
abbrev pub Open : List Op → ℕ → Type 0
Open os i = closes (take i (brackets os)) < opens (take i (brackets os))

-- the op at place i opens a bracket, and the search for its End finds none
pub record NeverClosed (os : List Op) (i : ℕ) : Type 0 where
  pub within : i < length os
  pub opening : bracket (op_at os i) ≡ up
  pub lost : to_end (suc i) 0 (drop (suc i) (brackets os)) ≡ none

-- ---- the rules

-- each End and each Else has an open bracket ("An Else may stand in any bracket"), each op has the lanes that it needs ("Known lanes start
-- at 1,024"), and each bracket is closed
pub record KeepsRules (os : List Op) : Type 0 where
  pub ends : (i : ℕ) → i < length os → bracket (op_at os i) ≡ down → Open os i
  pub elses : (i : ℕ) → i < length os → bracket (op_at os i) ≡ mid → Open os i
  pub enough : (i : ℕ) → i < length os → asks (op_at os i) ≤ known lanes os i
  pub closed : opens (brackets os) ≡ closes (brackets os)

-- what is wrong at a place: "End, Else with no open bracket" 10, 11; "known lanes too few" 12; of one op "10 or 11, then 12"
pub data Breaks (os : List Op) (i : ℕ) : ℕ → Type 0 where
  no_end : bracket (op_at os i) ≡ down → (Open os i → ⊥) → Breaks os i 10
  no_else : bracket (op_at os i) ≡ mid → (Open os i → ⊥) → Breaks os i 11
  few : (bracket (op_at os i) ≡ down → Open os i) → (bracket (op_at os i) ≡ mid → Open os i) → known lanes os i < asks (op_at os i) → Breaks os i 12

-- the number and place that a check may give: 0 and the op count where the rules are kept; "From op 0": the first op that breaks one; "at
-- the end 13", "bracket never closed: the earliest"
pub data Says (os : List Op) : ℕ × ℕ → Type 0 where
  fine : KeepsRules os → Says os (0, length os)
  wrong : (n p : ℕ) → p < length os → Breaks os p n → ((i m : ℕ) → i < p → Breaks os i m → ⊥) → Says os (n, p)
  open_left : (p : ℕ) → ((i m : ℕ) → i < length os → Breaks os i m → ⊥) → NeverClosed os p
      → ((i : ℕ) → i < p → NeverClosed os i → ⊥) → Says os (13, p)
