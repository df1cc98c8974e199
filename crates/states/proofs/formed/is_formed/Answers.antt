-- `states::formed::is_formed` meets its contract. Assumes nothing.
use mathlib.Core.Path.{◌≡◌, sym, ◌∙◌}
use mathlib.Core.Bool.{Bool, true}
use native.Mathlib.Omega.{arith}
use Rattle.states.proofs.WellFormed.{room, limits}
use borrow.Author.Rules.{rules}
use Rattle.states.proofs.formed.is_formed.Goals as goal

-- what a call answered, by its contract, where the code went on
passed : {a b : Bool} → a ≡ b → a ≡ true → b ≡ true
passed e t = sym e ∙ t

pub calls_below-requires : goal.calls_below-requires
calls_below-requires c = (limits _ (passed c.in_limits.ensures c.if-not-in_limits.false)).few_calls

pub refs_within-requires : goal.refs_within-requires
refs_within-requires c = (limits _ (passed c.in_limits.ensures c.if-not-in_limits.false)).few_refs

pub table_names-requires : goal.table_names-requires
table_names-requires c =
    let few = (limits _ (passed c.in_limits.ensures c.if-not-in_limits.false)).few_entered in
    let wide = (room _ _ _ (passed c.has_room.ensures c.if-not-has_room.false)).tabled in
    search (rules, arith)
