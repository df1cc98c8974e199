-- `joining::source::Source::entry` meets its contract. Assumes nothing.
use mathlib.Core.Path.{◌≡◌, ◌∙◌, sym}
use lib.ListN.{get_or}
use Rattle.joining.specs.Stack.{entry, valued}
use Rattle.joining.proofs.Records.{own_by, value_within, entry_none, entry_own}
use Rattle.joining.proofs.source.Source.entry.Goals as goal
use Rattle.joining.proofs.source.Source.entry.Goals.{After-has_value}

own : (c : After-has_value) → let r = c.args.self.now in c.has_value.result ≡ valued (get_or r.rows.now c.args.i 0) (get_or r.counts.now c.args.i 0)
own c = let r = c.args.self.now in own_by r.rows.now r.counts.now (entry c.args.i 0) c.seen.ensures c.has_value.ensures

pub returns-then-not-has_value : goal.returns-then-not-has_value
returns-then-not-has_value c =
    entry_none c.args.self.now.holds c.requires (sym (own (goal.at.returns-then-not-has_value c).After-has_value) ∙ c.if-not-has_value.true)

pub u64_at-requires : goal.u64_at-requires
u64_at-requires c =
    rw c.payload.ensures
    (value_within _ _ _ _ _ c.args.self.now.holds _ c.requires (sym (own (goal.at.u64_at-requires c).After-has_value) ∙ c.if-not-has_value.false))

pub returns : goal.returns
returns c =
    rw (c.u64_at.ensures, c.payload.ensures)
    (entry_own c.args.self.now.holds c.requires (sym (own (goal.at.returns c).After-has_value) ∙ c.if-not-has_value.false))
