-- `decimals::float::fraction` meets its contract. Assumes nothing.
use Rattle.std.proofs.Common.{ne_eqb}
use Rattle.decimals.proofs.Reading.{fraction_end, fraction_none}
use Rattle.decimals.proofs.float.fraction.Goals as goal

pub returns-in_default : goal.returns-in_default
returns-in_default c =
    let h = c.in-Some.ensures.lookup.3 in
    fraction_none _ _ h.0 (rw (← h.1 0) (ne_eqb _ _ c.if-point-eq46.false))

pub returns-in_default-2 : goal.returns-in_default-2
returns-in_default-2 c = let h = rw c.in_default.is at c.get.ensures.lookup in fraction_end _ _ h.3
