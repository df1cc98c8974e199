-- `lanes::remainder::remainder` meets its contract. Assumes nothing.
use Rattle.lanes.proofs.Steps.{rest_in_place}
use Rattle.lanes.proofs.remainder.remainder.Goals as goal

pub returns-clause-value : goal.returns-clause-value
returns-clause-value c = rw (c.pattern_of.ensures.value, c.rest_of-rest.ensures, c.places_of-k.ensures, c.places_of.ensures, c.digits_of.ensures, c.digits_of-2.ensures) (rest_in_place c.args.a c.args.b c.requires.nonzero c.requires.order)
