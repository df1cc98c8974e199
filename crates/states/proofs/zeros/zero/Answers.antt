-- `states::zeros::zero` meets its contract. Assumes nothing.
use mathlib.Core.Path.{◌≡◌, refl}
use lib.ListN.{length, take, length-replicate}
use lib.Seq.{length-take-le}
use Rattle.byte_fields.specs.Storage.{fill}
use Rattle.states.specs.Zeros.{zeroed}
use Rattle.states.proofs.zeros.zero.Goals as goal

pub returns : goal.returns
unfolding zeroed fill
returns c =
    let a = c.args in
    let e : length (take a.n a.lanes.now) ≡ a.n = length-take-le a.n a.lanes.now c.requires in
    let f = c.fill.ensures.after (λ y h. h) in
    rw (f, e, length-replicate) refl
