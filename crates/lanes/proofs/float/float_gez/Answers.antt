-- `lanes::float::float_gez` meets its contract. Assumes nothing.
use Rattle.std.proofs.Common.{ℕ, ◌/◌, ◌^◌, ap, ◌∙◌, rules}
use Rattle.lanes.proofs.Floats.{gez_low, gez_high}
use Rattle.lanes.proofs.float.float_gez.Goals as goal
use Rattle.lanes.proofs.float.float_gez.Goals.{then-a-lt-HALF, else-a-lt-HALF}

pub returns : goal.returns
returns c =
    let a = c.args.a in
    elim c.if-a-lt-HALF.branch [
      | then-a-lt-HALF w ↦ ap (λ (n : ℕ). n / 2 ^ 63) w.rest-is ∙ gez_low a w.if-a-lt-HALF.true
      | else-a-lt-HALF w ↦ ap (λ (n : ℕ). n / 2 ^ 63) w.rest-is ∙ gez_high a (search rules) w.if-a-lt-HALF.false
    ]
