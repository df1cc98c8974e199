-- `decimals::float::number` meets its contract. Assumes nothing.
use Rattle.std.proofs.Common.{ℕ, ◌+◌, ◌-◌, ◌*◌, ◌^◌, ◌<◌, ◌≤◌, arith, rules}
use Rattle.decimals.proofs.Ends.{digit_most}
use Rattle.decimals.proofs.Reading.{added, summed, room}
use borrow.Author.Rules.{rules}
use Rattle.decimals.proofs.float.number.Goals as goal

fit : (n d : ℕ) → n + 1 ≤ 10 ^ 15 → d ≤ 57 → n * 10 + (d - 48) < 2 ^ 64
fit n d h k = omega arith

pub overflow_mul-n : goal.overflow_mul-n
overflow_mul-n c =
    let r = room _ _ _ _ _ _ c.loop-i.invariant c.requires.from_bound in
    record { fits = omega (arith, r) }

pub overflow_add-n : goal.overflow_add-n
overflow_add-n c =
    record {
      fits = fit _ _ (room _ _ _ _ _ _ c.loop-i.invariant c.requires.from_bound)
          (digit_most _ (c.requires.digits.digit c.loop-i.i c.loop-i.invariant.after (search rules)));
    }

pub loop-i-preserved : goal.loop-i-preserved
loop-i-preserved c = added _ _ _ _ _ _ c.loop-i.invariant c.requires.digits (search rules)

pub returns : goal.returns
returns c = summed _ _ _ _ _ _ c.loop-i.invariant (search rules)
