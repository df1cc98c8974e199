-- `decimals::chars::past` meets its contract. Assumes nothing.
use Rattle.std.proofs.Common.{◌≡◌, ℕ, Bool}
use Rattle.decimals.specs.Chars.{past, Decides}
use Rattle.decimals.proofs.chars.past.Given as goal

abbrev pub invariant-loop-i : goal.invariant-loop-i
invariant-loop-i g l = (p : ℕ → Bool) → Decides (λ v t. goal.F-post g l.test v t) p → past p l.input l.i ≡ past p l.input l.at
