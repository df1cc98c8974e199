-- What stands at any byte of a file of any length, by 01's tests: the laws of `record_from`. Assumes nothing.
use mathlib.Core.Path.{◌≡◌}
use mathlib.Core.List.{List}
use Prim.Native.Nat.{ℕ, ◌+◌, ◌<◌, ◌≤◌}
use native.Mathlib.Omega.{arith}
use borrow.Author.Tests.{lt-ltb, le-ltb}
use lib.ListN.{length}
use Rattle.ops.specs.Record.{bad, record_at, record_from}
use Rattle.ops.specs.declared.refusals.Refusal.TheVariants.{CutShort, FileTooLong}

module _ (s : List ℕ) (p : ℕ) where
  pub from_long : 65536 < length s → record_from s p ≡ bad FileTooLong 0
  unfolding record_from
  from_long h = simp (lt-ltb _ _ h)

  -- in a file that is not too long it is the record at p
  pub from_short : length s ≤ 65536 → record_from s p ≡ record_at s p
  unfolding record_from
  from_short h = simp (le-ltb _ _ h)

  -- beyond the bytes no record begins
  pub at_beyond : length s < p → record_at s p ≡ bad CutShort p
  unfolding record_at
  at_beyond h = let q : length s < p + 4 = omega arith in simp (lt-ltb _ _ q)
