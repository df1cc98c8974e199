-- The payloads of a patch lie in its bytes, and its counts are within the limit. Assumes nothing.
use Rattle.std.specs.Prelude.{◌≡◌, ℕ, ◌<◌, length, get_or}
use Rattle.machine_numbers.specs.Asks.{PayloadIn}
use Rattle.machine_step.specs.Held.{Code}

pub record PayloadsInBytes (x : Code) : Type 0 where
  pub many_counts : length x.counts ≡ length x.rows
  pub many_needs : length x.needs ≡ length x.rows
  pub many_payloads : length x.payloads ≡ length x.rows
  pub each : (i : ℕ) → i < length x.rows → PayloadIn (get_or x.rows i 0) (get_or x.counts i 0) (get_or x.payloads i 0) x.bytes
