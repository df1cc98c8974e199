-- What the ops ask of an op's payload. Assumes nothing.
use Rattle.std.specs.Prelude.{◌≡◌, List, ℕ, ◌+◌, ◌*◌, ◌≤◌, ◌<◌, length}
use Rattle.basics.specs.Limits as limit
use Rattle.kind_table.specs.Rows as row

-- an op may count n lanes, and the register has as many as any op may count
abbrev pub InRegister : ℕ → List ℕ → Type 0
InRegister n g = (n ≤ limit.lanes) × (limit.lanes ≤ length g)

-- an op of row k, which is one of the table's, that counts n has its payload, from byte a on, in the bytes
pub record PayloadIn (k n a : ℕ) (bs : List ℕ) : Type 0 where
  pub known : k < 62
  pub few : n ≤ limit.lanes
  pub ints : k ≡ row.set → a + 8 * n ≤ length bs
  pub floats : k ≡ row.standard_set → a + 8 * n ≤ length bs
  pub amount : k ≡ row.move → a + 8 ≤ length bs
  pub by : k ≡ row.offset → a + 8 ≤ length bs
  pub gets : k ≡ row.get → a + 2 ≤ length bs
  pub puts : k ≡ row.put → a + 2 ≤ length bs
  pub binds : k ≡ row.standard_call → a + 2 ≤ length bs
