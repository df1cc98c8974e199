-- Lent storage: the entries that are counted, and the others, which keep their values. Assumes nothing.
use Rattle.std.specs.Prelude.{ℕ, ◌+◌, List, ◌++◌, length, take, drop}

-- values written over the start of old storage, which keeps the rest
unfoldable pub fill : List ℕ → List ℕ → List ℕ
fill new old = new ++ drop (length new) old

-- bytes over those from `at` on; the others keep their values
unfoldable pub placed : List ℕ → ℕ → List ℕ → List ℕ
placed out at new = take at out ++ new ++ drop (at + length new) out
