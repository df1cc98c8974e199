-- Zeros written over lent storage. Assumes nothing.
use Rattle.std.specs.Prelude.{List, ℕ, replicate}
use Rattle.byte_fields.specs.Storage.{fill}

-- the first n entries zero, the others as they were
unfoldable pub zeroed : ℕ → List ℕ → List ℕ
zeroed n l = fill (replicate n 0) l
