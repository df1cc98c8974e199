-- What is known of a file that was read. Assumes nothing.
use Rattle.std.specs.Prelude.{ℕ, ◌<◌, ◌≡◌, List, length, get_or}
use Rattle.ops.specs.Patch.{Item, item, patch_of}

-- op i of s
abbrev pub item_at : List ℕ → ℕ → Item
item_at s i = get_or (patch_of s).items i (item 0 0 0)

-- the arrays hold the rows, counts and places of the n ops of s
pub record Holds (s ks ns ps : List ℕ) (n : ℕ) : Type 0 where
  pub many : n ≡ length (patch_of s).items
  pub rows : (i : ℕ) → i < n → get_or ks i 0 ≡ (item_at s i).row
  pub counts : (i : ℕ) → i < n → get_or ns i 0 ≡ (item_at s i).count
  pub payloads : (i : ℕ) → i < n → get_or ps i 0 ≡ (item_at s i).payload
