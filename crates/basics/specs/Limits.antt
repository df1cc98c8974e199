-- "Limits, each the last accepted". Assumes nothing.
use Rattle.std.specs.Prelude.{ℕ}

-- "file 65,536 bytes"
abbrev pub most_bytes : ℕ
most_bytes = 65536

-- "4,096 ops"
abbrev pub most_ops : ℕ
most_ops = 4096

-- "256 Function marks"
abbrev pub most_marks : ℕ
most_marks = 256

-- "1,024 lanes"
abbrev pub lanes : ℕ
lanes = 1024

-- "calls, refs and channel 256 each"
abbrev pub depth : ℕ
depth = 256

-- "pointer 1,000,000,000"
abbrev pub farthest : ℕ
farthest = 1_000_000_000

-- "counted tape length 2,000,000,000"
abbrev pub longest : ℕ
longest = 2_000_000_000

-- 02, ask 12: "a tape grows from nothing by 30,000 or by 100,000 and never shrinks", so this is the least length of a tape that has grown
abbrev pub first_block : ℕ
first_block = 30_000

-- "Comment 0 to 255 bytes"
abbrev pub most_text : ℕ
most_text = 255

-- 02, ask 10: "At most 15 digits in all, leading zeros included"
abbrev pub most_digits : ℕ
most_digits = 15
