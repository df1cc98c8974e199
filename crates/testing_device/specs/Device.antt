-- What the device takes and gives: what Get reads of the input, what Put writes, and the channel's ring. Assumes nothing.
use Rattle.std.specs.Prelude.{ℕ, zero, suc, ◌+◌, ◌-◌, ◌*◌, ◌/◌, ◌%◌, ◌^◌, cond, List, [], ◌∷◌, ◌++◌, take, drop, nat_lt, slice_index, Option, Some, None}
use lib.ListN
use Rattle.basics.specs.Limits.{depth}
pub use Rattle.decimals.specs.Chars.{is_space, is_digit}
unfoldable pub use Rattle.decimals.specs.Chars.{leading}
use Rattle.ops.specs.declared.op.Mode.{Mode}
use Rattle.ops.specs.declared.op.Mode.TheVariants.{Char, Int, Other}
use Rattle.testing_device.specs.declared.device.Taken.{Taken}

-- ---- Get

-- what it gives: a value and the place after it, or none
abbrev pub Got : Type 0
Got = Option Taken

-- "wraps": the number that decimal digits write after the number a, modulo 2 ^ 64
unfoldable pub decimal_from : ℕ → List ℕ → ℕ
decimal_from a [] = a
decimal_from a (v ∷ vs) = decimal_from ((a * 10 + (v % 256 - 48)) % 2 ^ 64) vs

-- an integer of the values from the place `at` on: spaces are passed, then digits are taken; "no digit gives 0"
unfoldable pub int_from : List ℕ → ℕ → Taken
unfolding leading decimal_from
int_from vs at =
    let a = leading is_space vs in
    let n = leading is_digit (drop a vs) in
    record { value = decimal_from 0 (take n (drop a vs)); at = at + a + n }

-- a char is the next value whole; none left is 35
abbrev pub char_from : List ℕ → ℕ → Got
char_from [] at = None
char_from (v ∷ vs) at = Some (record { value = v; at = at + 1 })

-- what Get takes of the input from the place `at` on; "Mode 3 gets 0"
unfoldable pub get_of : Mode → List ℕ → ℕ → Got
unfolding int_from
get_of Char input at = char_from (drop at input) at
get_of Int input at = Some (int_from (drop at input) at)
get_of Other input at = Some (record { value = 0; at = at })

-- ---- Put

-- decimal characters, the last digit last; n has at most k of them
unfoldable pub decimal : ℕ → ℕ → List ℕ
decimal zero n = []
decimal (suc k) n = let r = decimal k (n / 10) in cond (nat_lt n 10) ((48 + n) ∷ []) (r ++ ((48 + n % 10) ∷ []))

-- a lane as an integer: its digits, after a minus where it is negative
unfoldable pub written : ℕ → List ℕ
unfolding decimal
written v = cond (nat_lt v (2 ^ 63)) (decimal 20 v) (45 ∷ decimal 20 (2 ^ 64 - v))

-- the values that Put writes: "Mode 3 .. puts nothing", "Put int writes decimal characters"
unfoldable pub put_of : Mode → ℕ → List ℕ
unfolding written
put_of Char v = v ∷ []
put_of Int v = written v
put_of Other v = []

-- ---- the channel: a ring of 256 places

-- the n values of a ring from place f on
unfoldable pub ring : List ℕ → ℕ → ℕ → List ℕ
ring l f zero = []
ring l f (suc n) = ring l f n ++ (slice_index l ((f + n) % depth) ∷ [])

-- values written into a ring from place f on
unfoldable pub fill_ring : List ℕ → ℕ → List ℕ → List ℕ
fill_ring l f [] = l
fill_ring l f (v ∷ vs) = fill_ring (lib.ListN.set l (f % depth) v) (f + 1) vs
