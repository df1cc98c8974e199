-- Computed cases of the device beyond the one list (demands): what Get takes, the least integer printed, what Put writes, the refusals of
-- the channel, and their numbers and places. Assumes nothing.
use Rattle.std.proofs.Common.{◌≡◌, ℕ, ◌^◌, List, [], ◌∷◌, ◌++◌, map, replicate, refl, Option, Some, None, Result, Ok, Err}
use lib.ListN
use Rattle.ops.specs.declared.op.Mode.TheVariants.{Char, Int, Other}
use Rattle.testing_device.specs.declared.device.Taken.{Taken}
use Rattle.testing_device.specs.declared.device.Peeked.{Peeked}
use Rattle.testing_device.specs.declared.device.PeekError.{PeekError}
use Rattle.testing_device.specs.declared.device.PeekError.TheVariants as peek
use Rattle.testing_device.specs.declared.device.PokeError.TheVariants as poke
use Rattle.testing_device.specs.Answers.{got_number, got_place, put_number, put_place, peeked_number, peeked_place, poked_number, poked_place}
use Rattle.testing_device.specs.Device.{leading, decimal_from, int_from, get_of, decimal, written, put_of, ring}
use Rattle.testing_device.specs.Room.{Left, left, placed, put_in}
use Rattle.testing_device.specs.Channel.{PokeLeft, poke_left, peek_of, poke_in}

-- a char whole, and none; 11 is no space; no digit gives 0 with the spaces taken; 2 ^ 64 + 4 wraps
unfoldable pub gets : List (Option Taken)
gets =
    get_of Char (305 ∷ []) 0
    ∷ get_of Char (305 ∷ []) 1
    ∷ get_of Int (11 ∷ 49 ∷ []) 0
    ∷ get_of Int (288 ∷ 9 ∷ 45 ∷ 49 ∷ []) 0
    ∷ get_of Int [] 7
    ∷ get_of Int (49 ∷ 56 ∷ 52 ∷ 52 ∷ 54 ∷ 55 ∷ 52 ∷ 52 ∷ 48 ∷ 55 ∷ 51 ∷ 55 ∷ 48 ∷ 57 ∷ 53 ∷ 53 ∷ 49 ∷ 54 ∷ 50 ∷ 48 ∷ []) 0
    ∷ get_of Other (49 ∷ []) 0
    ∷ []

abbrev taken : ℕ → ℕ → Option Taken
taken v at = Some (record { value = v; at = at })

pub got : gets ≡ taken 305 1 ∷ None ∷ taken 0 0 ∷ taken 0 2 ∷ taken 0 7 ∷ taken 4 20 ∷ taken 0 0 ∷ []
unfolding gets get_of int_from leading decimal_from
got = refl

-- least, -1, 0 and 120 in decimal
pub least : written (2 ^ 63) ≡ 45 ∷ 57 ∷ 50 ∷ 50 ∷ 51 ∷ 51 ∷ 55 ∷ 50 ∷ 48 ∷ 51 ∷ 54 ∷ 56 ∷ 53 ∷ 52 ∷ 55 ∷ 55 ∷ 53 ∷ 56 ∷ 48 ∷ 56 ∷ []
unfolding written decimal
least = refl

-- all or none: -1 needs two places, nothing needs none
unfoldable pub puts : List Left
puts =
    put_in (put_of Int 18446744073709551615) (7 ∷ 8 ∷ 9 ∷ []) 1
    ∷ put_in (put_of Int 18446744073709551615) (7 ∷ 8 ∷ 9 ∷ []) 2
    ∷ put_in (put_of Int 120) (7 ∷ 8 ∷ 9 ∷ []) 0
    ∷ put_in (put_of Other 120) [] 5
    ∷ []

pub put : puts ≡ left (Some 3) (7 ∷ 45 ∷ 49 ∷ []) ∷ left None (7 ∷ 8 ∷ 9 ∷ []) ∷ left (Some 3) (49 ∷ 50 ∷ 48 ∷ []) ∷ left (Some 5) [] ∷ []
unfolding puts put_of written decimal put_in placed
put = refl

unfoldable pub peeks : List (Result Peeked PeekError)
peeks = peek_of (replicate 256 3) 255 2 ∷ peek_of (replicate 256 3) 0 0 ∷ peek_of (replicate 255 3) 0 0 ∷ peek_of (replicate 256 3) 256 0 ∷ peek_of (replicate 256 3) 0 257 ∷ []

pub peeked_all : peeks ≡ Ok (record { value = 3; first = 0; waiting = 1 }) ∷ Err peek.Empty ∷ Err peek.NotARing ∷ Err peek.NotARing ∷ Err peek.NotARing ∷ []
unfolding peeks peek_of ring
peeked_all = refl

unfoldable pub pokes : List PokeLeft
pokes = poke_in 9 (replicate 256 3) 255 2 ∷ poke_in 9 (replicate 256 3) 7 256 ∷ []

pub poked_all : pokes ≡ poke_left (Ok 3) (lib.ListN.set (replicate 256 3) 1 9) ∷ poke_left (Err poke.Full) (replicate 256 3) ∷ []
unfolding pokes poke_in
poked_all = refl

-- 01's number and place for each of them, where op 4 is run
unfoldable pub told : List (ℕ × ℕ)
told =
    map (λ r. (got_number r, got_place r 4)) gets
    ++ map (λ l. (put_number l.answer, put_place l.answer 4)) puts
    ++ map (λ r. (peeked_number r, peeked_place r 4)) peeks
    ++ map (λ l. (poked_number l.answer, poked_place l.answer 4)) pokes

pub told_all : told
    ≡ (0, 5) ∷ (35, 4) ∷ (0, 5) ∷ (0, 5) ∷ (0, 5) ∷ (0, 5) ∷ (0, 5)
    ∷ (0, 5) ∷ (36, 4) ∷ (0, 5) ∷ (0, 5)
    ∷ (0, 5) ∷ (33, 4) ∷ (37, 0) ∷ (37, 0) ∷ (37, 0)
    ∷ (0, 5) ∷ (34, 4) ∷ []
unfolding told
told_all = rw (got, put, peeked_all, poked_all) refl
