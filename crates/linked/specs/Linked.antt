-- What the calls for linking give back: the number, what is written to `answer`, and what the call itself leaves of what it was lent. Assumes nothing.
use Rattle.std.specs.Prelude.{cond, List, [], ◌∷◌, ℕ, ltb, length, Result, Ok, Err}
use Rattle.lane_loops.specs.Loops.{zip_to, beside}
use Rattle.patch_reader.specs.declared.reader.Unread.{Unread}
use Rattle.machine.specs.Calls.{Slices, slices, Ended}
use Rattle.answers.specs.Run as running
use Rattle.answers.specs.Check as checking
use Rattle.answers.specs.Check.{Verdict}
use Rattle.answers.specs.Join as joining
use Rattle.answers.specs.Flatten as flattening
use Rattle.joining.specs.Joined as joined
use Rattle.flattening.specs.Flattened as flattened

-- as many of the values as have room, at the start; what is beyond them stays
unfoldable pub told : List ℕ → List ℕ → List ℕ
told vs a = cond (ltb (length a) (length vs)) (zip_to beside (length a) a vs) (zip_to beside (length vs) a vs)

-- ---- the number given back, and `answer`
pub record Given : Type 0 where
  pub number : ℕ
  pub answer : List ℕ

abbrev pub given : ℕ → List ℕ → Given
given n a = record { number = n; answer = a }

-- number, place, and the ops read: of a good file the place is the op count
abbrev pub of_read : Result ℕ Unread → List ℕ → Given
of_read (Ok n) a = given 0 (told (0 ∷ n ∷ n ∷ []) a)
of_read (Err u) a = given u.number (told (u.number ∷ u.place ∷ u.ops ∷ []) a)

-- number and place
abbrev pub of_check : Verdict → List ℕ → Given
of_check v a = given (checking.number_of v) (told (checking.number_of v ∷ checking.place_of v ∷ []) a)

-- ---- the run: number, place, steps, the count of outputs, and the lane of 02's ask 3; and the lent slices
pub record Run : Type 0 where
  pub given : Given
  pub lent : Slices

abbrev pub run : ℕ → List ℕ → Slices → Run
run n a l = record { given = given n a; lent = l }

abbrev pub of_run : Ended → List ℕ → Run
of_run r a =
    let number = running.number_of r.answer in
    let c = r.left.held in
    let place = running.place_of r.answer c.numbers.position in
    run number (told (number ∷ place ∷ r.steps ∷ c.numbers.written ∷ running.lane_of r.answer ∷ []) a)
    (slices c.register c.tape c.table c.channel c.output r.left.tally)

-- ---- joining: number, place and the bytes written; and the lent bytes
pub record Join : Type 0 where
  pub given : Given
  pub out : List ℕ

abbrev pub join : ℕ → List ℕ → List ℕ → Join
join n a s = record { given = given n a; out = s }

abbrev pub of_join : joined.Outcome → List ℕ → Join
of_join r a =
    join (joining.number_of r.answer)
    (told (joining.number_of r.answer ∷ joining.place_of r.answer ∷ joining.length_of r.answer ∷ []) a) r.bytes

-- ---- flattening: number, place, the bytes and the bodies written; and the lent bytes and lists
pub record Flatten : Type 0 where
  pub given : Given
  pub out : List ℕ
  pub numbers : List ℕ
  pub firsts : List ℕ
  pub counts : List ℕ

abbrev pub flatten : ℕ → List ℕ → List ℕ → List ℕ → List ℕ → List ℕ → Flatten
flatten n a s ns fs cs = record { given = given n a; out = s; numbers = ns; firsts = fs; counts = cs }

abbrev pub of_flatten : flattened.Outcome → List ℕ → Flatten
of_flatten r a =
    flatten (flattening.number_of r.answer)
    (told (flattening.number_of r.answer ∷ flattening.place_of r.answer ∷ flattening.bytes_of r.answer ∷ flattening.bodies_of r.answer ∷ []) a)
    r.out r.numbers r.firsts r.counts
