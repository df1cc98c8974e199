-- What tests say: a test is true or false, the parts of an and and of an or, and the set of laws for a chain of tests. Assumes nothing.
use mathlib.Core.Path.{◌≡◌, refl}
use mathlib.Core.Bool.{Bool, true, false, ◌&&◌, ◌||◌}
use borrow.Author.Rules.{rules}
use borrow.Author.Tests.{eq-eqb, ne_eqb, lt-ltb, le-ltb, le-leb, lt-leb}
use Rattle.basics.proofs.Clash.{clash}

pub by_case : {P : Type 0} (t : Bool) → (t ≡ true → P) → (t ≡ false → P) → P
by_case true f g = f refl
by_case false f g = g refl

-- ---- the two parts of an and that came out true, and the second of one that came out false

pub and_left : (a b : Bool) → a && b ≡ true → a ≡ true
and_left true b e = refl
and_left false b e = e

pub and_right : (a b : Bool) → a && b ≡ true → b ≡ true
and_right true b e = e
and_right false true e = refl
and_right false false e = e

pub and_not : (a b : Bool) → a && b ≡ false → a ≡ true → b ≡ false
and_not true b e h = e
and_not false b e h = clash (cc)

-- ---- the two parts of an or that came out false, and what makes one true

pub or_left : (a b : Bool) → (a || b) ≡ false → a ≡ false
or_left true b e = e
or_left false b e = refl

pub or_right : (a b : Bool) → (a || b) ≡ false → b ≡ false
or_right true b e = clash (cc)
or_right false b e = e

pub or_first : (a b : Bool) → a ≡ true → (a || b) ≡ true
or_first true b e = refl
or_first false b e = clash (cc)

pub or_second : (a b : Bool) → b ≡ true → (a || b) ≡ true
or_second true b e = refl
or_second false b e = e

pub or_either : (a b : Bool) (P : Type 0) → (a || b) ≡ true → (a ≡ true → P) → (b ≡ true → P) → P
or_either true b P e f g = f refl
or_either false b P e f g = g e

-- what `search` needs where a definition is a chain of tests in the code's order: each test from what the code found
pub ruleset tests = (eq-eqb, ne_eqb, lt-ltb, le-ltb, le-leb, lt-leb, rules)
