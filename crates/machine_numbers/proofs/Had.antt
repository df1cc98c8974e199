-- Whether n cells can be had from a place on: an answer that is not `done` says that they go beyond the last, and its number and lane; `done`, where
-- n is not 0, that they do not. Assumes nothing.
use mathlib.Core.Path.{◌≡◌, refl}
use mathlib.Core.Bool.{true, false, ◌&&◌}
use Prim.Native.Nat.{ℕ, ◌+◌, ◌-◌, ◌*◌, ◌/◌, ◌%◌, ◌≤◌, ◌<◌}
use native.Mathlib.Omega.{arith}
use lib.Dec.{eqb, ltb}
use borrow.Author.Tests.{lt-ltb, le-ltb, ltb-true, ltb-false, ne_eqb, eqb-false}
use Rattle.basics.specs.Pick.{pick}
use Rattle.basics.proofs.Tests.{by_case, and_left, and_right}
use Rattle.machine_numbers.specs.declared.numbers.Numbers.{Numbers}
use Rattle.machine_numbers.specs.Numbers.{OpAnswer, lacking, at_position, with_lane, having, left, stepped}

-- what a refusal with a lane leaves, of an op and of a step
module _ (m l : ℕ) (few : 2 < m) (small : m < 64) where
  pub left_lacking : (at : ℕ) (p : Numbers) → left (with_lane m l) at p ≡ lacking m l (at_position p at)
  unfolding left pick
  left_lacking at p =
      let n : (m + 64 * l) % 64 ≡ m = omega arith in
      let d : (m + 64 * l) / 64 ≡ l = omega arith in
      rw (ne_eqb (m + 64 * l) 0 (λ e. omega arith), ne_eqb (m + 64 * l) 1 (λ e. omega arith), ne_eqb (m + 64 * l) 2 (λ e. omega arith), n, d) refl

  pub stepped_lacking : (p : Numbers) → stepped (with_lane m l) p ≡ lacking m l p
  unfolding stepped pick
  stepped_lacking p =
      let n : (m + 64 * l) % 64 ≡ m = omega arith in
      let d : (m + 64 * l) / 64 ≡ l = omega arith in
      rw (ne_eqb (m + 64 * l) 2 (λ e. omega arith), n, d) refl

module _ (m l at n : ℕ) where
  some : l - at < n → eqb n 0 ≡ false
  some h = ne_eqb n 0 (λ e. omega arith)

  lacked : (having m l at n ≡ 0 → ⊥) → (eqb n 0 ≡ false) × (ltb l (at + n) ≡ true) × (having m l at n ≡ with_lane m (l - at))
  unfolding having pick
  lacked h =
      by_case (ltb (l - at) n)
      (λ e. let w = ltb-true (l - at) n e in (some w, lt-ltb l (at + n) (omega arith), rw e refl))
      (λ e. absurd (h (rw e refl)))

-- an op that has one such test and answers r: f puts what it answers among what it leaves
module _ {r : ℕ} (m l at n : ℕ) (t : ltb 2 m && ltb m 64 ≡ true) (is : r ≡ having m l at n) where
  few : 2 < m
  few = ltb-true 2 m (and_left (ltb 2 m) _ t)

  small : m < 64
  small = ltb-true m 64 (and_right (ltb 2 m) _ t)

  pub refused : {A : Type 0} (f : OpAnswer → A) (p : Numbers) (none went : A) → (r ≡ 0 → ⊥)
      → f (left r p.position p) ≡ pick (eqb n 0) none (pick (ltb l (at + n)) (f (lacking m (l - at) p)) went)
  unfolding pick
  refused f p none went h = let w = lacked m l at n (rw is at h) in rw (is, w.0, w.1, w.2, left_lacking m (l - at) few small) refl

  pub asked : (r ≡ 0 → ⊥) → eqb n 0 ≡ false
  asked h = (lacked m l at n (rw is at h)).0

  module _ (z : r ≡ 0) (some : eqb n 0 ≡ false) where
    pub passed : ltb l (at + n) ≡ false
    unfolding having pick
    passed =
        let y = eqb-false n 0 some in
        by_case (ltb (l - at) n)
        (λ e. absurd (let w = rw (is, e) at z in omega (arith, few)))
        (λ e. let w = ltb-false (l - at) n e in le-ltb l (at + n) (omega arith))

    pub inside : at + n ≤ l
    inside = ltb-false l (at + n) passed
