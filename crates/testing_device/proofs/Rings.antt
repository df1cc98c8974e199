-- The ring of 256 places: what is read of it, and what a value sent to it or taken from it leaves. Assumes nothing.
use Rattle.std.proofs.Common.{◌≡◌, ℕ, zero, suc, ◌+◌, ◌-◌, ◌%◌, ◌<◌, ◌≤◌, true, ◌&&◌, ltb, leb, List, [], ◌∷◌, ◌++◌, length, get_or, drop, set, sym, refl, ap, ◌∙◌, ap₂, add-zero, add-one, arith, length-append, length-set, get_or-set_other, get_or-set_same, ltb-true, leb-true, Ok, Err}
use lib.Seq.{set-get_or}
use Rattle.basics.proofs.Tests.{and_left, and_right}
use Rattle.testing_device.specs.Device.{ring, fill_ring}
use Rattle.testing_device.specs.Channel.{is_ring, peek_of}
use Rattle.testing_device.specs.declared.device.PeekError.TheVariants.{Empty}

pub length_ring : (l : List ℕ) (f n : ℕ) → length (ring l f n) ≡ n
unfolding ring
length_ring l f zero = refl
length_ring l f (suc n) = simp (length-append, length_ring l f n, add-one)

-- the first place counts modulo 256
pub ring_mod : (l : List ℕ) (f n : ℕ) → ring l (f % 256) n ≡ ring l f n
unfolding ring
ring_mod l f zero = refl
ring_mod l f (suc n) = let q : (f % 256 + n) % 256 ≡ (f + n) % 256 = omega arith in rw (ring_mod l f n, q) refl

-- the oldest value, and the rest
pub ring_head : (l : List ℕ) (f n : ℕ) → ring l f (suc n) ≡ get_or l (f % 256) 0 ∷ ring l (f + 1) n
unfolding ring
ring_head l f zero = rw add-zero refl
ring_head l f (suc n) =
    ap (λ (z : List ℕ). z ++ (get_or l ((f + suc n) % 256) 0 ∷ [])) (ring_head l f n)
    ∙ ap (λ (k : ℕ). get_or l (f % 256) 0 ∷ (ring l (f + 1) n ++ (get_or l (k % 256) 0 ∷ []))) (omega arith)

pub ring_next : (l : List ℕ) (f n : ℕ) → ring l f (suc n) ≡ get_or l (f % 256) 0 ∷ ring l ((f + 1) % 256) n
ring_next l f n = ring_head l f n ∙ rw (ring_mod l (f + 1) n) refl

-- the value i after the oldest
pub ring_get : (l : List ℕ) (f n i : ℕ) → i < n → get_or (ring l f n) i 0 ≡ get_or l ((f + i) % 256) 0
ring_get l f zero i h = absurd (omega arith)
ring_get l f (suc n) zero h = rw (ring_head l f n, add-zero) refl
ring_get l f (suc n) (suc i) h =
    let q : f + 1 + i ≡ f + suc i = omega arith in
    rw (ring_head l f n) (ring_get l (f + 1) n i (omega arith) ∙ rw q refl)

-- what is left where the oldest k are taken
pub ring_drop : (l : List ℕ) (f n k : ℕ) → k ≤ n → drop k (ring l f n) ≡ ring l ((f + k) % 256) (n - k)
ring_drop l f n zero h = let m : n - 0 ≡ n = omega arith in rw (m, add-zero, ring_mod l f n) refl
ring_drop l f zero (suc k) h = absurd (omega arith)
ring_drop l f (suc n) (suc k) h =
    let q : f + 1 + k ≡ f + suc k = omega arith in let m : suc n - suc k ≡ n - k = omega arith in
    rw (ring_head l f n, m) (ring_drop l (f + 1) n k (omega arith) ∙ rw q refl)

-- a store behind the values does not touch them
ring_set : (l : List ℕ) (f k v n : ℕ) → n ≤ k → k < 256 → ring (set l ((f + k) % 256) v) f n ≡ ring l f n
unfolding ring
ring_set l f k v zero h b = refl
ring_set l f k v (suc n) h b =
    rw (ring_set l f k v n (omega arith) b, get_or-set_other l ((f + k) % 256) ((f + n) % 256) v 0 (λ e. omega arith)) refl

pub ring_poke : (l : List ℕ) (f n v : ℕ) → n < 256 → 256 ≤ length l → ring (set l ((f + n) % 256) v) f (suc n) ≡ ring l f n ++ (v ∷ [])
unfolding ring
ring_poke l f n v h b =
    rw (ring_set l f n v n (omega arith) h, get_or-set_same l ((f + n) % 256) v 0 (omega arith)) refl

-- values laid into a ring, the last of them last
pub fill_snoc : (l : List ℕ) (f : ℕ) (vs : List ℕ) (v : ℕ) → fill_ring l f (vs ++ (v ∷ [])) ≡ set (fill_ring l f vs) ((f + length vs) % 256) v
unfolding fill_ring
fill_snoc l f [] v = rw add-zero refl
fill_snoc l f (w ∷ vs) v =
    fill_snoc (set l (f % 256) w) (f + 1) vs v
    ∙ ap (λ (k : ℕ). set (fill_ring (set l (f % 256) w) (f + 1) vs) (k % 256) v) (omega arith)

-- what is read of a ring and laid into it again leaves it as it was
pub ring_same : (l : List ℕ) (f n : ℕ) → fill_ring l f (ring l f n) ≡ l
unfolding ring fill_ring
ring_same l f zero = refl
ring_same l f (suc n) =
    fill_snoc l f (ring l f n) (get_or l ((f + n) % 256) 0)
    ∙ rw (ring_same l f n, length_ring l f n) (set-get_or l ((f + n) % 256) 0)

-- the values and one sent behind them, laid into the ring, are the store that Poke makes
pub ring_laid : (l : List ℕ) (f n v : ℕ) → n < 256 → 256 ≤ length l → fill_ring l f (ring (set l ((f + n) % 256) v) f (suc n)) ≡ set l ((f + n) % 256) v
ring_laid l f n v h b =
    rw (ring_poke l f n v h b) (fill_snoc l f (ring l f n) v ∙ rw (ring_same l f n, length_ring l f n) refl)

pub length_fill_ring : (vs l : List ℕ) (f : ℕ) → length (fill_ring l f vs) ≡ length l
unfolding fill_ring
length_fill_ring [] l f = refl
length_fill_ring (v ∷ vs) l f = length_fill_ring vs (set l (f % 256) v) (f + 1) ∙ length-set l (f % 256) v

fill_other : (vs l : List ℕ) (f j : ℕ) → ((i : ℕ) → i < length vs → (f + i) % 256 ≡ j → ⊥) → get_or (fill_ring l f vs) j 0 ≡ get_or l j 0
unfolding fill_ring
fill_other [] l f j n = refl
fill_other (v ∷ vs) l f j n =
    fill_other vs (set l (f % 256) v) (f + 1) j (λ i b e. n (suc i) (omega arith) (let q : f + suc i ≡ f + 1 + i = omega arith in rw q e))
    ∙ get_or-set_other l (f % 256) j v 0 (λ e. n 0 (omega arith) (rw add-zero (sym e)))

-- what is laid into a ring is read of it
pub ring_fill : (vs l : List ℕ) (f : ℕ) → length vs ≤ 256 → 256 ≤ length l → ring (fill_ring l f vs) f (length vs) ≡ vs
unfolding ring fill_ring
ring_fill [] l f h b = refl
ring_fill (v ∷ vs) l f h b =
    ring_head (fill_ring (set l (f % 256) v) (f + 1) vs) f (length vs)
    ∙ ap₂ (λ (a : ℕ) (z : List ℕ). a ∷ z)
    (fill_other vs (set l (f % 256) v) (f + 1) (f % 256) (λ i k e. omega arith) ∙ get_or-set_same l (f % 256) v 0 (omega arith))
    (ring_fill vs (set l (f % 256) v) (f + 1) (omega arith) (rw length-set b))

-- what the test of a ring says
pub record Ringed (l : List ℕ) (f n : ℕ) : Type 0 where
  pub room : 256 ≤ length l
  pub first : f < 256
  pub waiting : n ≤ 256

pub ringed : (l : List ℕ) (f n : ℕ) → is_ring l f n ≡ true → Ringed l f n
ringed l f n e =
    let a = and_left (leb 256 (length l) && ltb f 256) (leb n 256) e in
    record {
      room = leb-true 256 (length l) (and_left (leb 256 (length l)) (ltb f 256) a);
      first = ltb-true f 256 (and_right (leb 256 (length l)) (ltb f 256) a);
      waiting = leb-true n 256 (and_right (leb 256 (length l) && ltb f 256) (leb n 256) e);
    }

-- Peek of a ring: nothing waits, or the value at its first place
pub peek_none : (l : List ℕ) (f n : ℕ) → is_ring l f n ≡ true → n ≡ 0 → peek_of l f n ≡ Err Empty
unfolding peek_of ring
peek_none l f n r e = rw (r, e) refl

pub peek_some : (l : List ℕ) (f n : ℕ) → is_ring l f n ≡ true → 0 < n → peek_of l f n ≡ Ok (record { value = get_or l f 0; first = (f + 1) % 256; waiting = n - 1 })
unfolding peek_of
peek_some l f zero r h = absurd (omega arith)
peek_some l f (suc n) r h =
    let w = ringed l f (suc n) r in let e : f % 256 ≡ f = omega (arith, w.first) in
    rw (r, ring_next l f n, e) refl
