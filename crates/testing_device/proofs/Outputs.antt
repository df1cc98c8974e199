-- What Put writes: decimal characters digit by digit, and where they stand. Assumes nothing.
use Rattle.std.proofs.Common.{◌≡◌, ℕ, zero, suc, ◌+◌, ◌-◌, ◌/◌, ◌%◌, ◌^◌, ◌<◌, ◌≤◌, ltb, List, [], ◌∷◌, ◌++◌, length, drop, set, sym, refl, ◌∙◌, subst, arith, length-set, drop-cons, get_or-set_same, drop-set-lt, ltb-true, le-ltb, lt-ltb, le-leb, eqb, false, Some, None}
use borrow.Author.Tests.{lt-leb}
use lib.Seq.{append_snoc, paste, take-length}
use Rattle.basics.proofs.Tests.{by_case}
use Rattle.ops.specs.declared.op.Mode.{Mode}
use Rattle.ops.specs.declared.op.Mode.TheVariants.{Char, Int, Other}
use Rattle.testing_device.specs.Device.{decimal, written, put_of}
use Rattle.testing_device.specs.Room.{left, placed, put_in}
use Rattle.testing_device.proofs.Words.{Words, no_words, words_cons, words_append}

-- ---- digits

pub decimal_last : (k n : ℕ) → n < 10 → decimal (suc k) n ≡ (48 + n) ∷ []
unfolding decimal
decimal_last k n h = rw (lt-ltb n 10 h) refl

pub decimal_more : (k n : ℕ) → 10 ≤ n → decimal (suc k) n ≡ decimal k (n / 10) ++ ((48 + n % 10) ∷ [])
unfolding decimal
decimal_more k n h = rw (le-ltb n 10 h) refl

-- a store at place k is the head of what stands from k on
drop_set : (l : List ℕ) (k v : ℕ) → k < length l → drop k (set l k v) ≡ v ∷ drop (suc k) l
drop_set l k v h =
    drop-cons (set l k v) k 0 (rw (length-set l k v) h)
    ∙ rw (get_or-set_same l k v 0 h, drop-set-lt (suc k) l k v (omega arith)) refl

pub store_before : (l : List ℕ) (i v : ℕ) → 0 < i → i ≤ length l → drop (i - 1) (set l (i - 1) v) ≡ v ∷ drop i l
store_before l zero v p h = absurd (omega arith)
store_before l (suc k) v p h = let q : suc k - 1 ≡ k = omega arith in rw q (drop_set l k v (omega arith))

-- the digits still to come, before those that stand in the array from place i on
pub digit_more : (l : List ℕ) (i n : ℕ) → 0 < i → i ≤ length l → 10 ≤ n
    → decimal (i - 1) (n / 10) ++ drop (i - 1) (set l (i - 1) (48 + n % 10)) ≡ decimal i n ++ drop i l
digit_more l zero n p h b = absurd (omega arith)
digit_more l (suc k) n p h b =
    let q : suc k - 1 ≡ k = omega arith in
    rw (store_before l (suc k) (48 + n % 10) p h, q, decimal_more k n b) (sym (append_snoc (decimal k (n / 10)) (48 + n % 10) (drop (suc k) l)))

pub digit_last : (l : List ℕ) (i n : ℕ) → 0 < i → i ≤ length l → n < 10 → drop (i - 1) (set l (i - 1) (48 + n)) ≡ decimal i n ++ drop i l
digit_last l zero n p h b = absurd (omega arith)
digit_last l (suc k) n p h b = rw (store_before l (suc k) (48 + n) p h, decimal_last k n b) refl

-- a tenth has one digit fewer
pub fewer : (k n : ℕ) → n < 10 ^ suc k → n / 10 < 10 ^ k
fewer k n h = omega arith

-- the digits fit before place i, where one more place stays free
pub digits_fit : (i n : ℕ) → 10 ≤ n → n < 10 ^ (i - 1) → (2 < i) × (n / 10 < 10 ^ (i - 1 - 1))
digits_fit zero n b h = absurd (omega arith)
digits_fit (suc zero) n b h = absurd (omega arith)
digits_fit (suc (suc zero)) n b h = absurd (omega arith)
digits_fit (suc (suc (suc k))) n b h =
    let q : suc (suc (suc k)) - 1 ≡ suc (suc k) = omega arith in let q' : suc (suc k) - 1 ≡ suc k = omega arith in
    (omega arith, rw (q, q') (fewer (suc k) n (subst (λ (m : ℕ). n < 10 ^ m) q h)))

-- ---- words

decimal_words : (k n : ℕ) → Words (decimal k n)
unfolding decimal
decimal_words zero n = no_words
decimal_words (suc k) n =
    by_case (ltb n 10) (λ e. let h = ltb-true n 10 e in rw e (words_cons (48 + n) [] (omega arith) no_words))
    (λ e. rw e (words_append (decimal k (n / 10)) ((48 + n % 10) ∷ []) (decimal_words k (n / 10)) (words_cons (48 + n % 10) [] (omega arith) no_words)))

written_words : (v : ℕ) → Words (written v)
unfolding written
written_words v =
    by_case (ltb v (2 ^ 63)) (λ e. rw e (decimal_words 20 v)) (λ e. rw e (words_cons 45 (decimal 20 (2 ^ 64 - v)) (omega arith) (decimal_words 20 (2 ^ 64 - v))))

pub put_words : (m : Mode) (v : ℕ) → v < 2 ^ 64 → Words (put_of m v)
unfolding put_of
put_words Char v h = words_cons v [] h no_words
put_words Int v h = written_words v
put_words Other v h = no_words

-- ---- room

-- all of the values copied
pub placed_all : (vs output : List ℕ) (count n : ℕ) → n ≡ length vs → paste output count vs n ≡ placed vs output count
unfolding placed
placed_all vs output count n e = rw (e, take-length vs) refl

-- no room for all of some values, or room for them
module _ (vs out : List ℕ) (n : ℕ) (some : eqb (length vs) 0 ≡ false) where
  pub no_room : length out < n + length vs → put_in vs out n ≡ left None out
  unfolding put_in
  no_room h = rw (some, lt-leb _ _ h) refl

  pub all_room : n + length vs ≤ length out → {out' : List ℕ} → out' ≡ placed vs out n → put_in vs out n ≡ left (Some (n + length vs)) out'
  unfolding put_in
  all_room h e = rw (some, le-leb _ _ h, e) refl
