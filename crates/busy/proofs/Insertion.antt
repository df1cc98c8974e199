-- The loop that puts an op in its place: one turn, and its end. Assumes nothing.
use mathlib.Core.Path.{◌≡◌, ◌∙◌, refl, sym, ap}
use mathlib.Core.List.{List, [], ◌∷◌, ◌++◌}
use Prim.Native.Nat.{ℕ, zero, suc, ◌+◌, ◌-◌, ◌≤◌, ◌<◌}
use native.Mathlib.Omega.{arith}
use native.Mathlib.Numerals.{add-one}
use lib.ListN.{length, get_or, set, take, drop, length-append, take-append-drop, drop_of_length-le}
use lib.Seq.{take-take, length-take-le, take_all, take_at, take-suc-set, take-set-lt, drop-set-lt, drop-cons, drop-drop, get_or-take, append_snoc}
use Rattle.std.proofs.lemmas.Bool.Decides.{nat_tests}
use Rattle.busy.specs.declared.busiest.Op.{Op}
use mathlib.Core.Bool.{Bool, true, false, cond}
use lib.Dec.{eqb}
use Rattle.busy.specs.declared.busiest.Busy.{Busy}
use Rattle.std.specs.Ordering.{is_lt, ord_min, ord_max}
use Rattle.busy.specs.Busiest.{op, busier, busy_order, insert, first_of, other_of, with_op, blanks, listed, unlisted, ranked, busiest_of, busy_of}

-- the busier of two is the library's lesser one
busier_first : (x y : Op) → is_lt (busy_order x y) ≡ busier x y
unfolding busier
busier_first x y = grind (arith, nat_tests)

pub min_first : (x y : Op) → ord_min busy_order y x ≡ first_of x y
unfolding first_of
min_first x y = ap (λ (t : Bool). cond t x y) (busier_first x y)

pub max_other : (x y : Op) → ord_max busy_order y x ≡ other_of x y
unfolding other_of
max_other x y = ap (λ (t : Bool). cond t y x) (busier_first x y)

-- of the first n slots, i are done and x is still to be put in the others
unfoldable pub sifted : List Op → ℕ → Op → ℕ → List Op
sifted ops n x i = take i ops ++ insert x (drop i (take n ops))

pub sift_start : (ops : List Op) (n : ℕ) (x : Op) → insert x (take n ops) ≡ sifted ops n x 0
unfolding sifted
sift_start ops n x = refl

pub sift_on : (ops : List Op) (n : ℕ) (x : Op) (i : ℕ) (d f o : Op) → i < n → n ≤ length ops → f ≡ first_of x (get_or ops i d) → o ≡ other_of x (get_or ops i d)
    → sifted ops n x i ≡ sifted (set ops i f) n o (i + 1)
unfolding sifted insert
sift_on ops n x i d f o h k ef eo =
    let t : i < length (take n ops) = rw (length-take-le n ops k) h in
    let s : i < length ops = omega arith in
    let y = get_or ops i d in
    let a : drop i (take n ops) ≡ y ∷ drop (suc i) (take n ops) =
    drop-cons (take n ops) i d t ∙ ap (λ (z : Op). z ∷ drop (suc i) (take n ops)) (get_or-take n ops i d h) in
    let b : drop (suc i) (take n (set ops i f)) ≡ drop (suc i) (take n ops) =
    ap (drop (suc i)) (take-set-lt n ops i f h) ∙ drop-set-lt (suc i) (take n ops) i f (omega arith) in
    rw (a, add-one i, take-suc-set ops i f s, b, append_snoc, ef, eo) refl

-- all n are done, and the last is what x is now
sift_end : (ops : List Op) (n : ℕ) (x : Op) → n ≤ length ops → sifted ops n x n ≡ take n ops ++ (x ∷ [])
unfolding sifted insert
sift_end ops n x k =
    let q : length (take n ops) ≤ n = omega (arith, length-take-le n ops k) in
    let b : drop n (take n ops) ≡ [] = drop_of_length-le (take n ops) q in
    rw b refl

pub sift_full : (ops : List Op) (n : ℕ) (x : Op) (l : List Op) → length ops ≡ 10 → n ≡ 10 → l ≡ sifted ops n x n → take n ops ≡ take 10 l
sift_full ops n x l h e w =
    let k : n ≤ length ops = omega arith in
    let q : length (take n ops) ≡ 10 = length-take-le n ops k ∙ e in
    sym (rw (w, sift_end ops n x k) (take_at (take n ops) (x ∷ []) 10 q))

pub sift_more : (ops : List Op) (n : ℕ) (x : Op) (l : List Op) → length ops ≡ 10 → n < 10 → l ≡ sifted ops n x n
    → take (n + 1) (set ops n x) ≡ take 10 l
sift_more ops n x l h e w =
    let k : n ≤ length ops = omega arith in
    let s : n < length ops = omega arith in
    let q : length (take n ops ++ (x ∷ [])) ≤ 10 = rw (length-append, length-take-le n ops k) (omega arith) in
    rw (add-one n, take-suc-set ops n x s, w, sift_end ops n x k) (sym (take_all 10 (take n ops ++ (x ∷ [])) q))

-- ---- what follows the ops stays blank

-- below n a write leaves it as it is
pub blank_on : (ops : List Op) (n i : ℕ) (f : Op) → i < n → drop n ops ≡ blanks (10 - n) → drop n (set ops i f) ≡ blanks (10 - n)
blank_on ops n i f h b = drop-set-lt n ops i f h ∙ b

-- the write at n takes the first blank
pub blank_more : (ops : List Op) (n : ℕ) (x : Op) → n < 10 → drop n ops ≡ blanks (10 - n) → drop (n + 1) (set ops n x) ≡ blanks (10 - (n + 1))
unfolding blanks
blank_more ops n x h b =
    let e : 10 - n ≡ suc (10 - (n + 1)) = omega arith in
    drop-set-lt (n + 1) ops n x (omega arith) ∙ sym (drop-drop 1 n ops) ∙ ap (drop 1) b ∙ rw e refl

-- ---- op after op, the last first

-- what is below the first n does not come back
take_insert : (n : ℕ) (x : Op) (l : List Op) → take n (insert x (take n l)) ≡ take n (insert x l)
unfolding insert
take_insert zero x l = refl
take_insert (suc n) x [] = refl
take_insert (suc n) x (y ∷ ys) = ap (λ (t : List Op). first_of x y ∷ t) (take_insert n (other_of x y) ys)

take_with : (p c : ℕ) (l : List Op) → take 10 (with_op p c (take 10 l)) ≡ take 10 (with_op p c l)
unfolding with_op
take_with p c l = go (eqb c 0)
  where
    go : (t : Bool) → take 10 (cond t (take 10 l) (insert (op p c) (take 10 l))) ≡ take 10 (cond t l (insert (op p c) l))
    go true = take-take 10 10 l (omega arith)
    go false = take_insert 10 (op p c) l

-- no more than ten are listed
pub few : (b : Busy) → b.n ≤ 10 → length b.ops ≡ 10 → listed b ≡ take 10 (listed b)
unfolding listed
few b h e =
    let k : b.n ≤ length b.ops = omega arith in
    let q : length (take b.n b.ops) ≤ 10 = omega (arith, length-take-le b.n b.ops k) in
    sym (take_all 10 (take b.n b.ops) q)

pub rank_start : (counts : List ℕ) → [] ≡ take 10 (ranked (length counts) (drop (length counts) counts))
unfolding ranked
rank_start counts =
    let h : length counts ≤ length counts = omega arith in
    let e : drop (length counts) counts ≡ [] = drop_of_length-le counts h in rw e refl

pub rank_on : (counts : List ℕ) (i j c : ℕ) (l r : List Op) → i ≡ j + 1 → i ≤ length counts → c ≡ get_or counts j 0
    → l ≡ take 10 (ranked i (drop i counts)) → r ≡ take 10 (with_op j c l) → r ≡ take 10 (ranked j (drop j counts))
unfolding ranked
rank_on counts i j c l r e h f w v =
    let s : j < length counts = omega arith in
    let a : i ≡ suc j = omega arith in
    rw (v, w, a, drop-cons counts j 0 s, f) (take_with j (get_or counts j 0) (ranked (suc j) (drop (suc j) counts)))

-- an answer is its two fields
both : (b : Busy) (ops : List Op) (n : ℕ) → b.ops ≡ ops → b.n ≡ n → b ≡ record { ops = ops; n = n }
both b ops n e f = rw (sym e, sym f) refl

pub rank_end : (counts : List ℕ) (b : Busy) (i : ℕ) → i ≡ 0 → b.n ≤ 10 → length b.ops ≡ 10 → listed b ≡ take 10 (ranked i (drop i counts))
    → unlisted b ≡ blanks (10 - b.n) → b ≡ busy_of counts
unfolding listed unlisted busiest_of busy_of
rank_end counts b i z h e w u =
    let k : b.n ≤ length b.ops = omega arith in
    let v : take b.n b.ops ≡ busiest_of counts = w ∙ rw z refl in
    let m : b.n ≡ length (busiest_of counts) = sym (length-take-le b.n b.ops k) ∙ ap length v in
    let r : drop b.n b.ops ≡ blanks (10 - length (busiest_of counts)) = u ∙ ap (λ (j : ℕ). blanks (10 - j)) m in
    let s : b.ops ≡ busiest_of counts ++ blanks (10 - length (busiest_of counts)) = sym (take-append-drop b.n b.ops) ∙ rw (v, r) refl in
    both b _ _ s m
