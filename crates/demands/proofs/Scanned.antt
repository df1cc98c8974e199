-- The check's answer is one that the rules allow: the first place that breaks one, the earliest bracket never closed, or 0. Assumes nothing.
use Prim.Native.Nat.{ℕ, zero, suc, ◌+◌, ◌≤◌, ◌<◌, suc-le-suc}
use native.Mathlib.Nat.{not-suc-le-zero, le_of_suc-le-suc, add-zero}
use native.Mathlib.Omega.{arith}
use borrow.Author.Tests.{ltb-true, ltb-false}
use mathlib.Core.Path.{◌≡◌, refl, ap, sym, ◌∙◌, subst}
use mathlib.Core.Bool.{Bool, true, false, cond}
use mathlib.Core.List.{List, [], ◌∷◌}
use mathlib.Core.Option.{Option, none, some}
use mathlib.Core.Logic.{◌⊎◌, inl, inr}
use lib.Dec.{ltb}
use lib.ListN.{length, take, drop, get_or}
use Rattle.basics.proofs.Clash.{clash}
use Rattle.ops.specs.Syntax.{Op, Bracket, bracket}
use Rattle.ops.specs.Syntax.Bracket.{up, down, mid, flat}
use Rattle.machine_model.specs.State.{lanes}
use Rattle.machine_model.specs.Scan.{op_at, brackets, to_end}
use Rattle.machine_model.proofs.Scans.{length_brackets, brackets_at}
use Rattle.patch_check.specs.Rules.{opens, closes, asks, leaves, known, Open, Breaks, NeverClosed, Says}
use Rattle.patch_check.specs.Rules.Breaks.{no_end, no_else, few}
use Rattle.patch_check.specs.Rules.Says.{fine, wrong, open_left}
use Rattle.std.specs.Prelude.{Ok, Err}
use Rattle.answers.specs.Check.{Verdict, answer}
use Rattle.patch_check.specs.Check.{stray_end, stray_else, depth, outermost, scan, check}
use Rattle.answers.specs.declared.check.CheckError.TheVariants.{NoOpenEnd, NoOpenElse, FewLanes}
use Rattle.answers.specs.declared.check.CheckError.TheVariants as error
use Rattle.demands.proofs.Partner.{opens_append, closes_append}

-- ---- the rules at one place of the rest of a patch, where d brackets are open and k lanes known

-- a bracket is open before place i
abbrev Within : ℕ → List Op → ℕ → Type 0
Within d os i = closes (take i (brackets os)) < d + opens (take i (brackets os))

record Holds (d k : ℕ) (os : List Op) (i : ℕ) : Type 0 where
  end : bracket (op_at os i) ≡ down → Within d os i
  else : bracket (op_at os i) ≡ mid → Within d os i
  enough : asks (op_at os i) ≤ known k os i

data Fails (d k : ℕ) (os : List Op) (i : ℕ) : ℕ → Type 0 where
  bad_end : bracket (op_at os i) ≡ down → (Within d os i → ⊥) → Fails d k os i 10
  bad_else : bracket (op_at os i) ≡ mid → (Within d os i → ⊥) → Fails d k os i 11
  bad_few : (bracket (op_at os i) ≡ down → Within d os i) → (bracket (op_at os i) ≡ mid → Within d os i) → known k os i < asks (op_at os i) → Fails d k os i 12

-- what the answer for the rest says, from the place p on; w is the place that 13 has
data Tells (w p d k : ℕ) (os : List Op) : Verdict → Type 0 where
  all : ((i : ℕ) → i < length os → Holds d k os i) → d + opens (brackets os) ≡ closes (brackets os) → (q : ℕ) → q ≡ p + length os → Tells w p d k os (Ok q)
  stray_end_lem : (i q : ℕ) → i < length os → Fails d k os i 10 → ((j : ℕ) → j < i → Holds d k os j) → q ≡ p + i → Tells w p d k os (Err (NoOpenEnd q))
  stray_else_lem : (i q : ℕ) → i < length os → Fails d k os i 11 → ((j : ℕ) → j < i → Holds d k os j) → q ≡ p + i → Tells w p d k os (Err (NoOpenElse q))
  lacks : (i q : ℕ) → i < length os → Fails d k os i 12 → ((j : ℕ) → j < i → Holds d k os j) → q ≡ p + i → Tells w p d k os (Err (FewLanes q))
  over : ((i : ℕ) → i < length os → Holds d k os i) → closes (brackets os) < d + opens (brackets os) → Tells w p d k os (Err (error.NeverClosed w))

-- ---- one mark

record One (m : Bracket) (d d' : ℕ) : Type 0 where
  count : d + opens (m ∷ []) ≡ d' + closes (m ∷ [])
  at_end : m ≡ down → 0 < d
  at_else : m ≡ mid → 0 < d

one_mark : (m : Bracket) (d : ℕ) → stray_end m d ≡ false → stray_else m d ≡ false → One m d (depth m d)
one_mark up d e f = record { count = omega arith; at_end = λ e. clash (cc); at_else = λ e. clash (cc) }
one_mark flat d e f = record { count = omega arith; at_end = λ e. clash (cc); at_else = λ e. clash (cc) }
one_mark down zero e f = clash (cc)
one_mark down (suc d) e f = record { count = omega arith; at_end = λ e. omega arith; at_else = λ e. clash (cc) }
one_mark mid zero e f = clash (cc)
one_mark mid (suc d) e f = record { count = omega arith; at_end = λ e. clash (cc); at_else = λ e. omega arith }

stray_end_is : (m : Bracket) (d : ℕ) → stray_end m d ≡ true → (m ≡ down) × (d ≡ 0)
stray_end_is up d e = clash (cc)
stray_end_is mid d e = clash (cc)
stray_end_is flat d e = clash (cc)
stray_end_is down zero e = (refl, refl)
stray_end_is down (suc d) e = clash (cc)

stray_else_is : (m : Bracket) (d : ℕ) → stray_else m d ≡ true → (m ≡ mid) × (d ≡ 0)
stray_else_is up d e = clash (cc)
stray_else_is down d e = clash (cc)
stray_else_is flat d e = clash (cc)
stray_else_is mid zero e = (refl, refl)
stray_else_is mid (suc d) e = clash (cc)

module _ (d d' k : ℕ) (o : Op) (os : List Op) (one : One (bracket o) d d') where
  opens_head : (ms : List Bracket) → opens (bracket o ∷ ms) ≡ opens (bracket o ∷ []) + opens ms
  opens_head ms = opens_append (bracket o ∷ []) ms

  closes_head : (ms : List Bracket) → closes (bracket o ∷ ms) ≡ closes (bracket o ∷ []) + closes ms
  closes_head ms = closes_append (bracket o ∷ []) ms

  -- a bracket is open before a place of the rest
  in_tail : (i : ℕ) → Within d' os i → Within d (o ∷ os) (suc i)
  in_tail i h = omega (arith, one.count, opens_head (take i (brackets os)), closes_head (take i (brackets os)))

  from_tail : (i : ℕ) → Within d (o ∷ os) (suc i) → Within d' os i
  from_tail i h = omega (arith, one.count, opens_head (take i (brackets os)), closes_head (take i (brackets os)))

  holds_head : asks o ≤ k → Holds d k (o ∷ os) 0
  holds_head a = record { end = λ e. omega (arith, one.at_end e); else = λ e. omega (arith, one.at_else e); enough = a }

  holds_tail : (i : ℕ) → Holds d' (leaves o k) os i → Holds d k (o ∷ os) (suc i)
  holds_tail i h = record { end = λ e. in_tail i (h.end e); else = λ e. in_tail i (h.else e); enough = h.enough }

  fails_tail : (i n : ℕ) → Fails d' (leaves o k) os i n → Fails d k (o ∷ os) (suc i) n
  fails_tail i n (bad_end e h) = bad_end e (λ x. h (from_tail i x))
  fails_tail i n (bad_else e h) = bad_else e (λ x. h (from_tail i x))
  fails_tail i n (bad_few e f h) = bad_few (λ x. in_tail i (e x)) (λ x. in_tail i (f x)) h

  every : (n : ℕ) → asks o ≤ k → ((i : ℕ) → i < n → Holds d' (leaves o k) os i) → (i : ℕ) → i < suc n → Holds d k (o ∷ os) i
  every n a h zero l = holds_head a
  every n a h (suc i) l = holds_tail i (h i (le_of_suc-le-suc l))

  tells_tail : (w p : ℕ) (r : Verdict) → asks o ≤ k → Tells w (suc p) d' (leaves o k) os r → Tells w p d k (o ∷ os) r
  tells_tail w p r a (all h c q e) =
      all (every (length os) a h) (omega (arith, one.count, opens_head (brackets os), closes_head (brackets os))) q (omega arith)
  tells_tail w p r a (stray_end_lem i q l f h e) = stray_end_lem (suc i) q (suc-le-suc l) (fails_tail i 10 f) (every i a h) (omega arith)
  tells_tail w p r a (stray_else_lem i q l f h e) = stray_else_lem (suc i) q (suc-le-suc l) (fails_tail i 11 f) (every i a h) (omega arith)
  tells_tail w p r a (lacks i q l f h e) = lacks (suc i) q (suc-le-suc l) (fails_tail i 12 f) (every i a h) (omega arith)
  tells_tail w p r a (over h c) = over (every (length os) a h) (omega (arith, one.count, opens_head (brackets os), closes_head (brackets os)))

-- ---- the answer for the rest

-- the place at which the outermost open bracket stands after all marks, as the check keeps it
unfoldable latest : ℕ → ℕ → ℕ → List Bracket → ℕ
latest f p d [] = f
latest f p d (m ∷ ms) = latest (outermost d p f) (suc p) (depth m d) ms

told : (os : List Op) (f p k d : ℕ) → Tells (latest f p d (brackets os)) p d k os (scan f p k d os)
unfolding scan latest
told [] f p k zero = all (λ i h. absurd (not-suc-le-zero h)) (omega arith) p (sym (add-zero p))
told [] f p k (suc d) = over (λ i h. absurd (not-suc-le-zero h)) (omega arith)
told (o ∷ os) f p k d =
    by (stray_end (bracket o) d) (stray_else (bracket o) d) (ltb k (asks o)) refl refl refl _ _ (told os (outermost d p f) (suc p) (leaves o k) (depth (bracket o) d))
  where
    none_first : (j : ℕ) → j < 0 → Holds d k (o ∷ os) j
    none_first j h = absurd (not-suc-le-zero h)

    by : (a b c : Bool) → stray_end (bracket o) d ≡ a → stray_else (bracket o) d ≡ b → ltb k (asks o) ≡ c → (w : ℕ) (r : Verdict)
        → Tells w (suc p) (depth (bracket o) d) (leaves o k) os r
        → Tells w p d k (o ∷ os) (cond a (Err (NoOpenEnd p)) (cond b (Err (NoOpenElse p)) (cond c (Err (FewLanes p)) r)))
    by true b c e g h w r t =
        let z = stray_end_is (bracket o) d e in
        stray_end_lem 0 p (omega arith) (bad_end z.0 (λ x. omega (arith, z.1))) none_first (sym (add-zero p))
    by false true c e g h w r t =
        let z = stray_else_is (bracket o) d g in
        stray_else_lem 0 p (omega arith) (bad_else z.0 (λ x. omega (arith, z.1))) none_first (sym (add-zero p))
    by false false true e g h w r t =
        let one = one_mark (bracket o) d e g in
        lacks 0 p (omega arith) (bad_few (λ x. omega (arith, one.at_end x)) (λ x. omega (arith, one.at_else x)) (ltb-true k (asks o) h)) none_first (sym (add-zero p))
    by false false false e g h w r t = tells_tail d (depth (bracket o) d) k o os (one_mark (bracket o) d e g) w p r (ltb-false k (asks o) h) t

-- ---- the earliest bracket that is never closed

-- the first, or the second where the search found something
abbrev lone : Option ℕ → ℕ → ℕ → ℕ
lone none p r = p
lone (some q) p r = r

-- the earliest place from p on that opens a bracket whose End is not found
unfoldable unclosed : ℕ → List Bracket → ℕ
unclosed p [] = p
unclosed p (up ∷ ms) = let r = unclosed (suc p) ms in lone (to_end (suc p) 0 ms) p r
unclosed p (down ∷ ms) = unclosed (suc p) ms
unclosed p (mid ∷ ms) = unclosed (suc p) ms
unclosed p (flat ∷ ms) = unclosed (suc p) ms

-- the mark at j opens a bracket that the search does not see closed; p is the place of the list's first
record Lost (p : ℕ) (ms : List Bracket) (j : ℕ) : Type 0 where
  within : j < length ms
  opening : get_or ms j flat ≡ up
  lost : to_end (suc (p + j)) 0 (drop (suc j) ms) ≡ none

later : (p : ℕ) (m : Bracket) (ms : List Bracket) (j : ℕ) → Lost (suc p) ms j → Lost p (m ∷ ms) (suc j)
later p m ms j l =
    record { within = suc-le-suc l.within; opening = l.opening; lost = ap (λ (x : ℕ). to_end x 0 (drop (suc j) ms)) (omega arith) ∙ l.lost }

sooner : (p : ℕ) (m : Bracket) (ms : List Bracket) (j : ℕ) → Lost p (m ∷ ms) (suc j) → Lost (suc p) ms j
sooner p m ms j l =
    record { within = le_of_suc-le-suc l.within; opening = l.opening; lost = ap (λ (x : ℕ). to_end x 0 (drop (suc j) ms)) (omega arith) ∙ l.lost }

-- the first lost place
record First (p : ℕ) (ms : List Bracket) : Type 0 where
  off : ℕ
  it : Lost p ms off
  is : unclosed p ms ≡ p + off
  none_before : (j : ℕ) → j < off → Lost p ms j → ⊥

abbrev AllClosed : ℕ → List Bracket → Type 0
AllClosed p [] = Unit {0}
AllClosed p (up ∷ ms) = ((q : ℕ) × (to_end (suc p) 0 ms ≡ some q)) × AllClosed (suc p) ms
AllClosed p (down ∷ ms) = AllClosed (suc p) ms
AllClosed p (mid ∷ ms) = AllClosed (suc p) ms
AllClosed p (flat ∷ ms) = AllClosed (suc p) ms

-- one place further, where the first mark is not lost
first_later : (p : ℕ) (m : Bracket) (ms : List Bracket) → unclosed p (m ∷ ms) ≡ unclosed (suc p) ms → (Lost p (m ∷ ms) 0 → ⊥) → First (suc p) ms → First p (m ∷ ms)
first_later p m ms e n f = record { off = suc f.off; it = later p m ms f.off f.it; is = e ∙ f.is ∙ omega arith; none_before = nb }
  where
    nb : (j : ℕ) → j < suc f.off → Lost p (m ∷ ms) j → ⊥
    nb zero h l = n l
    nb (suc j) h l = f.none_before j (le_of_suc-le-suc h) (sooner p m ms j l)

sum_map : {A B C D : Type 0} → (A → C) → (B → D) → A ⊎ B → C ⊎ D
sum_map f g (inl a) = inl (f a)
sum_map f g (inr b) = inr (g b)

first_lost : (p : ℕ) (ms : List Bracket) → First p ms ⊎ AllClosed p ms
unfolding unclosed
first_lost p [] = inr tt
first_lost p (up ∷ ms) = by (to_end (suc p) 0 ms) refl (first_lost (suc p) ms)
  where
    by : (r : Option ℕ) → to_end (suc p) 0 ms ≡ r → First (suc p) ms ⊎ AllClosed (suc p) ms → First p (up ∷ ms) ⊎ AllClosed p (up ∷ ms)
    by none e t =
        inl
        (record {
          off = 0;
          it = record { within = omega arith; opening = refl; lost = ap (λ (x : ℕ). to_end (suc x) 0 ms) (add-zero p) ∙ e };
          is = ap (λ (x : Option ℕ). lone x p (unclosed (suc p) ms)) e ∙ sym (add-zero p);
          none_before = λ j h. absurd (not-suc-le-zero h);
        })
    by (some q) e t =
        sum_map
        (first_later p up ms (ap (λ (x : Option ℕ). lone x p (unclosed (suc p) ms)) e)
        (λ l. let z : none ≡ some q = sym l.lost ∙ ap (λ (x : ℕ). to_end (suc x) 0 ms) (add-zero p) ∙ e in clash (cc)))
        (λ a. ((q, e), a))
        t
first_lost p (down ∷ ms) = sum_map (first_later p down ms refl (λ l. let z = l.opening in clash (cc))) (λ a. a) (first_lost (suc p) ms)
first_lost p (mid ∷ ms) = sum_map (first_later p mid ms refl (λ l. let z = l.opening in clash (cc))) (λ a. a) (first_lost (suc p) ms)
first_lost p (flat ∷ ms) = sum_map (first_later p flat ms refl (λ l. let z = l.opening in clash (cc))) (λ a. a) (first_lost (suc p) ms)

-- where each bracket is closed there are as many Ends, and one search more finds one End more
balanced : (p : ℕ) (ms : List Bracket) → AllClosed p ms
    → (opens ms ≤ closes ms) × ((d q : ℕ) → to_end p d ms ≡ some q → opens ms + suc d ≤ closes ms)
unfolding to_end
balanced p [] a = (omega arith, λ d q e. clash (cc))
balanced p (up ∷ ms) a =
    let b = balanced (suc p) ms a.1 in
    (omega (arith, b.1 0 a.0.0 a.0.1), λ d q e. omega (arith, b.1 (suc d) q e))
balanced p (down ∷ ms) a =
    let b = balanced (suc p) ms a in
    (omega (arith, b.0), elim [ zero ↦ λ q e. omega (arith, b.0) | suc d ↦ λ q e. omega (arith, b.1 d q e) ])
balanced p (mid ∷ ms) a = let b = balanced (suc p) ms a in (b.0, b.1)
balanced p (flat ∷ ms) a = let b = balanced (suc p) ms a in (b.0, b.1)

-- where an outer search finds its End, an inner one does
inner_end : (p d : ℕ) (ms : List Bracket) (q : ℕ) → to_end p (suc d) ms ≡ some q → (r : ℕ) × (to_end p d ms ≡ some r)
unfolding to_end
inner_end p d [] q e = clash (cc)
inner_end p d (up ∷ ms) q e = inner_end (suc p) (suc d) ms q e
inner_end p zero (down ∷ ms) q e = (p, refl)
inner_end p (suc d) (down ∷ ms) q e = inner_end (suc p) d ms q e
inner_end p d (mid ∷ ms) q e = inner_end (suc p) d ms q e
inner_end p d (flat ∷ ms) q e = inner_end (suc p) d ms q e

innermost_end : (p d : ℕ) (ms : List Bracket) (q : ℕ) → to_end p d ms ≡ some q → (r : ℕ) × (to_end p 0 ms ≡ some r)
innermost_end p zero ms q e = (q, e)
innermost_end p (suc d) ms q e = let z = inner_end p d ms q e in innermost_end p d ms z.0 z.1

-- the place that the check keeps, where d brackets are open: the outermost one's, if its End is not found
abbrev due : ℕ → ℕ → ℕ → List Bracket → ℕ
due f p zero ms = unclosed p ms
due f p (suc d) ms = lone (to_end p d ms) f (unclosed p ms)

latest_due : (ms : List Bracket) (f p d : ℕ) → closes ms < d + opens ms → latest f p d ms ≡ due f p d ms
unfolding latest unclosed to_end
latest_due [] f p zero h = absurd (omega arith)
latest_due [] f p (suc d) h = refl
latest_due (up ∷ ms) f p zero h = latest_due ms p (suc p) 1 (omega arith)
latest_due (up ∷ ms) f p (suc d) h = latest_due ms f (suc p) (suc (suc d)) (omega arith) ∙ by (to_end (suc p) (suc d) ms) refl
  where
    by : (r : Option ℕ) → to_end (suc p) (suc d) ms ≡ r → lone r f (unclosed (suc p) ms) ≡ lone r f (lone (to_end (suc p) 0 ms) p (unclosed (suc p) ms))
    by none e = refl
    by (some q) e = let z = innermost_end (suc p) (suc d) ms q e in sym (ap (λ (x : Option ℕ). lone x p (unclosed (suc p) ms)) z.1)
latest_due (down ∷ ms) f p zero h = latest_due ms p (suc p) 0 (omega arith)
latest_due (down ∷ ms) f p (suc zero) h = latest_due ms f (suc p) 0 (omega arith)
latest_due (down ∷ ms) f p (suc (suc d)) h = latest_due ms f (suc p) (suc d) (omega arith)
latest_due (mid ∷ ms) f p zero h = latest_due ms p (suc p) 0 h
latest_due (mid ∷ ms) f p (suc d) h = latest_due ms f (suc p) (suc d) h
latest_due (flat ∷ ms) f p zero h = latest_due ms p (suc p) 0 h
latest_due (flat ∷ ms) f p (suc d) h = latest_due ms f (suc p) (suc d) h

-- ---- the whole patch

module _ (os : List Op) where
  opened : (i : ℕ) → Within 0 os i → Open os i
  opened i h = omega arith

  within : (i : ℕ) → Open os i → Within 0 os i
  within i h = omega arith

  breaks : (i n : ℕ) → Fails 0 lanes os i n → Breaks os i n
  breaks i n (bad_end e h) = no_end e (λ x. h (within i x))
  breaks i n (bad_else e h) = no_else e (λ x. h (within i x))
  breaks i n (bad_few e f h) = few (λ x. opened i (e x)) (λ x. opened i (f x)) h

  unbroken : (i n : ℕ) → Holds 0 lanes os i → Breaks os i n → ⊥
  unbroken i n h (no_end e x) = x (opened i (h.end e))
  unbroken i n h (no_else e x) = x (opened i (h.else e))
  unbroken i n h (few e f x) = omega (arith, h.enough)

  never_closed : (j : ℕ) → Lost 0 (brackets os) j → NeverClosed os j
  never_closed j l =
      record { within = omega (arith, l.within, length_brackets os); opening = sym (brackets_at os j) ∙ l.opening; lost = ap (λ (x : ℕ). to_end (suc x) 0 (drop (suc j) (brackets os))) (omega arith) ∙ l.lost }

  lost_there : (j : ℕ) → NeverClosed os j → Lost 0 (brackets os) j
  lost_there j l =
      record { within = omega (arith, l.within, length_brackets os); opening = brackets_at os j ∙ l.opening; lost = ap (λ (x : ℕ). to_end (suc x) 0 (drop (suc j) (brackets os))) (omega arith) ∙ l.lost }

  -- an op that breaks a rule, and none before it
  first_wrong : (n i q : ℕ) → i < length os → Fails 0 lanes os i n → ((j : ℕ) → j < i → Holds 0 lanes os j) → q ≡ 0 + i → Says os (n, q)
  first_wrong n i q l f h e =
      subst (λ (x : ℕ). Says os (n, x)) (omega arith) (wrong n i l (breaks i n f) (λ j m lj b. unbroken j m (h j lj) b))

  says_of : (r : Verdict) → Tells (latest 0 0 0 (brackets os)) 0 0 lanes os r → Says os (answer r)
  says_of r (all h c q e) =
      subst (λ (x : ℕ). Says os (0, x)) (omega arith)
      (fine
      (record {
        ends = λ i l e. opened i ((h i l).end e);
        elses = λ i l e. opened i ((h i l).else e);
        enough = λ i l. (h i l).enough;
        closed = omega arith;
      }))
  says_of r (stray_end_lem i q l f h e) = first_wrong 10 i q l f h e
  says_of r (stray_else_lem i q l f h e) = first_wrong 11 i q l f h e
  says_of r (lacks i q l f h e) = first_wrong 12 i q l f h e
  says_of r (over h c) = by (first_lost 0 (brackets os))
    where
      by : First 0 (brackets os) ⊎ AllClosed 0 (brackets os) → Says os (13, latest 0 0 0 (brackets os))
      by (inl f) =
          subst (λ (x : ℕ). Says os (13, x)) (omega (arith, f.is, latest_due (brackets os) 0 0 0 c))
          (open_left f.off (λ i m l b. unbroken i m (h i l) b) (never_closed f.off f.it) (λ j l n. f.none_before j l (lost_there j n)))
      by (inr a) = let b = balanced 0 (brackets os) a in absurd (omega (arith, b.0))

  -- the computed check's answer is one that the rules allow
  pub check_says : Says os (answer (check os))
  unfolding check
  check_says = says_of _ (told os 0 0 lanes 0)
