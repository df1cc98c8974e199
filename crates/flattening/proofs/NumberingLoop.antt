-- One op further in `number_ops`: what an op does to the scope, the invariant of the loop, and what each way out of it shows. Assumes nothing.
use Prim.Native.Nat.{ℕ, zero, suc, ◌+◌, ◌≤◌, ◌<◌}
use native.Mathlib.Nat.{zero-add}
use native.Mathlib.Numerals.{add-one}
use native.Mathlib.Omega.{arith}
use mathlib.Core.Path.{◌≡◌, refl, ap, sym, ◌∙◌}
use mathlib.Core.Bool.{Bool, true, false, cond, not}
use mathlib.Core.List.{List, [], ◌∷◌, ◌++◌}
use lib.Dec.{eqb}
use lib.ListN.{length, get_or, set, take, drop, replicate, length-set, length-map, length-replicate, get_or-map, drop_of_length-le}
use lib.Seq.{drop-cons, get_or-set_same, get_or-set_other, take-suc-set}
use mir.Val.{bool_byte}
use Rattle.std.specs.Prelude.{Option, Some, None, Result, Err}
use Rattle.std.proofs.lemmas.List.Elements.{All-replicate}
use Rattle.machine_model.specs.Step.{enter}
use Rattle.flattening.specs.Flatten.{Note, Numbered, named, has, fresh, number}
use Rattle.flattening.specs.Flatten.Note.{enters, opens, closes, stays}
use Rattle.flattening.specs.Flatten.Numbered.{stray, numbered}
use Rattle.flattening.specs.Scope.{row_note, row_notes, here_of, Place, place, leads_to, stack_of, place_in, passed, Low, listed, told}
use Rattle.flattening.specs.declared.numbering.Left.{Left}
use Rattle.flattening.specs.declared.numbering.NoOpenEnd.{NoOpenEnd}
use Rattle.flattening.specs.declared.numbering.Numbering.{Numbering}
use Rattle.flattening.specs.declared.numbering.Scope.{Scope}
use Rattle.flattening.proofs.Flags.{flag_enter, flag_has, flag_count, listed_none}

-- ---- the bodies around

-- what stands above them is not among them
stack_set : (d e : ℕ) (ls : List Left) (x : Left) → d ≤ e → stack_of d (set ls e x) ≡ stack_of d ls
stack_set zero e ls x h = refl
stack_set (suc d) e ls x h = rw (get_or-set_other ls e d x (record { body = 0; brackets = 0 }) (λ z. omega arith), stack_set d e ls x (omega arith)) refl

pub entered : (d : ℕ) (ls : List Left) (b m : ℕ) → d < length ls → stack_of (d + 1) (set ls d (record { body = b; brackets = m })) ≡ (b, m) ∷ stack_of d ls
entered d ls b m h =
    let x : Left = record { body = b; brackets = m } in
    rw (add-one d, get_or-set_same ls d x (record { body = 0; brackets = 0 }) h, stack_set d d ls x (omega arith)) refl

-- ---- the bodies of the ops before

abbrev pub after : List ℕ → Numbered → Numbered
after [] r = r
after (c ∷ cs) r = named c (after cs r)

after_snoc : (cs : List ℕ) (c : ℕ) (r : Numbered) → after (cs ++ (c ∷ [])) r ≡ after cs (named c r)
after_snoc [] c r = refl
after_snoc (d ∷ cs) c r = ap (named d) (after_snoc cs c r)

after_stray : (cs : List ℕ) (p : ℕ) → after cs (stray p) ≡ stray p
after_stray [] p = refl
after_stray (c ∷ cs) p = ap (named c) (after_stray cs p)

after_done : (cs seen : List ℕ) → after cs (numbered [] seen) ≡ numbered cs seen
after_done [] seen = refl
after_done (c ∷ cs) seen = ap (named c) (after_done cs seen)

-- ---- one op

-- the body of an op in the body b
here : Note → ℕ → List ℕ → ℕ
here enters b seen = fresh b seen
here opens b seen = b
here closes b seen = b
here stays b seen = b

-- the numbering from the op at p on, where it leads to a place
gone : ℕ → ℕ → Option Place → List ℕ → List Note → Numbered
gone p h None seen ns = stray p
gone p h (Some s) seen ns = named h (number (suc p) s.body s.brackets s.around (enter h seen) ns)

number_leads : (p b m : ℕ) (st : List (ℕ × ℕ)) (seen : List ℕ) (x : Note) (ns : List Note)
    → number p b m st seen (x ∷ ns) ≡ gone p (here x b seen) (leads_to x (here x b seen) b m st) seen ns
unfolding number leads_to here gone
number_leads p b m st seen enters ns = refl
number_leads p b m st seen opens ns = refl
number_leads p b zero [] seen closes ns = refl
number_leads p b zero (q ∷ st) seen closes ns = refl
number_leads p b (suc m) st seen closes ns = refl
number_leads p b m st seen stays ns = refl

-- it is what the code computes
here_lem : (k b n : ℕ) (ts : List Bool) → n ≡ length (listed 0 ts) → here_of k b (get_or ts (b + 1) false) n ≡ here (row_note k) b (listed 0 ts)
unfolding here_of here row_note
here_lem k b n ts en = by (eqb k 2) (eqb k 5) (eqb k 6) (eqb k 8)
  where
    q : has (suc b) (listed 0 ts) ≡ get_or ts (b + 1) false
    q = ap (λ (j : ℕ). has j (listed 0 ts)) (omega arith) ∙ flag_has ts 0 (b + 1)

    taken : (t : Bool) → cond t (n + 1) (b + 1) ≡ cond t (suc (length (listed 0 ts))) (suc b)
    taken true = omega (arith, en)
    taken false = omega arith

    by : (e f g x : Bool) → cond e (cond (get_or ts (b + 1) false) (n + 1) (b + 1)) b ≡ here (cond e enters (cond f opens (cond g opens (cond x closes stays)))) b (listed 0 ts)
    by true f g x = rw q (taken (get_or ts (b + 1) false))
    by false true g x = refl
    by false false true x = refl
    by false false false true = refl
    by false false false false = refl

-- ---- bounds

here_low : (k b n i : ℕ) (t : Bool) → b ≤ i → n ≤ i → here_of k b t n ≤ i + 1
unfolding here_of
here_low k b n i t hb hn = by (eqb k 2) t
  where
    by : (x y : Bool) → cond x (cond y (n + 1) (b + 1)) b ≤ i + 1
    by true true = omega arith
    by true false = omega arith
    by false y = omega arith

-- ---- the loop

flag_byte : (t : Bool) → bool_byte (not t) ≡ cond t 0 1
flag_byte true = refl
flag_byte false = refl

notes_at : (ks : List ℕ) (i : ℕ) → i < length ks → drop i (row_notes ks) ≡ row_note (get_or ks i 0) ∷ drop (suc i) (row_notes ks)
notes_at ks i h = drop-cons (row_notes ks) i (row_note 0) (omega (arith, length-map ks row_note)) ∙ ap (λ (x : Note). x ∷ drop (suc i) (row_notes ks)) (get_or-map row_note ks i 0)

-- before op i: the bodies of the ops before and the numbering of the rest give the numbering of the whole, and n bodies are seen
pub record Scoped (ks owner : List ℕ) (seen : List Bool) (s : Scope) (n i : ℕ) : Type 0 where
  pub upto : i ≤ length ks
  pub rest : after (take i owner) (number i s.body s.brackets (stack_of s.depth s.around) (listed 0 seen) (drop i (row_notes ks))) ≡ number 0 0 0 [] [] (row_notes ks)
  pub counted : n ≡ length (listed 0 seen)
  pub few : n ≤ i
  pub low : Low i s
  pub owners : length owner ≡ 4096
  pub flags : length seen ≡ 4097

pub main_low : Low 0 (record { body = 0; brackets = 0; depth = 0; around = replicate 4097 (record { body = 0; brackets = 0 }) })
main_low = record {
  body = omega arith;
  brackets = omega arith;
  depth = omega arith;
  around = All-replicate (λ l. (l.body ≤ 0) × (l.brackets ≤ 0)) 4097 (record { body = 0; brackets = 0 }) (omega arith, omega arith);
}

pub begin : (ks owner : List ℕ) (seen : List Bool) (s : Scope) → length owner ≡ 4096 → seen ≡ replicate 4097 false → place_in s ≡ place 0 0 [] → Low 0 s
    → Scoped ks owner seen s 0 0
begin ks owner seen s ho hs e l =
    let z : listed 0 seen ≡ [] = ap (listed 0) hs ∙ listed_none 4097 0 in
    record {
      upto = omega arith;
      rest = ap (λ (p : Place). number 0 p.body p.brackets p.around (listed 0 seen) (row_notes ks)) e ∙ ap (λ (ys : List ℕ). number 0 0 0 [] ys (row_notes ks)) z;
      counted = sym (ap length z);
      few = omega arith;
      low = l;
      owners = ho;
      flags = ap length hs ∙ length-replicate {A = Bool} 4097 false;
    }

module _ (ks owner : List ℕ) (seen : List Bool) (s : Scope) (n i : ℕ) (c : Scoped ks owner seen s n i) where
  module _ (h : i < length ks) (k h' : ℕ) (ek : k ≡ get_or ks i 0) (eh : h' ≡ here_of k s.body (get_or seen (s.body + 1) false) n) where
    here_is : h' ≡ here (row_note k) s.body (listed 0 seen)
    here_is = eh ∙ here_lem k s.body n seen c.counted

    -- the numbering of the rest, from this op on
    from_here : after (take i owner) (gone i h' (leads_to (row_note k) h' s.body s.brackets (stack_of s.depth s.around)) (listed 0 seen) (drop (suc i) (row_notes ks))) ≡ number 0 0 0 [] [] (row_notes ks)
    from_here =
        let e = number_leads i s.body s.brackets (stack_of s.depth s.around) (listed 0 seen) (row_note k) (drop (suc i) (row_notes ks)) in
        let now : drop i (row_notes ks) ≡ row_note k ∷ drop (suc i) (row_notes ks) = notes_at ks i h ∙ ap (λ (j : ℕ). row_note j ∷ drop (suc i) (row_notes ks)) (sym ek) in
        rw (here_is, ← e, ← now) c.rest

    pub stray_end_lem : (o : Option (Unit {0})) (s' : Scope) (a : Result (Unit {0}) NoOpenEnd) (x : Numbering) (j : ℕ)
        → passed o s' ≡ leads_to (row_note k) h' s.body s.brackets (stack_of s.depth s.around) → o ≡ None → a ≡ Err (record { op = i }) → told a x j ≡ number 0 0 0 [] [] (row_notes ks)
    unfolding gone
    stray_end_lem o s' a x j t eo ex =
        let e : None ≡ leads_to (row_note k) h' s.body s.brackets (stack_of s.depth s.around) = rw eo at t in
        rw ex (sym (after_stray (take i owner) i) ∙ rw (← e) at from_here)

    pub here_fits : h' ≤ i + 1
    here_fits = omega (arith, here_low k s.body n i (get_or seen (s.body + 1) false) c.low.body c.few, eh)

    pub next : length ks ≤ 4096 → (o : Option (Unit {0})) (s' : Scope) (u : Unit {0}) (new : ℕ)
        → passed o s' ≡ leads_to (row_note k) h' s.body s.brackets (stack_of s.depth s.around) → o ≡ Some u
        → ((j : ℕ) → Low j s → h' ≤ j + 1 → Low (j + 1) s') → new ≡ bool_byte (not (get_or seen h' false))
        → Scoped ks (set owner i h') (set seen h' true) s' (n + new) (i + 1)
    unfolding gone
    next small o s' u new t eo l en =
        let e : Some (place_in s') ≡ leads_to (row_note k) h' s.body s.brackets (stack_of s.depth s.around) = rw eo at t in
        let q : new ≡ cond (get_or seen h' false) 0 1 = en ∙ flag_byte (get_or seen h' false) in
        let f = here_fits in
        let hs : h' < length seen = omega (arith, c.flags) in
        let hw : i < length owner = omega (arith, c.owners) in
        let set-flag : listed 0 (set seen h' true) ≡ enter h' (listed 0 seen) = flag_enter seen 0 h' hs ∙ ap (λ (j : ℕ). enter j (listed 0 seen)) (zero-add h') in
        record {
          upto = omega arith;
          rest = rw (add-one i, take-suc-set owner i h' hw, after_snoc (take i owner) h', set-flag) (rw (← e) at from_here);
          counted = omega (arith, flag_count seen 0 h' hs, c.counted, q);
          few = by (get_or seen h' false) q;
          low = l i c.low f;
          owners = length-set owner i h' ∙ c.owners;
          flags = length-set seen h' true ∙ c.flags;
        }
      where
        by : (t : Bool) → new ≡ cond t 0 1 → n + new ≤ i + 1
        by true e = omega (arith, e, c.few)
        by false e = omega (arith, e, c.few)

  pub done : length ks ≤ i → numbered (take (length ks) owner) (listed 0 seen) ≡ number 0 0 0 [] [] (row_notes ks)
  unfolding number
  done h =
      let e : i ≡ length ks = omega (arith, c.upto) in
      let z : drop i (row_notes ks) ≡ [] = drop_of_length-le (row_notes ks) {i = i} (omega (arith, length-map ks row_note)) in
      ap (λ (j : ℕ). numbered (take j owner) (listed 0 seen)) (sym e)
      ∙ sym (after_done (take i owner) (listed 0 seen))
      ∙ ap (after (take i owner)) (sym (ap (number i s.body s.brackets (stack_of s.depth s.around) (listed 0 seen)) z))
      ∙ c.rest
