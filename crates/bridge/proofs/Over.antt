-- From 'what is seen is the model's state, and the rest is kept' to one equation. Assumes nothing.
use mathlib.Core.Path.{◌≡◌, ◌∙◌, refl, ap, sym}
use mathlib.Core.Bool.{Bool}
use mathlib.Core.List.{List}
use Prim.Native.Nat.{ℕ, ◌≤◌, ◌<◌}
use native.Mathlib.Omega.{arith}
use lib.ListN.{length, drop, length-append, length-drop}
use lib.Seq.{take-append_seam}
use Rattle.byte_fields.specs.Storage.{fill}
use Rattle.testing_device.specs.Device.{ring, fill_ring}
use Rattle.testing_device.proofs.Rings.{length_ring, ring_same, ring_fill, length_fill_ring}
use Rattle.machine_model.specs.State.{State}
use Rattle.machine_model.specs.Step.Outcome.{next}
use Rattle.machine_numbers.specs.declared.numbers.Numbers.{Numbers}
use Rattle.machine_step.specs.Held.{Held, held, After}
use Rattle.bridge.specs.View.{view, lay, laid}
use Rattle.bridge.specs.Fits.{Counted}
use Rattle.bridge.proofs.Lists.{Laid, laid_same}

-- d is c with counted entries changed, and no others
pub record Over (c d : Held) : Type 0 where
  pub calls : Laid d.numbers.depth c.calls d.calls
  pub refs : Laid d.numbers.saved c.refs d.refs
  pub register : Laid d.numbers.lanes c.register d.register
  pub table : Laid d.numbers.functions c.table d.table
  pub output : Laid d.numbers.written c.output d.output
  pub channel : fill_ring c.channel d.numbers.first (ring d.channel d.numbers.first d.numbers.waiting) ≡ d.channel
  pub mode : c.numbers.mode ≡ d.numbers.mode

-- what agrees part by part is the same
alike : {p q : Numbers} {cs cs' rs rs' g g' t t' ts ts' ch ch' o o' : List ℕ} → p ≡ q → cs ≡ cs' → rs ≡ rs' → g ≡ g' → t ≡ t' → ts ≡ ts' → ch ≡ ch' → o ≡ o'
    → held p cs rs g t ts ch o ≡ held q cs' rs' g' t' ts' ch' o'
alike a b c d e f g h = rw (a, b, c, d, e, f, g, h) refl

pub over_lay : (c d : Held) → Over c d → lay (view d) c ≡ d
unfolding lay
over_lay c d o =
    let w = length_ring d.channel d.numbers.first d.numbers.waiting in
    alike (rw (w, o.mode, o.calls.count, o.refs.count, o.register.count, o.table.count, o.output.count) refl)
    o.calls.whole
    o.refs.whole
    o.register.whole
    refl
    o.table.whole
    o.channel
    o.output.whole

abbrev pub went : Held → After
went d = record { number = 0; lane = 0; held = d }

-- a step that went on, from its two halves
pub meets : (c d : Held) (s : State) → Over c d → view d ≡ s → went d ≡ laid c (next s)
meets c d s o e = ap (λ (z : Held). went z) (sym (over_lay c d o)) ∙ ap (λ (z : State). went (lay z c)) e

module _ (c : Held) (h : Counted c) where
  -- all lists as found
  pub over_same : Over c c
  over_same =
      record {
        calls = laid_same _ _ (let r = h.call_room in let d = h.depth in omega arith);
        refs = laid_same _ _ (let r = h.ref_room in let d = h.saved in omega arith);
        register = laid_same _ _ h.lanes;
        table = laid_same _ _ h.functions;
        output = laid_same _ _ h.written;
        channel = ring_same _ _ _;
        mode = refl;
      }

  -- the numbers, the tape and the register changed
  pub over_reg : (at pt len n k : ℕ) (b : Bool) (r t : List ℕ) → Laid n c.register r
      → Over c
      (held
      (record { depth = c.numbers.depth; saved = c.numbers.saved; pointer = pt; position = at; length = len; lanes = n; functions = c.numbers.functions; first = c.numbers.first; waiting = c.numbers.waiting; taken = k; written = c.numbers.written; halted = b; mode = c.numbers.mode })
      c.calls c.refs r t c.table c.channel c.output)
  over_reg at pt len n k b r t l =
      let o = over_same in record { calls = o.calls; refs = o.refs; register = l; table = o.table; output = o.output; channel = o.channel; mode = refl }

  -- the numbers and the tape
  pub over_num : (at pt len k : ℕ) (b : Bool) (t : List ℕ)
      → Over c
      (held
      (record { depth = c.numbers.depth; saved = c.numbers.saved; pointer = pt; position = at; length = len; lanes = c.numbers.lanes; functions = c.numbers.functions; first = c.numbers.first; waiting = c.numbers.waiting; taken = k; written = c.numbers.written; halted = b; mode = c.numbers.mode })
      c.calls c.refs c.register t c.table c.channel c.output)
  over_num at pt len k b t = over_reg at pt len c.numbers.lanes k b c.register t over_same.register

  -- the numbers, the call stack and the table
  pub over_calls : (at d u : ℕ) (b : Bool) (cs ts : List ℕ) → Laid d c.calls cs → Laid u c.table ts
      → Over c
      (held
      (record { depth = d; saved = c.numbers.saved; pointer = c.numbers.pointer; position = at; length = c.numbers.length; lanes = c.numbers.lanes; functions = u; first = c.numbers.first; waiting = c.numbers.waiting; taken = c.numbers.taken; written = c.numbers.written; halted = b; mode = c.numbers.mode })
      cs c.refs c.register c.tape ts c.channel c.output)
  over_calls at d u b cs ts l m =
      let o = over_same in record { calls = l; refs = o.refs; register = o.register; table = m; output = o.output; channel = o.channel; mode = refl }

  -- the numbers and the saved pointers
  pub over_refs : (at pt len d : ℕ) (rs : List ℕ) → Laid d c.refs rs
      → Over c
      (held
      (record { depth = c.numbers.depth; saved = d; pointer = pt; position = at; length = len; lanes = c.numbers.lanes; functions = c.numbers.functions; first = c.numbers.first; waiting = c.numbers.waiting; taken = c.numbers.taken; written = c.numbers.written; halted = c.numbers.halted; mode = c.numbers.mode })
      c.calls rs c.register c.tape c.table c.channel c.output)
  over_refs at pt len d rs l =
      let o = over_same in record { calls = o.calls; refs = l; register = o.register; table = o.table; output = o.output; channel = o.channel; mode = refl }

-- what is laid is seen: of the counts only the ring's is asked
pub view_lay : (s : State) (c : Held) → length s.channel ≤ 256 → 256 ≤ length c.channel → view (lay s c) ≡ s
unfolding lay fill
view_lay s c w b =
    rw (
      take-append_seam s.calls (drop (length s.calls) c.calls),
      take-append_seam s.refs (drop (length s.refs) c.refs),
      take-append_seam s.reg (drop (length s.reg) c.register),
      take-append_seam s.table (drop (length s.table) c.table),
      take-append_seam s.outs (drop (length s.outs) c.output),
      ring_fill s.channel c.channel s.first w b,
    ) refl

fill_fits : (new old : List ℕ) → length new ≤ length (fill new old)
unfolding fill
fill_fits new old = rw length-append (omega arith)

fill_wide : (n : ℕ) (new old : List ℕ) → n ≤ length old → n ≤ length (fill new old)
unfolding fill
fill_wide n new old h = rw (length-append, length-drop) (omega arith)

fill_same : (new old : List ℕ) → length new ≤ length old → length (fill new old) ≡ length old
unfolding fill
fill_same new old h = rw (length-append, length-drop) (omega arith)

-- what is lent keeps its room
pub lay_room : (s : State) (c : Held) → length s.outs ≤ length c.output → length (lay s c).output ≡ length c.output
unfolding lay
lay_room s c h = fill_same s.outs c.output h

-- a state within its limits, laid over what is as large as them
pub lay_counted : (s : State) (c : Held) → length s.calls ≤ 256 → length s.refs ≤ 256 → length s.channel ≤ 256 → s.first < 256 → length s.outs ≤ length c.output
    → 1024 ≤ length c.register → 256 ≤ length c.table → 256 ≤ length c.channel → length c.calls ≡ 256 → length c.refs ≡ 256 → Counted (lay s c)
unfolding lay
lay_counted s c cs rs w f o g t ch kc kr =
    record {
      wide = fill_wide 1024 s.reg c.register g;
      tabled = fill_wide 256 s.table c.table t;
      ringed = rw length_fill_ring ch;
      call_room = fill_same s.calls c.calls (omega arith) ∙ kc;
      ref_room = fill_same s.refs c.refs (omega arith) ∙ kr;
      first = f;
      lanes = fill_fits s.reg c.register;
      functions = fill_fits s.table c.table;
      depth = cs;
      saved = rs;
      waiting = w;
      written = fill_fits s.outs c.output;
    }
