-- All that a machine has and is lent, and a patch as the machine reads it. Assumes nothing.
use Rattle.std.specs.Prelude.{List, ℕ}
use Rattle.machine_numbers.specs.declared.numbers.Numbers.{Numbers}
use Rattle.machine_step.specs.declared.columns.Columns.{Columns}
use Rattle.machine_numbers.specs.Numbers.{Steered, OneList, Swapped, Taped, Told, OpAnswer}

-- the machine's numbers, its stacks, and the slices that its steps may change
pub record Held : Type 0 where
  pub numbers : Numbers
  pub calls : List ℕ
  pub refs : List ℕ
  pub register : List ℕ
  pub tape : List ℕ
  pub table : List ℕ
  pub channel : List ℕ
  pub output : List ℕ

abbrev pub held : Numbers → List ℕ → List ℕ → List ℕ → List ℕ → List ℕ → List ℕ → List ℕ → Held
held p cs rs g t ts ch o =
    record { numbers = p; calls = cs; refs = rs; register = g; tape = t; table = ts; channel = ch; output = o }

-- what a step leaves: 0, or the refusal's number and its lane, and all that the machine holds
pub record After : Type 0 where
  pub number : ℕ
  pub lane : ℕ
  pub held : Held

abbrev pub after : OpAnswer → List ℕ → List ℕ → List ℕ → List ℕ → List ℕ → List ℕ → List ℕ → After
after h cs rs g t ts ch o = record { number = h.number; lane = h.lane; held = held h.numbers cs rs g t ts ch o }

-- a family's answer among the lists that it leaves alone
abbrev pub steering : Held → Steered → After
steering c x = after x.answer x.calls c.refs c.register c.tape x.table c.channel c.output

abbrev pub laning : Held → OneList → After
laning c x = after x.answer c.calls c.refs x.list c.tape c.table c.channel c.output

abbrev pub swapping : Held → Swapped → After
swapping c x = after x.answer c.calls c.refs x.register x.tape c.table c.channel c.output

abbrev pub taping : Held → Taped → After
taping c x = after x.answer c.calls x.refs x.register x.tape c.table c.channel c.output

abbrev pub telling : Held → Told → After
telling c x = after x.answer c.calls c.refs x.register c.tape c.table x.channel x.output

-- a patch as it is read: of each op its row, what it counts, the lanes it needs, its payload's place, its partner and an If's Else; the places
-- of its marks; and the bytes
pub record Code : Type 0 where
  pub rows : List ℕ
  pub counts : List ℕ
  pub needs : List ℕ
  pub payloads : List ℕ
  pub partners : List ℕ
  pub turns : List ℕ
  pub marks : List ℕ
  pub bytes : List ℕ

abbrev pub code : List ℕ → List ℕ → List ℕ → List ℕ → List ℕ → List ℕ → List ℕ → List ℕ → Code
code ks ns ds ps es ts fs bs =
    record { rows = ks; counts = ns; needs = ds; payloads = ps; partners = es; turns = ts; marks = fs; bytes = bs }

-- what is lent of it
abbrev pub code_in : Columns → Code
code_in x =
    code x.rows.now x.counts.now x.needs.now x.payloads.now x.partners.now x.turns.now x.marks.now x.bytes.now
