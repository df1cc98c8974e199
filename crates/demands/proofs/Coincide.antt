-- Two answers of a device operation that meet its contract are one answer, and they leave the same slice. Assumes nothing.
use mathlib.Core.Path.{◌≡◌, ◌∙◌, sym, ap}
use mathlib.Core.List.{List}
use Prim.Native.Nat.{ℕ}
use Rattle.ops.specs.declared.op.Mode.{Mode}
use Rattle.ops.specs.declared.op.Binding.{Binding}
use Rattle.std.specs.Prelude.{Option, Result}
use Rattle.testing_device.specs.Device.{Got, get_of, put_of}
use Rattle.testing_device.specs.Room.{Left, left, put_in}
use Rattle.testing_device.specs.Channel.{PokeLeft, poke_left, peek_of, poke_in}
use Rattle.testing_device.specs.declared.device.Peeked.{Peeked}
use Rattle.testing_device.specs.declared.device.PeekError.{PeekError}
use Rattle.testing_device.specs.declared.device.PokeError.{PokeError}
use Rattle.standard_device.specs.Bindings.{CallLeft, call_left, call_in}
use Rattle.standard_device.specs.declared.bindings.Sent.{Sent}
use Rattle.standard_device.specs.declared.bindings.CallError.{CallError}

pub get_coincides : (m : Mode) (input : List ℕ) (at : ℕ) (a b : Got) → a ≡ get_of m input at → b ≡ get_of m input at → a ≡ b
get_coincides m input at a b e f = e ∙ sym f

pub put_coincides : (m : Mode) (v : ℕ) (o : List ℕ) (n : ℕ) (a b : Option ℕ) (p q : List ℕ) → left a p ≡ put_in (put_of m v) o n → left b q ≡ put_in (put_of m v) o n
    → (a ≡ b) × (p ≡ q)
put_coincides m v o n a b p q e f = (ap (λ (l : Left). l.answer) (e ∙ sym f), ap (λ (l : Left). l.output) (e ∙ sym f))

pub peek_coincides : (ch : List ℕ) (first waiting : ℕ) (a b : Result Peeked PeekError) → a ≡ peek_of ch first waiting → b ≡ peek_of ch first waiting → a ≡ b
peek_coincides ch first waiting a b e f = e ∙ sym f

pub poke_coincides : (v : ℕ) (ch : List ℕ) (first waiting : ℕ) (a b : Result ℕ PokeError) (p q : List ℕ) → poke_left a p ≡ poke_in v ch first waiting → poke_left b q ≡ poke_in v ch first waiting
    → (a ≡ b) × (p ≡ q)
poke_coincides v ch first waiting a b p q e f = (ap (λ (h : PokeLeft). h.answer) (e ∙ sym f), ap (λ (h : PokeLeft). h.channel) (e ∙ sym f))

pub ffi_call_coincides : (k : Binding) (ch : List ℕ) (first waiting : ℕ) (a b : Result Sent CallError) (p q : List ℕ) → call_left a p ≡ call_in k ch first waiting → call_left b q ≡ call_in k ch first waiting
    → (a ≡ b) × (p ≡ q)
ffi_call_coincides k ch first waiting a b p q e f = (ap (λ (h : CallLeft). h.answer) (e ∙ sym f), ap (λ (h : CallLeft). h.channel) (e ∙ sym f))
