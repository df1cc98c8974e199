-- A patch joined is a patch again: it is no longer than the file, its ops fit a file, and it has no more ops and no more marks. Assumes nothing.
use mathlib.Core.Path.{◌≡◌, refl, ap, sym, ◌∙◌}
use Prim.Native.Nat.{ℕ, ◌+◌, ◌*◌, ◌≤◌}
use native.Mathlib.Omega.{arith}
use mathlib.Core.Bool.{true, ◌&&◌}
use mathlib.Core.List.{List, [], ◌∷◌}
use lib.Dec.{eqb}
use lib.ListN.{length, length-append}
use borrow.Author.Tests.{eqb-true}
use Rattle.kind_table.specs.Kinds.{shape, kind_at, index_of}
use Rattle.kind_table.specs.declared.shape.Shape.{Shape}
use Rattle.kind_table.specs.declared.shape.Shape.TheVariants.{Empty, Text, Values, LaneCount, Amount, AmountAndLanes, Mode, LeftOut, Binding}
use Rattle.ops.specs.Decode.{op_count}
use Rattle.ops.specs.Syntax.{Op, Plain, kind_of, arg_of, values_of}
use Rattle.ops.specs.Syntax.Plain.{comment, store, move, swap, locate, offset, deref, refer, cell, lane, get, put, peek, poke, ffi_call, alloc, free}
use Rattle.ops.specs.Syntax.Op.{control, set, load, plain}
use Rattle.byte_fields.specs.Bytes.{le16, le32, le64}
use Rattle.ops.specs.Write.{value_bytes, payload_of, encode, encode_all}
use Rattle.file_laws.proofs.Encoded.{known, length_bytes}
use Rattle.file_laws.proofs.Rows as rows
use Rattle.file_laws.proofs.Written.{length_encode}
use Rattle.joining.specs.Join.{decided, tested, join}
use Rattle.basics.proofs.Tests.{and_left, and_right}
use Rattle.joining.proofs.Pushes.{weigh, join_light}

-- ---- the bytes of an op, by its row

-- the length of a payload of this shape that counts n
abbrev span : Shape → ℕ → ℕ
span Empty n = 0
span Text n = n
span Values n = 8 * n
span LaneCount n = 4
span Amount n = 8
span AmountAndLanes n = 12
span Mode n = 2
span LeftOut n = 0
span Binding n = 2

plain_span : (q : Plain) → length (payload_of (plain q)) ≡ span (shape (rows.rule (plain q))) (op_count (plain q))
unfolding le64 le32 le16
plain_span (comment bs) = refl
plain_span (store n) = refl
plain_span (move v) = refl
plain_span (swap n) = refl
plain_span locate = refl
plain_span (offset v n) = refl
plain_span deref = refl
plain_span refer = refl
plain_span (cell k n) = refl
plain_span (lane k n) = refl
plain_span (get m) = refl
plain_span (put m) = refl
plain_span peek = refl
plain_span poke = refl
plain_span (ffi_call b) = refl
plain_span alloc = refl
plain_span free = refl

payload_span : (o : Op) → length (payload_of o) ≡ span (shape (rows.rule o)) (op_count o)
unfolding le32 le16
payload_span (control c) = refl
payload_span (set k vs) = length_bytes vs
payload_span (load n) = refl
payload_span (plain q) = plain_span q

size_at : (o : Op) (k : ℕ) → kind_of o ≡ k → length (encode o) ≡ 6 + span (shape (kind_at (index_of k))) (op_count o)
size_at o k e =
    length_encode o
    ∙ ap (λ (j : ℕ). 6 + j) (payload_span o)
    ∙ ap (λ (f : Shape). 6 + span f (op_count o)) (ap shape (sym (known o).2) ∙ ap (λ (j : ℕ). shape (kind_at (index_of j))) e)

move_size : (o : Op) → kind_of o ≡ 11 → length (encode o) ≡ 14
unfolding kind_at index_of
move_size o e = size_at o 11 e

set_size : (o : Op) → kind_of o ≡ 1 → length (encode o) ≡ 6 + 8 * op_count o
unfolding kind_at index_of
set_size o e = size_at o 1 e

values_few : (o : Op) → length (values_of o) ≤ op_count o
values_few (control c) = omega arith
values_few (set k vs) = omega arith
values_few (load n) = omega arith
values_few (plain q) = omega arith

abbrev size : Op → ℕ
size o = length (encode o)

set_light : (last new : Op) → decided last new ≡ true → size (tested last) ≤ size last + size new
unfolding encode value_bytes le64 le32 le16
set_light last new e =
    let a = and_left (eqb (kind_of new) 37 && eqb (kind_of last) 1 && eqb (arg_of new) 1) (eqb (length (values_of last)) 1) e in
    let b = and_left (eqb (kind_of new) 37 && eqb (kind_of last) 1) (eqb (arg_of new) 1) a in
    let c = and_right (eqb (kind_of new) 37) (eqb (kind_of last) 1) b in
    let l = and_right (eqb (kind_of new) 37 && eqb (kind_of last) 1 && eqb (arg_of new) 1) (eqb (length (values_of last)) 1) e in
    let s : length (encode last) ≡ 6 + 8 * op_count last = set_size last (eqb-true (kind_of last) 1 c) in
    let n : length (values_of last) ≡ 1 = eqb-true (length (values_of last)) 1 l in
    let f = values_few last in
    let t : length (encode (tested last)) ≡ 14 = length_encode (tested last) in
    omega arith

move_light : (last new : Op) (n : ℕ) → kind_of last ≡ 11 → size (plain (move n)) ≤ size last + size new
move_light last new n e = omega (arith, move_size last e, move_size (plain (move n)) refl)

size_all : (os : List Op) → weigh size os ≡ length (encode_all os)
unfolding encode_all
size_all [] = refl
size_all (o ∷ os) = omega (arith, size_all os, length-append (encode o) (encode_all os))

-- a patch joined is no longer
pub join_shorter : (os : List Op) → length (encode_all (join os)) ≤ length (encode_all os)
join_shorter os = omega (arith, join_light size set_light move_light os, size_all os, size_all (join os))
