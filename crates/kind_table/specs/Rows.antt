-- The rows of the table of kinds, by the names of the Rust's ops. Assumes nothing.
use Rattle.std.specs.Prelude.{ℕ}

abbrev pub comment : ℕ
comment = 0

abbrev pub set : ℕ
set = 1

abbrev pub function : ℕ
function = 2

abbrev pub call : ℕ
call = 3

abbrev pub ret : ℕ
ret = 4

abbrev pub while : ℕ
while = 5

abbrev pub if : ℕ
if = 6

abbrev pub else : ℕ
else = 7

abbrev pub end : ℕ
end = 8

abbrev pub store : ℕ
store = 9

abbrev pub load : ℕ
load = 10

abbrev pub move : ℕ
move = 11

abbrev pub locate : ℕ
locate = 12

abbrev pub deref : ℕ
deref = 13

abbrev pub refer : ℕ
refer = 14

abbrev pub index : ℕ
index = 15

abbrev pub offset : ℕ
offset = 16

abbrev pub bitwise_nand : ℕ
bitwise_nand = 17

abbrev pub bitwise_and : ℕ
bitwise_and = 18

abbrev pub bitwise_or : ℕ
bitwise_or = 19

abbrev pub bitwise_xor : ℕ
bitwise_xor = 20

abbrev pub bitwise_not : ℕ
bitwise_not = 21

abbrev pub left_shift : ℕ
left_shift = 22

abbrev pub logical_right_shift : ℕ
logical_right_shift = 23

abbrev pub arithmetic_right_shift : ℕ
arithmetic_right_shift = 24

abbrev pub and : ℕ
and = 25

abbrev pub or : ℕ
or = 26

abbrev pub not : ℕ
not = 27

abbrev pub add : ℕ
add = 28

abbrev pub sub : ℕ
sub = 29

abbrev pub mul : ℕ
mul = 30

abbrev pub div : ℕ
div = 31

abbrev pub rem : ℕ
rem = 32

abbrev pub neg : ℕ
neg = 33

abbrev pub inc : ℕ
inc = 34

abbrev pub dec : ℕ
dec = 35

abbrev pub swap : ℕ
swap = 36

abbrev pub is_non_negative : ℕ
is_non_negative = 37

abbrev pub get : ℕ
get = 38

abbrev pub put : ℕ
put = 39

abbrev pub standard_set : ℕ
standard_set = 40

abbrev pub alloc : ℕ
alloc = 41

abbrev pub free : ℕ
free = 42

abbrev pub to_int : ℕ
to_int = 43

abbrev pub to_float : ℕ
to_float = 44

abbrev pub float_add : ℕ
float_add = 45

abbrev pub float_sub : ℕ
float_sub = 46

abbrev pub float_mul : ℕ
float_mul = 47

abbrev pub float_div : ℕ
float_div = 48

abbrev pub float_rem : ℕ
float_rem = 49

abbrev pub float_neg : ℕ
float_neg = 50

abbrev pub float_is_non_negative : ℕ
float_is_non_negative = 51

abbrev pub sin : ℕ
sin = 52

abbrev pub cos : ℕ
cos = 53

abbrev pub tan : ℕ
tan = 54

abbrev pub a_sin : ℕ
a_sin = 55

abbrev pub a_cos : ℕ
a_cos = 56

abbrev pub a_tan : ℕ
a_tan = 57

abbrev pub pow : ℕ
pow = 58

abbrev pub peek : ℕ
peek = 59

abbrev pub poke : ℕ
poke = 60

abbrev pub standard_call : ℕ
standard_call = 61
