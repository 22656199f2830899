-- How code is written: in do-notation, as the Rust is, with names for levels. `fn2 λ a b. do ..` is code of two arguments. The operations have
-- the names of the Rust's builder, in its spelling without underscores.
use Rattle.std.specs.Prelude.{List, [], ◌∷◌, ℕ, suc}
use Rattle.strip.specs.declared.reader.Entry.{Entry}
use Rattle.translation.specs.Code.{Code, ret, op, act, call, mark}

-- code that begins at a level
abbrev pub Mk : Type 0
Mk = ℕ → Code

-- one line of a `do`
pub data Line : Type 0 where
  val eff : Entry → Line
  fn : Code → List ℕ → Line
  uses : ℕ → ℕ → Line

infixl 20 ◌>>=◌
infixl 20 ◌>>◌
abbrev pub ◌>>=◌ : Line → (ℕ → Mk) → Mk
val e >>= k = λ n. op e (k n (suc n))
eff e >>= k = λ n. act e (k n n)
fn c ls >>= k = λ n. call c ls (k n (suc n))
uses s u >>= k = λ n. mark s u (k n n)

abbrev pub ◌>>◌ : Line → Mk → Mk
i >> k = i >>= (λ l. k)

abbrev pub pure : ℕ → Mk
pure l n = ret l

abbrev pub fn0 : Mk → Code
fn0 f = f 0

abbrev pub fn1 : (ℕ → Mk) → Code
fn1 f = f 0 1

abbrev pub fn2 : (ℕ → ℕ → Mk) → Code
fn2 f = f 0 1 2

abbrev pub fn3 : (ℕ → ℕ → ℕ → Mk) → Code
fn3 f = f 0 1 2 3

abbrev pub fn4 : (ℕ → ℕ → ℕ → ℕ → Mk) → Code
fn4 f = f 0 1 2 3 4

abbrev pub fn5 : (ℕ → ℕ → ℕ → ℕ → ℕ → Mk) → Code
fn5 f = f 0 1 2 3 4 5

abbrev pub fn0! : Code → Line
fn0! c = fn c []

abbrev pub fn1! : Code → ℕ → Line
fn1! c a = fn c (a ∷ [])

abbrev pub fn2! : Code → ℕ → ℕ → Line
fn2! c a b = fn c (a ∷ b ∷ [])

abbrev pub fn3! : Code → ℕ → ℕ → ℕ → Line
fn3! c a b d = fn c (a ∷ b ∷ d ∷ [])

abbrev pub fn4! : Code → ℕ → ℕ → ℕ → ℕ → Line
fn4! c a b d e = fn c (a ∷ b ∷ d ∷ e ∷ [])

abbrev pub fn5! : Code → ℕ → ℕ → ℕ → ℕ → ℕ → Line
fn5! c a b d e f = fn c (a ∷ b ∷ d ∷ e ∷ f ∷ [])

-- an argument handed back
abbrev pub same : Code
same = fn1 λ v. pure v

-- ---- entries

abbrev pub u : ℕ → Line
u w = val (Entry.Word w)

abbrev pub btrue : Line
btrue = val (Entry.Bare 2)

abbrev pub constant_false : Line
constant_false = val (Entry.Bare 3)

abbrev pub load_reg : ℕ → Line
load_reg n = val (Entry.Cell 4 n)

abbrev pub load_pred : ℕ → Line
load_pred n = val (Entry.Cell 5 n)

-- the Rust's cc_flag
abbrev pub cc_flag : ℕ → Line
cc_flag n = val (Entry.Cell 6 n)

abbrev pub store_reg : ℕ → ℕ → Line
store_reg n v = eff (Entry.Store 7 n v)

abbrev pub store_pred : ℕ → ℕ → Line
store_pred n v = eff (Entry.Store 8 n v)

abbrev pub store_flag : ℕ → ℕ → Line
store_flag n v = eff (Entry.Store 9 n v)

abbrev pub cbuf_var : ℕ → Line
cbuf_var s = val (Entry.Cell 10 s)

abbrev pub access_chain : ℕ → ℕ → ℕ → ℕ → Line
access_chain s z v c = val (Entry.Four 11 s z v c)

abbrev pub load_at : ℕ → Line
load_at a = val (Entry.One 12 a)

-- the Rust pushes a text onto `unsupported`
abbrev pub unsupported : ℕ → Line
unsupported n = eff (Entry.Cell 110 n)

abbrev pub bitwise_not : ℕ → Line
bitwise_not a = val (Entry.One 20 a)

abbrev pub bit_reverse : ℕ → Line
bit_reverse a = val (Entry.One 21 a)

abbrev pub bit_count : ℕ → Line
bit_count a = val (Entry.One 22 a)

abbrev pub cast_i : ℕ → Line
cast_i a = val (Entry.One 23 a)

abbrev pub cast_u : ℕ → Line
cast_u a = val (Entry.One 24 a)

abbrev pub s_abs : ℕ → Line
s_abs a = val (Entry.One 25 a)

abbrev pub find_smsb : ℕ → Line
find_smsb a = val (Entry.One 26 a)

abbrev pub find_umsb : ℕ → Line
find_umsb a = val (Entry.One 27 a)

abbrev pub logical_not : ℕ → Line
logical_not a = val (Entry.One 80 a)

abbrev pub i_add : ℕ → ℕ → Line
i_add a b = val (Entry.Two 40 a b)

abbrev pub i_sub : ℕ → ℕ → Line
i_sub a b = val (Entry.Two 41 a b)

abbrev pub i_mul : ℕ → ℕ → Line
i_mul a b = val (Entry.Two 42 a b)

abbrev pub shift_left_logical : ℕ → ℕ → Line
shift_left_logical a b = val (Entry.Two 43 a b)

abbrev pub shift_right_logical : ℕ → ℕ → Line
shift_right_logical a b = val (Entry.Two 44 a b)

abbrev pub shift_right_arithmetic : ℕ → ℕ → Line
shift_right_arithmetic a b = val (Entry.Two 45 a b)

abbrev pub bitwise_and : ℕ → ℕ → Line
bitwise_and a b = val (Entry.Two 46 a b)

abbrev pub bitwise_or : ℕ → ℕ → Line
bitwise_or a b = val (Entry.Two 47 a b)

abbrev pub bitwise_xor : ℕ → ℕ → Line
bitwise_xor a b = val (Entry.Two 48 a b)

abbrev pub u_min : ℕ → ℕ → Line
u_min a b = val (Entry.Two 49 a b)

abbrev pub s_min : ℕ → ℕ → Line
s_min a b = val (Entry.Two 50 a b)

abbrev pub u_max : ℕ → ℕ → Line
u_max a b = val (Entry.Two 51 a b)

abbrev pub s_max : ℕ → ℕ → Line
s_max a b = val (Entry.Two 52 a b)

abbrev pub i_equal : ℕ → ℕ → Line
i_equal a b = val (Entry.Two 60 a b)

abbrev pub i_not_equal : ℕ → ℕ → Line
i_not_equal a b = val (Entry.Two 61 a b)

abbrev pub u_less_than : ℕ → ℕ → Line
u_less_than a b = val (Entry.Two 62 a b)

abbrev pub u_less_than_equal : ℕ → ℕ → Line
u_less_than_equal a b = val (Entry.Two 63 a b)

abbrev pub u_greater_than : ℕ → ℕ → Line
u_greater_than a b = val (Entry.Two 64 a b)

abbrev pub u_greater_than_equal : ℕ → ℕ → Line
u_greater_than_equal a b = val (Entry.Two 65 a b)

abbrev pub s_less_than : ℕ → ℕ → Line
s_less_than a b = val (Entry.Two 66 a b)

abbrev pub s_less_than_equal : ℕ → ℕ → Line
s_less_than_equal a b = val (Entry.Two 67 a b)

abbrev pub s_greater_than : ℕ → ℕ → Line
s_greater_than a b = val (Entry.Two 68 a b)

abbrev pub s_greater_than_equal : ℕ → ℕ → Line
s_greater_than_equal a b = val (Entry.Two 69 a b)

abbrev pub logical_and : ℕ → ℕ → Line
logical_and a b = val (Entry.Two 81 a b)

abbrev pub logical_or : ℕ → ℕ → Line
logical_or a b = val (Entry.Two 82 a b)

abbrev pub logical_not_equal : ℕ → ℕ → Line
logical_not_equal a b = val (Entry.Two 83 a b)

abbrev pub select : ℕ → ℕ → ℕ → Line
select a b c = val (Entry.Three 90 a b c)

abbrev pub bit_field_uextract : ℕ → ℕ → ℕ → Line
bit_field_uextract a b c = val (Entry.Three 91 a b c)

abbrev pub bit_field_sextract : ℕ → ℕ → ℕ → Line
bit_field_sextract a b c = val (Entry.Three 92 a b c)

abbrev pub bit_field_insert : ℕ → ℕ → ℕ → ℕ → Line
bit_field_insert a b c d = val (Entry.Four 93 a b c d)
