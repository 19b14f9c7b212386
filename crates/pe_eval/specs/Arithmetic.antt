-- Arithmetic on signed numbers of 64 bits: exact, or a fault.
use Rattle.std.specs.Prelude.{ℤ, pos, negsuc, neg_ℤ, unsigned_abs, int_div, int_rem, int_lt, ◌+ℤ◌, ◌-ℤ◌, ◌*ℤ◌, ◌^◌, Bool, false, not, nat_lt, if◌then◌else◌, Result, Ok, Err}
use Rattle.std.specs.Int.{int_min, int_max}
use Rattle.std.specs.Ordering.{int_eq}
use Rattle.pe_parse.specs.declared.tree.Sign.{Sign}
use Rattle.pe_parse.specs.declared.tree.Sign.TheVariants.{Or, And, Less, LessOrEqual, Greater, GreaterOrEqual, Equal, NotEqual, Plus, Minus, Times, Over, Modulo}
use Rattle.pe_parse.specs.declared.tree.Prefix.{Prefix}
use Rattle.pe_parse.specs.declared.tree.Prefix.TheVariants as prefix
use Rattle.pe_parse.specs.declared.tree.Choice.{Choice}
use Rattle.pe_parse.specs.declared.tree.Choice.TheVariants.{Min, Max}
use Rattle.pe_eval.specs.declared.fault.Fault.{Fault}
use Rattle.pe_eval.specs.declared.fault.Fault.TheVariants.{Overflow, Division}

-- a value, or why there is none
abbrev pub Value : Type 0
Value = Result ℤ Fault

infixl 10 ◌>>=◌
abbrev pub ◌>>=◌ : Value → (ℤ → Value) → Value
(Ok x) >>= f = f x
(Err e) >>= f = Err e

-- from -2^63 to 2^63 - 1; `negsuc n` is -(n + 1)
abbrev pub is_in_range : ℤ → Bool
is_in_range (pos n) = nat_lt n (2 ^ 63)
is_in_range (negsuc n) = nat_lt n (2 ^ 63)

-- the exact result, where it is in range
abbrev pub exact : ℤ → Value
exact n = if is_in_range n then Ok n else Err Overflow

abbrev pub is_zero : ℤ → Bool
is_zero n = int_eq n (pos 0)

abbrev pub truth : Bool → ℤ
truth b = if b then pos 1 else pos 0

-- the quotient, cut off toward zero
abbrev pub quotient : ℤ → ℤ → Value
quotient a b = if is_zero b then Err Division else exact (int_div a b)

-- what a quotient leaves, with the sign of the left operand; there is none where the quotient is out of range
abbrev pub remainder : ℤ → ℤ → Value
remainder a b = quotient a b >>= λ q. Ok (int_rem a b)

abbrev pub prefixed : Prefix → ℤ → Value
prefixed prefix.Minus a = exact (neg_ℤ a)
prefixed prefix.Not a = Ok (truth (is_zero a))

-- the left operand decides: of `||` where it is not 0, of `&&` where it is 0
abbrev pub is_decided : Sign → ℤ → Bool
is_decided Or a = not (is_zero a)
is_decided And a = is_zero a
is_decided Less a = false
is_decided LessOrEqual a = false
is_decided Greater a = false
is_decided GreaterOrEqual a = false
is_decided Equal a = false
is_decided NotEqual a = false
is_decided Plus a = false
is_decided Minus a = false
is_decided Times a = false
is_decided Over a = false
is_decided Modulo a = false

-- the value of two operands with a sign between them, of which the left one does not decide
abbrev pub combined : Sign → ℤ → ℤ → Value
combined Or a b = Ok (truth (not (is_zero b)))
combined And a b = Ok (truth (not (is_zero b)))
combined Less a b = Ok (truth (int_lt a b))
combined LessOrEqual a b = Ok (truth (not (int_lt b a)))
combined Greater a b = Ok (truth (int_lt b a))
combined GreaterOrEqual a b = Ok (truth (not (int_lt a b)))
combined Equal a b = Ok (truth (int_eq a b))
combined NotEqual a b = Ok (truth (not (int_eq a b)))
combined Plus a b = exact (a +ℤ b)
combined Minus a b = exact (a -ℤ b)
combined Times a b = exact (a *ℤ b)
combined Over a b = quotient a b
combined Modulo a b = remainder a b

-- The same where the right operand is yet to be evaluated: it is not, where the left one decides. Then `||` is 1, and `&&` is 0.
abbrev pub linked : Sign → ℤ → Value → Value
linked sign a operand = if is_decided sign a then Ok (truth (not (is_zero a))) else operand >>= λ b. combined sign a b

abbrev pub extreme : Choice → ℤ → ℤ → ℤ
extreme Min a b = int_min a b
extreme Max a b = int_max a b

abbrev pub absolute : ℤ → Value
absolute a = exact (pos (unsigned_abs a))
