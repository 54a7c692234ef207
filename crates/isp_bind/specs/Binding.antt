-- What the arguments of a signature are, in the value that a JSON text reads as.
--     element_bits t d     the bits of one element of type t, or why d is none
--     argument_of p d      what the object d holds for the parameter p
--     bound_of ps text     one argument for each parameter, or the first refusal
use Rattle.std.specs.Prelude.{suc, ◌||◌, not, ℕ, ℤ, List, [], ◌∷◌, Bool, true, false, cond, nat_lt, Option, Some, None, Result, Ok, Err, if◌then◌else◌}
use Rattle.std.specs.List.{list_any}
use Rattle.std.specs.Ordering.{int_eq}
use Rattle.std.specs.Str.{bytes_eq}
use Rattle.serde_json.specs.Data.{Data, null, boolean, number as numeral, string, array, object, Items, no_items, item, Members, no_members, member}
use Rattle.serde_json.specs.Read.{read}
use Rattle.serde_json.specs.Find.{get, as_array, as_object, as_integer}
use Rattle.isp_base.specs.declared.types.Elem.{Elem}
use Rattle.isp_base.specs.declared.types.Elem.TheVariants.{Bool as Truth, I8, U8, I16, U16, I32, U32, I64, U64}
use Rattle.isp_base.specs.declared.signature.Parameter.{Parameter}
use Rattle.isp_base.specs.declared.signature.Argument.{Argument}
use Rattle.isp_base.specs.declared.signature.Argument.TheVariants.{Value, Array}
use Rattle.isp_base.specs.Values.{wrap, number}
use Rattle.isp_bind.specs.declared.fault.BindFault.{BindFault}
use Rattle.isp_bind.specs.declared.fault.BindFault.TheVariants.{NotJson, NotObject, Missing, Extra, WrongKind, OutOfRange, TooLong}

-- f of what was found, or the fault
abbrev pub then_of : {A B : Type 0} → (A → Result B BindFault) → Result A BindFault → Result B BindFault
then_of f (Ok a) = f a
then_of f (Err e) = Err e

-- ---- one element

abbrev pub is_bool : Elem → Bool
is_bool Truth = true
is_bool I8 = false
is_bool U8 = false
is_bool I16 = false
is_bool U16 = false
is_bool I32 = false
is_bool U32 = false
is_bool I64 = false
is_bool U64 = false

-- a whole number is a value of the type where its bits stand for it
abbrev pub whole_bits : Elem → ℤ → Result ℕ BindFault
whole_bits t z = if int_eq (number t (wrap t z)) z then Ok (wrap t z) else Err OutOfRange

-- a number that is not whole is of no type
abbrev pub numeral_bits : Elem → Option ℤ → Result ℕ BindFault
numeral_bits t None = Err WrongKind
numeral_bits t (Some z) = if is_bool t then Err WrongKind else whole_bits t z

abbrev pub element_bits : Elem → Data → Result ℕ BindFault
element_bits t null = Err WrongKind
element_bits t (boolean b) = if is_bool t then Ok (cond b 1 0) else Err WrongKind
element_bits t (numeral n) = numeral_bits t (as_integer n)
element_bits t (string s) = Err WrongKind
element_bits t (array ds) = Err WrongKind
element_bits t (object ms) = Err WrongKind

-- ---- one argument

-- the bits of all, or the first refusal
abbrev pub elements_bits : Elem → Items → Result (List ℕ) BindFault
elements_bits t no_items = Ok []
elements_bits t (item d ds) = then_of (λ b. then_of (λ bs. Ok (b ∷ bs)) (elements_bits t ds)) (element_bits t d)

abbrev pub items_count : Items → ℕ
items_count no_items = 0
items_count (item d ds) = suc (items_count ds)

-- the elements that an array may have
abbrev pub longest : ℕ
longest = 16777216

abbrev pub array_argument : Elem → Option Items → Result Argument BindFault
array_argument t None = Err WrongKind
array_argument t (Some ds) = if nat_lt longest (items_count ds) then Err TooLong else then_of (λ bs. Ok (Array (record { elem = t; bits = bs }))) (elements_bits t ds)

abbrev pub value_argument : Elem → Data → Result Argument BindFault
value_argument t d = then_of (λ b. Ok (Value (record { elem = t; bits = b }))) (element_bits t d)

abbrev pub found_argument : Parameter → Option Data → Result Argument BindFault
found_argument p None = Err Missing
found_argument p (Some d) = if p.is_array then array_argument p.elem (as_array d) else value_argument p.elem d

abbrev pub argument_of : Parameter → Data → Result Argument BindFault
argument_of p d = found_argument p (get p.name d)

-- ---- the whole list

abbrev pub arguments_of : List Parameter → Data → Result (List Argument) BindFault
arguments_of [] d = Ok []
arguments_of (p ∷ ps) d = then_of (λ a. then_of (λ found. Ok (a ∷ found)) (arguments_of ps d)) (argument_of p d)

abbrev pub is_parameter : List Parameter → List ℕ → Bool
is_parameter ps key = list_any (λ p. bytes_eq p.name key) ps

abbrev pub has_extra : List Parameter → Members → Bool
has_extra ps no_members = false
has_extra ps (member k d ms) = not (is_parameter ps k) || has_extra ps ms

abbrev pub members_arguments : List Parameter → Data → Option Members → Result (List Argument) BindFault
members_arguments ps d None = Err NotObject
members_arguments ps d (Some ms) = then_of (λ found. if has_extra ps ms then Err Extra else Ok found) (arguments_of ps d)

abbrev pub read_arguments : List Parameter → Option Data → Result (List Argument) BindFault
read_arguments ps None = Err NotJson
read_arguments ps (Some d) = members_arguments ps d (as_object d)

-- what a text binds, or the first refusal
abbrev pub bound_of : List Parameter → List ℕ → Result (List Argument) BindFault
bound_of ps text = read_arguments ps (read text)
