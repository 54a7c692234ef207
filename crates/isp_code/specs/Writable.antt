-- What the text of code can have.
use Rattle.std.specs.Prelude.{◌≡◌, ℕ, ◌^◌, ◌≤◌, ℤ, pos, List, [], ◌∷◌, length, Option, Some, None, Bool, true, false, not, ◌&&◌, ◌||◌, ◌==◌, nat_lt, nat_le, int_lt, neg_ℤ}
use Rattle.std.specs.Char.{is_ascii_alphabetic, is_ascii_alphanumeric}
use Rattle.std.specs.List.{list_all}
use Rattle.isp_base.specs.declared.types.Span.{Span}
use Rattle.isp_code.specs.Listing.{Routine, Listing}
use Rattle.isp_code.specs.declared.function.Local.{Local}
use Rattle.isp_code.specs.declared.function.Param.{Param}
use Rattle.isp_code.specs.declared.instr.Call.{Call}
use Rattle.isp_code.specs.declared.instr.Instr.{Instr}
use Rattle.isp_code.specs.declared.instr.Instr.TheVariants as instr
use Rattle.isp_code.specs.declared.instr.MaskInstr.{MaskInstr}
use Rattle.isp_code.specs.declared.instr.MaskInstr.TheVariants as mask
use Rattle.isp_code.specs.declared.instr.ScalarInstr.{ScalarInstr}
use Rattle.isp_code.specs.declared.instr.ScalarInstr.TheVariants as scalar
use Rattle.isp_code.specs.declared.instr.VectorInstr.{VectorInstr}
use Rattle.isp_code.specs.declared.instr.VectorInstr.TheVariants as vector
use Rattle.isp_code.specs.declared.register.Register.{Register}

-- a number, but for a constant
abbrev pub number_fits : ℕ → Bool
number_fits n = nat_lt n (2 ^ 32)

-- a constant: a value of a type of 64 bits, signed or not
abbrev pub constant_fits : ℤ → Bool
constant_fits z = not (int_lt z (neg_ℤ (pos (2 ^ 63)))) && int_lt z (pos (2 ^ 64))

-- a place in a source of at most 1,048,576 bytes
abbrev pub source_limit : ℕ
source_limit = 1048576

abbrev pub place_fits : Span → Bool
place_fits s = nat_le s.start s.end && nat_le s.end source_limit

-- a text is of bytes, one at least
abbrev pub is_byte : ℕ → Bool
is_byte b = nat_lt b 256

abbrev pub text_fits : List ℕ → Bool
text_fits [] = false
text_fits (b ∷ bs) = list_all is_byte (b ∷ bs)

-- a letter or `_`, then letters, digits and `_`
abbrev pub is_word_byte : ℕ → Bool
is_word_byte b = is_ascii_alphanumeric b || b == 95

abbrev pub is_first_byte : ℕ → Bool
is_first_byte b = is_ascii_alphabetic b || b == 95

abbrev pub name_fits : List ℕ → Bool
name_fits [] = false
name_fits (b ∷ bs) = is_first_byte b && list_all is_word_byte bs

abbrev pub param_fits : Param → Bool
param_fits p = name_fits p.name

-- a local array has 1 to 65,536 elements
abbrev pub local_fits : Local → Bool
local_fits l = nat_le 1 l.size && nat_le l.size 65536

abbrev pub register_fits : Register → Bool
register_fits r = number_fits r.number

abbrev pub scalar_fits : ScalarInstr → Bool
scalar_fits (scalar.Constant n) = constant_fits n
scalar_fits (scalar.Copy x) = register_fits x
scalar_fits (scalar.Convert x) = register_fits x
scalar_fits (scalar.Unary op x) = register_fits x
scalar_fits (scalar.Binary op x y) = register_fits x && register_fits y
scalar_fits (scalar.Compare op x y) = register_fits x && register_fits y
scalar_fits (scalar.Select c x y) = register_fits c && register_fits x && register_fits y
scalar_fits (scalar.First x) = register_fits x
scalar_fits (scalar.Load a i k p) = register_fits a && register_fits i && register_fits k && number_fits p
scalar_fits (scalar.Reduce r x k) = register_fits x && register_fits k
scalar_fits (scalar.Extract x i k) = register_fits x && register_fits i && register_fits k

abbrev pub vector_fits : VectorInstr → Bool
vector_fits (vector.Copy x k) = register_fits x && register_fits k
vector_fits (vector.Convert x k) = register_fits x && register_fits k
vector_fits (vector.Unary op x k) = register_fits x && register_fits k
vector_fits (vector.Binary op x y k) = register_fits x && register_fits y && register_fits k
vector_fits (vector.Compare op x y k) = register_fits x && register_fits y && register_fits k
vector_fits (vector.Select c x y k) = register_fits c && register_fits x && register_fits y && register_fits k
vector_fits (vector.Splat x k) = register_fits x && register_fits k
vector_fits (vector.Index k) = register_fits k
vector_fits (vector.Gather a i k p) = register_fits a && register_fits i && register_fits k && number_fits p
vector_fits (vector.LoadRun a i k p) = register_fits a && register_fits i && register_fits k && number_fits p
vector_fits (vector.Scan op x k) = register_fits x && register_fits k
vector_fits (vector.Exchange e x i k) = register_fits x && register_fits i && register_fits k
vector_fits (vector.Shuffle x i k) = register_fits x && register_fits i && register_fits k
vector_fits (vector.ShuffleTwo x y i k) = register_fits x && register_fits y && register_fits i && register_fits k
vector_fits (vector.Insert x i y k) = register_fits x && register_fits i && register_fits y && register_fits k

abbrev pub mask_fits : MaskInstr → Bool
mask_fits (mask.Copy x) = register_fits x
mask_fits (mask.Binary op x y) = register_fits x && register_fits y
mask_fits mask.Full = true
mask_fits mask.Off = true
mask_fits (mask.Test x y) = register_fits x && register_fits y
mask_fits (mask.Lowest x) = register_fits x
mask_fits (mask.Range x y) = register_fits x && register_fits y

abbrev pub result_fits : Option Register → Bool
result_fits None = true
result_fits (Some r) = register_fits r

abbrev pub call_fits : Call → Bool
call_fits c = number_fits c.function && result_fits c.result && register_fits c.mask && number_fits c.place && list_all register_fits c.arguments

-- five operands, the last a place
abbrev pub access_fits : Register → Register → Register → Register → ℕ → Bool
access_fits d x y k p = register_fits d && register_fits x && register_fits y && register_fits k && number_fits p

abbrev pub instr_fits : Instr → Bool
instr_fits (instr.Scalar d i) = register_fits d && scalar_fits i
instr_fits (instr.Vector d i) = register_fits d && vector_fits i
instr_fits (instr.Mask d i) = register_fits d && mask_fits i
instr_fits (instr.Divide op d x y k p) = access_fits d x y k p
instr_fits (instr.Store a i y k p) = access_fits a i y k p
instr_fits (instr.Scatter a i y k p) = access_fits a i y k p
instr_fits (instr.StoreRun a i y k p) = access_fits a i y k p
instr_fits (instr.PackedStore d a i y k p) = register_fits d && access_fits a i y k p
instr_fits (instr.PackedLoad d a i y k p) = register_fits d && access_fits a i y k p
instr_fits (instr.Clear a k) = register_fits a && register_fits k
instr_fits (instr.Jump to) = number_fits to
instr_fits (instr.JumpIf t x to) = register_fits x && number_fits to
instr_fits (instr.Say t) = number_fits t
instr_fits (instr.PrintScalar x) = register_fits x
instr_fits (instr.PrintVector x k) = register_fits x && register_fits k
instr_fits (instr.Fail x p) = register_fits x && number_fits p
instr_fits (instr.Call c) = call_fits c
instr_fits (instr.Return x) = result_fits x

abbrev pub routine_fits : Routine → Bool
routine_fits h =
    name_fits h.name && list_all param_fits h.params && list_all local_fits h.locals && number_fits h.masks && list_all instr_fits h.code

-- ---- what is left to ask where each number has 32 bits and a text is of bytes, as they are in code by their types

abbrev pub has_byte : List ℕ → Bool
has_byte [] = false
has_byte (b ∷ bs) = true

abbrev pub scalar_constant : ScalarInstr → Bool
scalar_constant (scalar.Constant n) = constant_fits n
scalar_constant i = true

abbrev pub constant_in : Instr → Bool
constant_in (instr.Scalar d i) = scalar_constant i
constant_in i = true

-- of a function: its names, its local arrays and its constants
abbrev pub parts_fit : Routine → Bool
parts_fit h =
    name_fits h.name && list_all param_fits h.params && list_all local_fits h.locals && list_all constant_in h.code

-- ---- tables

-- places and texts are named by numbers, and one more can be
abbrev pub table_has_room : {A : Type 0} → List A → Bool → Bool
table_has_room xs fits = number_fits (length xs) && fits

-- code that a text can have
pub record IsWritable (c : Listing) : Type 0 where
  pub places : list_all place_fits c.places ≡ true
  pub place_count : length c.places ≤ 2 ^ 32
  pub texts : list_all text_fits c.texts ≡ true
  pub text_count : length c.texts ≤ 2 ^ 32
  pub routines : list_all routine_fits c.routines ≡ true
