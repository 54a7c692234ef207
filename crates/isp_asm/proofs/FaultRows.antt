-- Texts and their faults: which rule is broken, and in which line.
use Rattle.std.specs.Prelude.{◌≡◌, ℕ, ◌-◌, ◌^◌, List, [], ◌∷◌, ◌++◌, Some, None, codes}
use Prim.Native.String.{String}
use Rattle.std.proofs.Common.{refl}
use Rattle.isp_asm.specs.declared.fault.Rule.{Rule}
use Rattle.isp_asm.specs.declared.fault.Rule.TheVariants.{BadLine, BadOperand, BadLabel, NotCanonical}
use Rattle.isp_asm.specs.declared.order.Kind.TheVariants as kind
use Rattle.isp_asm.specs.Faults.{fault_of, words_line_fault}

abbrev line : String → List ℕ
line s = codes s ++ 10 ∷ []

-- the text has its first fault in a line, or none
abbrev Breaks : List ℕ → Rule → ℕ → Type 0
Breaks text r n = fault_of text ≡ Some (record { rule = r; line = n })

abbrev IsRead : List ℕ → Type 0
IsRead text = fault_of text ≡ None

-- fronts of texts
abbrev gang : List ℕ
gang = line "isp 1 gang 4"

abbrev header : List ℕ
header = gang ++ line "func f export void"

abbrev body : List ℕ
body = header ++ line "m 1"

-- where a text may stop
empty : Breaks [] BadLine 1
empty = refl

no_feed : Breaks (codes "isp 1 gang 4") BadLine 1
no_feed = refl

cut : Breaks (body ++ line "jmp L1" ++ codes "en") BadLine 5
cut = refl

cut_spaces : Breaks (gang ++ codes "place  0") BadLine 2
cut_spaces = refl

only_gang : IsRead gang
only_gang = refl

only_place : IsRead (gang ++ line "place 0 4")
only_place = refl

only_text : IsRead (gang ++ line "text 78")
only_text = refl

no_instruction : IsRead (body ++ line "end")
no_instruction = refl

open_func : Breaks header BadLine 3
open_func = refl

open_masks : Breaks body BadLine 4
open_masks = refl

open_instruction : Breaks (body ++ line "ret -") BadLine 5
open_instruction = refl

-- spaces
empty_line : Breaks (gang ++ line "") NotCanonical 2
empty_line = refl

two_spaces : Breaks (gang ++ line "place 0  4") NotCanonical 2
two_spaces = refl

leading_space : Breaks (gang ++ line " place 0 4") NotCanonical 2
leading_space = refl

trailing_space : Breaks (gang ++ line "place 0 4 ") NotCanonical 2
trailing_space = refl

unknown_and_space : Breaks (gang ++ line "zzz ") NotCanonical 2
unknown_and_space = refl

empty_line_inside : Breaks (body ++ line "" ++ line "end") NotCanonical 4
empty_line_inside = refl

-- first words, and the order of lines
unknown : Breaks (gang ++ line "plays 0 4") BadLine 2
unknown = refl

capitals : Breaks (gang ++ line "PLACE 0 4") BadLine 2
capitals = refl

place_first : Breaks (line "place 0 4") BadLine 1
place_first = refl

second_isp : Breaks (gang ++ line "isp 1 gang 4") BadLine 2
second_isp = refl

second_masks : Breaks (body ++ line "m 1") BadLine 4
second_masks = refl

vectors_first : Breaks (header ++ line "v i32" ++ line "s i32") BadLine 4
vectors_first = refl

param_late : Breaks (header ++ line "loc u i32 1" ++ line "par s i32 x") BadLine 4
param_late = refl

place_late : Breaks (gang ++ line "text 78" ++ line "place x y") BadLine 3
place_late = refl

text_late : Breaks (body ++ line "end" ++ line "text 78") BadLine 5
text_late = refl

instruction_early : Breaks (header ++ line "ret -") BadLine 3
instruction_early = refl

func_inside : Breaks (body ++ line "func g export void") BadLine 4
func_inside = refl

-- how many words a line has
short_place : Breaks (gang ++ line "place 0") BadLine 2
short_place = refl

long_place : Breaks (gang ++ line "place 0 4 5") BadLine 2
long_place = refl

short_isp : Breaks (line "isp 1 gang") BadLine 1
short_isp = refl

short_func : Breaks (gang ++ line "func f export") BadLine 2
short_func = refl

long_func : Breaks (gang ++ line "func f export s i32 x") BadLine 2
long_func = refl

no_types : Breaks (header ++ line "s") BadLine 3
no_types = refl

long_end : Breaks (body ++ line "end x") BadLine 4
long_end = refl

short_copy : Breaks (body ++ line "copy s0") BadLine 4
short_copy = refl

long_copy : Breaks (body ++ line "copy s0 s1 m0 m1") BadLine 4
long_copy = refl

div_without_place : Breaks (body ++ line "div s0 s0 s0 m0") BadLine 4
div_without_place = refl

const_with_mask : Breaks (body ++ line "const s0 1 m0") BadLine 4
const_with_mask = refl

short_call : Breaks (body ++ line "call f0 - m0") BadLine 4
short_call = refl

least_call : IsRead (body ++ line "call f0 - m0 p0" ++ line "end")
least_call = refl

func_of_no_type : Breaks (gang ++ line "func f export s") BadOperand 2
func_of_no_type = refl

void_with_type : Breaks (gang ++ line "func f export void i32") BadOperand 2
void_with_type = refl

-- numbers, from left to right
version_three : Breaks (line "isp 3 gang 4") BadOperand 1
version_three = refl

gang_of_five : Breaks (line "isp 1 gang 5") BadOperand 1
gang_of_five = refl

left_of_zero : Breaks (line "isp x gang 04") BadOperand 1
left_of_zero = refl

version_zero : Breaks (line "isp 01 gang 4") NotCanonical 1
version_zero = refl

gang_zero : Breaks (line "isp 1 gang 04") NotCanonical 1
gang_zero = refl

masks_zero : Breaks (header ++ line "m 01") NotCanonical 3
masks_zero = refl

masks_zeros : Breaks (header ++ line "m 00") NotCanonical 3
masks_zeros = refl

masks_zeros_far : Breaks (header ++ line "m 04294967296") NotCanonical 3
masks_zeros_far = refl

masks_far : Breaks (header ++ line "m 4294967296") BadOperand 3
masks_far = refl

masks_minus : Breaks (header ++ line "m -1") BadOperand 3
masks_minus = refl

masks_none : IsRead (header ++ line "m 0" ++ line "end")
masks_none = refl

-- constants
const_minus_zero : Breaks (body ++ line "const s0 -0") NotCanonical 4
const_minus_zero = refl

const_minus_zero_one : Breaks (body ++ line "const s0 -01") NotCanonical 4
const_minus_zero_one = refl

const_zeros : Breaks (body ++ line "const s0 00") NotCanonical 4
const_zeros = refl

const_zeros_far : Breaks (body ++ line "const s0 018446744073709551616") NotCanonical 4
const_zeros_far = refl

const_minus : Breaks (body ++ line "const s0 -") BadOperand 4
const_minus = refl

const_minus_minus : Breaks (body ++ line "const s0 --1") BadOperand 4
const_minus_minus = refl

const_plus : Breaks (body ++ line "const s0 +1") BadOperand 4
const_plus = refl

const_above : Breaks (body ++ line "const s0 18446744073709551616") BadOperand 4
const_above = refl

const_below : Breaks (body ++ line "const s0 -9223372036854775809") BadOperand 4
const_below = refl

const_ends : IsRead (body ++ line "const s0 18446744073709551615" ++ line "const s0 -9223372036854775808" ++ line "end")
const_ends = refl

-- places
place_turned : Breaks (gang ++ line "place 5 4") BadOperand 2
place_turned = refl

place_behind_source : Breaks (gang ++ line "place 0 1048577") BadOperand 2
place_behind_source = refl

place_start_far : Breaks (gang ++ line "place 4294967296 03") BadOperand 2
place_start_far = refl

place_end_zero : Breaks (gang ++ line "place 5 03") NotCanonical 2
place_end_zero = refl

place_both : Breaks (gang ++ line "place 2000000 03") NotCanonical 2
place_both = refl

place_start_zero : Breaks (gang ++ line "place 01 x") NotCanonical 2
place_start_zero = refl

place_start_bad : Breaks (gang ++ line "place x 01") BadOperand 2
place_start_bad = refl

-- texts
text_odd : Breaks (gang ++ line "text 780") BadOperand 2
text_odd = refl

text_capital : Breaks (gang ++ line "text 7A") BadOperand 2
text_capital = refl

text_letters : Breaks (gang ++ line "text zz") BadOperand 2
text_letters = refl

text_zeros : IsRead (gang ++ line "text 00")
text_zeros = refl

-- names, types and sizes
name_digit : Breaks (gang ++ line "func 1f export void") BadOperand 2
name_digit = refl

name_dash : Breaks (gang ++ line "func f-g export void") BadOperand 2
name_dash = refl

name_reserved : IsRead (gang ++ line "func if export void" ++ line "m 1" ++ line "end")
name_reserved = refl

word_exported : Breaks (gang ++ line "func f exported void") BadOperand 2
word_exported = refl

result_array : Breaks (gang ++ line "func f export a i32") BadOperand 2
result_array = refl

param_mask : Breaks (header ++ line "par m i32 a") BadOperand 3
param_mask = refl

types_bad : Breaks (header ++ line "s i32 x8") BadOperand 3
types_bad = refl

local_none : Breaks (header ++ line "loc u i32 0") BadOperand 3
local_none = refl

local_far : Breaks (header ++ line "loc u i32 65537") BadOperand 3
local_far = refl

local_zeros : Breaks (header ++ line "loc u i32 00") NotCanonical 3
local_zeros = refl

local_ends : IsRead (header ++ line "loc u i32 1" ++ line "loc p i32 65536" ++ line "m 1" ++ line "end")
local_ends = refl

-- labels
label_digit : Breaks (body ++ line "jmp 0") BadLabel 4
label_digit = refl

label_bare : Breaks (body ++ line "jmp L") BadLabel 4
label_bare = refl

label_letter : Breaks (body ++ line "jmp Lx") BadLabel 4
label_letter = refl

label_small : Breaks (body ++ line "jmp l0") BadLabel 4
label_small = refl

label_other : Breaks (body ++ line "jmp x01") BadLabel 4
label_other = refl

label_far : Breaks (body ++ line "jmp L4294967296") BadLabel 4
label_far = refl

label_zero : Breaks (body ++ line "jmp L01") NotCanonical 4
label_zero = refl

label_zero_far : Breaks (body ++ line "jmp L04294967296") NotCanonical 4
label_zero_far = refl

jz_bad : Breaks (body ++ line "jz x L01") BadOperand 4
jz_bad = refl

jz_zero : Breaks (body ++ line "jz s01 x") NotCanonical 4
jz_zero = refl

-- registers, and other words of a letter and a number
word_x : Breaks (body ++ line "copy x0 s0") BadOperand 4
word_x = refl

word_bare : Breaks (body ++ line "copy s s0") BadOperand 4
word_bare = refl

word_capital : Breaks (body ++ line "copy S0 s0") BadOperand 4
word_capital = refl

word_digit : Breaks (body ++ line "copy 0 s0") BadOperand 4
word_digit = refl

word_place : Breaks (body ++ line "copy p0 s0") BadOperand 4
word_place = refl

word_far : Breaks (body ++ line "copy s4294967296 s0") BadOperand 4
word_far = refl

word_text : Breaks (body ++ line "say s01") BadOperand 4
word_text = refl

word_fail : Breaks (body ++ line "fail m0 s01") BadOperand 4
word_fail = refl

word_call : Breaks (body ++ line "call g0 - m0 p0") BadOperand 4
word_call = refl

word_minus : Breaks (body ++ line "ret -0") BadOperand 4
word_minus = refl

word_minuses : Breaks (body ++ line "ret --") BadOperand 4
word_minuses = refl

word_zero : Breaks (body ++ line "copy s00 s0") NotCanonical 4
word_zero = refl

word_text_zero : Breaks (body ++ line "say t01") NotCanonical 4
word_text_zero = refl

word_call_zero : Breaks (body ++ line "call f00 - m0 p0") NotCanonical 4
word_call_zero = refl

other_classes : IsRead (body ++ line "copy m0 a1" ++ line "jz m0 L0" ++ line "ret m0" ++ line "end")
other_classes = refl

-- bytes that are not shown
byte_tab : Breaks (gang ++ codes "text 7" ++ 9 ∷ line "8") NotCanonical 2
byte_tab = refl

byte_return : Breaks (gang ++ codes "text 7" ++ 13 ∷ line "8") NotCanonical 2
byte_return = refl

byte_nul : Breaks (gang ++ codes "text 7" ++ 0 ∷ line "8") NotCanonical 2
byte_nul = refl

byte_delete : Breaks (gang ++ codes "text 7" ++ 127 ∷ line "8") NotCanonical 2
byte_delete = refl

byte_above : Breaks (gang ++ codes "text 7" ++ 200 ∷ line "8") NotCanonical 2
byte_above = refl

-- more words of the other forms
word_gan : Breaks (line "isp 1 gan 4") BadOperand 1
word_gan = refl

-- each word of the first line before the pair
version_and_zero : Breaks (line "isp 2 gang 04") NotCanonical 1
version_and_zero = refl

no_version_and_zero : Breaks (line "isp 3 gang 04") BadOperand 1
no_version_and_zero = refl

zero_and_no_gang : Breaks (line "isp 02 gang 5") NotCanonical 1
zero_and_no_gang = refl

pair_and_word : Breaks (line "isp 1 gan 32") BadOperand 1
pair_and_word = refl

gang_of_4 : Breaks (line "isp 2 gang 4") BadOperand 1
gang_of_4 = refl

gang_of_8 : Breaks (line "isp 2 gang 8") BadOperand 1
gang_of_8 = refl

gang_of_16 : Breaks (line "isp 2 gang 16") BadOperand 1
gang_of_16 = refl

gang_of_32 : Breaks (line "isp 1 gang 32") BadOperand 1
gang_of_32 = refl

gang_of_64 : Breaks (line "isp 2 gang 64") BadOperand 1
gang_of_64 = refl

first_of_8 : IsRead (line "isp 1 gang 8")
first_of_8 = refl

first_of_16 : IsRead (line "isp 1 gang 16")
first_of_16 = refl

second_of_32 : IsRead (line "isp 2 gang 32")
second_of_32 = refl

result_int : Breaks (gang ++ line "func f export s int") BadOperand 2
result_int = refl

param_int : Breaks (header ++ line "par s int a") BadOperand 3
param_int = refl

param_name : Breaks (header ++ line "par s i32 9") BadOperand 3
param_name = refl

local_letter : Breaks (header ++ line "loc s i32 1") BadOperand 3
local_letter = refl

second_scalars : Breaks (header ++ line "s i32" ++ line "s i32") BadLine 4
second_scalars = refl

end_outside : Breaks (gang ++ line "end") BadLine 2
end_outside = refl

later_line : Breaks (body ++ line "vmove v0 a0 s0 m0 p0") BadLine 4
later_line = refl

two_functions : IsRead (body ++ line "end" ++ line "func g inner v u8" ++ line "par a b x" ++ line "loc p i8 2" ++ line "s u64" ++ line "v u8 u8" ++ line "m 2" ++ line "ret v1" ++ line "end")
two_functions = refl

-- a place after the last number is one line too many, whatever its operands are
no_room : words_line_fault (record { last = kind.Place; places = 2 ^ 32; texts = 0 }) (codes "place" ∷ codes "x" ∷ codes "y" ∷ []) ≡ Some BadLine
no_room = refl

last_room : words_line_fault (record { last = kind.Place; places = 2 ^ 32 - 1; texts = 0 }) (codes "place" ∷ codes "x" ∷ codes "y" ∷ []) ≡ Some BadOperand
last_room = refl
