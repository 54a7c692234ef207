-- What is shown of a byte of a program's text.
--     varying int32                        an expression, or a variable that holds a value
--     const uniform int8[]                 an array that a caller hands over
--     varying int32[16]                    a local array
--     void f(uniform int32[], varying int32)     a function
use Rattle.std.specs.Prelude.{◌≡◌, ℕ, ◌++◌, Bool, true, false, List, [], ◌∷◌, Option, Some, None, codes, decimal, slice_get, option_and_then, option_map, length, take}
use Rattle.isp_base.specs.declared.types.Elem.{Elem}
use Rattle.isp_base.specs.declared.types.Elem.TheVariants.{Bool as Truth, I8, U8, I16, U16, I32, U32, I64, U64}
use Rattle.isp_base.specs.declared.types.Rate.{Rate}
use Rattle.isp_base.specs.declared.types.Rate.TheVariants.{Uniform, Varying}
use Rattle.isp_base.specs.declared.types.Span.{Span}
use Rattle.isp_base.specs.declared.types.Ty.{Ty}
use Rattle.isp_typed.specs.declared.variable.Holds.{Holds}
use Rattle.isp_typed.specs.declared.variable.Holds.TheVariants as holds
use Rattle.isp_typed.specs.declared.variable.Variable.{Variable as Held}
use Rattle.isp_typed.specs.Typed.{TFunction, Program}
use Rattle.isp_known.specs.declared.note.Note.{Note}
use Rattle.isp_known.specs.declared.note.Subject.{Subject}
use Rattle.isp_known.specs.declared.note.Subject.TheVariants.{Variable, Function}
use Rattle.isp_known.specs.declared.place.Valued.{Valued}
use Rattle.isp_known.specs.Places.{IsAround, IsNarrowest, subject_at, word_of}

abbrev pub elem_text : Elem → List ℕ
elem_text Truth = codes "bool"
elem_text I8 = codes "int8"
elem_text U8 = codes "uint8"
elem_text I16 = codes "int16"
elem_text U16 = codes "uint16"
elem_text I32 = codes "int32"
elem_text U32 = codes "uint32"
elem_text I64 = codes "int64"
elem_text U64 = codes "uint64"

abbrev pub rate_text : Rate → List ℕ
rate_text Uniform = codes "uniform"
rate_text Varying = codes "varying"

abbrev pub type_text : Ty → List ℕ
type_text t = rate_text t.rate ++ codes " " ++ elem_text t.elem

abbrev pub holds_text : Holds → List ℕ
holds_text (holds.Value t) = type_text t
holds_text (holds.Given e) = codes "uniform " ++ elem_text e ++ codes "[]"
holds_text (holds.Local t n) = type_text t ++ codes "[" ++ decimal n ++ codes "]"

abbrev pub const_text : Bool → List ℕ
const_text true = codes "const "
const_text false = []

abbrev pub variable_text : Held → List ℕ
variable_text v = const_text v.constant ++ holds_text v.holds

-- the first of several as it is, each further one after a comma
abbrev pub listed_text : List Held → List ℕ
listed_text [] = []
listed_text (v ∷ vs) = codes ", " ++ variable_text v ++ listed_text vs

abbrev pub params_text : List Held → List ℕ
params_text [] = []
params_text (v ∷ vs) = variable_text v ++ listed_text vs

abbrev pub answer_text : Option Ty → List ℕ
answer_text None = codes "void"
answer_text (Some t) = type_text t

-- the parameters of a function are the first of its variables
abbrev pub function_text : TFunction → List ℕ
function_text g = answer_text g.answer ++ codes " " ++ g.name ++ codes "(" ++ params_text (take (length g.params) g.variables) ++ codes ")"

-- ---- what stands for a name

abbrev pub variable_of : Program → ℕ → ℕ → Option Held
variable_of p f k = option_and_then (λ g. slice_get g.variables k) (slice_get p.functions f)

abbrev pub subject_text : Program → Subject → Option (List ℕ)
subject_text p (Variable f k) = option_map variable_text (variable_of p f k)
subject_text p (Function f) = option_map function_text (slice_get p.functions f)

-- ---- what is shown, and of which part of the text

-- the type of the narrowest expression around a byte, if there is one
abbrev pub ValueShows : List Note → ℕ → Option (Span × List ℕ) → Type 0
ValueShows ns at (Some (s, shown)) = (t : Ty) × IsNarrowest ns at (record { span = s; ty = t }) × (shown ≡ type_text t)
ValueShows ns at None = (v : Valued) → ¬ (IsAround ns at v)

-- of a name what it stands for
abbrev pub WordShows : Program → List Note → ℕ → Span → Option Subject → Option (Span × List ℕ) → Type 0
WordShows p ns at w (Some x) o = o ≡ option_map (λ shown. (w, shown)) (subject_text p x)
WordShows p ns at w None o = ValueShows ns at o

-- `ns` are the notes of the program
abbrev pub Shows : Program → List Note → List ℕ → ℕ → Option (Span × List ℕ) → Type 0
Shows p ns text at o = let w = word_of text at in WordShows p ns at w (subject_at w.start ns) o
