-- The C file of code, and the prototypes of its exported functions. Each line ends with a line feed.
use Rattle.std.specs.Prelude.{◌≡◌, ◌⊎◌, ℕ, zero, suc, ◌≤◌, Bool, true, false, List, [], ◌∷◌, ◌++◌, codes}
use Rattle.std.specs.Fmt.{decimal}
use Rattle.std.specs.List.{flat_map}
use Rattle.isp_base.specs.Types.{gang_width}
use Rattle.isp_base.specs.declared.types.Elem.{Elem}
use Rattle.isp_base.specs.declared.types.Span.{Span}
use Rattle.isp_code.specs.Listing.{Listing, Routine}
use Rattle.isp_code.specs.Registers.{class_of}
use Rattle.isp_code.specs.declared.function.Local.{Local}
use Rattle.isp_code.specs.declared.function.Param.{Param}
use Rattle.isp_code.specs.declared.function.ParamKind.{ParamKind}
use Rattle.isp_code.specs.declared.function.ParamKind.TheVariants as kind
use Rattle.isp_code.specs.declared.function.Returns.{Returns}
use Rattle.isp_code.specs.declared.function.Returns.TheVariants as returns
use Rattle.isp_code.specs.declared.function.Sharing.{Sharing}
use Rattle.isp_code.specs.declared.function.Sharing.TheVariants.{Shared, PerInstance}
use Rattle.isp_code.specs.declared.instr.Instr.{Instr}
use Rattle.isp_native.specs.declared.counts.Counts.{Counts}
use Rattle.isp_native.specs.Forms.{AreRight, Forms, all_kept, form_line}
use Rattle.isp_native.specs.Words.{byte_text, c_type, capital, small}

-- the texts of a list one after the other, each with its number, from a number on; and of the numbers below one
abbrev pub numbered : {A : Type 0} → (ℕ → A → List ℕ) → ℕ → List A → List ℕ
numbered f n [] = []
numbered f n (x ∷ xs) = f n x ++ numbered f (suc n) xs

abbrev pub below : (ℕ → List ℕ) → ℕ → List ℕ
below f zero = []
below f (suc n) = below f n ++ f n

-- ---- places and texts

unfoldable pub head_text : ℕ → List ℕ
head_text width = codes "#define ISP_GANG " ++ (decimal width ++ codes "\n#include \"isp_machine.h\"\n")

abbrev pub place_line : ℕ → Span → List ℕ
place_line n s = (codes "PLACE(p" ++ decimal n) ++ ((codes ", " ++ decimal s.start) ++ ((codes ", " ++ decimal s.end) ++ codes ")\n"))

abbrev pub text_line : ℕ → List ℕ → List ℕ
text_line n bytes = (codes "TEXT(t" ++ decimal n) ++ (codes ", \"" ++ (flat_map byte_text bytes ++ codes "\")\n"))

-- ---- functions

-- the parameters of each class so far, and with one more
abbrev pub nobody : Counts
nobody = record { scalars = 0; vectors = 0; arrays = 0 }

abbrev pub count : ParamKind → Counts → ℕ
count kind.Scalar c = c.scalars
count kind.Vector c = c.vectors
count kind.Array c = c.arrays

abbrev pub with : ParamKind → Counts → Counts
with kind.Scalar c = record c { scalars = suc c.scalars }
with kind.Vector c = record c { vectors = suc c.vectors }
with kind.Array c = record c { arrays = suc c.arrays }

abbrev pub with_all : Counts → List Param → Counts
with_all c [] = c
with_all c (p ∷ ps) = with_all (with p.kind c) ps

-- there are at most so many of each class
pub record AtMost (n : ℕ) (c : Counts) : Type 0 where
  pub scalars : c.scalars ≤ n
  pub vectors : c.vectors ≤ n
  pub arrays : c.arrays ≤ n

-- `SPAR(int32_t, s0)`: a parameter where the function is named, and by another word where it begins
abbrev pub param_line : List ℕ → ℕ → Param → List ℕ
param_line w n p = (capital (class_of p.kind) ++ (w ++ c_type p.elem)) ++ (codes ", " ++ (small (class_of p.kind) ++ (decimal n ++ codes ")\n")))

abbrev pub params_text : List ℕ → Counts → List Param → List ℕ
params_text w c [] = []
params_text w c (p ∷ ps) = param_line w (count p.kind c) p ++ params_text w (with p.kind c) ps

abbrev pub typed : List ℕ → ℕ → Elem → List ℕ
typed w f t = (w ++ decimal f) ++ (codes ", " ++ (c_type t ++ codes ")\n"))

abbrev pub func_line : ℕ → Returns → List ℕ
func_line f returns.Nothing = codes "FUNC(f" ++ (decimal f ++ codes ")\n")
func_line f (returns.Scalar t) = typed (codes "SFUNC(f") f t
func_line f (returns.Vector t) = typed (codes "VFUNC(f") f t

abbrev pub heading : ℕ → Routine → List ℕ
heading f h = func_line f h.returns ++ params_text (codes "PAR(") nobody h.params

-- `UARRAY(int32_t, a1, 16)`: all lanes share it, or `PARRAY`: each has its own
abbrev pub sharing_word : Sharing → List ℕ
sharing_word Shared = codes "UARRAY("
sharing_word PerInstance = codes "PARRAY("

abbrev pub local_line : ℕ → Local → List ℕ
local_line n l = (sharing_word l.sharing ++ (c_type l.elem ++ (codes ", a" ++ decimal n))) ++ (codes ", " ++ (decimal l.size ++ codes ")\n"))

abbrev pub register_line : List ℕ → List ℕ → ℕ → Elem → List ℕ
register_line w r n t = (w ++ c_type t) ++ (r ++ (decimal n ++ codes ")\n"))

abbrev pub mask_line : ℕ → List ℕ
mask_line n = codes "MASK(m" ++ (decimal n ++ codes ")\n")

-- `L3: VADD(v0, v1, v2, m0);`: each instruction is one line, after its number, in its form
abbrev pub code_line : Forms → ℕ → ℕ → Instr → List ℕ
code_line forms f n i = (codes "L" ++ decimal n) ++ (codes ": " ++ (form_line (forms f n i) i ++ codes "\n"))

abbrev pub registers_text : Counts → Routine → List ℕ
registers_text c h =
    numbered local_line c.arrays h.locals ++ (numbered (register_line (codes "SCALAR(") (codes ", s")) c.scalars h.scalars ++ (numbered (register_line (codes "VECTOR(") (codes ", v")) c.vectors h.vectors ++ below mask_line h.masks))

abbrev pub declared : ℕ → Routine → List ℕ
declared f h = heading f h ++ codes "DECLARED\n"

abbrev pub begun : ℕ → Routine → List ℕ
begun f h =
    heading f h ++ (codes "BEGIN\n" ++ (params_text (codes "TAKE(") nobody h.params ++ registers_text (with_all nobody h.params) h))

abbrev pub defined : Forms → ℕ → Routine → List ℕ
defined forms f h = begun f h ++ (codes "START\n" ++ (numbered (code_line forms f) 0 h.code ++ codes "END\n"))

-- ---- exported functions: `kernel_` before the name, `p_` and `n_` before that of a parameter

abbrev pub taken : ParamKind → List ℕ → Elem → List ℕ
taken kind.Array w t = (codes ", " ++ (c_type t ++ (codes " *p_" ++ w))) ++ (codes ", uint64_t n_" ++ w)
taken k w t = codes ", " ++ (c_type t ++ (codes " p_" ++ w))

abbrev pub entry_param : Param → List ℕ
entry_param p = taken p.kind p.name p.elem

abbrev pub entry_result : Returns → List ℕ
entry_result returns.Nothing = codes ")"
entry_result (returns.Scalar t) = codes ", " ++ (c_type t ++ codes " *result)")
entry_result (returns.Vector t) = codes ", " ++ (c_type t ++ codes " *result)")

unfoldable pub prototype : Routine → List ℕ
prototype h = (codes "enum isp_end kernel_" ++ h.name) ++ (codes "(struct isp_run *run" ++ (flat_map entry_param h.params ++ entry_result h.returns))

abbrev pub given_by : ParamKind → List ℕ → List ℕ
given_by kind.Array w = codes ", p_" ++ (w ++ (codes ", n_" ++ w))
given_by k w = codes ", p_" ++ w

abbrev pub given : Param → List ℕ
given p = given_by p.kind p.name

abbrev pub result_word : Returns → List ℕ
result_word returns.Nothing = codes "(ISP_ENTRY(NULL)"
result_word r = codes "(ISP_ENTRY(result)"

unfoldable pub entry_text : ℕ → Routine → List ℕ
entry_text f h = (prototype h ++ (codes "\n{\n    return f" ++ decimal f)) ++ (result_word h.returns ++ (flat_map given h.params ++ codes ");\n}\n"))

abbrev pub if_exported : Bool → List ℕ → List ℕ
if_exported true text = text
if_exported false text = []

abbrev pub entry : ℕ → Routine → List ℕ
entry f h = if_exported h.exported (entry_text f h)

-- ---- the C file, and the prototypes

-- of code whose instructions have these forms
abbrev pub c_text : Listing → Forms → List ℕ
c_text c forms =
    head_text (gang_width c.gang) ++ (numbered place_line 0 c.places ++ (numbered text_line 0 c.texts ++ (numbered declared 0 c.routines ++ (numbered (defined forms) 0 c.routines ++ numbered entry 0 c.routines))))

-- a text is a C file of code: each instruction is kept, or in a form that is right for it
abbrev pub IsCText : Listing → List ℕ → Type 0
IsCText c text = (text ≡ c_text c all_kept) ⊎ ((forms : Forms) × AreRight c forms × (text ≡ c_text c forms))

abbrev pub prototype_line : Routine → List ℕ
prototype_line h = if_exported h.exported (prototype h ++ codes ";\n")

abbrev pub header_text : Listing → List ℕ
header_text c = codes "#include \"isp_machine.h\"\n" ++ flat_map prototype_line c.routines
