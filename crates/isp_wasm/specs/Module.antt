-- The module that is made of code: its numbers are those of the code, and a function of it is as its code is.
use Rattle.std.specs.Prelude.{ℕ, zero, suc, ◌+◌, ◌^◌, List, [], ◌∷◌, ◌++◌, length, map, Option, Some, None, Bool, false, not, ◌&&◌, ◌||◌, if◌then◌else◌, nat_eq, nat_lt, slice_index_or}
use Rattle.std.specs.List.{list_all, list_any}
use Rattle.isp_base.specs.Types.{gang_width}
use Rattle.isp_base.specs.declared.types.Elem.{Elem}
use Rattle.isp_base.specs.declared.types.Elem.TheVariants.{Bool as Truth}
use Rattle.isp_code.specs.Listing.{Listing, Routine}
use Rattle.isp_code.specs.Registers.{elem_of}
use Rattle.isp_code.specs.Entries.{result_of}
use Rattle.isp_code.specs.declared.function.Returns.{Returns}
use Rattle.isp_code.specs.declared.function.Returns.TheVariants.{Nothing, Scalar as GivesScalar, Vector as GivesVector}
use Rattle.isp_code.specs.declared.instr.Instr.{Instr}
use Rattle.isp_code.specs.declared.instr.Instr.TheVariants as instr
use Rattle.isp_forms.specs.Runs.{Forms, all_kept}
use Rattle.isp_wasm_meaning.specs.Valid.{sized}
use Rattle.isp_wasm_meaning.specs.Module.{ValueType, I32, I64, V128, Function, Module, unused}
use Rattle.isp_wasm.specs.Entry.{entry_code}
use Rattle.isp_wasm.specs.Locals.{param_places, taken_places, own_places, local_in, inner_local, position}
use Rattle.isp_wasm.specs.Places.{Setting, Place, Counter, Scalar, Base, Count, Spare, Depth, Top, size_of}
use Rattle.isp_wasm.specs.Templates.{routine_code}
use Rattle.isp_wasm.specs.Stack.{has_call, bytes_in}
use Rattle.isp_wasm.specs.Standing.{scalar_register}

-- ---- rungs

abbrev pub goes_to : ℕ → Instr → Bool
goes_to pc (instr.Jump to) = nat_eq to pc
goes_to pc (instr.JumpIf t x to) = nat_eq to pc
goes_to pc i = false

-- a rung begins at the first instruction, and where a jump goes
abbrev pub is_head : List Instr → ℕ → Bool
is_head is pc = nat_eq pc 0 || list_any (goes_to pc) is

-- of n instructions from one on, in order
abbrev pub heads_from : List Instr → ℕ → ℕ → List ℕ
heads_from is zero pc = []
heads_from is (suc n) pc = if is_head is pc then pc ∷ heads_from is n (suc pc) else heads_from is n (suc pc)

abbrev pub heads_of : List Instr → List ℕ
heads_of is = heads_from is (length is) 0

-- ---- memory: the texts, one after the other

abbrev pub joined : List (List ℕ) → List ℕ
joined [] = []
joined (x ∷ xs) = x ++ joined xs

abbrev pub text_start : List (List ℕ) → ℕ → ℕ
text_start [] t = 0
text_start (x ∷ xs) zero = 0
text_start (x ∷ xs) (suc t) = length x + text_start xs t

-- ---- what is covered

-- a function whose numbers have 32 bits: of instructions, of bytes of text and of those of the arrays that it opens
abbrev pub is_plain : Listing → Routine → Bool
is_plain code h =
    nat_lt (suc (bytes_in (gang_width code.gang) h.locals)) (2 ^ 32) && (nat_lt (length h.code) (2 ^ 32) && nat_lt (length (joined code.texts)) (2 ^ 32))

abbrev pub all_plain : Listing → Bool
all_plain code = list_all (is_plain code) code.routines

-- which functions are called
abbrev pub calls_function : ℕ → Instr → Bool
calls_function f (instr.Call c) = nat_eq c.function f
calls_function f i = false

abbrev pub is_called : Listing → ℕ → Bool
is_called code f = list_any (λ h. list_any (calls_function f) h.code) code.routines

-- and where a function calls, all are so
abbrev pub is_covered : Listing → Routine → Bool
is_covered code h = is_plain code h && (not (has_call h) || all_plain code)

-- ---- functions

abbrev pub given_type : Option Elem → Option ValueType
given_type None = None
given_type (Some t) = Some (sized (size_of t))

-- a vector is not given back as such
abbrev pub back_type : Returns → Option ValueType
back_type Nothing = None
back_type (GivesScalar t) = Some (sized (size_of t))
back_type (GivesVector t) = None

module _ (code : Listing) (h : Routine) where
  abbrev pub type_of : Place → ValueType
  type_of Counter = I32
  type_of Depth = I32
  type_of Top = I32
  type_of (Scalar r) = sized (size_of (elem_of h (scalar_register r)))
  type_of (Base a) = I32
  type_of (Count a) = I64
  type_of (Spare t j) = sized t
  type_of p = V128

  abbrev pub given : Option Elem → Option ValueType
  given o = given_type o

-- a function for each routine, from number f on
abbrev pub each_function : (ℕ → Routine → Function) → ℕ → List Routine → List Function
each_function make f [] = []
each_function make f (h ∷ hs) = make f h ∷ each_function make (suc f) hs

-- code whose instructions are written in some forms
module _ (code : Listing) (forms : Forms) where
  module _ (f : ℕ) (h : Routine) where
    -- the numbers of function f, whichever call it is in
    abbrev pub numbered : Setting
    numbered =
        record {
          code = code;
          routine = h;
          home = record { fn = f; named = λ a. a; sizes = λ b. 0; opened = 0 };
          waiting = [];
          forms = forms;
          local = local_in (gang_width code.gang) h;
          rungs = length (heads_of h.code);
          heads = λ k. slice_index_or (heads_of h.code) k (length h.code);
          rung_at = position (heads_of h.code);
          begins = λ b. 0;
          sizes = λ b. 0;
          elems = λ b. Truth;
          text_at = text_start code.texts;
          before = λ a. 0;
          room = 0;
          stack = None;
        }

    -- of one that another one calls
    abbrev pub inner : Setting
    inner = record numbered { local = inner_local (gang_width code.gang) h }

    abbrev pub kernel_of : Function
    kernel_of =
        record {
          export = Some h.name;
          params = map (type_of code h) (param_places h);
          result = given code h (result_of h.returns);
          locals = map (type_of code h) (own_places (gang_width code.gang) h);
          code = entry_code numbered;
        }

    abbrev pub inner_of : Function
    inner_of =
        record {
          export = None;
          params = map (type_of code h) (taken_places (gang_width code.gang) h);
          result = back_type h.returns;
          locals = map (type_of code h) (own_places (gang_width code.gang) h);
          code = routine_code inner;
        }

    abbrev pub function_of : Function
    function_of = if h.exported && is_covered code h then kernel_of else unused

    abbrev pub inner_function : Function
    inner_function = if is_called code f && all_plain code then inner_of else unused

  -- A function for each one of the code, in order, which a host may call; of those that are not exported or not covered there is
  -- nothing. Where there are calls, after them another one for each, which others call.
  abbrev pub module_with : Module
  module_with =
      record {
        functions = each_function function_of 0 code.routines ++ (if list_any has_call code.routines then each_function inner_function 0 code.routines else []);
        memory = joined code.texts;
      }

-- where each instruction keeps its lanes
abbrev pub module_of : Listing → Module
module_of code = module_with code all_kept
