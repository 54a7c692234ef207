-- The end, down to WebAssembly: a call in the module of the code that a text is compiled to does what the program means that the text is.
--     CallDoesTheSame     it returns or traps exactly when the gang ends or traps, and otherwise goes on with the same output so far
--     ModuleDoesAsMeant   one function of a program, and what the module of an image exports under its name
--     IsModuleFaithful    that of an image, for the program that a text is, each entry and all arguments that it takes
--     ModuleHeadline      that of every text and its image
use Rattle.std.specs.Prelude.{◌≡◌, ◌↔◌, ℕ, List, Option, Some, None, true, slice_get}
use Rattle.isp_base.specs.Arguments.{AreShort}
use Rattle.isp_base.specs.Outcomes.{Outcome, Ends, Traps}
use Rattle.isp_base.specs.Prefixes.{IsPrefix}
use Rattle.isp_base.specs.Rows.{Row}
use Rattle.isp_base.specs.declared.signature.Argument.{Argument}
use Rattle.isp_base.specs.declared.trap.Trap.{Trap}
use Rattle.isp_base.specs.declared.types.Gang.{Gang}
use Rattle.isp_base.specs.declared.types.Value.{Value}
use Rattle.isp_typed.specs.Typed.{Program, TFunction}
use Rattle.isp_meaning.specs.Entries.{IsEntry}
use Rattle.isp_meaning.specs.Runs.{run_of}
use Rattle.isp_code.specs.Entries as code
use Rattle.isp_code.specs.Listing.{Listing, Routine}
use Rattle.isp_code.specs.Writable.{IsWritable}
use Rattle.isp_verify.specs.Faults.{code_fault}
use Rattle.isp_runs.specs.Compilation.{IsCompilation}
use Rattle.isp_front.specs.Front.{IsSource}
use Rattle.isp_code.specs.Machine.{first_conf}
use Rattle.isp_forms.specs.Runs.{Forms, AreHarmless}
use Rattle.isp_wasm_meaning.specs.Meaning.{State, Report, Result, Returned, Trapped, OutOfFuel, called}
use Rattle.isp_wasm_meaning.specs.Module.{Function, Module, code_in}
use Rattle.isp_wasm.specs.Places.{Setting}
use Rattle.isp_wasm.specs.Standing.{report_of}
use Rattle.isp_wasm.specs.Stack.{uses_stack}
use Rattle.isp_wasm.specs.Agreement.{out_of, value_bits}
use Rattle.isp_wasm.specs.Entry.{Shows, ReturnsSo, TrapsSo}
use Rattle.isp_wasm.specs.Kernel.{HasRoom, IsLaidOut, in_call, passed}
use Rattle.isp_wasm.specs.Module.{is_covered, module_with}
use Rattle.isp_wasm_binary.specs.Binary.{sections_of}
use Rattle.isp_wasm_valid.specs.Modules.{IsValidModule}
use Rattle.isp_headline.specs.Headline.{ComesTo, NeverOver, HasWritten}

-- ---- one call

-- it used up its fuel
abbrev pub RanOut : Result → Type 0
RanOut r = (s : State) × (r ≡ OutOfFuel s)

-- how the gang's run stands after so many turns, and what the call comes to with that much fuel; w says where its arrays lie
pub record CallDoesTheSame (w : Setting) (gang : ℕ → Outcome) (call : ℕ → Result) : Type 0 where
  -- Where the gang ends or traps, the call does, with its arrays in memory, its value and its output,
  pub ends : (rs : List Row) (x : Option Value) (out : List ℕ) → ComesTo gang (Ends rs x out) → (n : ℕ) × ReturnsSo w rs x out (call n)
  pub traps : (t : Trap) (rs : List Row) (out : List ℕ) → ComesTo gang (Traps t rs out) → (n : ℕ) × TrapsSo w t rs out (call n)
  -- and only there.
  pub ends_only : (n : ℕ) (v : Option ℕ) (s : State) → call n ≡ Returned v s
      → (rs : List Row) × (x : Option Value) × ComesTo gang (Ends rs x s.out) × (v ≡ value_bits x) × Shows w rs s
  pub traps_only : (n : ℕ) (r : Option Report) (s : State) → call n ≡ Trapped r s
      → (rs : List Row) × (t : Trap) × ComesTo gang (Traps t rs s.out) × (r ≡ Some (report_of w t)) × Shows w rs s
  -- Otherwise it goes on, as the gang does,
  pub goes_on : NeverOver gang ↔ ((n : ℕ) → RanOut (call n))
  -- with the same output so far.
  pub output : (out : List ℕ) → HasWritten gang out ↔ ((n : ℕ) × IsPrefix out (out_of (call n)))

-- ---- one function

-- function k of a module is exported under this name
abbrev pub IsExported : Module → List ℕ → ℕ → Type 0
IsExported m name k = (g : Function) × (slice_get m.functions k ≡ Some g) × (g.export ≡ Some name)

-- function f of a program, which has this name, and its code in an image and in the module of that, with its instructions in these
-- forms, from the arguments xs
pub record ModuleDoesAsMeant (program : Program) (image : Listing) (forms : Forms) (entry : List ℕ) (f : ℕ) (xs : List Argument) : Type 0 where
  pub routine : Routine
  pub export : code.IsExport image entry f routine
  -- Where it is covered, the module is valid, it exports this function under the name, and no other.
  pub valid : is_covered image routine ≡ true → IsValidModule (sections_of (module_with image forms))
  pub only : is_covered image routine ≡ true → (k : ℕ) → IsExported (module_with image forms) entry k ↔ (k ≡ f)
  -- Where no run can tell the forms, and a host calls it, with the arguments in memory, and room for the arrays that are opened: that does what
  -- the gang's meaning does.
  pub same : is_covered image routine ≡ true → AreHarmless image forms (first_conf image f routine xs) → (at : List ℕ) (s : State) → IsLaidOut image forms xs at s → (uses_stack routine ≡ true → HasRoom image forms xs at f routine s)
      → CallDoesTheSame (in_call image forms xs at f routine s) (λ n. run_of program f n xs) (λ n. called (code_in (module_with image forms)) n f (passed xs at) s)

-- ---- the whole

-- of the program that the text is, the module of this image, an exported function, arguments that it takes, and any forms of instructions
abbrev pub IsModuleFaithful : Gang → List ℕ → Listing → Type 0
IsModuleFaithful gang text image =
    (program : Program)
    → IsSource gang text program
    → (entry : List ℕ) (f : ℕ) (h : TFunction) (xs : List Argument)
    → IsEntry program entry xs f h
    → AreShort xs
    → (forms : Forms) → ModuleDoesAsMeant program image forms entry f xs

-- of every text and code of it in which the verifier finds no fault, and which has a text, as the image that `compile` gives
abbrev pub ModuleHeadline : Type 0
ModuleHeadline = (gang : Gang) (text : List ℕ) (image : Listing) → IsCompilation gang text image → code_fault image ≡ None → IsWritable image → IsModuleFaithful gang text image
