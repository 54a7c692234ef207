-- A host calls a function of the module of some code: what it lays into memory and passes, and that the outcomes are the
-- machine's.
use Rattle.std.specs.Prelude.{◌≡◌, ◌≢◌, ◌⊎◌, ℕ, zero, suc, ◌+◌, ◌*◌, ◌%◌, ◌^◌, ◌<◌, ◌≤◌, List, [], ◌∷◌, length, None, true, slice_index}
use Rattle.std.specs.List.{list_all}
use Rattle.isp_base.specs.Arguments.{rows, row_bits}
use Rattle.isp_base.specs.Rows.{Row}
use Rattle.isp_base.specs.Types.{gang_width}
use Rattle.isp_base.specs.Values.{width}
use Rattle.isp_base.specs.declared.signature.Argument.{Argument}
use Rattle.isp_base.specs.declared.signature.Argument.TheVariants.{Value as AValue, Array as AnArray}
use Rattle.isp_base.specs.declared.types.Elem.{Elem}
use Rattle.isp_base.specs.declared.types.Elem.TheVariants.{Bool as Truth}
use Rattle.isp_code.specs.Entries.{IsEntry}
use Rattle.isp_code.specs.Listing.{Listing, Routine}
use Rattle.isp_code.specs.Conf as machine
use Rattle.isp_code.specs.Conf.{Conf}
use Rattle.isp_code.specs.Machine.{after, first_conf}
use Rattle.isp_forms.specs.Runs.{Forms, AreHarmless}
use Rattle.isp_verify.specs.Faults.{code_fault}
use Rattle.isp_wasm_meaning.specs.Meaning.{State, called, loaded}
use Rattle.isp_wasm_meaning.specs.Module.{HasMemory, code_in}
use Rattle.isp_wasm_meaning.specs.Valid.{is_valid_function}
use Rattle.isp_wasm.specs.Places.{Setting, bytes_of}
use Rattle.isp_wasm.specs.Entry.{stack_in, SameOutcomes}
use Rattle.isp_wasm.specs.Lanes.{with_lanes, own_start, own_size, own_elem}
use Rattle.isp_wasm.specs.Stack.{uses_stack, open_bytes, start, shared_starts, shared_elems, with_starts, with_elems}
use Rattle.isp_wasm.specs.Module.{is_covered, numbered, module_with}

-- the type of the b-th array's elements
abbrev pub row_elem : List Row → ℕ → Elem
row_elem [] b = Truth
row_elem (r ∷ rs) zero = r.elem
row_elem (r ∷ rs) (suc b) = row_elem rs b

-- what is passed, where the arrays begin at these addresses: a value's bits; an array's address and number of elements
abbrev pub passed : List Argument → List ℕ → List ℕ
passed [] at = []
passed (AValue v ∷ xs) at = v.bits % 2 ^ width v.elem ∷ passed xs at
passed (AnArray a ∷ xs) [] = []
passed (AnArray a ∷ xs) (b ∷ at) = b ∷ length a.bits ∷ passed xs at

module _ (code : Listing) (xs : List Argument) (at : List ℕ) where
  -- after the last byte of an array
  abbrev pub array_end : ℕ → ℕ
  array_end b = slice_index at b + length (row_bits (rows xs) b) * bytes_of (row_elem (rows xs) b)

-- the module of code whose instructions are written in some forms
module _ (code : Listing) (forms : Forms) (xs : List Argument) (at : List ℕ) where
  -- The memory has the module's first bytes. After them lies each array, in bytes of its own, element by element, the lowest
  -- byte first. Nothing is written yet.
  pub record IsLaidOut (s : State) : Type 0 where
    pub begins : HasMemory (module_with code forms) s
    pub each : length at ≡ length (rows xs)
    pub behind : (b : ℕ) → b < length at → length (module_with code forms).memory ≤ slice_index at b
    pub room : (b : ℕ) → b < length at → array_end code xs at b ≤ s.size
    pub apart : (a b : ℕ) → a < length at → b < length at → a ≢ b → (array_end code xs at a ≤ slice_index at b) ⊎ (array_end code xs at b ≤ slice_index at a)
    pub elements : (b e : ℕ) → e < length (row_bits (rows xs) b)
        → loaded (bytes_of (row_elem (rows xs) b)) (slice_index at b + e * bytes_of (row_elem (rows xs) b)) s.memory ≡ slice_index (row_bits (rows xs) b) e
    pub elements_fit : (b e : ℕ) → e < length (row_bits (rows xs) b) → slice_index (row_bits (rows xs) b) e < 2 ^ width (row_elem (rows xs) b)
    pub bytes_fit : (a : ℕ) → s.memory a < 256
    pub small : s.size ≤ 2 ^ 32
    pub silent : s.out ≡ []

  -- function f in this call
  abbrev pub in_call : ℕ → Routine → State → Setting
  in_call f h s =
      record (numbered code forms f h) {
        home = (first_conf code f h xs).home;
        begins =
            with_lanes (first_conf code f h xs).home.opened
            (with_starts (length (rows xs)) (slice_index at) (shared_starts (gang_width code.gang) (start (stack_in h s)) h.locals))
            (own_start (gang_width code.gang) (start (stack_in h s)) h);
        elems =
            with_lanes (first_conf code f h xs).home.opened (with_elems (length (rows xs)) (row_elem (rows xs)) (shared_elems h.locals))
            (own_elem (gang_width code.gang) h);
        sizes = with_lanes (first_conf code f h xs).home.opened (first_conf code f h xs).home.sizes (own_size (gang_width code.gang) h);
        before = s.memory;
        room = s.size;
        stack = stack_in h s;
      }

  -- Arrays that functions open lie from the address on that the host has set, after the texts and the arrays that it passes;
  -- and wherever the run comes to, all that are open leave a byte of the memory after them.
  pub record HasRoom (f : ℕ) (h : Routine) (s : State) : Type 0 where
    pub texts : length (module_with code forms).memory ≤ s.globals 17
    pub arrays : (b : ℕ) → b < length at → array_end code xs at b ≤ s.globals 17
    pub room : (m : ℕ) (c : Conf) → after code m (machine.Runs (first_conf code f h xs)) ≡ machine.Runs c → s.globals 17 + open_bytes code c < s.size

-- Of accepted code: a function that is exported and covered, with arguments that it takes; where no run can tell in which form an
-- instruction is written; and where it may open arrays, or one that it calls, with room for them.
abbrev pub KernelsAgree : Type 0
KernelsAgree =
    (code : Listing) (forms : Forms) → code_fault code ≡ None → (name : List ℕ) (xs : List Argument) (f : ℕ) (h : Routine) → IsEntry code name xs f h
    → is_covered code h ≡ true → AreHarmless code forms (first_conf code f h xs)
    → (at : List ℕ) (s : State) → IsLaidOut code forms xs at s → (uses_stack h ≡ true → HasRoom code forms xs at f h s)
    → SameOutcomes (in_call code forms xs at f h s) xs (λ n. called (code_in (module_with code forms)) n f (passed xs at) s)

-- An engine takes the functions of the module of accepted code, by the types of their operators and locals.
abbrev pub ModulesValid : Type 0
ModulesValid =
    (code : Listing) (forms : Forms) → code_fault code ≡ None
    → list_all (is_valid_function (module_with code forms).functions) (module_with code forms).functions ≡ true
