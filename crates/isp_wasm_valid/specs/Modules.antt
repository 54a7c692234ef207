-- Which modules are valid: chapter 3.4 of the core specification of WebAssembly 2.0.
--     IsValidBody     the code of a function
--     IsValidModule   all sections of a module, which is what an engine asks before it takes its bytes
--     ModulesValid    that of the module that accepted code is, with its instructions in any forms
use Rattle.std.specs.Prelude.{◌≡◌, ℕ, zero, suc, ◌^◌, ◌<◌, ◌≤◌, List, [], ◌∷◌, ◌++◌, length, map, None, Some, slice_get, slice_index_or}
use Rattle.isp_code.specs.Listing.{Listing}
use Rattle.isp_code.specs.Writable.{IsWritable}
use Rattle.isp_verify.specs.Faults.{code_fault}
use Rattle.isp_forms.specs.Runs.{Forms}
use Rattle.isp_wasm_meaning.specs.Module.{ValueType}
use Rattle.isp_wasm.specs.Module.{module_with}
use Rattle.isp_wasm_binary.specs.Binary.{sections_of}
use Rattle.isp_wasm_binary.specs.Modules.{FuncType, Import, Group, Body, Export, Kind, FunctionKind, MemoryKind, GlobalKind, Sections}
use Rattle.isp_wasm_binary.specs.Same.{code_words}
use Rattle.isp_wasm_valid.specs.Typing.{Context, AreTyped, onto}

-- 2.5.2 the type of this number; 3.4.1, 3.4.9 no function has the number of none
abbrev pub no_type : FuncType
no_type = record { params = []; results = [] }

abbrev pub type_in : Sections → ℕ → FuncType
type_in m k = slice_index_or m.types k no_type

-- 2.5.1 the functions, by the numbers that calls and exports have: the host's first
abbrev pub type_numbers : Sections → List ℕ
type_numbers m = map (λ (i : Import). i.type) m.imports ++ map (λ (b : Body). b.type) m.functions

-- a local of each of a group, group by group
abbrev pub times : ℕ → ValueType → List ValueType → List ValueType
times zero t ts = ts
times (suc n) t ts = t ∷ times n t ts

abbrev pub each_local : List Group → List ValueType
each_local [] = []
each_local (g ∷ gs) = times g.count g.type (each_local gs)

-- 3.4.1 The parameters are the first locals. A branch out of the function gives what it gives back, and so does its end.
abbrev pub context_in : Sections → Body → Context
context_in m b =
    record {
      functions = map (type_in m) (type_numbers m);
      globals = m.globals;
      locals = (type_in m b.type).params ++ each_local b.locals;
      back = (type_in m b.type).results;
    }

abbrev pub IsValidBody : Sections → Body → Type 0
IsValidBody m b = AreTyped (context_in m b) ((type_in m b.type).results ∷ []) (code_words b.code) [] (onto (type_in m b.type).results [])

-- 2.5.1 how many there are of a kind
abbrev pub count_of : Sections → Kind → ℕ
count_of m FunctionKind = length (type_numbers m)
count_of m MemoryKind = 1
count_of m GlobalKind = length m.globals

-- A global's first value and the address of data are constants of their types by their form, so 3.4.4 and 3.4.6 ask no more of them.
pub record IsValidModule (m : Sections) : Type 0 where
  -- 3.4.1, 3.4.9 The types of functions are there,
  pub types : (k t : ℕ) → slice_get (type_numbers m) k ≡ Some t → t < length m.types
  -- and their code is valid.
  pub bodies : (k : ℕ) (b : Body) → slice_get m.functions k ≡ Some b → IsValidBody m b
  -- 3.2.5 The memory has at most 2^16 pages.
  pub pages : m.pages ≤ 2 ^ 16
  -- 3.4.8 What is exported is there,
  pub exports : (k : ℕ) (e : Export) → slice_get m.exports k ≡ Some e → e.index < count_of m e.kind
  -- 3.4.10 and no name twice.
  pub names : (j k : ℕ) (e f : Export) → slice_get m.exports j ≡ Some e → slice_get m.exports k ≡ Some f → e.name ≡ f.name → j ≡ k

-- of code in which the verifier finds no fault, which has a text, and whose texts have fewer than 2^32 bytes, as where a function is covered
abbrev pub ModulesValid : Type 0
ModulesValid =
    (code : Listing) (forms : Forms) → code_fault code ≡ None → IsWritable code → length (module_with code forms).memory < 2 ^ 32 → IsValidModule (sections_of (module_with code forms))
