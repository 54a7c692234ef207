-- The parts of a module, function by function.
use Rattle.std.specs.Prelude.{◌≡◌, ℕ, zero, suc, ◌+◌, ◌/◌, List, [], ◌∷◌, ◌++◌, map, Option, Some, None, true, false, slice_index_or}
use Rattle.isp_base.specs.Types.{gang_width}
use Rattle.isp_code.specs.Entries.{result_of}
use Rattle.isp_code.specs.Listing.{Listing}
use Rattle.isp_code.specs.declared.function.Returns.{Returns}
use Rattle.isp_forms.specs.Tables.{forms_in, lists_of}
use Rattle.isp_forms.specs.declared.form.Form.{Form}
use Rattle.isp_wasm_meaning.specs.Module.{I32, Module, ValueType, Function as WasmFunction, unused}
use Rattle.isp_wasm_meaning.specs.Syntax.{Code}
use Rattle.isp_wasm_binary.specs.Binary.{grouped, host_imports, results}
use Rattle.isp_wasm_binary.specs.Instructions.{code_bytes, word_bytes, Block_word, End_word}
use Rattle.isp_wasm_binary.specs.Modules.{Global, Sections, func_type, import_bytes, type_bytes, memory_bytes, global_bytes, export_bytes, group_bytes, body_bytes, piece_bytes, section}
use Rattle.isp_wasm_binary.specs.Numbers.{vector}
use Rattle.isp_wasm.specs.Entry.{entry_code}
use Rattle.isp_wasm.specs.Locals.{own_places}
use Rattle.isp_wasm.specs.Module.{given_type, back_type, type_of, module_with}
use Rattle.isp_wasm.specs.Places.{Setting}
use Rattle.isp_wasm.specs.Templates.{routine_code}
use Rattle.isp_wasm_write.specs.Settings.{Written, given_places, setting}
use Rattle.isp_wasm_module.specs.declared.source.Source.{Source}
use Rattle.isp_wasm_write.specs.declared.kernel.Caller.{Caller}
use Rattle.isp_wasm_write.specs.declared.kernel.Caller.TheVariants.{Host, Function}

-- the module, by the forms of the instructions of each function
abbrev pub made_of : Listing → List (List Form) → Module
made_of code lists = module_with code (forms_in lists)

-- function number f of the module
abbrev pub function_at : Listing → List (List Form) → ℕ → WasmFunction
function_at code lists f = slice_index_or (made_of code lists).functions f unused

-- the same of what is written
abbrev pub module_for : Source → Module
module_for s = made_of s.code.now (lists_of s.forms.now)

abbrev pub function_for : Source → ℕ → WasmFunction
function_for s f = function_at s.code.now (lists_of s.forms.now) f

-- the locals of a function and its code
abbrev pub inner_of : WasmFunction → List ℕ
inner_of f = vector group_bytes (grouped f.locals) ++ (code_bytes f.code ++ word_bytes End_word)

-- so many blocks begin
abbrev pub opened : ℕ → List ℕ
opened zero = []
opened (suc n) = word_bytes Block_word ++ opened n

-- each ends, and its rung follows
abbrev pub closed : (ℕ → Code) → ℕ → List ℕ
closed rung zero = []
closed rung (suc k) = closed rung k ++ (word_bytes End_word ++ code_bytes (rung k))

-- ---- functions, by who calls them

abbrev pub code_for : Caller → Setting → Code
code_for Host w = entry_code w
code_for Function w = routine_code w

abbrev pub name_for : Caller → List ℕ → Option (List ℕ)
name_for Host name = Some name
name_for Function name = None

abbrev pub result_for : Caller → Returns → Option ValueType
result_for Host r = given_type (result_of r)
result_for Function r = back_type r

abbrev pub written_of : Written → WasmFunction
written_of k =
    record {
      export = name_for k.caller k.routine.name;
      params = map (type_of k.code k.routine) (given_places k.caller (gang_width k.code.gang) k.routine);
      result = result_for k.caller k.routine.returns;
      locals = map (type_of k.code k.routine) (own_places (gang_width k.code.gang) k.routine);
      code = code_for k.caller (setting k);
    }

-- function number f is one that is written
pub record IsWritten (code : Listing) (lists : List (List Form)) (f : ℕ) (k : Written) : Type 0 where
  pub is : function_at code lists f ≡ written_of k

-- ---- sections, some at a time

-- after which bytes the memory is free; the parts of a vector; where arrays may lie
abbrev pub globals_of : ℕ → List Global
globals_of n = record { type = I32; changes = false; first = n } ∷ (results 16 ++ record { type = I32; changes = true; first = n } ∷ [])

abbrev pub signature_sections : Sections → List ℕ
signature_sections m = section 1 (vector func_type m.types) ++ (section 2 (vector import_bytes host_imports) ++ section 3 (vector type_bytes m.functions))

abbrev pub memory_sections : ℕ → List ℕ
memory_sections n = section 5 (vector memory_bytes ((n / 65536 + 1) ∷ [])) ++ section 6 (vector global_bytes (globals_of n))

abbrev pub content_sections : Sections → List ℕ
content_sections m = section 7 (vector export_bytes m.exports) ++ (section 10 (vector body_bytes m.functions) ++ section 11 (vector piece_bytes m.pieces))
