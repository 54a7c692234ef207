-- The file of a module: 5.5.3 custom sections of the core specification of WebAssembly 2.0.
--     IsModule    the bytes of a module of code
--     IsFile      those of a file: a module, and then the section with the code's text
use Rattle.std.specs.Prelude.{◌≡◌, ℕ, List, ◌++◌, codes}
use Rattle.isp_asm.specs.Spelling.{text_of}
use Rattle.isp_code.specs.Listing.{Listing}
use Rattle.isp_forms.specs.Runs.{Forms}
use Rattle.isp_lanes_forms.specs.Begins.{BeginHarmless}
use Rattle.isp_wasm.specs.Module.{module_with}
use Rattle.isp_wasm_binary.specs.Binary.{bytes_of}
use Rattle.isp_wasm_binary.specs.Modules.{section}
use Rattle.isp_wasm_binary.specs.Numbers.{bytes}

-- section 0: its name, and the text of the code
abbrev pub text_section : Listing → List ℕ
text_section code = section 0 (bytes (codes "isp") ++ text_of code)

-- bytes are the module of code, each instruction in a form that no run can tell
pub record IsModule (code : Listing) (made : List ℕ) : Type 0 where
  pub forms : Forms
  pub harmless : BeginHarmless code forms
  pub bytes_are : made ≡ bytes_of (module_with code forms)

-- that, and then the text
pub record IsFile (code : Listing) (file : List ℕ) : Type 0 where
  pub made : List ℕ
  pub is_module : IsModule code made
  pub bytes_are : file ≡ made ++ text_section code
