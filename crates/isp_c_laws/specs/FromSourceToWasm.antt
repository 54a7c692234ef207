-- From source to a module of WebAssembly: what `isp_wasm` makes of the code text that `isp_compile` wrote.
use Rattle.std.specs.Prelude.{ℕ, List, take}
use Rattle.isp_base.specs.Types.{gang_width}
use Rattle.isp_base.specs.declared.types.Gang.{Gang}
use Rattle.isp_code.specs.Listing.{Listing}
use Rattle.isp_reports.specs.declared.report.Report.{Report}
use Rattle.isp_runs.specs.Compilation.{IsCompilation}
use Rattle.isp_wasm_file.specs.File.{IsFile}
use Rattle.isp_headline.specs.ModuleHeadline.{IsModuleFaithful}
use Rattle.isp_c_laws.specs.Compiling.{Compiles}
use Rattle.isp_c_laws.specs.Modules.{MakesModule}

-- A source is compiled for a gang, and the first bytes of the room, as many as the report says, are code text. Then the file that stands at the
-- front of the second room is that of a module of code which the source is compiled to, by forms that no run can tell, and a call in a module by such forms
-- does what the source means.
abbrev pub FromSourceToWasm : Type 0
FromSourceToWasm =
    (gang : Gang) (source room text : List ℕ) (first : Report)
    → Compiles (gang_width gang) source room text first 0
    → (old new : List ℕ) (r : Report)
    → MakesModule (take first.used text) old new r 0
    → (code : Listing) × IsCompilation gang source code × IsFile code (take r.used new) × IsModuleFaithful gang source code
