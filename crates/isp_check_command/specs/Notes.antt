-- What `ispx check` says of a text without a fault: a line for each exported function, and then a message for each hint.
use Rattle.std.specs.Prelude.{◌≡◌, ℕ, List, ◌++◌}
use Rattle.isp_check_command.specs.Pages.{ExportMessage, HintMessage, PageOf, exported}
use Rattle.isp_code.specs.Listing.{Listing}
use Rattle.isp_front.specs.Front.{IsSource}
use Rattle.isp_hints.specs.Hints.{AreHints}
use Rattle.isp_hints.specs.declared.hint.Hint.{Hint}
use Rattle.isp_runs.specs.Compilation.{IsCompilation}
use Rattle.isp_typed.specs.Typed.{Program}
use Rattle.ispx_command_line.specs.declared.words.CheckRequest.{CheckRequest}

-- the hints are those of its program, by the code that it is compiled to
pub record IsNotes (q : CheckRequest) (text page : List ℕ) : Type 0 where
  pub program : Program
  pub source : IsSource q.gang text program
  pub code : Listing
  pub compiled : IsCompilation q.gang text code
  pub hints : List Hint
  pub are_hints : AreHints code program hints
  pub lines : List ℕ
  pub are_lines : PageOf (ExportMessage q text program) (exported program) lines
  pub slow : List ℕ
  pub is_slow : PageOf (HintMessage q text) hints slow
  pub page_is : page ≡ lines ++ slow
