-- What is known of a source text: its program, its tokens, and the notes of the program, each name with its place.
use Rattle.std.specs.Prelude.{◌≡◌, ℕ, List, map}
use Rattle.isp_base.specs.declared.types.Gang.{Gang}
use Rattle.isp_lex.specs.Tokens.{TokenList}
use Rattle.isp_typed.specs.Typed.{Program}
use Rattle.isp_front.specs.Front.{HasTokens, IsSource}
use Rattle.isp_known.specs.declared.note.Note.{Note}
use Rattle.isp_known.specs.Notes.{program_notes}
use Rattle.isp_known.specs.Placed.{placed}

pub record IsKnown (gang : Gang) (text : List ℕ) (program : Program) (tokens : TokenList) (notes : List Note) : Type 0 where
  pub source : IsSource gang text program
  pub has : HasTokens text tokens
  pub noted : notes ≡ map (placed tokens.items) (program_notes program)
