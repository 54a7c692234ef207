-- What a source text is, and why one is refused: the rules of the lexer, the parser, names and types, rates and exits, one
-- after the other.
use Rattle.std.specs.Prelude.{◌≡◌, ◌⊎◌, ℕ, ◌≤◌, List, [], length, Some}
use Rattle.isp_base.specs.declared.types.Gang.{Gang}
use Rattle.isp_lex.specs.Lexing.{Lexes, IsRefused, limit as longest_text}
use Rattle.isp_lex.specs.Tokens.{TokenList}
use Rattle.isp_lex.specs.declared.fault.Fault.{Fault}
use Rattle.isp_lex.specs.declared.fault.SourceFault.TheVariants.{Refused}
use Rattle.isp_tree.specs.Depth.{depth_of_functions}
use Rattle.isp_tree.specs.Tree.{Function as Read}
use Rattle.isp_grammar.specs.Grammar.{IsProgram as IsTree}
use Rattle.isp_syntax.specs.Promise.{Refuses as TreeRefuses}
use Rattle.isp_tree.specs.Depth.{limit as deepest_tree}
use Rattle.isp_typed.specs.Promise.{Accepts, Refuses}
use Rattle.isp_typed.specs.Typed.{Program}
use Rattle.isp_types.specs.Functions.{IsProgram, Breach}
use Rattle.isp_rates.specs.Breaches.{Least}
use Rattle.isp_rates.specs.Program.{ProgramBreach}

pub record HasTokens (text : List ℕ) (tokens : TokenList) : Type 0 where
  pub lexes : Lexes 0 text tokens.items []
  pub end : tokens.end ≡ length text
  pub short : length text ≤ longest_text

pub record HasTree (text : List ℕ) (tree : List Read) : Type 0 where
  pub tokens : TokenList
  pub has : HasTokens text tokens
  pub is : IsTree tokens.items tree
  pub shallow : depth_of_functions tree ≤ deepest_tree

-- the tree is that program by the rules of names and types, and breaks no other rule
pub record IsChecked (gang : Gang) (tree : List Read) (program : Program) : Type 0 where
  pub typed : Accepts (IsProgram gang tree) (Breach gang tree) program
  pub sound : (f : Fault) → ProgramBreach program f → ⊥

-- the text is the source of a program
pub record IsSource (gang : Gang) (text : List ℕ) (program : Program) : Type 0 where
  pub tree : List Read
  pub has : HasTree text tree
  pub checked : IsChecked gang tree program

-- the text has no tree, for a fault of its tokens, else of its grammar
abbrev pub IsUnread : List ℕ → Fault → Type 0
IsUnread text f = IsRefused (Refused f) text ⊎ ((tokens : TokenList) × HasTokens text tokens × TreeRefuses (Refused f) tokens)

-- the tree is no program, for a fault of names or types; else it is, and has a fault of rates or exits
abbrev pub IsUnsound : Gang → List Read → Fault → Type 0
IsUnsound gang tree f =
    Refuses (IsProgram gang tree) (Breach gang tree) f ⊎ ((program : Program) × Accepts (IsProgram gang tree) (Breach gang tree) program × Least (Some f) (ProgramBreach program))

-- the text is refused for a fault
abbrev pub IsFaulty : Gang → List ℕ → Fault → Type 0
IsFaulty gang text f = IsUnread text f ⊎ ((tree : List Read) × HasTree text tree × IsUnsound gang tree f)
