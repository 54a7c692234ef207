-- How functions and programs are read.
use Rattle.std.specs.Prelude.{map, ℕ, zero, suc, List, [], ◌∷◌, length, drop, Bool, true, false, ◌&&◌, if◌then◌else◌, Option, Some, None, Result, Ok, Err}
use Rattle.isp_base.specs.Types.{span_to}
use Rattle.isp_base.specs.declared.types.Span.{Span}
use Rattle.isp_lex.specs.Tokens.{starts_with}
use Rattle.isp_lex.specs.declared.token.Mark.TheVariants as mark
use Rattle.isp_lex.specs.declared.token.TokenKind.{TokenKind}
use Rattle.isp_lex.specs.declared.token.TokenKind.TheVariants as kind
use Rattle.isp_lex.specs.declared.token.Token.{Token}
use Rattle.isp_grammar.specs.reader.Readers.{Reader, ◌>>=◌, refusal, mark_at, word_at, both, optional, listed_at}
use Rattle.isp_grammar.specs.reader.Choices.{signs_at}
use Rattle.isp_grammar.specs.reader.Stmts.{block_at}
use Rattle.isp_grammar.specs.reader.Types.{type_at}
use Rattle.isp_grammar.specs.Signs.{first_span}
use Rattle.isp_tree.specs.Tree.{TypeTree, Block, span_of_block, Param, Function}
use Rattle.isp_tree.specs.Views.{type_of, param_of}
use Rattle.isp_grammar.specs.declared.function.Heading as rust_heading
use Rattle.isp_grammar.specs.declared.stop.Refusal.{Refusal}
use Rattle.isp_grammar.specs.declared.stop.Why.TheVariants.{Unexpected}
use Rattle.isp_tree.specs.declared.function.Linkage.{Linkage}
use Rattle.isp_tree.specs.declared.function.Linkage.TheVariants.{Export, Static, Inline}
use Rattle.isp_tree.specs.declared.types.Word.{Word}

abbrev pub linkage_of : TokenKind → Option Linkage
linkage_of (kind.Word n) = None
linkage_of (kind.Number v) = None
linkage_of (kind.Text t) = None
linkage_of (kind.Mark mark.Export) = Some Export
linkage_of (kind.Mark mark.Static) = Some Static
linkage_of (kind.Mark mark.Inline) = Some Inline
linkage_of (kind.Mark _) = None
linkage_of kind.LeftOut = None

-- the word before a type that stands first
abbrev pub linkage_at : List Token → Option Linkage
linkage_at [] = None
linkage_at (t ∷ ts) = linkage_of t.kind

-- any number of words before a function's type: never refused
unfoldable pub linkages_at : Reader (List Linkage)
linkages_at ts = Ok (signs_at linkage_of ts)

-- ---- parameters

abbrev pub param_from : TypeTree → Word → Option Span → Param
param_from t w None = record { ty = t; word = w; is_array = false; span = span_to t.span w.span }
param_from t w (Some c) = record { ty = t; word = w; is_array = true; span = span_to t.span c }

unfoldable pub param_at : Reader Param
param_at ts = both type_at (both word_at (optional mark.BracketOpen (mark_at mark.BracketClose))) ts >>= λ p. Ok (param_from p.0.0 p.0.1.0 p.0.1.1, p.1)

-- `void` and a closing bracket
abbrev pub only_void : List Token → Bool
only_void ts = starts_with mark.Void ts && starts_with mark.ParenClose (drop 1 ts)

unfoldable pub params_at : Reader (List Param)
params_at ts = if only_void ts then Ok ([], drop 1 ts) else listed_at mark.ParenClose param_at ts

-- ---- functions

-- a function up to its body: its words, type, name and parameters
pub record Signature : Type 0 where
  pub linkages : List Linkage
  pub answer : TypeTree
  pub word : Word
  pub params : List Param

abbrev pub signature_of : rust_heading.Heading → Signature
signature_of h = record { linkages = h.linkages.items; answer = type_of h.result; word = h.word; params = map param_of h.params.items }

unfoldable pub signature_at : Reader Signature
signature_at ts = both linkages_at (both type_at (both word_at (both (mark_at mark.ParenOpen) (both params_at (mark_at mark.ParenClose))))) ts >>= λ p. Ok (record { linkages = p.0.0; answer = p.0.1.0; word = p.0.1.1.0; params = p.0.1.1.1.1.0 }, p.1)

abbrev pub function_from : Span → Signature → Block → Function
function_from s h b = record { linkages = h.linkages; answer = h.answer; word = h.word; params = h.params; body = b; span = span_to s (span_of_block b) }

-- a function with a body no deeper than the number
unfoldable pub function_at : ℕ → Reader Function
function_at n ts = both signature_at (block_at n) ts >>= λ p. Ok (function_from (first_span ts) p.0.0 p.0.1, p.1)

-- ---- programs

-- functions up to the end of the text
unfoldable pub functions_at : ℕ → ℕ → List Token → Result (List Function) Refusal
functions_at n zero ts = Err (refusal Unexpected ts)
functions_at n (suc f) [] = Ok []
functions_at n (suc f) (t ∷ ts) = function_at n (t ∷ ts) >>= λ x. (functions_at n f x.1 >>= λ xs. Ok (x.0 ∷ xs))

unfoldable pub program_at : ℕ → List Token → Result (List Function) Refusal
program_at n ts = functions_at n (suc (length ts)) ts
