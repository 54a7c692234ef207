-- A program in which something has another name, as a typed tree and as tokens. A typed tree has the names of its functions and of
-- their parameters.
use Rattle.std.specs.Prelude.{ℕ, suc, ◌==◌, ◌&&◌, Bool, false, List, [], ◌∷◌, map, if◌then◌else◌}
use Rattle.std.specs.List.{list_any}
use Rattle.isp_base.specs.declared.signature.Parameter.{Parameter}
use Rattle.isp_lex.specs.declared.token.Token.{Token}
use Rattle.isp_lex.specs.declared.token.TokenKind.{TokenKind}
use Rattle.isp_lex.specs.declared.token.TokenKind.TheVariants as kind
use Rattle.isp_typed.specs.Typed.{TFunction, Program}
use Rattle.isp_known.specs.declared.note.Subject.{Subject}
use Rattle.isp_known.specs.declared.note.Subject.TheVariants.{Variable, Function}

-- whether x is function f, and whether it is variable k of that
abbrev pub is_function : Subject → ℕ → Bool
is_function (Function g) f = g == f
is_function (Variable g k) f = false

abbrev pub is_variable : Subject → ℕ → ℕ → Bool
is_variable (Function g) f k = false
is_variable (Variable g j) f k = (g == f) && (j == k)

-- the parameters from number k on
abbrev pub params_renamed : Subject → List ℕ → ℕ → ℕ → List Parameter → List Parameter
params_renamed x name f k [] = []
params_renamed x name f k (p ∷ ps) = record p { name = if is_variable x f k then name else p.name } ∷ params_renamed x name f (suc k) ps

abbrev pub function_renamed : Subject → List ℕ → ℕ → TFunction → TFunction
function_renamed x name f g = record g { name = if is_function x f then name else g.name; parameters = params_renamed x name f 0 g.parameters }

-- the functions from number f on
abbrev pub functions_renamed : Subject → List ℕ → ℕ → List TFunction → List TFunction
functions_renamed x name f [] = []
functions_renamed x name f (g ∷ gs) = function_renamed x name f g ∷ functions_renamed x name (suc f) gs

abbrev pub program_renamed : Subject → List ℕ → Program → Program
program_renamed x name p = record p { functions = functions_renamed x name 0 p.functions }

-- ---- tokens

-- what a token is where those that begin at some bytes have another name
abbrev pub renamed_kind : List ℕ → List ℕ → Token → TokenKind
renamed_kind starts name t = if list_any (λ start. start == t.span.start) starts then kind.Word name else t.kind

abbrev pub kinds : List Token → List TokenKind
kinds ts = map (λ t. t.kind) ts
