-- What is answered to a request for completions at a place of a document: the variables in scope there, the functions of the text, and
-- those of the library.
--     {"kind": 6, "label": "n"}                                                                 a variable
--     {"kind": 3, "label": "f"}                                                                 a function
--     {"detail": "uniform T reduce_min(varying T x)", "kind": 3, "label": "reduce_min"}         one of the library
use Rattle.std.specs.Prelude.{◌≡◌, ◌≤◌, ℕ, List, [], ◌++◌, codes, length, map, take, Option, Some, None}
use Rattle.serde_json.specs.Data.{Data, null, number, unsigned, string, array, object, no_items, no_members, member}
use Rattle.isp_lex.specs.Lexing.{IsRefused, Lexes, limit}
use Rattle.isp_lex.specs.declared.fault.Fault.{Fault}
use Rattle.isp_lex.specs.declared.fault.SourceFault.TheVariants.{Refused}
use Rattle.isp_lex.specs.declared.token.Token.{Token}
use Rattle.isp_positions.specs.Positions.{offset_of}
use Rattle.isp_scopes.specs.Scopes.{functions_of, name_at, variables_of}
use Rattle.isp_server.specs.Deeds.{Place}
use Rattle.isp_server.specs.Library.{signatures}
use Rattle.isp_server.specs.Told.{items_of}

abbrev pub name_item : ℕ → List ℕ → Data
name_item kind name = object (member (codes "kind") (number (unsigned kind)) (member (codes "label") (string name) no_members))

abbrev pub library_item : List ℕ × List ℕ → Data
library_item s = object (member (codes "detail") (string s.1) (member (codes "kind") (number (unsigned 3)) (member (codes "label") (string s.0) no_members)))

-- the names that the tokens of these numbers are
abbrev pub name_items : ℕ → List Token → List ℕ → List Data
name_items kind tokens found = map (λ i. name_item kind (name_at tokens i)) found

-- variables by the tokens before the place, functions by those of the whole text
abbrev pub completions : List Token → List Token → List Data
completions before all = name_items 6 before (variables_of before) ++ (name_items 3 all (functions_of all) ++ map library_item signatures)

-- Of a text that has no tokens, as while a comment is not closed after the place, functions are told by the tokens before the place.
pub data CompletesBehind (before : List Token) (text : List ℕ) (d : Data) : Type 0 where
  by_all : (all : List Token) → Lexes 0 text all [] → length text ≤ limit → d ≡ array (items_of (completions before all)) → CompletesBehind before text d
  by_before : (fault : Fault) → IsRefused (Refused fault) text → d ≡ array (items_of (completions before before)) → CompletesBehind before text d

-- At byte `at`: nothing within a comment or a text in quotes, where the text before the place has no tokens.
pub data TextCompletes (text : List ℕ) (at : ℕ) (d : Data) : Type 0 where
  behind : (before : List Token) → Lexes 0 (take at text) before [] → CompletesBehind before text d → TextCompletes text at d
  nothing : (fault : Fault) → IsRefused (Refused fault) (take at text) → d ≡ array no_items → TextCompletes text at d

-- of a document that is not open nothing is known
abbrev pub Completes : Option (List ℕ) → Place → Data → Type 0
Completes None at d = d ≡ null
Completes (Some text) at d = TextCompletes text (offset_of text at.line at.character) d
