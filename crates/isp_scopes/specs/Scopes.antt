-- Which names are in scope at a place, by the tokens of the text before it, and which functions a text has.
--     variables_of ts     the variables in scope after the tokens ts
--     functions_of ts     the functions whose heads stand among them
-- A name is told by the number of the token that declares it. Nothing is parsed, so a text that is no program yet has names too.
use Rattle.std.specs.Prelude.{ℕ, ◌≢◌, ◌+◌, ◌-◌, ◌==◌, ◌&&◌, ◌||◌, not, nat_lt, nat_le, bytes_eq, Bool, true, false, if◌then◌else◌, List, [], ◌∷◌, ◌++◌, filter, map, reverse, slice_get, Option, Some, None}
use Rattle.std.specs.List.{AllPairs, list_any}
use Rattle.isp_lex.specs.Tokens.{starts_with}
use Rattle.isp_lex.specs.declared.token.Mark.TheVariants as mark
use Rattle.isp_lex.specs.declared.token.Token.{Token}
use Rattle.isp_lex.specs.declared.token.TokenKind.{TokenKind}
use Rattle.isp_lex.specs.declared.token.TokenKind.TheVariants as kind
use Rattle.isp_scopes.specs.Signs.{sign_of}
use Rattle.isp_scopes.specs.declared.sign.Sign.{Sign}
use Rattle.isp_scopes.specs.declared.sign.Sign.TheVariants.{Word, TypeWord, Foreach, If, Do, Body, Paren, Bracket, Close, Comma, Semicolon, BlockOpen, BlockClose}
use Rattle.isp_scopes.specs.declared.standing.Next.{Next}
use Rattle.isp_scopes.specs.declared.standing.Next.TheVariants.{Nothing, Heading, Name}
use Rattle.isp_scopes.specs.declared.standing.Standing.{Standing}
use Rattle.isp_scopes.specs.declared.scopes.Scoped.{Scoped}
use Rattle.isp_scopes.specs.declared.scopes.What.{What}
use Rattle.isp_scopes.specs.declared.scopes.What.TheVariants as what

-- ---- where one stands after some tokens: how many blocks are open, how many brackets of the statement, whether a word that
-- comes next is declared, and at how many open brackets a comma goes on with a declaration

abbrev pub start : Standing
start = record { depth = 0; brackets = 0; next = Nothing; commas = None }

abbrev pub is_name : Next → Bool
is_name Nothing = false
is_name Heading = false
is_name Name = true

-- a word is declared right after a type: `int a`. Outside all blocks and brackets that is the name of a function
abbrev pub declares : Sign → Standing → Bool
declares Word s = is_name s.next && not (s.depth == 0 && s.brackets == 0)
declares _ s = false

-- and right after the bracket of a `foreach`
abbrev pub after_paren : Next → Next
after_paren Nothing = Nothing
after_paren Heading = Name
after_paren Name = Nothing

-- and after a comma of the declaration, not of a call in it: `int a = f(x, y), b`
abbrev pub goes_on : ℕ → Option ℕ → Bool
goes_on n None = false
goes_on n (Some k) = k == n

-- a declaration in brackets ends with them
abbrev pub still : ℕ → Option ℕ → Option ℕ
still n None = None
still n (Some k) = if nat_le k n then Some k else None

abbrev pub moved : Sign → Standing → Standing
moved Word s = record s { next = Nothing; commas = if declares Word s then Some s.brackets else s.commas }
moved TypeWord s = record s { next = Name }
moved Foreach s = record s { next = Heading }
moved Paren s = record s { brackets = s.brackets + 1; next = after_paren s.next }
moved Bracket s = record s { brackets = s.brackets + 1; next = Nothing }
moved Close s = record s { brackets = s.brackets - 1; next = Nothing; commas = still (s.brackets - 1) s.commas }
moved Comma s = record s { next = if goes_on s.brackets s.commas then Name else Nothing }
moved Semicolon s = record s { next = Nothing; commas = None }
moved BlockOpen s = record { depth = s.depth + 1; brackets = 0; next = Nothing; commas = None }
moved BlockClose s = record { depth = s.depth - 1; brackets = 0; next = Nothing; commas = None }
moved _ s = record s { next = Nothing }

-- ---- what is in scope and what is open, the innermost first

-- in a block d deep a variable that it or one around it declares outlives the statement; one of a heading, or of a body without
-- a block, does not: `for (int i = 0; i < n; i++) int k = i;`
abbrev pub outlives : What → Bool
outlives what.OfBlock = true
outlives _ = false

abbrev pub stays : ℕ → Scoped → Bool
stays d v = nat_lt v.depth d || (v.depth == d && outlives v.what)

abbrev pub in_statement : ℕ → List Scoped → Bool
in_statement d [] = false
in_statement d (v ∷ vs) = not (stays d v)

-- what a token adds
abbrev pub added : Sign → Standing → List Scoped → Option What
added Word s vs = if declares Word s then Some (if s.brackets == 0 && not (in_statement s.depth vs) then what.OfBlock else what.OfStatement) else None
added Foreach s vs = Some what.Body
added If s vs = Some what.If
added Do s vs = Some what.Do
added Body s vs = Some what.Body
added _ s vs = None

-- a statement ends with `;` outside brackets, and with `}`
abbrev pub ends : Sign → Standing → Bool
ends Semicolon s = s.brackets == 0
ends BlockClose s = true
ends _ s = false

-- but the tokens after it go on with an `if` by `else`, and with a `do` by `while`
abbrev pub resumed : List Token → What → Bool
resumed ts what.If = starts_with mark.Else ts
resumed ts what.Do = starts_with mark.While ts
resumed ts _ = false

abbrev pub is_resumed : List Token → ℕ → List Scoped → Bool
is_resumed ts d [] = false
is_resumed ts d (v ∷ vs) = v.depth == d && resumed ts v.what

-- what is left where a statement has ended in a block d deep
abbrev pub left : List Token → ℕ → List Scoped → List Scoped
left ts d [] = []
left ts d (v ∷ vs) = if stays d v then v ∷ vs else (if v.depth == d && resumed ts v.what then vs else left ts d vs)

abbrev pub with_added : Option What → ℕ → ℕ → List Scoped → List Scoped
with_added None i d vs = vs
with_added (Some w) i d vs = record { token = i; depth = d; what = w } ∷ vs

-- after one more token, whose number is i, with the tokens ts after it
abbrev pub with_token : List Token → ℕ → Sign → Standing → List Scoped → List Scoped
with_token ts i g s vs = if ends g s then left ts (moved g s).depth vs else with_added (added g s vs) i s.depth vs

abbrev pub scan : ℕ → Standing → List Scoped → List Token → List Scoped
scan i s vs [] = vs
scan i s vs (t ∷ ts) = scan (i + 1) (moved (sign_of t.kind) s) (with_token ts i (sign_of t.kind) s vs) ts

-- ---- functions: a word between a type and `(`, wherever it stands

abbrev pub is_word : Sign → Bool
is_word Word = true
is_word _ = false

abbrev pub is_type : Sign → Bool
is_type TypeWord = true
is_type _ = false

-- the number of the first token is i, and `typed` says whether a type stands before it
abbrev pub heads : ℕ → Bool → List Token → List ℕ
heads i typed [] = []
heads i typed (t ∷ ts) = (if typed && (is_word (sign_of t.kind) && starts_with mark.ParenOpen ts) then i ∷ [] else []) ++ heads (i + 1) (is_type (sign_of t.kind)) ts

-- ---- names

abbrev pub name_of : TokenKind → List ℕ
name_of (kind.Word name) = name
name_of _ = []

-- the name that a token is, or no bytes
abbrev pub token_name : Option Token → List ℕ
token_name None = []
token_name (Some t) = name_of t.kind

abbrev pub name_at : List Token → ℕ → List ℕ
name_at ts i = token_name (slice_get ts i)

-- each name once: a later one is an inner one, and hides those before
abbrev pub is_hidden : List Token → ℕ → List ℕ → Bool
is_hidden ts i is = list_any (λ k. bytes_eq (name_at ts k) (name_at ts i)) is

abbrev pub each_once : List Token → List ℕ → List ℕ
each_once ts [] = []
each_once ts (i ∷ is) = (if is_hidden ts i is then [] else i ∷ []) ++ each_once ts is

-- no two have one name
abbrev pub AreApart : List Token → List ℕ → Type 0
AreApart ts is = AllPairs (λ i k. name_at ts i ≢ name_at ts k) is

-- ---- what is asked for

abbrev pub is_variable : What → Bool
is_variable what.OfBlock = true
is_variable what.OfStatement = true
is_variable _ = false

abbrev pub variables_of : List Token → List ℕ
variables_of ts = each_once ts (map (λ v. v.token) (filter (λ v. is_variable v.what) (reverse (scan 0 start [] ts))))

abbrev pub functions_of : List Token → List ℕ
functions_of ts = each_once ts (heads 0 false ts)
