-- The grammar: which tokens are which tree. One constructor a production, which stands above it. Signs and reserved
-- words stand in quotes, `{ }` is repetition, `[ ]` is optional.
use Rattle.std.specs.Prelude.{◌≡◌, ℕ, zero, suc, ◌≤◌, List, [], ◌∷◌, ◌++◌, length, Bool, true, false, Option, Some, None}
use Rattle.isp_base.specs.Types.{span_to}
use Rattle.isp_base.specs.declared.types.Span.{Span}
use Rattle.isp_base.specs.declared.types.Value.{Value}
use Rattle.isp_lex.specs.Tokens.{at}
use Rattle.isp_lex.specs.declared.token.Mark.TheVariants as mark
use Rattle.isp_lex.specs.declared.token.Token.{Token}
use Rattle.isp_grammar.specs.Signs.{word, preposition, numeral, textual, qualifier_mark, base_mark, truth_mark, prefix_mark, sign, level, joined_level, loosest, assignment_mark}
use Rattle.isp_grammar.specs.Signs.{change_mark, if_mark, while_mark, do_mark, for_mark, foreach_mark, jump_mark, linkage_mark, first_span, spread}
use Rattle.isp_tree.specs.Tree.{TypeTree, has_sign, Expr, number, truth, program_index, program_count, place, call, brackets, cast, prefix, binary, choose, Place, variable, element, Argument, by_value, by_reference, listed, span_of, span_of_place}
use Rattle.isp_tree.specs.Tree.{Item, plain, with_value, with_size, span_of_item, Declaration, Simple, value, assign, change, span_of_simple, First, first_declare, first_simple, Range}
use Rattle.isp_tree.specs.Tree.{Stmt, block, empty, declare, simple, if_then, if_else, loop_while, loop_do, loop_for, foreach, foreach_active, foreach_unique, unmasked}
use Rattle.isp_tree.specs.Tree.{jump, returning, print, assert, Block, braces, all, span_of_block, span_of_stmt, Param, Function}
use Rattle.isp_tree.specs.declared.types.Word.{Word}
use Rattle.isp_tree.specs.declared.types.Qualifier.{Qualifier}
use Rattle.isp_tree.specs.declared.types.Base.{Base}
use Rattle.isp_tree.specs.declared.expr.Prefix.{Prefix}
use Rattle.isp_tree.specs.declared.expr.Operator.{Operator}
use Rattle.isp_tree.specs.declared.stmt.Size.{Size}
use Rattle.isp_tree.specs.declared.stmt.Size.TheVariants as size
use Rattle.isp_tree.specs.declared.stmt.Assignment.{Assignment}
use Rattle.isp_tree.specs.declared.stmt.Change.{Change}
use Rattle.isp_tree.specs.declared.stmt.Form.{Form}
use Rattle.isp_tree.specs.declared.stmt.Tiling.{Tiling}
use Rattle.isp_tree.specs.declared.stmt.Jump.{Jump}
use Rattle.isp_tree.specs.declared.function.Linkage.{Linkage}

-- ---- repetition

-- what may be left out
abbrev pub IsMaybe : {A : Type 0} → (List Token → A → Type 0) → List Token → Option A → Type 0
IsMaybe is ts None = ts ≡ []
IsMaybe is ts (Some x) = is ts x

-- any number, one after another
abbrev pub AreAll : {A : Type 0} → (List Token → A → Type 0) → List Token → List A → Type 0
AreAll is ts [] = ts ≡ []
AreAll is ts (x ∷ xs) = (a : List Token) × (b : List Token) × (ts ≡ a ++ b) × is a x × AreAll is b xs

-- one or more, with commas between them
abbrev pub AreListed : {A : Type 0} → (List Token → A → Type 0) → List Token → List A → Type 0
AreListed is ts [] = ⊥
AreListed is ts (x ∷ []) = is ts x
AreListed is ts (x ∷ y ∷ ys) = (a : List Token) × (s : Span) × (b : List Token) × (ts ≡ a ++ at mark.Comma s ∷ b) × is a x × AreListed is b (y ∷ ys)

-- any number, each after a comma
abbrev pub AreBehindCommas : {A : Type 0} → (List Token → A → Type 0) → List Token → List A → Type 0
AreBehindCommas is = AreAll (λ ts x. (s : Span) × (a : List Token) × (ts ≡ at mark.Comma s ∷ a) × is a x)

-- ---- types

-- a qualifier: "const" | "uniform" | "varying" | "signed" | "unsigned"
pub data IsQualifier : List Token → Qualifier → Type 0 where
  is_qualifier : (qualifier : Qualifier) (place : Span) → IsQualifier (at (qualifier_mark qualifier) place ∷ []) qualifier

-- type = { qualifier } [ base ], without a base only where `signed` or `unsigned` stands
pub data IsType : List Token → TypeTree → Type 0 where
  -- { qualifier } base
  is_based : (base : Base) (place : Span) (words : List Token) (qualifiers : List Qualifier)
      → AreAll IsQualifier words qualifiers
      → IsType
      (words ++ at (base_mark base) place ∷ [])
      (record { qualifiers = qualifiers; base = Some base; span = spread (words ++ at (base_mark base) place ∷ []) })
  -- { qualifier }
  is_signed : (words : List Token) (qualifiers : List Qualifier)
      → AreAll IsQualifier words qualifiers → has_sign qualifiers ≡ true
      → IsType words (record { qualifiers = qualifiers; base = None; span = spread words })

-- ---- expressions

mutual
  -- WORD | WORD "[" expr "]"
  pub data IsPlace : List Token → Place → Type 0 where
    -- WORD
    is_variable : (name : Word) → IsPlace (word name ∷ []) (variable name)
    -- WORD "[" expr "]"
    is_element : (array : Word) (opening closing : Span) (inside : List Token) (index : Expr)
        → IsExpr loosest inside index
        → IsPlace
        (word array ∷ at mark.BracketOpen opening ∷ (inside ++ at mark.BracketClose closing ∷ []))
        (element array index (span_to array.span closing))

  -- An expression of level 0 is an operand with the operators before it. One of a level above may be joined by
  -- operators of its level, which take one of their own level on the left and one of a tighter level on the right.
  pub data IsExpr : ℕ → List Token → Expr → Type 0 where
    -- NUMBER
    is_number : (value : Value) (place : Span) → IsExpr zero (numeral value place ∷ []) (number value place)
    -- "true" | "false"
    is_truth : (value : Bool) (place : Span) → IsExpr zero (at (truth_mark value) place ∷ []) (truth value place)
    -- "programIndex"
    is_program_index : (place : Span) → IsExpr zero (at mark.ProgramIndex place ∷ []) (program_index place)
    -- "programCount"
    is_program_count : (place : Span) → IsExpr zero (at mark.ProgramCount place ∷ []) (program_count place)
    -- WORD | WORD "[" expr "]"
    is_place : (tokens : List Token) (inside : Place) → IsPlace tokens inside → IsExpr zero tokens (place inside)
    -- WORD "(" [ arg { "," arg } ] ")"
    is_call : (function : Word) (opening closing : Span) (inside : List Token) (arguments : List Argument)
        → IsArguments inside arguments
        → IsExpr zero
        (word function ∷ at mark.ParenOpen opening ∷ (inside ++ at mark.ParenClose closing ∷ []))
        (call function (listed arguments) (span_to function.span closing))
    -- "(" expr ")"
    is_brackets : (opening closing : Span) (tokens : List Token) (inside : Expr)
        → IsExpr loosest tokens inside
        → IsExpr zero
        (at mark.ParenOpen opening ∷ (tokens ++ at mark.ParenClose closing ∷ []))
        (brackets inside (span_to opening closing))
    -- "(" type ")" unary
    is_cast : (opening closing : Span) (words rest : List Token) (ty : TypeTree) (operand : Expr)
        → IsType words ty → IsExpr zero rest operand
        → IsExpr zero
        (at mark.ParenOpen opening ∷ (words ++ at mark.ParenClose closing ∷ rest))
        (cast ty operand (span_to opening (span_of operand)))
    -- ("-" | "~" | "!") unary
    is_prefix : (operator : Prefix) (place : Span) (rest : List Token) (operand : Expr)
        → IsExpr zero rest operand
        → IsExpr zero
        (at (prefix_mark operator) place ∷ rest)
        (prefix operator operand (span_to place (span_of operand)))
    -- what binds tighter
    is_tighter : (below : ℕ) (tokens : List Token) (inside : Expr) → IsExpr below tokens inside → IsExpr (suc below) tokens inside
    -- two operands, and an operator of the level between them
    is_binary : (below : ℕ) (front back : List Token) (left : Expr) (operator : Operator) (place : Span) (right : Expr)
        → level operator ≡ suc below → IsExpr (suc below) front left → IsExpr below back right
        → IsExpr (suc below)
        (front ++ at (sign operator) place ∷ back)
        (binary operator left right (span_to (span_of left) (span_of right)))
    -- binary "?" expr ":" expr
    is_choose : (question colon : Span) (front middle back : List Token) (test first second : Expr)
        → IsExpr joined_level front test → IsExpr loosest middle first → IsExpr loosest back second
        → IsExpr loosest
        (front ++ at mark.Question question ∷ (middle ++ at mark.Colon colon ∷ back))
        (choose test first second (span_to (span_of test) (span_of second)))

  -- arg = expr | "&" WORD [ "[" expr "]" ]
  pub data IsArgument : List Token → Argument → Type 0 where
    is_value_argument : (tokens : List Token) (inside : Expr) → IsExpr loosest tokens inside → IsArgument tokens (by_value inside)
    is_reference : (ampersand : Span) (rest : List Token) (target : Place)
        → IsPlace rest target
        → IsArgument (at mark.And ampersand ∷ rest) (by_reference target (span_to ampersand (span_of_place target)))

  -- [ arg { "," arg } ]
  pub data IsArguments : List Token → List Argument → Type 0 where
    is_no_argument : IsArguments [] []
    is_some_arguments : (tokens : List Token) (arguments : List Argument) → IsArgumentList tokens arguments → IsArguments tokens arguments

  -- arg { "," arg }
  pub data IsArgumentList : List Token → List Argument → Type 0 where
    is_last_argument : (tokens : List Token) (last : Argument) → IsArgument tokens last → IsArgumentList tokens (last ∷ [])
    is_more_arguments : (front back : List Token) (comma : Span) (first : Argument) (more : List Argument)
        → IsArgument front first → IsArgumentList back more
        → IsArgumentList (front ++ at mark.Comma comma ∷ back) (first ∷ more)

-- ---- declarations, and what stands before a semicolon

-- NUMBER | "programCount"
pub data IsSize : List Token → Size → Type 0 where
  is_number_size : (value : Value) (place : Span) → IsSize (numeral value place ∷ []) (size.Number value place)
  is_count_size : (place : Span) → IsSize (at mark.ProgramCount place ∷ []) (size.ProgramCount place)

-- item = WORD [ "=" expr | "[" (NUMBER | "programCount") "]" ]
pub data IsItem : List Token → Item → Type 0 where
  -- WORD
  is_plain : (name : Word) → IsItem (word name ∷ []) (plain name)
  -- WORD "=" expr
  is_with_value : (name : Word) (equals : Span) (rest : List Token) (initial : Expr)
      → IsExpr loosest rest initial
      → IsItem
      (word name ∷ at mark.Assign equals ∷ rest)
      (with_value name initial (span_to name.span (span_of initial)))
  -- WORD "[" (NUMBER | "programCount") "]"
  is_with_size : (name : Word) (opening closing : Span) (inside : List Token) (size : Size)
      → IsSize inside size
      → IsItem
      (word name ∷ at mark.BracketOpen opening ∷ (inside ++ at mark.BracketClose closing ∷ []))
      (with_size name size (span_to name.span closing))

-- where the last item ends
abbrev pub span_of_last : List Item → Span
span_of_last [] = record { start = 0; end = 0 }
span_of_last (i ∷ []) = span_of_item i
span_of_last (i ∷ j ∷ js) = span_of_last (j ∷ js)

-- decl = type item { "," item }
pub data IsDeclaration : List Token → Declaration → Type 0 where
  is_declaration : (words rest : List Token) (ty : TypeTree) (items : List Item)
      → IsType words ty → AreListed IsItem rest items
      → IsDeclaration (words ++ rest) (record { ty = ty; items = items; span = span_to ty.span (span_of_last items) })

-- simple = expr [ assign expr | "++" | "--" ] | ("++" | "--") unary
pub data IsSimple : List Token → Simple → Type 0 where
  -- expr
  is_value : (tokens : List Token) (inside : Expr) → IsExpr loosest tokens inside → IsSimple tokens (value inside)
  -- expr assign expr
  is_assign : (operator : Assignment) (place : Span) (front back : List Token) (target source : Expr)
      → IsExpr loosest front target → IsExpr loosest back source
      → IsSimple
      (front ++ at (assignment_mark operator) place ∷ back)
      (assign operator target source (span_to (span_of target) (span_of source)))
  -- expr ("++" | "--")
  is_change_after : (step : Change) (place : Span) (front : List Token) (target : Expr)
      → IsExpr loosest front target
      → IsSimple (front ++ at (change_mark step) place ∷ []) (change step target (span_to (span_of target) place))
  -- ("++" | "--") unary
  is_change_before : (step : Change) (place : Span) (back : List Token) (target : Expr)
      → IsExpr zero back target
      → IsSimple (at (change_mark step) place ∷ back) (change step target (span_to place (span_of target)))

-- decl | simple
pub data IsFirst : List Token → First → Type 0 where
  is_first_declare : (tokens : List Token) (inside : Declaration) → IsDeclaration tokens inside → IsFirst tokens (first_declare inside)
  is_first_simple : (tokens : List Token) (inside : Simple) → IsSimple tokens inside → IsFirst tokens (first_simple inside)

-- range = WORD "=" expr "..." expr
pub data IsRange : List Token → Range → Type 0 where
  is_range : (name : Word) (equals dots : Span) (front back : List Token) (from until : Expr)
      → IsExpr loosest front from → IsExpr loosest back until
      → IsRange
      (word name ∷ at mark.Assign equals ∷ (front ++ at mark.Ellipsis dots ∷ back))
      (record { word = name; start = from; end = until; span = span_to name.span (span_of until) })

-- ---- statements

-- it ends in an `if` without `else`
abbrev pub is_open : Stmt → Bool
is_open (block b) = false
is_open (empty s) = false
is_open (declare d s) = false
is_open (simple p s) = false
is_open (if_then f x a s) = true
is_open (if_else f x a b s) = is_open b
is_open (loop_while f x a s) = is_open a
is_open (loop_do f a x s) = false
is_open (loop_for f i x p a s) = is_open a
is_open (foreach t k rs a s) = is_open a
is_open (foreach_active k w a s) = is_open a
is_open (foreach_unique k w x a s) = is_open a
is_open (unmasked k b s) = false
is_open (jump j k s) = false
is_open (returning k x s) = false
is_open (print k t p xs s) = false
is_open (assert x c s) = false

mutual
  -- block = "{" { stmt } "}"
  pub data IsBlock : List Token → Block → Type 0 where
    is_braces : (opening closing : Span) (tokens : List Token) (inside : List Stmt)
        → IsStmts tokens inside
        → IsBlock
        (at mark.BraceOpen opening ∷ (tokens ++ at mark.BraceClose closing ∷ []))
        (braces (all inside) (span_to opening closing))

  -- { stmt }
  pub data IsStmts : List Token → List Stmt → Type 0 where
    is_end : IsStmts [] []
    is_next : (front back : List Token) (first : Stmt) (more : List Stmt)
        → IsStmt front first → IsStmts back more → IsStmts (front ++ back) (first ∷ more)

  -- An `else` belongs to the nearest `if`: none follows a statement that ends in an `if` without one.
  pub data IsStmt : List Token → Stmt → Type 0 where
    -- block
    is_block : (tokens : List Token) (inside : Block) → IsBlock tokens inside → IsStmt tokens (block inside)
    -- ";"
    is_empty : (semicolon : Span) → IsStmt (at mark.Semicolon semicolon ∷ []) (empty semicolon)
    -- decl ";"
    is_declare : (semicolon : Span) (tokens : List Token) (inside : Declaration)
        → IsDeclaration tokens inside
        → IsStmt (tokens ++ at mark.Semicolon semicolon ∷ []) (declare inside (span_to inside.span semicolon))
    -- simple ";"
    is_simple : (semicolon : Span) (tokens : List Token) (inside : Simple)
        → IsSimple tokens inside
        → IsStmt (tokens ++ at mark.Semicolon semicolon ∷ []) (simple inside (span_to (span_of_simple inside) semicolon))
    -- ("if" | "cif") "(" expr ")" stmt
    is_if : (form : Form) (keyword opening closing : Span) (condition rest : List Token) (test : Expr) (body : Stmt)
        → IsExpr loosest condition test → IsStmt rest body
        → IsStmt
        (at (if_mark form) keyword ∷ at mark.ParenOpen opening ∷ (condition ++ at mark.ParenClose closing ∷ rest))
        (if_then form test body (span_to keyword (span_of_stmt body)))
    -- ("if" | "cif") "(" expr ")" stmt "else" stmt
    is_if_else : (form : Form) (keyword opening closing middle : Span) (condition front back : List Token) (test : Expr) (body otherwise : Stmt)
        → IsExpr loosest condition test → IsStmt front body → is_open body ≡ false → IsStmt back otherwise
        → IsStmt
        (at (if_mark form) keyword ∷ at mark.ParenOpen opening ∷ (condition ++ at mark.ParenClose closing ∷ (front ++ at mark.Else middle ∷ back)))
        (if_else form test body otherwise (span_to keyword (span_of_stmt otherwise)))
    -- ("while" | "cwhile") "(" expr ")" stmt
    is_while : (form : Form) (keyword opening closing : Span) (condition rest : List Token) (test : Expr) (body : Stmt)
        → IsExpr loosest condition test → IsStmt rest body
        → IsStmt
        (at (while_mark form) keyword ∷ at mark.ParenOpen opening ∷ (condition ++ at mark.ParenClose closing ∷ rest))
        (loop_while form test body (span_to keyword (span_of_stmt body)))
    -- ("do" | "cdo") stmt "while" "(" expr ")" ";"
    is_do : (form : Form) (keyword while opening closing semicolon : Span) (front condition : List Token) (body : Stmt) (test : Expr)
        → IsStmt front body → IsExpr loosest condition test
        → IsStmt
        (at (do_mark form) keyword ∷ (front ++ at mark.While while ∷ at mark.ParenOpen opening ∷ (condition ++ at mark.ParenClose closing ∷ at mark.Semicolon semicolon ∷ [])))
        (loop_do form body test (span_to keyword semicolon))
    -- ("for" | "cfor") "(" [ decl | simple ] ";" [ expr ] ";" [ simple ] ")" stmt
    is_for : (form : Form) (keyword opening behind_first behind_test closing : Span) (front condition last rest : List Token) (first : Option First) (test : Option Expr) (step : Option Simple) (body : Stmt)
        → IsMaybe IsFirst front first → IsMaybe (IsExpr loosest) condition test → IsMaybe IsSimple last step → IsStmt rest body
        → IsStmt
        (at (for_mark form) keyword ∷ at mark.ParenOpen opening ∷ (front ++ at mark.Semicolon behind_first ∷ (condition ++ at mark.Semicolon behind_test ∷ (last ++ at mark.ParenClose closing ∷ rest))))
        (loop_for form first test step body (span_to keyword (span_of_stmt body)))
    -- ("foreach" | "foreach_tiled") "(" range [ "," range [ "," range ] ] ")" stmt
    is_foreach : (tiling : Tiling) (keyword opening closing : Span) (inside rest : List Token) (ranges : List Range) (body : Stmt)
        → AreListed IsRange inside ranges → length ranges ≤ 3 → IsStmt rest body
        → IsStmt
        (at (foreach_mark tiling) keyword ∷ at mark.ParenOpen opening ∷ (inside ++ at mark.ParenClose closing ∷ rest))
        (foreach tiling keyword ranges body (span_to keyword (span_of_stmt body)))
    -- "foreach_active" "(" WORD ")" stmt
    is_foreach_active : (keyword opening closing : Span) (name : Word) (rest : List Token) (body : Stmt)
        → IsStmt rest body
        → IsStmt
        (at mark.ForeachActive keyword ∷ at mark.ParenOpen opening ∷ word name ∷ at mark.ParenClose closing ∷ rest)
        (foreach_active keyword name body (span_to keyword (span_of_stmt body)))
    -- "foreach_unique" "(" WORD "in" expr ")" stmt, where "in" is a name
    is_foreach_unique : (keyword opening middle closing : Span) (name : Word) (inside rest : List Token) (value : Expr) (body : Stmt)
        → IsExpr loosest inside value → IsStmt rest body
        → IsStmt
        (at mark.ForeachUnique keyword ∷ at mark.ParenOpen opening ∷ word name ∷ preposition middle ∷ (inside ++ at mark.ParenClose closing ∷ rest))
        (foreach_unique keyword name value body (span_to keyword (span_of_stmt body)))
    -- "unmasked" block
    is_unmasked : (keyword : Span) (rest : List Token) (body : Block)
        → IsBlock rest body
        → IsStmt (at mark.Unmasked keyword ∷ rest) (unmasked keyword body (span_to keyword (span_of_block body)))
    -- "break" ";" | "continue" ";"
    is_jump : (jump_word : Jump) (keyword semicolon : Span)
        → IsStmt
        (at (jump_mark jump_word) keyword ∷ at mark.Semicolon semicolon ∷ [])
        (jump jump_word keyword (span_to keyword semicolon))
    -- "return" [ expr ] ";"
    is_return : (keyword semicolon : Span) (inside : List Token) (answer : Option Expr)
        → IsMaybe (IsExpr loosest) inside answer
        → IsStmt
        (at mark.Return keyword ∷ (inside ++ at mark.Semicolon semicolon ∷ []))
        (returning keyword answer (span_to keyword semicolon))
    -- "print" "(" TEXT { "," expr } ")" ";"
    is_print : (keyword opening text_place closing semicolon : Span) (text : List ℕ) (inside : List Token) (values : List Expr)
        → AreBehindCommas (IsExpr loosest) inside values
        → IsStmt
        (at mark.Print keyword ∷ at mark.ParenOpen opening ∷ textual text text_place ∷ (inside ++ at mark.ParenClose closing ∷ at mark.Semicolon semicolon ∷ []))
        (print keyword text text_place values (span_to keyword semicolon))
    -- "assert" "(" expr ")" ";"
    is_assert : (keyword opening closing semicolon : Span) (inside : List Token) (test : Expr)
        → IsExpr loosest inside test
        → IsStmt
        (at mark.Assert keyword ∷ at mark.ParenOpen opening ∷ (inside ++ at mark.ParenClose closing ∷ at mark.Semicolon semicolon ∷ []))
        (assert test (span_to keyword closing) (span_to keyword semicolon))

-- ---- functions

-- "export" | "static" | "inline"
pub data IsLinkage : List Token → Linkage → Type 0 where
  is_linkage : (linkage : Linkage) (place : Span) → IsLinkage (at (linkage_mark linkage) place ∷ []) linkage

-- param = type WORD [ "[" "]" ]
pub data IsParam : List Token → Param → Type 0 where
  -- type WORD
  is_scalar : (words : List Token) (ty : TypeTree) (name : Word)
      → IsType words ty
      → IsParam (words ++ word name ∷ []) (record { ty = ty; word = name; is_array = false; span = span_to ty.span name.span })
  -- type WORD "[" "]"
  is_array : (words : List Token) (ty : TypeTree) (name : Word) (opening closing : Span)
      → IsType words ty
      → IsParam
      (words ++ word name ∷ at mark.BracketOpen opening ∷ at mark.BracketClose closing ∷ [])
      (record { ty = ty; word = name; is_array = true; span = span_to ty.span closing })

-- params = "void" | param { "," param }, or nothing
pub data IsParams : List Token → List Param → Type 0 where
  is_none : IsParams [] []
  is_void : (place : Span) → IsParams (at mark.Void place ∷ []) []
  is_some : (tokens : List Token) (params : List Param) → AreListed IsParam tokens params → IsParams tokens params

-- function = { "export" | "static" | "inline" } type WORD "(" [ params ] ")" block
pub data IsFunction : List Token → Function → Type 0 where
  is_function : (opening closing : Span) (front words inside rest : List Token) (linkages : List Linkage) (answer : TypeTree) (name : Word) (params : List Param) (body : Block)
      → AreAll IsLinkage front linkages → IsType words answer → IsParams inside params → IsBlock rest body
      → IsFunction
      (front ++ (words ++ word name ∷ at mark.ParenOpen opening ∷ (inside ++ at mark.ParenClose closing ∷ rest)))
      (record { linkages = linkages; answer = answer; word = name; params = params; body = body; span = span_to (first_span (front ++ words)) (span_of_block body) })

-- program = { function }
abbrev pub IsProgram : List Token → List Function → Type 0
IsProgram = AreAll IsFunction
