-- What is true of every tree that was read from a text.
use Rattle.std.specs.Prelude.{◌≡◌, ◌≤◌, ◌<◌, List, length, true, Option, Some, None}
use Rattle.std.specs.List.{All}
use Rattle.isp_base.specs.declared.types.Span.{Span}
use Rattle.isp_base.specs.declared.types.Value.{Value}
use Rattle.isp_base.specs.Values.{greatest}
use Rattle.isp_lex.specs.Lexing.{IsWord, limit as longest}
use Rattle.isp_lex.specs.Spelling.{IsReserved}
use Rattle.isp_tree.specs.declared.types.Base.{Base}
use Rattle.isp_tree.specs.declared.types.Qualifier.{Qualifier}
use Rattle.isp_tree.specs.declared.types.Word.{Word}
use Rattle.isp_tree.specs.declared.stmt.Size.{Size}
use Rattle.isp_tree.specs.declared.stmt.Size.TheVariants as size
use Rattle.isp_tree.specs.Tree.{TypeTree, has_sign, Expr, number, truth, program_index, program_count, place, call, brackets, cast, prefix, binary, choose, Place}
use Rattle.isp_tree.specs.Tree.{variable, element, Argument, by_value, by_reference, Arguments, no_arguments, argument_then}
use Rattle.isp_tree.specs.Tree.{Item, plain, with_value, with_size, Declaration, Simple, value, assign, change, First, first_declare, first_simple, Range}
use Rattle.isp_tree.specs.Tree.{Stmt, block, empty, declare, simple, if_then, if_else, loop_while, loop_do, loop_for, foreach, foreach_active, foreach_unique}
use Rattle.isp_tree.specs.Tree.{unmasked, jump, returning, print, assert, Block, braces, Stmts, no_stmts, stmt_then, Param, Function}
use Rattle.isp_tree.specs.Depth.{depth_of_functions, limit}
use Rattle.isp_tree.specs.Nodes.{nodes_of_functions, most}

-- some bytes of a text that is no longer than a source may be
abbrev pub InText : Span → Type 0
InText s = (s.start < s.end) × (s.end ≤ longest)

-- a name by the lexical rules, where it stands
pub record IsName (w : Word) : Type 0 where
  pub word : IsWord w.name
  pub free : IsReserved w.name → ⊥
  pub span : InText w.span

-- the number is a value of its type
abbrev pub Fits : Value → Type 0
Fits v = v.bits ≤ greatest v.elem

-- what may be left out
abbrev pub IfAny : {A : Type 0} → (A → Type 0) → Option A → Type 0
IfAny P None = Unit {0}
IfAny P (Some x) = P x

-- one at least
abbrev pub HasOne : {A : Type 0} → List A → Type 0
HasOne xs = 1 ≤ length xs

-- a base is left out only where `signed` or `unsigned` stands
abbrev pub HasBase : List Qualifier → Option Base → Type 0
HasBase qs None = has_sign qs ≡ true
HasBase qs (Some b) = Unit {0}

abbrev pub IsSoundType : TypeTree → Type 0
IsSoundType t = HasBase t.qualifiers t.base × InText t.span

-- ---- expressions

abbrev mutual
  pub IsSoundExpr : Expr → Type 0
  IsSoundExpr (number v s) = Fits v × InText s
  IsSoundExpr (truth b s) = InText s
  IsSoundExpr (program_index s) = InText s
  IsSoundExpr (program_count s) = InText s
  IsSoundExpr (place p) = IsSoundPlace p
  IsSoundExpr (call w xs s) = IsName w × AreSoundArguments xs × InText s
  IsSoundExpr (brackets x s) = IsSoundExpr x × InText s
  IsSoundExpr (cast t x s) = IsSoundType t × IsSoundExpr x × InText s
  IsSoundExpr (prefix op x s) = IsSoundExpr x × InText s
  IsSoundExpr (binary op x y s) = IsSoundExpr x × IsSoundExpr y × InText s
  IsSoundExpr (choose x y z s) = IsSoundExpr x × IsSoundExpr y × IsSoundExpr z × InText s

  pub IsSoundPlace : Place → Type 0
  IsSoundPlace (variable w) = IsName w
  IsSoundPlace (element w x s) = IsName w × IsSoundExpr x × InText s

  pub IsSoundArgument : Argument → Type 0
  IsSoundArgument (by_value x) = IsSoundExpr x
  IsSoundArgument (by_reference p s) = IsSoundPlace p × InText s

  pub AreSoundArguments : Arguments → Type 0
  AreSoundArguments no_arguments = Unit {0}
  AreSoundArguments (argument_then x xs) = IsSoundArgument x × AreSoundArguments xs

-- ---- declarations, and what stands before a semicolon

abbrev pub IsSoundSize : Size → Type 0
IsSoundSize (size.Number v s) = Fits v × InText s
IsSoundSize (size.ProgramCount s) = InText s

abbrev pub IsSoundItem : Item → Type 0
IsSoundItem (plain w) = IsName w
IsSoundItem (with_value w x s) = IsName w × IsSoundExpr x × InText s
IsSoundItem (with_size w n s) = IsName w × IsSoundSize n × InText s

pub record IsSoundDeclaration (d : Declaration) : Type 0 where
  pub ty : IsSoundType d.ty
  pub some : HasOne d.items
  pub items : All IsSoundItem d.items
  pub span : InText d.span

abbrev pub IsSoundSimple : Simple → Type 0
IsSoundSimple (value x) = IsSoundExpr x
IsSoundSimple (assign a t x s) = IsSoundExpr t × IsSoundExpr x × InText s
IsSoundSimple (change c x s) = IsSoundExpr x × InText s

abbrev pub IsSoundFirst : First → Type 0
IsSoundFirst (first_declare d) = IsSoundDeclaration d
IsSoundFirst (first_simple p) = IsSoundSimple p

pub record IsSoundRange (r : Range) : Type 0 where
  pub word : IsName r.word
  pub start : IsSoundExpr r.start
  pub end : IsSoundExpr r.end
  pub span : InText r.span

-- one to three ranges
pub record AreSoundRanges (rs : List Range) : Type 0 where
  pub some : HasOne rs
  pub few : length rs ≤ 3
  pub each : All IsSoundRange rs

-- ---- statements

abbrev mutual
  pub IsSoundStmt : Stmt → Type 0
  IsSoundStmt (block b) = IsSoundBlock b
  IsSoundStmt (empty s) = InText s
  IsSoundStmt (declare d s) = IsSoundDeclaration d × InText s
  IsSoundStmt (simple p s) = IsSoundSimple p × InText s
  IsSoundStmt (if_then f x a s) = IsSoundExpr x × IsSoundStmt a × InText s
  IsSoundStmt (if_else f x a b s) = IsSoundExpr x × IsSoundStmt a × IsSoundStmt b × InText s
  IsSoundStmt (loop_while f x a s) = IsSoundExpr x × IsSoundStmt a × InText s
  IsSoundStmt (loop_do f a x s) = IsSoundStmt a × IsSoundExpr x × InText s
  IsSoundStmt (loop_for f i x p a s) =
      IfAny IsSoundFirst i × IfAny IsSoundExpr x × IfAny IsSoundSimple p × IsSoundStmt a × InText s
  IsSoundStmt (foreach t k rs a s) = InText k × AreSoundRanges rs × IsSoundStmt a × InText s
  IsSoundStmt (foreach_active k w a s) = InText k × IsName w × IsSoundStmt a × InText s
  IsSoundStmt (foreach_unique k w x a s) = InText k × IsName w × IsSoundExpr x × IsSoundStmt a × InText s
  IsSoundStmt (unmasked k b s) = InText k × IsSoundBlock b × InText s
  IsSoundStmt (jump j k s) = InText k × InText s
  IsSoundStmt (returning k x s) = InText k × IfAny IsSoundExpr x × InText s
  IsSoundStmt (print k t p xs s) = InText k × InText p × All IsSoundExpr xs × InText s
  IsSoundStmt (assert x c s) = IsSoundExpr x × InText c × InText s

  pub IsSoundBlock : Block → Type 0
  IsSoundBlock (braces ss s) = AreSoundStmts ss × InText s

  pub AreSoundStmts : Stmts → Type 0
  AreSoundStmts no_stmts = Unit {0}
  AreSoundStmts (stmt_then s ss) = IsSoundStmt s × AreSoundStmts ss

-- ---- functions

pub record IsSoundParam (p : Param) : Type 0 where
  pub ty : IsSoundType p.ty
  pub word : IsName p.word
  pub span : InText p.span

pub record IsSoundFunction (f : Function) : Type 0 where
  pub answer : IsSoundType f.answer
  pub word : IsName f.word
  pub params : All IsSoundParam f.params
  pub body : IsSoundBlock f.body
  pub span : InText f.span

-- the functions of a text
pub record IsSound (fs : List Function) : Type 0 where
  pub each : All IsSoundFunction fs
  pub shallow : depth_of_functions fs ≤ limit
  pub few : nodes_of_functions fs ≤ most
