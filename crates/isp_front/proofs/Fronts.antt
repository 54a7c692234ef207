-- A source text is the source of one program, or is refused.
use Rattle.std.proofs.Common.{◌≡◌, ℕ, ◌≤◌, List, [], length, Ok, Err, Some, refl, sym, subst, inl, inr, Result, ◌∙◌}
use Rattle.std.specs.Prelude.{IfOk, IfErr, MatchResult}
use Rattle.std.specs.Result.{IsErrAnd}
use Rattle.isp_base.specs.declared.types.Gang.{Gang}
use Rattle.isp_lex.specs.Lexing.{Lexes, limit as longest_text}
use Rattle.isp_lex.specs.Tokens.{TokenList}
use Rattle.isp_lex.specs.declared.fault.Fault.{Fault}
use Rattle.isp_lex.specs.declared.fault.SourceFault.{SourceFault}
use Rattle.isp_lex.specs.declared.fault.SourceFault.TheVariants.{Memory, Refused}
use Rattle.isp_lex.specs.declared.token.Token.{Token}
use Rattle.isp_tree.specs.Depth.{depth_of_functions}
use Rattle.isp_tree.specs.Tree.{Function as Read}
use Rattle.isp_tree.specs.Views.{functions_of as tree_of}
use Rattle.isp_tree.specs.declared.tree.Tree.{Tree}
use Rattle.isp_grammar.specs.Grammar.{IsProgram as IsTree}
use Rattle.isp_syntax.specs.Promise.{GivesTree}
use Rattle.isp_tree.specs.Depth.{limit as deepest_tree}
use Rattle.isp_typed.specs.Promise.{Accepts}
use Rattle.isp_typed.specs.Typed.{Program}
use Rattle.isp_typed.specs.Views.{program_of}
use Rattle.isp_typed.specs.declared.function.Program as rust_program
use Rattle.isp_types.specs.Functions.{IsProgram, Breach}
use Rattle.isp_rates.specs.Breaches.{Least}
use Rattle.isp_rates.specs.Program.{ProgramBreach}
use Rattle.isp_front.specs.Front.{HasTree, IsChecked, IsSource, IsUnsound, IsFaulty}

-- ---- a refusal that is handed on

pub err_match : {A E : Type 0} (r : Result A E) (x y : E) (P : A → Type 0) → IsErrAnd r (λ e. e ≡ x) → x ≡ y → MatchResult r P (λ e. e ≡ y)
err_match (Ok a) x y P h e = absurd h
err_match (Err z) x y P h e = h ∙ e

pub err_is : {A E : Type 0} (r : Result A E) (x y : E) → IsErrAnd r (λ e. e ≡ x) → x ≡ y → IfErr r (λ e. e ≡ y)
err_is (Ok a) x y h e = tt
err_is (Err z) x y h e = h ∙ e

pub err_refused : {A : Type 0} (r : Result A SourceFault) (x : SourceFault) (P : Fault → Type 0) → IsErrAnd r (λ e. e ≡ x) → ((f : Fault) → x ≡ Refused f → P f) → IfErr r (λ e. (f : Fault) → e ≡ Refused f → P f)
err_refused (Ok a) x P h g = tt
err_refused (Err z) x P h g = λ f is. g f (sym h ∙ is)

-- ---- the tree of a text

abbrev pub Checked : Type 0
Checked = rust_program.Program

pub tree_only : (text : List ℕ) (tokens : TokenList) (r : Result Tree SourceFault)
    → ((ts : List Token) → Lexes 0 text ts [] → length text ≤ longest_text → tokens.items ≡ ts)
    → ((fs : List Read) → IsTree tokens.items fs → depth_of_functions fs ≤ deepest_tree → GivesTree r fs) → (tree : List Read) → HasTree text tree
    → MatchResult r (λ t. tree_of t ≡ tree) (λ e. e ≡ Memory)
tree_only text tokens r lexes trees tree h = at r (trees tree (subst (λ z. IsTree z tree) (sym same) h.is) h.shallow)
  where
    same : tokens.items ≡ h.tokens.items
    same = lexes h.tokens.items h.has.lexes h.has.short

    at : (r : Result Tree SourceFault) → GivesTree r tree → MatchResult r (λ t. tree_of t ≡ tree) (λ e. e ≡ Memory)
    at (Ok t) g = g
    at (Err Memory) g = refl
    at (Err (Refused f)) g = absurd g

-- ---- the program of a tree

-- a program is the only one
pub one_program : (gang : Gang) (tree : List Read) (p q : Program) → IsChecked gang tree p → IsChecked gang tree q → p ≡ q
one_program gang tree p q a b = b.typed.only p a.typed.is

-- what is unsound is no program
pub no_program : (gang : Gang) (tree : List Read) (f : Fault) (p : Program) → IsUnsound gang tree f → IsChecked gang tree p → ⊥
no_program gang tree f p (inl r) c = r.nothing p c.typed.is
no_program gang tree f p (inr (q, a, l)) c = c.sound f (subst (λ z. ProgramBreach z f) (c.typed.only q a.is) l.by.0)

-- a fault of rates is one of the program that the tree is
pub rate_fault : (gang : Gang) (tree : List Read) (p : Program) (r : Result Checked SourceFault) → Accepts (IsProgram gang tree) (Breach gang tree) p
    → IfErr r (λ e. (f : Fault) → e ≡ Refused f → Least (Some f) (ProgramBreach p))
    → IfErr r (λ e. (f : Fault) → e ≡ Refused f → IsUnsound gang tree f)
rate_fault gang tree p (Ok c) a h = tt
rate_fault gang tree p (Err e) a h = λ f is. inr (p, a, h f is)

-- ---- a text

pub judged : (gang : Gang) (text : List ℕ) (tree : List Read) (r : Result Checked SourceFault) → HasTree text tree → IfOk r (λ c. IsChecked gang tree (program_of c)) → IfOk r (λ c. IsSource gang text (program_of c))
judged gang text tree (Ok c) h a = record { tree = tree; has = h; checked = a }
judged gang text tree (Err e) h a = tt

pub unsound : (gang : Gang) (text : List ℕ) (tree : List Read) (r : Result Checked SourceFault) → HasTree text tree
    → IfErr r (λ e. (f : Fault) → e ≡ Refused f → IsUnsound gang tree f) → IfErr r (λ e. (f : Fault) → e ≡ Refused f → IsFaulty gang text f)
unsound gang text tree (Ok c) h a = tt
unsound gang text tree (Err e) h a = λ f is. inr (tree, h, a f is)

pub only : (gang : Gang) (text : List ℕ) (tree : List Read) (r : Result Checked SourceFault) → IfOk r (λ c. IsChecked gang tree (program_of c))
    → IfErr r (λ e. (f : Fault) → e ≡ Refused f → IsUnsound gang tree f) → (program : Program) (s : IsSource gang text program) → tree ≡ s.tree
    → MatchResult r (λ c. program_of c ≡ program) (λ e. e ≡ Memory)
only gang text tree r a b program s same = at r a b
  where
    is : IsChecked gang tree program
    is = subst (λ z. IsChecked gang z program) (sym same) s.checked

    at : (r : Result Checked SourceFault) → IfOk r (λ c. IsChecked gang tree (program_of c)) → IfErr r (λ e. (f : Fault) → e ≡ Refused f → IsUnsound gang tree f) → MatchResult r (λ c. program_of c ≡ program) (λ e. e ≡ Memory)
    at (Ok c) a b = one_program gang tree (program_of c) program a is
    at (Err Memory) a b = refl
    at (Err (Refused f)) a b = absurd (no_program gang tree f program (b f refl) is)
