-- A small program: which breaches are told of it, and in which order.
use Rattle.std.proofs.Common.{◌≡◌, inl, inr, ℕ, true, false, refl, subst, sym, arith}
use Rattle.std.specs.Prelude.{Some, List, [], ◌∷◌, codes, AllPairs, Contains}
use Rattle.std.proofs.lemmas.List.Elements.{All-nil, All-cons}
use Rattle.std.proofs.lemmas.List.Kept.{AllPairs-cons}
use Rattle.isp_base.specs.declared.types.Span.{Span}
use Rattle.isp_base.specs.declared.types.Ty.{Ty}
use Rattle.isp_base.specs.declared.types.Gang.TheVariants.{W4}
use Rattle.isp_base.specs.declared.types.Rate.{Rate}
use Rattle.isp_base.specs.declared.types.Rate.TheVariants.{Uniform, Varying}
use Rattle.isp_base.specs.declared.types.Elem.TheVariants.{I32}
use Rattle.isp_base.specs.declared.operators.BinOp.TheVariants.{Add}
use Rattle.isp_lex.specs.declared.fault.Fault.{Fault}
use Rattle.isp_lex.specs.declared.fault.Rule.TheVariants.{VaryingToUniform, BadExit, BadExport}
use Rattle.isp_lex.specs.Faults.{fault}
use Rattle.isp_tree.specs.declared.stmt.Jump.TheVariants.{Break}
use Rattle.isp_typed.specs.declared.variable.Variable.{Variable}
use Rattle.isp_typed.specs.declared.variable.Holds.TheVariants.{Value}
use Rattle.isp_typed.specs.Typed.{TExpr, t_place, t_binary, t_call, t_called, t_arguments, t_by_value, t_variable, t_assign, ty_of, TStmt, t_simple, t_jump, t_braces, t_stmts, Program}
use Rattle.isp_rates.specs.Program.{ProgramBreach}
use Rattle.isp_breaches.specs.Order.{Before}
use Rattle.isp_breaches.specs.reader.Lists.{program_faults}
use Rattle.isp_breaches.proofs.Listed.{head, tail, head_or_tail}
use Rattle.isp_breaches.proofs.Walks.{program_lists}
use Rattle.isp_breaches.proofs.First.{one_list}

abbrev at : ℕ → ℕ → Span
at i j = record { start = i; end = j }

abbrev int : Rate → Ty
int r = ty_of r I32

abbrev variable : Rate → Variable
variable r = record { holds = Value (int r); constant = false }

-- export int f(int y) { .. }, after which stands uniform int g(uniform int x) { }
abbrev program : List TStmt → Program
program ss = record {
  gang = W4;
  functions = record {
    name = codes "f";
    span = at 11 12;
    exported = true;
    parameters = [];
    params = at 17 18 ∷ [];
    gives = Some I32;
    answer = Some (int Varying);
    variables = variable Varying ∷ variable Uniform ∷ [];
    body = t_braces (t_stmts ss) (at 20 90);
  } ∷ record {
    name = codes "g";
    span = at 103 104;
    exported = false;
    parameters = [];
    params = at 117 118 ∷ [];
    gives = Some I32;
    answer = Some (int Uniform);
    variables = variable Uniform ∷ [];
    body = t_braces (t_stmts []) (at 120 123);
  } ∷ [];
}

abbrev y : ℕ → ℕ → TExpr
y i j = t_place (t_variable 0 (int Varying) (at i j))

-- g(y)
abbrev call : Span → TExpr → TExpr
call s a = t_call (t_called 1 (t_arguments (t_by_value a ∷ [])) s) (int Uniform)

-- u = y + y; has one breach, at the sum
pub sum : program_faults (program (t_simple (t_assign (t_variable 1 (int Uniform) (at 22 23)) (t_binary Add (y 26 27) (y 30 31) (int Varying) (at 26 31)) (at 22 31)) (at 22 32) ∷ []))
    ≡ fault BadExport (at 17 18) ∷ fault BadExport (at 11 12) ∷ fault VaryingToUniform (at 26 31) ∷ []
sum = refl

-- u = g(y) + g(y); has two, and none at the sum
pub arguments : program_faults (program (t_simple (t_assign (t_variable 1 (int Uniform) (at 22 23)) (t_binary Add (call (at 26 30) (y 28 29)) (call (at 33 37) (y 35 36)) (int Uniform) (at 26 37)) (at 22 37)) (at 22 38) ∷ []))
    ≡ fault BadExport (at 17 18) ∷ fault BadExport (at 11 12) ∷ fault VaryingToUniform (at 28 29) ∷ fault VaryingToUniform (at 35 36) ∷ []
arguments = refl

-- ---- break; is told after the parameter, and the name of the function before it

abbrev p : Program
p = program (t_jump Break (at 22 27) (at 22 28) ∷ [])

abbrev name : Fault
name = fault BadExport (at 11 12)

abbrev parameter : Fault
parameter = fault BadExport (at 17 18)

abbrev jump : Fault
jump = fault BadExit (at 22 27)

swapped : (a b : Fault) (rest : List Fault) (f : Fault) → Contains (a ∷ b ∷ rest) f → Contains (b ∷ a ∷ rest) f
swapped a b rest f h = elim (head_or_tail a (b ∷ rest) f h) as (λ z. Contains (b ∷ a ∷ rest) f) [
  | inl e ↦ tail b (a ∷ rest) f (subst (λ (z : Fault). Contains (a ∷ rest) z) (sym e) (head a rest))
  | inr t ↦ elim (head_or_tail b rest f t) as (λ z. Contains (b ∷ a ∷ rest) f) [
    | inl e ↦ subst (λ (z : Fault). Contains (b ∷ a ∷ rest) z) (sym e) (head b (a ∷ rest))
    | inr u ↦ tail b (a ∷ rest) f (tail a rest f u)
  ]
]

in_order : AllPairs Before (name ∷ parameter ∷ jump ∷ [])
in_order =
    AllPairs-cons Before name (parameter ∷ jump ∷ [])
    (All-cons (Before name) parameter (jump ∷ []) (record { order = inl (omega arith) }) (All-cons (Before name) jump [] (record { order = inl (omega arith) }) (All-nil (Before name))))
    (AllPairs-cons Before parameter (jump ∷ []) (All-cons (Before parameter) jump [] (record { order = inl (omega arith) }) (All-nil (Before parameter)))
    (AllPairs-cons Before jump [] (All-nil (Before jump)) (λ i j d l h. absurd (let no : ⊥ = omega (arith, h) in no))))

pub told : (v : List Fault) → ((f : Fault) → Contains v f → ProgramBreach p f) → ((f : Fault) → ProgramBreach p f → Contains v f) → AllPairs Before v → v ≡ name ∷ parameter ∷ jump ∷ []
told v sound all o =
    one_list v (name ∷ parameter ∷ jump ∷ []) o in_order
    (λ f h. swapped parameter name (jump ∷ []) f ((program_lists p).all f (sound f h)))
    (λ f h. all f ((program_lists p).told f (swapped name parameter (jump ∷ []) f h)))
