-- Small programs: what is answered of them.
use Rattle.std.proofs.Common.{◌≡◌, ℕ, suc, true, false, refl}
use Rattle.std.specs.Prelude.{Some, None, List, [], ◌∷◌, codes}
use Rattle.isp_base.specs.declared.types.Span.{Span}
use Rattle.isp_base.specs.declared.types.Ty.{Ty}
use Rattle.isp_base.specs.declared.types.Gang.TheVariants.{W4}
use Rattle.isp_base.specs.declared.types.Rate.{Rate}
use Rattle.isp_base.specs.declared.types.Rate.TheVariants.{Uniform, Varying}
use Rattle.isp_base.specs.declared.types.Elem.TheVariants.{I32}
use Rattle.isp_base.specs.declared.operators.BinOp.TheVariants.{Add}
use Rattle.isp_lex.specs.declared.fault.Rule.TheVariants.{VaryingToUniform, BadExit, NestedForeach}
use Rattle.isp_lex.specs.Faults.{fault}
use Rattle.isp_tree.specs.declared.stmt.Form.{Form}
use Rattle.isp_tree.specs.declared.stmt.Jump.TheVariants.{Break, Continue}
use Rattle.isp_typed.specs.declared.library.Library.TheVariants.{Broadcast}
use Rattle.isp_typed.specs.declared.variable.Variable.{Variable}
use Rattle.isp_typed.specs.declared.variable.Holds.TheVariants.{Value}
use Rattle.isp_typed.specs.Typed.{TExpr, t_place, t_cast, t_library, t_call, t_called, t_arguments, t_by_value, t_exprs, t_variable, t_value, t_update, ty_of}
use Rattle.isp_typed.specs.Typed.{TStmt, t_simple, t_while, t_foreach, t_foreach_active, t_foreach_unique, t_unmasked, t_jump, t_return, t_braces, t_stmts, Program}
use Rattle.isp_rates.specs.reader.Faults.{program_fault}

abbrev at : ℕ → ℕ → Span
at i j = record { start = i; end = j }

abbrev int : Rate → Ty
int r = ty_of r I32

abbrev variable : Rate → Variable
variable r = record { holds = Value (int r); constant = false }

-- void f(uniform int x, int y) { .. }, after which stands uniform int g(uniform int x) { return x; }
abbrev program : List TStmt → Program
program ss = record {
  gang = W4;
  functions = record {
    name = codes "f";
    span = at 5 6;
    exported = false;
    parameters = [];
    params = at 19 20 ∷ at 26 27 ∷ [];
    gives = None;
    answer = None;
    variables = variable Uniform ∷ variable Varying ∷ [];
    body = t_braces (t_stmts ss) (at 29 90);
  } ∷ record {
    name = codes "g";
    span = at 103 104;
    exported = true;
    parameters = [];
    params = at 117 118 ∷ [];
    gives = Some I32;
    answer = Some (int Uniform);
    variables = variable Uniform ∷ [];
    body = t_braces (t_stmts (t_return (at 122 128) (Some (t_place (t_variable 0 (int Uniform) (at 129 130)))) (at 122 131) ∷ [])) (at 120 133);
  } ∷ [];
}

-- x and y at a place, and a number
abbrev x : ℕ → TExpr
x i = t_place (t_variable 0 (int Uniform) (at i (suc i)))

abbrev y : ℕ → TExpr
y i = t_place (t_variable 1 (int Varying) (at i (suc i)))

abbrev call : TExpr → Span → TExpr
call a s = t_call (t_called 1 (t_arguments (t_by_value a ∷ [])) s) (int Uniform)

-- x += y; is asked at the right side
pub right_side : program_fault (program (t_simple (t_update Add I32 (t_variable 0 (int Uniform) (at 31 32)) (y 36) (at 31 37)) (at 31 38) ∷ [])) ≡ Some (fault VaryingToUniform (at 36 37))
right_side = refl

-- y += x;
pub to_varying : program_fault (program (t_simple (t_update Add I32 (t_variable 1 (int Varying) (at 31 32)) (x 36) (at 31 37)) (at 31 38) ∷ [])) ≡ None
to_varying = refl

-- x += g(y); has one fault, at the argument
pub argument : program_fault (program (t_simple (t_update Add I32 (t_variable 0 (int Uniform) (at 31 32)) (call (y 38) (at 36 40)) (at 31 40)) (at 31 41) ∷ [])) ≡ Some (fault VaryingToUniform (at 38 39))
argument = refl

-- (uniform int) y; at the operand
pub cast : program_fault (program (t_simple (t_value (t_cast (y 45) (int Uniform) (at 31 46))) (at 31 47) ∷ [])) ≡ Some (fault VaryingToUniform (at 45 46))
cast = refl

-- broadcast(y, y);
pub instance_number : program_fault (program (t_simple (t_value (t_library Broadcast I32 (t_exprs (y 41 ∷ y 44 ∷ [])) (int Varying) (at 31 46))) (at 31 47) ∷ [])) ≡ Some (fault VaryingToUniform (at 44 45))
instance_number = refl

abbrev jump_in : (TStmt → TStmt) → Program
jump_in s = program (s (t_jump Break (at 60 65) (at 60 66)) ∷ [])

-- break; in a function, in an unmasked in a loop
pub no_loop : program_fault (jump_in (λ s. s)) ≡ Some (fault BadExit (at 60 65))
no_loop = refl

pub unmasked : (c : Form) → program_fault (jump_in (λ s. t_while c 2 (x 36) (t_unmasked (at 39 47) (t_braces (t_stmts (s ∷ [])) (at 48 68)) (at 39 68)) (at 31 68))) ≡ Some (fault BadExit (at 60 65))
unmasked c = refl

pub loop_in_unmasked : (c : Form) → program_fault (jump_in (λ s. t_unmasked (at 31 39) (t_braces (t_stmts (t_while c 2 (x 48) s (at 42 66) ∷ [])) (at 40 68)) (at 31 68))) ≡ None
loop_in_unmasked c = refl

-- continue; of a foreach_active
pub turn : program_fault (program (t_foreach_active (at 31 45) 2 2 (t_jump Continue (at 50 58) (at 50 59)) (at 31 59) ∷ [])) ≡ None
turn = refl

-- continue; and break; of a foreach_unique over y
pub unique_turn : program_fault (program (t_foreach_unique (at 31 45) 2 2 I32 (y 52) (t_jump Continue (at 55 63) (at 55 64)) (at 31 64) ∷ [])) ≡ None
unique_turn = refl

pub unique_break : program_fault (program (t_foreach_unique (at 31 45) 2 2 I32 (y 52) (t_jump Break (at 55 60) (at 55 61)) (at 31 61) ∷ [])) ≡ Some (fault BadExit (at 55 60))
unique_break = refl

-- a foreach in a foreach, through a foreach_active; and return in it, whose word ends later
pub nested : program_fault (program (t_foreach (at 31 38) 2 [] (t_foreach_active (at 40 54) 2 2 (t_foreach (at 57 64) 3 [] (t_return (at 66 72) None (at 66 73)) (at 57 73)) (at 40 73)) (at 31 73) ∷ []))
    ≡ Some (fault NestedForeach (at 57 64))
nested = refl
