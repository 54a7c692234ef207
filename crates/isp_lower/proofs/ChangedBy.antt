-- A variable gets an operator on itself and a value: the value's code, then the operator's, as it is defined.
use Rattle.std.proofs.Common.{◌≡◌, ℕ, ◌+◌, List, ◌++◌, length, ap, ◌∙◌, subst, arith}
use Rattle.isp_base.specs.declared.types.Span.{Span}
use Rattle.isp_code.specs.declared.instr.Instr.{Instr}
use Rattle.isp_typed.specs.Typed.{TExpr, t_variable}
use Rattle.isp_lower_code.specs.Code.{expr_code}
use Rattle.isp_lower.specs.Emitted.{Appends, layout}
use Rattle.isp_lower_code.specs.Found.{operand, operand_of}
use Rattle.isp_lower_code.specs.Instructions.{operate_places}
use Rattle.isp_lower_code.specs.Spans.{expr_places}
use Rattle.isp_lower.specs.Written.{Writes, behind, change_by_at, operand_at, update_at, update_code}
use Rattle.isp_registers.specs.declared.numbered.RegisterNumber.{RegisterNumber}
use Rattle.isp_lower.specs.declared.sites.Home.{Home}
use Rattle.isp_lower.specs.declared.sites.Operation.{Operation}
use Rattle.isp_lower.specs.declared.sites.Site.{Site}
use Rattle.isp_lower.specs.declared.sites.Target.{Target}
use Rattle.isp_lower.specs.declared.types.Body.{Body}
use Rattle.isp_lower.specs.declared.types.Scope.{Scope}
use Rattle.isp_lower.proofs.Landing.{appends_then}

-- nothing stands before it
moved_none : (a c : Body) (code : ℕ → ℕ → List Instr) (s : List Span) → Appends a c code s → Appends a c (λ pc p. code (pc + 0) (p + 0)) s
moved_none a c code s f =
    let pc = length a.code.items in
    let p = length a.places.items in
    let same_pc : pc ≡ pc + 0 = omega arith in
    let same_p : p ≡ p + 0 = omega arith in
    record { code = f.code ∙ ap (λ n. a.code.items ++ code n p) same_pc ∙ ap (λ n. a.code.items ++ code (pc + 0) n) same_p; places = f.places; texts = f.texts }

pub variable_changed : (on : Scope) (a b c : Body) (o : Operation) (z : Home) (x : TExpr) (at : Site) (to by : RegisterNumber) (t : Target)
    → to.number ≡ (layout on).variable z.ty.rate z.number → by.number ≡ operand (layout on) z.ty.rate x at.slot.number
    → t ≡ record { to = to; ty = z.ty; span = o.span; site = behind at } → Writes a b (operand_at on z.ty.rate x at) → Writes b c (update_at on o to by t) → Writes a c (change_by_at on o (t_variable z.number z.ty z.span) x at)
variable_changed on a b c o z x at to by t to_is by_is t_is f g =
    let l = layout on in
    let r = z.ty.rate in
    let k = at.mask.number in
    let n = at.slot.number in
    let d = l.variable r z.number in
    let made : ℕ → ℕ → ℕ → List Instr = λ e y p. update_code on o z.ty e e y (behind at) p in
    let h : Appends b c (λ pc p. made to.number by.number p) (operate_places o.operator o.span) = subst (λ (u : Target). Writes b c (update_at on o to by u)) t_is g in
    let h2 : Appends b c (λ pc p. made d (operand l r x n) p) (operate_places o.operator o.span) =
    subst (λ y. Appends b c (λ pc p. made d y p) (operate_places o.operator o.span)) by_is (subst (λ e. Appends b c (λ pc p. made e by.number p) (operate_places o.operator o.span)) to_is h) in
    moved_none a c (λ pc p. operand_of l r x k n (expr_code l x pc p k n) ++ made d (operand l r x n) (p + length (expr_places l x))) (expr_places l x ++ operate_places o.operator o.span)
    (appends_then a b c (λ pc p. operand_of l r x k n (expr_code l x pc p k n)) (λ pc p. made d (operand l r x n) p) (expr_places l x) (operate_places o.operator o.span) f h2)
