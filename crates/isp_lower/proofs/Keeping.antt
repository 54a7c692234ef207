-- What is written where a constant is kept, and where it is not.
use Rattle.std.proofs.Common.{◌≡◌, ℕ, List, [], ◌++◌, Option, Some, None, true, false, refl, sym, ap, subst}
use Rattle.isp_base.specs.declared.types.Elem.{Elem}
use Rattle.isp_base.specs.declared.types.Rate.{Rate}
use Rattle.isp_base.specs.declared.types.Rate.TheVariants.{Uniform, Varying}
use Rattle.isp_base.specs.declared.types.Span.{Span}
use Rattle.isp_base.specs.declared.types.Value.{Value}
use Rattle.isp_code.specs.declared.instr.Instr.{Instr}
use Rattle.isp_typed.specs.Typed.{TExpr, t_constant, t_program_index, t_place, t_convert, t_cast, t_unary, t_binary, t_compare, t_logic, t_choose, t_call, t_library, t_packed_store, t_packed_load, type_of}
use Rattle.isp_lower_code.specs.Found.{found, in_vector, is_kept, lift_code, operand_of}
use Rattle.isp_lower_code.specs.Known.{constant_of, known, known_as, unless_kept}
use Rattle.isp_lower_code.specs.Spans.{expr_places}
use Rattle.isp_lower.specs.Emitted.{Appends}
use Rattle.isp_lower_code.specs.Layout.{Layout}
use Rattle.isp_lower.specs.declared.types.Body.{Body}
use Rattle.isp_lower_code.proofs.Lemmas.{constant_is_one}
use Rattle.isp_lower.proofs.Landing.{appends_self}

-- a constant names no place of the source
constant_silent : (l : Layout) (x : TExpr) (o : Option Value) → constant_of x ≡ o → (v : Value) → o ≡ Some v → expr_places l x ≡ []
constant_silent l x o eo v e = let one = constant_is_one x v (subst (λ z. constant_of x ≡ z) e eo) in ap (expr_places l) one.1

known_silent : (l : Layout) (x : TExpr) (v : Value) → known x ≡ Some v → expr_places l x ≡ []
known_silent l (t_constant u sp) v e = refl
known_silent l (t_program_index sp) v e = absurd (cc)
known_silent l (t_place p) v e = absurd (cc)
known_silent l (t_convert t x) v e = go (constant_of x) refl e
  where
    go : (o : Option Value) → constant_of x ≡ o → known_as t o ≡ Some v → expr_places l x ≡ []
    go None eo h = absurd (cc)
    go (Some u) eo h = constant_silent l x (Some u) eo u refl
known_silent l (t_cast x t sp) v e = absurd (cc)
known_silent l (t_unary o x t sp) v e = absurd (cc)
known_silent l (t_binary o x y t sp) v e = absurd (cc)
known_silent l (t_compare c x y r sp) v e = absurd (cc)
known_silent l (t_logic g x y r sp) v e = absurd (cc)
known_silent l (t_choose c x y t sp) v e = absurd (cc)
known_silent l (t_call c t) v e = absurd (cc)
known_silent l (t_library g t xs u sp) v e = absurd (cc)
known_silent l (t_packed_store b x sp) v e = absurd (cc)
known_silent l (t_packed_load b u sp) v e = absurd (cc)

-- an operand that a vector keeps has no code
pub vector_appends : (b : Body) (l : Layout) (r : Rate) (x : TExpr) (k n : ℕ) (code : ℕ → ℕ → List Instr) → in_vector l r (known x) ≡ true → Appends b b (λ pc p. operand_of l r x k n (code pc p)) (expr_places l x)
vector_appends b l r x k n code e =
    subst (λ z. Appends b b (λ pc p. unless_kept z (code pc p ++ lift_code l r (type_of x).rate (type_of x).elem (found l x n) k n)) (expr_places l x)) (sym e)
    (subst (Appends b b (λ pc p. [])) (sym (silent r (known x) refl e)) (appends_self b))
  where
    silent : (g : Rate) (o : Option Value) → known x ≡ o → in_vector l g o ≡ true → expr_places l x ≡ []
    silent Uniform o eo h = absurd (cc)
    silent Varying None eo h = absurd (cc)
    silent Varying (Some v) eo h = known_silent l x v eo

-- any other one has its own, and is lifted
pub lifted_appends : (a b : Body) (l : Layout) (r : Rate) (x : TExpr) (k n : ℕ) (code : ℕ → ℕ → List Instr) (places : List Span)
    → in_vector l r (known x) ≡ false → Appends a b (λ pc p. code pc p ++ lift_code l r (type_of x).rate (type_of x).elem (found l x n) k n) places
    → Appends a b (λ pc p. operand_of l r x k n (code pc p)) places
lifted_appends a b l r x k n code places e h =
    subst (λ z. Appends a b (λ pc p. unless_kept z (code pc p ++ lift_code l r (type_of x).rate (type_of x).elem (found l x n) k n)) places) (sym e) h

-- a value as one of another type
pub kept_appends : (b : Body) (l : Layout) (e : Elem) (x : TExpr) (code : ℕ → ℕ → List Instr) → is_kept l (constant_of x) (type_of x).rate e ≡ true
    → Appends b b (λ pc p. unless_kept (is_kept l (constant_of x) (type_of x).rate e) (code pc p)) (expr_places l x)
kept_appends b l e x code is =
    subst (λ z. Appends b b (λ pc p. unless_kept z (code pc p)) (expr_places l x)) (sym is) (subst (Appends b b (λ pc p. [])) (sym (go (constant_of x) refl is)) (appends_self b))
  where
    go : (o : Option Value) → constant_of x ≡ o → is_kept l o (type_of x).rate e ≡ true → expr_places l x ≡ []
    go None eo h = absurd (cc)
    go (Some v) eo h = constant_silent l x (Some v) eo v refl

pub other_appends : (a b : Body) (l : Layout) (e : Elem) (x : TExpr) (code : ℕ → ℕ → List Instr) (places : List Span)
    → is_kept l (constant_of x) (type_of x).rate e ≡ false → Appends a b code places
    → Appends a b (λ pc p. unless_kept (is_kept l (constant_of x) (type_of x).rate e) (code pc p)) places
other_appends a b l e x code places is h = subst (λ z. Appends a b (λ pc p. unless_kept z (code pc p)) places) (sym is) h
