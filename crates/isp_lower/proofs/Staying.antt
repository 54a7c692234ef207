-- What stays in place names no place of the source.
use Rattle.std.proofs.Common.{◌≡◌, Bool, true, false, [], ◌++◌, Option, Some, None, refl, ap, ◌∙◌}
use Rattle.std.specs.Prelude.{◌&&◌}
use Rattle.isp_base.specs.declared.types.Rate.{Rate}
use Rattle.isp_base.specs.declared.types.Value.{Value}
use Rattle.isp_typed.specs.Typed.{TExpr, t_constant, t_program_index, t_place, t_convert, t_cast, t_unary, t_binary, t_compare, t_logic, t_choose, t_call, t_library, t_packed_store, t_packed_load, t_variable, t_element, type_of}
use Rattle.isp_meaning.specs.Calls.{same_rate}
use Rattle.isp_lower_code.specs.Layout.{Layout}
use Rattle.isp_lower_code.specs.Found.{is_kept}
use Rattle.isp_lower_code.specs.Known.{constant_of}
use Rattle.isp_lower_code.specs.Spans.{expr_places}
use Rattle.isp_lower_code.specs.Stays.{is_short, stays, stays_at}
use Rattle.isp_lower_code.proofs.Lemmas.{constant_is_one}

both_true : (a b : Bool) → (a && b) ≡ true → (a ≡ true) × (b ≡ true)
both_true true b e = (refl, e)
both_true false b e = absurd (cc)

pub stays_silent : (l : Layout) (x : TExpr) → stays l x ≡ true → expr_places l x ≡ []
stays_silent l (t_constant v sp) e = refl
stays_silent l (t_program_index sp) e = refl
stays_silent l (t_place (t_variable v t sp)) e = refl
stays_silent l (t_place (t_element b i t sp)) e = absurd (cc)
stays_silent l (t_convert u x) e = go (constant_of x) refl e
  where
    go : (o : Option Value) → constant_of x ≡ o → is_kept l o (type_of x).rate u ≡ true → expr_places l x ≡ []
    go None eo h = absurd (cc)
    go (Some v) eo h = let one = constant_is_one x v eo in ap (expr_places l) one.1
stays_silent l (t_cast x t sp) e = stays_silent l x (both_true (same_rate t.rate (type_of x).rate) (stays l x) e).1
stays_silent l (t_unary o x t sp) e = absurd (cc)
stays_silent l (t_binary o x y t sp) e = absurd (cc)
stays_silent l (t_compare d x y r sp) e = absurd (cc)
stays_silent l (t_logic g x y r sp) e = absurd (cc)
stays_silent l (t_choose d x y t sp) e = absurd (cc)
stays_silent l (t_call d t) e = absurd (cc)
stays_silent l (t_library f u xs t sp) e = absurd (cc)
stays_silent l (t_packed_store d x sp) e = absurd (cc)
stays_silent l (t_packed_load d v sp) e = absurd (cc)

pub short_silent : (l : Layout) (r : Rate) (c x y : TExpr) → is_short l r c x y ≡ true → expr_places l x ++ expr_places l y ≡ []
short_silent l r c x y e =
    let both = (both_true (same_rate r (type_of c).rate) (stays_at l r x && stays_at l r y) e).1 in
    let each = both_true (stays_at l r x) (stays_at l r y) both in
    ap (λ z. z ++ expr_places l y) (stays_silent l x (both_true (same_rate r (type_of x).rate) (stays l x) each.0).1)
    ∙ stays_silent l y (both_true (same_rate r (type_of y).rate) (stays l y) each.1).1
