-- Values and arguments among what is passed, one by one.
use Rattle.std.proofs.Common.{◌≡◌, ◌++◌, refl, sym, ap, ◌∙◌}
use Rattle.std.specs.Prelude.{List, [], ◌∷◌}
use Rattle.std.specs.Global.{Box}
use Rattle.std.proofs.lemmas.List.{map-append}
use Rattle.isp_typed.specs.declared.expr.TypedExpr as rust
use Rattle.isp_typed.specs.declared.expr.TypedArgument as rust_argument
use Rattle.isp_typed.specs.Typed.{TArgument, t_by_value, t_by_name, t_argument_then, t_arguments}
use Rattle.isp_typed.specs.Views.{arguments_of}
use Rattle.isp_exprs.specs.declared.calls.Passed as rust_passed
use Rattle.isp_exprs.specs.Passing.{Passed, p_value, p_array, p_base, p_destination, p_unasked}
use Rattle.isp_exprs.specs.LibraryCalls.{values_among}
use Rattle.isp_exprs.specs.Calls.{arguments_among}
use Rattle.isp_exprs.specs.reader.Parts.{boxes_of, passed_of, list_passed, value_in, argument_in}

-- the arguments as a list
abbrev pub arguments_listed : List Passed → List TArgument
arguments_listed [] = []
arguments_listed (p_value x ∷ ps) = t_by_value x ∷ arguments_listed ps
arguments_listed (p_array a s ∷ ps) = t_by_name a s ∷ arguments_listed ps
arguments_listed (p_base b ∷ ps) = arguments_listed ps
arguments_listed (p_destination k t s ∷ ps) = arguments_listed ps
arguments_listed (p_unasked ∷ ps) = arguments_listed ps

pub arguments_are : (ps : List Passed) → t_arguments (arguments_listed ps) ≡ arguments_among ps
arguments_are [] = refl
arguments_are (p_value x ∷ ps) = ap (t_argument_then (t_by_value x)) (arguments_are ps)
arguments_are (p_array a s ∷ ps) = ap (t_argument_then (t_by_name a s)) (arguments_are ps)
arguments_are (p_base b ∷ ps) = arguments_are ps
arguments_are (p_destination k t s ∷ ps) = arguments_are ps
arguments_are (p_unasked ∷ ps) = arguments_are ps

last_value : (p : Passed) → values_among (p ∷ []) ≡ value_in p
last_value (p_value x) = refl
last_value (p_array a s) = refl
last_value (p_base b) = refl
last_value (p_destination k t s) = refl
last_value p_unasked = refl

values_more : (ps : List Passed) (p : Passed) → values_among (ps ++ p ∷ []) ≡ values_among ps ++ value_in p
values_more [] p = last_value p
values_more (p_value x ∷ ps) p = ap (λ z. x ∷ z) (values_more ps p)
values_more (p_array a s ∷ ps) p = values_more ps p
values_more (p_base b ∷ ps) p = values_more ps p
values_more (p_destination k t s ∷ ps) p = values_more ps p
values_more (p_unasked ∷ ps) p = values_more ps p

last_argument : (p : Passed) → arguments_listed (p ∷ []) ≡ argument_in p
last_argument (p_value x) = refl
last_argument (p_array a s) = refl
last_argument (p_base b) = refl
last_argument (p_destination k t s) = refl
last_argument p_unasked = refl

arguments_more : (ps : List Passed) (p : Passed) → arguments_listed (ps ++ p ∷ []) ≡ arguments_listed ps ++ argument_in p
arguments_more [] p = last_argument p
arguments_more (p_value x ∷ ps) p = ap (λ z. t_by_value x ∷ z) (arguments_more ps p)
arguments_more (p_array a s ∷ ps) p = ap (λ z. t_by_name a s ∷ z) (arguments_more ps p)
arguments_more (p_base b ∷ ps) p = arguments_more ps p
arguments_more (p_destination k t s ∷ ps) p = arguments_more ps p
arguments_more (p_unasked ∷ ps) p = arguments_more ps p

-- one part more
pub values_step : (vs ws : List (Box rust.TypedExpr)) (ys : List rust_passed.Passed) (y : rust_passed.Passed) → boxes_of vs ≡ values_among (list_passed ys) → boxes_of ws ≡ boxes_of vs ++ value_in (passed_of y)
    → boxes_of ws ≡ values_among (list_passed (ys ++ y ∷ []))
values_step vs ws ys y e v = v ∙ (ap (λ z. z ++ value_in (passed_of y)) e
    ∙ sym (ap values_among (map-append passed_of ys (y ∷ [])) ∙ values_more (list_passed ys) (passed_of y)))

pub arguments_step : (vs ws : List rust_argument.TypedArgument) (ys : List rust_passed.Passed) (y : rust_passed.Passed) → arguments_of vs ≡ arguments_listed (list_passed ys)
    → arguments_of ws ≡ arguments_of vs ++ argument_in (passed_of y) → arguments_of ws ≡ arguments_listed (list_passed (ys ++ y ∷ []))
arguments_step vs ws ys y e v = v ∙ (ap (λ z. z ++ argument_in (passed_of y)) e
    ∙ sym (ap arguments_listed (map-append passed_of ys (y ∷ [])) ∙ arguments_more (list_passed ys) (passed_of y)))
