-- Calls of the code, seen as trees, and packed calls by the first two of what is passed.
use Rattle.std.proofs.Common.{◌≡◌, ℕ, sym, ap, ◌∙◌, refl, ap₂, Vec, Global, Box}
use Rattle.std.specs.Prelude.{List, [], ◌∷◌, slice_get, Option, Some, None, option_map, Result, Ok, Err}
use Rattle.std.proofs.lemmas.Option.{slice_get-map}
use Rattle.isp_base.specs.declared.types.Span.{Span}
use Rattle.isp_base.specs.declared.types.Ty.{Ty}
use Rattle.isp_lex.specs.declared.fault.Fault.{Fault}
use Rattle.isp_lex.specs.declared.fault.Rule.TheVariants.{Mismatch}
use Rattle.isp_lex.specs.Faults.{fault}
use Rattle.isp_typed.specs.declared.expr.TypedExpr as rust
use Rattle.isp_typed.specs.declared.expr.TypedExpr.TheVariants as variant
use Rattle.isp_typed.specs.declared.expr.TypedBase as rust_base
use Rattle.isp_typed.specs.declared.expr.TypedCall as rust_call
use Rattle.isp_typed.specs.declared.expr.TypedArgument as rust_argument
use Rattle.isp_typed.specs.declared.expr.TypedArgument.TheFolds.{fold-roll-TypedExpr, fold-roll-TypedCall}
use Rattle.isp_typed.specs.Typed.{TExpr, TPlace, TBase, TArgument, TArguments, TCall, t_call, t_called, t_packed_store, t_arguments, base_array}
use Rattle.isp_typed.specs.Views.{argument_step, base_step, call_step, expr_step, place_step, expr_of, base_of, arguments_of}
use Rattle.isp_exprs.specs.declared.calls.Passed as rust_passed
use Rattle.isp_exprs.specs.declared.scope.Known.{Known}
use Rattle.isp_exprs.specs.Values.{converted}
use Rattle.isp_exprs.specs.Places.{mismatch}
use Rattle.isp_exprs.specs.Passing.{Passed, p_value, p_array, p_base, p_destination, p_unasked, Called, gives}
use Rattle.isp_exprs.specs.PackedCalls.{packed_store, packed_load, loaded}
use Rattle.isp_exprs.specs.Calls.{function_call, arguments_among}
use Rattle.isp_exprs.specs.reader.Parts.{boxed_of, passed_of, list_passed, base_passed, value_passed, destination_passed}

store_view : (b : rust_base.TypedBase) (x : Box rust.TypedExpr Global) (s : Span) → expr_of (variant.PackedStore b x s) ≡ t_packed_store (base_of b) (expr_of x.value) s
store_view b x s = ap expr_of (sym (variant.rolls-PackedStore b x s)) ∙ fold-roll-TypedExpr TArgument TBase TExpr TPlace TCall argument_step base_step expr_step place_step call_step _

-- packed calls by their first two arguments
abbrev pub stored_of : Span → Option TBase → Option TExpr → Result Called Fault
stored_of s None x = mismatch s
stored_of s (Some b) None = mismatch s
stored_of s (Some b) (Some x) = Ok (gives (t_packed_store b (converted (base_array b).ty.elem x) s))

abbrev pub loaded_of : Span → Option TBase → Option (Known × Ty × Span) → Result Called Fault
loaded_of s None d = mismatch s
loaded_of s (Some b) None = mismatch s
loaded_of s (Some b) (Some d) = loaded s b d.0 d.1 d.2

store_parts : (s : Span) (ps : List Passed) → stored_of s (base_passed (slice_get ps 0)) (value_passed (slice_get ps 1)) ≡ packed_store s ps
store_parts s [] = refl
store_parts s (p_base b ∷ []) = refl
store_parts s (p_base b ∷ p_value x ∷ ps) = refl
store_parts s (p_base b ∷ p_array a n ∷ ps) = refl
store_parts s (p_base b ∷ p_base c ∷ ps) = refl
store_parts s (p_base b ∷ p_destination k t n ∷ ps) = refl
store_parts s (p_base b ∷ p_unasked ∷ ps) = refl
store_parts s (p_value x ∷ ps) = refl
store_parts s (p_array a n ∷ ps) = refl
store_parts s (p_destination k t n ∷ ps) = refl
store_parts s (p_unasked ∷ ps) = refl

load_parts : (s : Span) (ps : List Passed) → loaded_of s (base_passed (slice_get ps 0)) (destination_passed (slice_get ps 1)) ≡ packed_load s ps
load_parts s [] = refl
load_parts s (p_base b ∷ []) = refl
load_parts s (p_base b ∷ p_value x ∷ ps) = refl
load_parts s (p_base b ∷ p_array a n ∷ ps) = refl
load_parts s (p_base b ∷ p_base c ∷ ps) = refl
load_parts s (p_base b ∷ p_destination k t n ∷ ps) = refl
load_parts s (p_base b ∷ p_unasked ∷ ps) = refl
load_parts s (p_value x ∷ ps) = refl
load_parts s (p_array a n ∷ ps) = refl
load_parts s (p_destination k t n ∷ ps) = refl
load_parts s (p_unasked ∷ ps) = refl

-- the same of what the code passes
stored_is : (s : Span) (ps : List rust_passed.Passed) (b : Option TBase) (x : Option TExpr) (r : Result Called Fault) → b ≡ base_passed (option_map passed_of (slice_get ps 0))
    → x ≡ value_passed (option_map passed_of (slice_get ps 1)) → r ≡ stored_of s b x → r ≡ packed_store s (list_passed ps)
stored_is s ps b x r e k q = q ∙ (rw (e, k) (ap₂ (λ (m n : Option Passed). stored_of s (base_passed m) (value_passed n)) (sym (slice_get-map passed_of ps 0)) (sym (slice_get-map passed_of ps 1))
    ∙ store_parts s (list_passed ps)))

loaded_is : (s : Span) (ps : List rust_passed.Passed) (b : Option TBase) (d : Option (Known × Ty × Span)) (r : Result Called Fault) → b ≡ base_passed (option_map passed_of (slice_get ps 0))
    → d ≡ destination_passed (option_map passed_of (slice_get ps 1)) → r ≡ loaded_of s b d → r ≡ packed_load s (list_passed ps)
loaded_is s ps b d r e k q = q ∙ (rw (e, k) (ap₂ (λ (m n : Option Passed). loaded_of s (base_passed m) (destination_passed n)) (sym (slice_get-map passed_of ps 0)) (sym (slice_get-map passed_of ps 1))
    ∙ load_parts s (list_passed ps)))

-- a call of a function, of what the code finds for it
pub call_gives : (k : ℕ) (s : Span) (t : Ty) (xs : Vec rust_argument.TypedArgument Global) (ps : List Passed) (answer : Option Ty) → answer ≡ Some t → t_arguments (arguments_of xs.items) ≡ arguments_among ps
    → gives (expr_of (variant.Call (rust_call.roll-TypedCall (record { function = k; arguments = xs; span = s })) t)) ≡ function_call k s ps answer
call_gives k s t xs ps answer h e = ap gives (ap expr_of (sym (variant.rolls-Call (rust_call.roll-TypedCall (record { function = k; arguments = xs; span = s })) t))
    ∙ (fold-roll-TypedExpr TArgument TBase TExpr TPlace TCall argument_step base_step expr_step place_step call_step _
    ∙ ap (λ (c : TCall). t_call c t) (fold-roll-TypedCall TArgument TBase TExpr TPlace TCall argument_step base_step expr_step place_step call_step _ ∙ ap (λ (z : TArguments). t_called k z s) e)))
    ∙ sym (rw h refl)

-- the packed calls of the code: `two` are the first two of what is passed
module _ (s : Span) (ps : List rust_passed.Passed) (two : Option rust_passed.Passed × Option rust_passed.Passed) (b : Option rust_base.TypedBase)
    (firsts : two ≡ (slice_get ps 0, slice_get ps 1)) (held : option_map base_of b ≡ base_passed (option_map passed_of two.0)) where
  base_there : option_map base_of b ≡ base_passed (option_map passed_of (slice_get ps 0))
  base_there = held ∙ ap (λ (z : Option rust_passed.Passed × Option rust_passed.Passed). base_passed (option_map passed_of z.0)) firsts

  pub store_no_base : (f : Fault) → b ≡ None → f ≡ fault Mismatch s → Err f ≡ packed_store s (list_passed ps)
  store_no_base f n m = stored_is s ps (option_map base_of b) (value_passed (option_map passed_of (slice_get ps 1))) (Err f) base_there refl (rw (n, m) refl)

  pub load_no_base : (f : Fault) → b ≡ None → f ≡ fault Mismatch s → Err f ≡ packed_load s (list_passed ps)
  load_no_base f n m = loaded_is s ps (option_map base_of b) (destination_passed (option_map passed_of (slice_get ps 1))) (Err f) base_there refl (rw (n, m) refl)

  module _ (x : Option (Box rust.TypedExpr Global)) (value : option_map boxed_of x ≡ value_passed (option_map passed_of two.1)) where
    value_there : option_map boxed_of x ≡ value_passed (option_map passed_of (slice_get ps 1))
    value_there = value ∙ ap (λ (z : Option rust_passed.Passed × Option rust_passed.Passed). value_passed (option_map passed_of z.1)) firsts

    pub store_no_value : (y : rust_base.TypedBase) (f : Fault) → b ≡ Some y → x ≡ None → f ≡ fault Mismatch s → Err f ≡ packed_store s (list_passed ps)
    store_no_value y f h n m = stored_is s ps (option_map base_of b) (option_map boxed_of x) (Err f) base_there value_there (rw (h, n, m) refl)

    pub store_both : (y : rust_base.TypedBase) (z : Box rust.TypedExpr Global) (v : Box rust.TypedExpr Global) → b ≡ Some y → x ≡ Some z → expr_of v.value ≡ converted (base_array (base_of y)).ty.elem (boxed_of z)
        → Ok (gives (expr_of (variant.PackedStore y v s))) ≡ packed_store s (list_passed ps)
    store_both y z v h n e = stored_is s ps (option_map base_of b) (option_map boxed_of x) (Ok (gives (expr_of (variant.PackedStore y v s)))) base_there value_there
        (ap (λ (w : TExpr). Ok (gives w)) (store_view y v s ∙ ap (λ (w : TExpr). t_packed_store (base_of y) w s) e) ∙ sym (rw (h, n) refl))

  module _ (d : Option (Known × Ty × Span)) (what : d ≡ destination_passed (option_map passed_of two.1)) where
    what_there : d ≡ destination_passed (option_map passed_of (slice_get ps 1))
    what_there = what ∙ ap (λ (z : Option rust_passed.Passed × Option rust_passed.Passed). destination_passed (option_map passed_of z.1)) firsts

    pub load_no_variable : (y : rust_base.TypedBase) (f : Fault) → b ≡ Some y → d ≡ None → f ≡ fault Mismatch s → Err f ≡ packed_load s (list_passed ps)
    load_no_variable y f h n m = loaded_is s ps (option_map base_of b) d (Err f) base_there what_there (rw (h, n, m) refl)

    pub load_both : (y : rust_base.TypedBase) (k : Known) (t : Ty) (p : Span) (r : Result Called Fault) → b ≡ Some y → d ≡ Some (k, t, p) → r ≡ loaded s (base_of y) k t p → r ≡ packed_load s (list_passed ps)
    load_both y k t p r h n e = loaded_is s ps (option_map base_of b) d r base_there what_there (e ∙ sym (rw (h, n) refl))
