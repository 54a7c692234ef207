-- Values of a call of the library, one after the other: what is left of them begins with the next one.
use Rattle.std.proofs.Common.{◌≡◌, ℕ, zero, suc, ◌<◌, ◌≤◌, ◌+◌, List, [], ◌∷◌, ◌++◌, length, drop, get_or, Some, None, refl, sym, ap, subst, ◌∙◌, append_assoc, append-nil}
use Rattle.std.specs.Prelude.{option_map, slice_get}
use Rattle.std.proofs.lemmas.List.{drop_more, drop_all, map-append}
use Rattle.std.proofs.lemmas.Option.{get_or_from_slice_get, slice_get-map}
use Rattle.isp_base.specs.declared.types.Rate.{Rate}
use Rattle.isp_typed.specs.Typed.{t_exprs}
use Rattle.isp_typed.specs.Views.{expr_of, exprs_of}
use Rattle.isp_typed.specs.declared.expr.TypedExpr as rust
use Rattle.isp_lower_code.specs.Callees.{later, next_rate}
use Rattle.isp_lower_code.specs.Code.{expr_code, value_registers, values_code}
use Rattle.isp_lower_code.specs.Found.{operand, operand_of}
use Rattle.isp_lower_code.specs.Spans.{expr_places, values_places}
use Rattle.isp_lower.specs.Emitted.{Appends}
use Rattle.isp_lower_code.specs.Layout.{Layout}
use Rattle.isp_lower_code.specs.Library.{register_at}
use Rattle.isp_lower.specs.Written.{numbers}
use Rattle.isp_registers.specs.declared.numbered.RegisterNumber.{RegisterNumber}
use Rattle.isp_lower.specs.declared.types.Body.{Body}
use Rattle.isp_registers.proofs.Lemmas.{later_drop}
use Rattle.isp_lower.proofs.Landing.{appends_self, appends_then}

-- ---- the register of a place, and the rate at which its value is taken

pub number_there : (ds : List RegisterNumber) (j : ℕ) (d : RegisterNumber) → slice_get ds j ≡ Some d → register_at (numbers ds) j ≡ d.number
number_there ds j d e = get_or_from_slice_get (numbers ds) j d.number 0 (slice_get-map (λ (z : RegisterNumber). z.number) ds j ∙ ap (option_map (λ (z : RegisterNumber). z.number)) e)

pub number_none : (ds : List RegisterNumber) (j : ℕ) → slice_get ds j ≡ None → register_at (numbers ds) j ≡ 0
number_none [] zero e = refl
number_none [] (suc j) e = refl
number_none (d ∷ ds) zero e = absurd (cc)
number_none (d ∷ ds) (suc j) e = number_none ds j e

next_of : (all : List rust.TypedExpr) (i : ℕ) (x : rust.TypedExpr) → i < length all → x ≡ get_or all i x → drop i all ≡ x ∷ drop (i + 1) all
next_of all i x lt is = drop_more all i x lt ∙ ap (λ z. z ∷ drop (i + 1) all) (sym is)

module _ (rs : List Rate) (all : List rust.TypedExpr) (i : ℕ) where
  module _ (l : Layout) where
    pub code_more : (x : rust.TypedExpr) → i < length all → x ≡ get_or all i x → (a b h : Body) (k m : ℕ)
        → Appends a b (λ pc p. operand_of l (next_rate (drop i rs)) (expr_of x) k m (expr_code l (expr_of x) pc p k m)) (expr_places l (expr_of x))
        → Appends b h (λ pc p. values_code l (drop (i + 1) rs) (t_exprs (exprs_of (drop (i + 1) all))) pc p k (m + 1)) (values_places l (t_exprs (exprs_of (drop (i + 1) all))))
        → Appends a h (λ pc p. values_code l (drop i rs) (t_exprs (exprs_of (drop i all))) pc p k m) (values_places l (t_exprs (exprs_of (drop i all))))
    code_more x lt is a b h k m f g =
        let rest = t_exprs (exprs_of (drop (i + 1) all)) in
        subst (λ zs. Appends a h (λ pc p. values_code l (drop i rs) (t_exprs (exprs_of zs)) pc p k m) (values_places l (t_exprs (exprs_of zs)))) (sym (next_of all i x lt is))
        (appends_then a b h (λ pc p. operand_of l (next_rate (drop i rs)) (expr_of x) k m (expr_code l (expr_of x) pc p k m)) (λ pc p. values_code l (later (drop i rs)) rest pc p k (m + 1)) (expr_places l (expr_of x)) (values_places l rest) f
        (subst (λ qs. Appends b h (λ pc p. values_code l qs rest pc p k (m + 1)) (values_places l rest)) (sym (later_drop i rs)) g))

    pub code_end : length all ≤ i → (a : Body) (k m : ℕ) → Appends a a (λ pc p. values_code l (drop i rs) (t_exprs (exprs_of (drop i all))) pc p k m) (values_places l (t_exprs (exprs_of (drop i all))))
    code_end le a k m =
        subst (λ zs. Appends a a (λ pc p. values_code l (drop i rs) (t_exprs (exprs_of zs)) pc p k m) (values_places l (t_exprs (exprs_of zs)))) (sym (drop_all i all le)) (appends_self a)

    pub registers_more : (x : rust.TypedExpr) → i < length all → x ≡ get_or all i x → (ds : List RegisterNumber) (d : RegisterNumber) (total : List ℕ) (m : ℕ) → d.number ≡ operand l (next_rate (drop i rs)) (expr_of x) m
        → numbers ds ++ value_registers l (drop i rs) (t_exprs (exprs_of (drop i all))) m ≡ total
        → numbers (ds ++ d ∷ []) ++ value_registers l (drop (i + 1) rs) (t_exprs (exprs_of (drop (i + 1) all))) (m + 1) ≡ total
    registers_more x lt is ds d total m ed e =
        let rest = t_exprs (exprs_of (drop (i + 1) all)) in
        ap (λ z. z ++ value_registers l (drop (i + 1) rs) rest (m + 1)) (map-append (λ (z : RegisterNumber). z.number) ds (d ∷ []))
        ∙ append_assoc (numbers ds) (d.number ∷ []) (value_registers l (drop (i + 1) rs) rest (m + 1))
        ∙ ap (λ z. numbers ds ++ z ∷ value_registers l (drop (i + 1) rs) rest (m + 1)) ed
        ∙ ap (λ qs. numbers ds ++ operand l (next_rate (drop i rs)) (expr_of x) m ∷ value_registers l qs rest (m + 1)) (sym (later_drop i rs))
        ∙ ap (λ zs. numbers ds ++ value_registers l (drop i rs) (t_exprs (exprs_of zs)) m) (sym (next_of all i x lt is))
        ∙ e

    pub registers_end : length all ≤ i → (ds : List RegisterNumber) (total : List ℕ) (m : ℕ) → numbers ds ++ value_registers l (drop i rs) (t_exprs (exprs_of (drop i all))) m ≡ total → numbers ds ≡ total
    registers_end le ds total m e =
        sym (append-nil (numbers ds)) ∙ ap (λ zs. numbers ds ++ value_registers l (drop i rs) (t_exprs (exprs_of zs)) m) (sym (drop_all i all le)) ∙ e
