-- The items and members of a value, by the lists that hold them.
use Rattle.std.proofs.Common.{◌≡◌, ℕ, suc, ◌+◌, ◌<◌, ◌≤◌, List, [], ◌∷◌, ◌++◌, ◌||◌, Bool, true, false, cond, not, map, length, Option, Some, None, Result, Ok, refl, sym, ap, subst, ◌∙◌, drop, drop-cons, add-one, get_or, String, string_bytes}
use Rattle.std.specs.Prelude.{bytes_eq, is_some}
use Rattle.std.proofs.lemmas.List.{drop_all}
use Rattle.std.specs.List.{list_any}
use Rattle.std.specs.declared.alloc.Global.{Global}
use Rattle.serde_json.specs.View.{items_view, members_view}
use Rattle.serde_json.specs.declared.value.Value.{Value}
use Rattle.isp_base.specs.declared.signature.Parameter.{Parameter}
use Rattle.isp_bind.specs.declared.fault.BindFault.{BindFault}
use Rattle.isp_bind.specs.Binding.{has_extra, is_parameter, items_count, then_of}

-- what was done in front of what is still to come
abbrev pub with_done : {A : Type 0} → List A → Result (List A) BindFault → Result (List A) BindFault
with_done done rest = then_of (λ found. Ok (done ++ found)) rest

pub has_extra_keys : (ps : List Parameter) (es : List (String Global × Value)) → has_extra ps (members_view es) ≡ list_any (λ s. not (is_parameter ps (string_bytes s))) (map (λ e. e.0) es)
has_extra_keys ps [] = refl
has_extra_keys ps (e ∷ es) = ap (λ b. not (is_parameter ps (string_bytes e.0)) || b) (has_extra_keys ps es)

pub items_count_view : (vs : List Value) → items_count (items_view vs) ≡ length vs
items_count_view [] = refl
items_count_view (v ∷ vs) = ap (λ n. suc n) (items_count_view vs)

-- ---- the names of parameters, found one by one

cons_is : {A : Type 0} (a b : A) (xs ys : List A) → a ≡ b → xs ≡ ys → a ∷ xs ≡ b ∷ ys
cons_is a b xs ys p q = cc

split_at : {A : Type 0} (xs : List A) (i : ℕ) (x : A) → i < length xs → x ≡ get_or xs i x → drop i xs ≡ x ∷ drop (i + 1) xs
split_at xs i x h e = drop-cons xs i x h ∙ cons_is _ _ _ _ (sym e) (ap (λ n. drop n xs) (sym (add-one i)))

named_before : {X : Type 0} (t : Bool) (x : X) (o : Option X) (r : Bool) → (is_some (cond t (Some x) o) || r) ≡ (is_some o || (t || r))
named_before true x None r = refl
named_before true x (Some y) r = refl
named_before false x o r = refl

pub names_step : {X : Type 0} (ps : List Parameter) (i : ℕ) (p : Parameter) (w key : List ℕ) (x : X) (old new : Option X) (total : Bool) → i < length ps → p ≡ get_or ps i p → key ≡ p.name
    → new ≡ cond (bytes_eq key w) (Some x) old → (is_some old || is_parameter (drop i ps) w) ≡ total → (is_some new || is_parameter (drop (i + 1) ps) w) ≡ total
names_step ps i p w key x old new total h e k n t =
    rw (n, k) (named_before (bytes_eq p.name w) x old (is_parameter (drop (i + 1) ps) w))
    ∙ (ap (λ (qs : List Parameter). is_some old || is_parameter qs w) (sym (split_at ps i p h e)) ∙ t)

pub names_done : (ps : List Parameter) (n : ℕ) (w : List ℕ) (known total : Bool) → length ps ≤ n → (known || is_parameter (drop n ps) w) ≡ total → known ≡ total
names_done ps n w known total h t = settled known (subst (λ (qs : List Parameter). (known || is_parameter qs w) ≡ total) (drop_all n ps h) t)
  where
    settled : (b : Bool) → (b || false) ≡ total → b ≡ total
    settled true e = e
    settled false e = e
