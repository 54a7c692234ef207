-- What is printed, item by item and byte by byte.
use Rattle.std.proofs.Common.{◌≡◌, refl, sym, ap, ap₂, ◌∙◌, ℕ, zero, suc, ◌+◌, ◌<◌, ◌≤◌, List, [], ◌∷◌, ◌++◌, map, length, drop, get_or, arith, cond, append_assoc, ne_eqb}
use Rattle.std.specs.Prelude.{codes}
use Rattle.isp_base.specs.Maps.{Map}
use Rattle.isp_base.specs.Sets.{Mask}
use Rattle.isp_base.specs.Prints.{comma, items_text, item_text, list_text, first_text, later_texts, print_text}
use Rattle.isp_base.specs.declared.types.Elem.{Elem}
use Rattle.isp_typed.specs.Typed.{type_of}
use Rattle.isp_typed.specs.Views.{expr_of, exprs_of}
use Rattle.isp_typed.specs.declared.expr.TypedExpr.{TypedExpr}
use Rattle.isp_meaning.specs.Printing.{shown, shown_all}
use Rattle.isp_gang_values.specs.Seen.{payload_of}
use Rattle.isp_gang_values.specs.declared.computed.Computed.{Computed}

-- ---- the values of a gang

abbrev pub items_from : List ℕ → Elem → ℕ → Map → List ℕ
items_from before t n x = before ++ (codes "[" ++ items_text t n x)

pub item_more : (before : List ℕ) (t : Elem) (n : ℕ) (x : Map) (out one two : List ℕ) → out ≡ items_from before t n x → one ≡ out ++ comma n → two ≡ one ++ item_text t (x n) → two ≡ items_from before t (n + 1) x
item_more before t n x out one two e f g =
    let k : n + 1 ≡ suc n = omega arith in
    g
    ∙ ap (λ y. y ++ item_text t (x n)) (f ∙ ap (λ y. y ++ comma n) e)
    ∙ append_assoc (before ++ (91 ∷ items_text t n x)) (comma n) (item_text t (x n))
    ∙ append_assoc before (91 ∷ items_text t n x) (comma n ++ item_text t (x n))
    ∙ ap (λ m. items_from before t m x) (sym k)

pub items_end : (before : List ℕ) (t : Elem) (n : ℕ) (x : Map) (out new : List ℕ) → out ≡ items_from before t n x → new ≡ out ++ codes "]" → new ≡ before ++ list_text t n x
items_end before t n x out new e f = f ∙ ap (λ y. y ++ codes "]") e ∙ append_assoc before (91 ∷ items_text t n x) (codes "]")

-- ---- the text

pub past_exprs : (g : ℕ) (a : Mask) (xs : List TypedExpr) (ms : List Computed) (n : ℕ) → length xs ≤ n → first_text (drop n (shown_all g a (exprs_of xs) (map payload_of ms))) ≡ []
past_exprs g a [] ms zero h = refl
past_exprs g a [] ms (suc n) h = refl
past_exprs g a (x ∷ xs) ms zero h = absurd (omega (arith, h))
past_exprs g a (x ∷ xs) [] (suc n) h = refl
past_exprs g a (x ∷ xs) (m ∷ ms) (suc n) h = past_exprs g a xs ms n (omega (arith, h))

pub past_values : (g : ℕ) (a : Mask) (xs : List TypedExpr) (ms : List Computed) (n : ℕ) → length ms ≤ n → first_text (drop n (shown_all g a (exprs_of xs) (map payload_of ms))) ≡ []
past_values g a [] ms zero h = refl
past_values g a [] ms (suc n) h = refl
past_values g a (x ∷ xs) [] zero h = refl
past_values g a (x ∷ xs) [] (suc n) h = refl
past_values g a (x ∷ xs) (m ∷ ms) zero h = absurd (omega (arith, h))
past_values g a (x ∷ xs) (m ∷ ms) (suc n) h = past_values g a xs ms n (omega (arith, h))

pub text_at : (g : ℕ) (a : Mask) (xs : List TypedExpr) (ms : List Computed) (n : ℕ) (x : TypedExpr) (d : Computed) → n < length xs → n < length ms → x ≡ get_or xs n x
    → shown g a (type_of (expr_of x)) (payload_of (get_or ms n d)) ≡ first_text (drop n (shown_all g a (exprs_of xs) (map payload_of ms)))
text_at g a [] ms n x d h k e = absurd (omega (arith, h))
text_at g a (y ∷ xs) [] n x d h k e = absurd (omega (arith, k))
text_at g a (y ∷ xs) (z ∷ ms) zero x d h k e = ap (λ (u : TypedExpr). shown g a (type_of (expr_of u)) (payload_of z)) e
text_at g a (y ∷ xs) (z ∷ ms) (suc n) x d h k e = text_at g a xs ms n x d (omega (arith, h)) (omega (arith, k)) e

nothing_more : (ys : List ℕ) → ys ≡ ys ++ []
nothing_more [] = refl
nothing_more (y ∷ ys) = ap (λ zs. y ∷ zs) (nothing_more ys)

pub nothing_shown : (out text : List ℕ) → text ≡ [] → out ≡ out ++ text
nothing_shown out text e = nothing_more out ∙ ap (λ y. out ++ y) (sym e)

later_drop : (n : ℕ) (xs : List (List ℕ)) → later_texts (drop n xs) ≡ drop (suc n) xs
later_drop zero [] = refl
later_drop (suc n) [] = refl
later_drop zero (x ∷ xs) = refl
later_drop (suc n) (x ∷ xs) = later_drop n xs

drop_at : (k : ℕ) (bs : List ℕ) (b d : ℕ) → k < length bs → get_or bs k d ≡ b → drop k bs ≡ b ∷ drop (suc k) bs
drop_at k [] b d h e = absurd (omega (arith, h))
drop_at zero (x ∷ bs) b d h e = ap (λ y. y ∷ bs) e
drop_at (suc k) (x ∷ bs) b d h e = drop_at k bs b d (omega (arith, h)) e

drop_all : (k : ℕ) (bs : List ℕ) → length bs ≤ k → drop k bs ≡ []
drop_all zero [] h = refl
drop_all (suc k) [] h = refl
drop_all zero (x ∷ bs) h = absurd (omega (arith, h))
drop_all (suc k) (x ∷ bs) h = drop_all k bs (omega (arith, h))

-- so far, and what is left
abbrev pub so_far : List ℕ → ℕ → ℕ → List ℕ → List (List ℕ) → List ℕ
so_far out k n bs xs = out ++ print_text (drop k bs) (drop n xs)

pub value_more : (out new bs : List ℕ) (xs : List (List ℕ)) (k n d : ℕ) → k < length bs → get_or bs k d ≡ 37 → new ≡ out ++ first_text (drop n xs) → so_far new (k + 1) (n + 1) bs xs ≡ so_far out k n bs xs
value_more out new bs xs k n d h e f =
    let i : k + 1 ≡ suc k = omega arith in
    let j : n + 1 ≡ suc n = omega arith in
    ap₂ (λ (u v : ℕ). so_far new u v bs xs) i j
    ∙ ap (λ y. y ++ print_text (drop (suc k) bs) (drop (suc n) xs)) f
    ∙ append_assoc out (first_text (drop n xs)) (print_text (drop (suc k) bs) (drop (suc n) xs))
    ∙ ap (λ ys. out ++ (first_text (drop n xs) ++ print_text (drop (suc k) bs) ys)) (sym (later_drop n xs))
    ∙ ap (λ cs. out ++ print_text cs (drop n xs)) (sym (drop_at k bs 37 d h e))

pub byte_more : (out new bs : List ℕ) (xs : List (List ℕ)) (k n d : ℕ) → k < length bs → (get_or bs k d ≡ 37 → ⊥) → new ≡ out ++ get_or bs k d ∷ [] → so_far new (k + 1) n bs xs ≡ so_far out k n bs xs
byte_more out new bs xs k n d h isnt f =
    let i : k + 1 ≡ suc k = omega arith in
    let b = get_or bs k d in
    ap (λ (u : ℕ). so_far new u n bs xs) i
    ∙ ap (λ y. y ++ print_text (drop (suc k) bs) (drop n xs)) f
    ∙ append_assoc out (b ∷ []) (print_text (drop (suc k) bs) (drop n xs))
    ∙ sym (ap (λ c. out ++ cond c (first_text (drop n xs) ++ print_text (drop (suc k) bs) (later_texts (drop n xs))) (b ∷ print_text (drop (suc k) bs) (drop n xs))) (ne_eqb b 37 isnt))
    ∙ ap (λ cs. out ++ print_text cs (drop n xs)) (sym (drop_at k bs b d h refl))

pub text_ends : (out bs : List ℕ) (xs : List (List ℕ)) (k n : ℕ) → length bs ≤ k → so_far out k n bs xs ≡ out
text_ends out bs xs k n h = ap (λ cs. out ++ print_text cs (drop n xs)) (drop_all k bs h) ∙ append_nil out
  where
    append_nil : (ys : List ℕ) → ys ++ [] ≡ ys
    append_nil [] = refl
    append_nil (y ∷ ys) = ap (λ zs. y ∷ zs) (append_nil ys)
