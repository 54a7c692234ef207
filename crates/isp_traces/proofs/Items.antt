-- The values of a vector in brackets, one by one.
use Rattle.std.proofs.Common.{◌≡◌, ap, ◌∙◌, ℕ, suc, ◌+◌, List, ◌++◌, append_assoc, Option, arith}
use Rattle.std.specs.Prelude.{codes}
use Rattle.isp_base.specs.Maps.{Map}
use Rattle.isp_base.specs.Prints.{comma, item_text, items_text}
use Rattle.isp_base.specs.declared.types.Elem.{Elem}
use Rattle.isp_traces.proofs.Words.{one_more}

pub items_more : (t : Elem) (n : ℕ) (x : Map) (v : Option ℕ) (old text t1 t2 : List ℕ) → text ≡ old ++ items_text t n x → t1 ≡ text ++ comma n → t2 ≡ t1 ++ item_text t v → v ≡ x n
    → t2 ≡ old ++ items_text t (n + 1) x
items_more t n x v old text t1 t2 e h1 h2 is =
    let z : suc n ≡ n + 1 = omega arith in
    let before : List ℕ = items_text t n x in
    let e1 = one_more old before text t1 (comma n) e h1 in
    one_more old (before ++ comma n) t1 t2 (item_text t v) e1 h2
    ∙ ap (λ (s : List ℕ). old ++ s) (append_assoc before (comma n) (item_text t v))
    ∙ ap (λ (u : Option ℕ). old ++ (before ++ (comma n ++ item_text t u))) is
    ∙ ap (λ (j : ℕ). old ++ items_text t j x) z

pub list_closed : (old items text last : List ℕ) → text ≡ (old ++ codes "[") ++ items → last ≡ text ++ codes "]" → last ≡ old ++ (codes "[" ++ (items ++ codes "]"))
list_closed old items text last e is =
    is
    ∙ ap (λ (s : List ℕ). s ++ codes "]") e
    ∙ append_assoc (old ++ codes "[") items (codes "]")
    ∙ append_assoc old (codes "[") (items ++ codes "]")
