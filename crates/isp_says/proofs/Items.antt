-- The text of a list with one item more.
use Rattle.std.proofs.Common.{◌≡◌, sym, ap, ◌∙◌, ℕ, ◌+◌, add-one, ◌++◌, List, ◌∷◌, Option}
use Rattle.std.proofs.lemmas.List.{append_assoc}
use Rattle.isp_base.specs.Maps.{Map}
use Rattle.isp_base.specs.Prints.{comma, items_text, item_text}
use Rattle.isp_base.specs.declared.types.Elem.{Elem}

pub item_added : (t : Elem) (n : ℕ) (x : Map) (v : Option ℕ) (text after_comma after_item : List ℕ) → text ≡ 91 ∷ items_text t n x → after_comma ≡ text ++ comma n → after_item ≡ after_comma ++ item_text t v → v ≡ x n
    → after_item ≡ 91 ∷ items_text t (n + 1) x
item_added t n x v a b d ea eb ed is =
    ed ∙ ap (λ z. b ++ item_text t z) is ∙ ap (λ z. z ++ item_text t (x n)) (eb ∙ ap (λ z. z ++ comma n) ea)
    ∙ ap (λ z. 91 ∷ z) (append_assoc (items_text t n x) (comma n) (item_text t (x n))) ∙ ap (λ k. 91 ∷ items_text t k x) (sym (add-one n))
