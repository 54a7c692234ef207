-- One turn of each loop, by the definition that it computes.
use Rattle.std.proofs.Common.{◌≡◌, ℕ, ◌+◌, ◌<◌, List, [], ◌∷◌, ◌++◌, length, map, take, drop, get_or, Bool, true, false, refl, sym, subst, ap, ◌∙◌, append_assoc, append-nil, if◌then◌else◌}
use Rattle.std.proofs.lemmas.List.{drop_more, take_more}
use Rattle.isp_base.specs.Rows.{Row}
use Rattle.isp_base.specs.declared.signature.Parameter.{Parameter}
use Rattle.isp_run_data.specs.Loading.{Datas, EachGiven, IsGiven}
use Rattle.isp_run_data.specs.Showing.{is_hidden, shown}
use Rattle.isp_run_words.specs.declared.given.Given.{Given}
use Rattle.isp_typed.specs.declared.variable.Variable.{Variable}
use denote.Ref.{Bor}

-- ---- the words

one_more : (datas : Datas) (ws : List (Bor (List ℕ))) (gs : List Given) (w : Bor (List ℕ)) (g : Given) → EachGiven datas ws gs → IsGiven datas w.now g
    → EachGiven datas (ws ++ w ∷ []) (gs ++ g ∷ [])
one_more datas [] [] w g all one = (one, tt)
one_more datas [] (x ∷ gs) w g all one = absurd all
one_more datas (v ∷ ws) [] w g all one = absurd all
one_more datas (v ∷ ws) (x ∷ gs) w g all one = (all.0, one_more datas ws gs w g all.1 one)

pub given_next : (datas : Datas) (ws : List (Bor (List ℕ))) (gs : List Given) (i : ℕ) (d : Bor (List ℕ)) (g : Given) → i < length ws
    → EachGiven datas (take i ws) gs → IsGiven datas (get_or ws i d).now g → EachGiven datas (take (i + 1) ws) (gs ++ g ∷ [])
given_next datas ws gs i d g less all one =
    subst (λ (l : List (Bor (List ℕ))). EachGiven datas l (gs ++ g ∷ [])) (sym (take_more ws i d less)) (one_more datas (take i ws) gs (get_or ws i d) g all one)

-- ---- what is shown

offered : {A B : Type 0} (f : B → A) (done : List A) (b : Bool) (x : B) (xs : List B)
    → done ++ map f (if b then xs else x ∷ xs) ≡ (done ++ (if b then [] else f x ∷ [])) ++ map f xs
offered f done true x xs = ap (λ l. l ++ map f xs) (sym (append-nil done))
offered f done false x xs = sym (append_assoc done (f x ∷ []) (map f xs))

module _ (outs : List (Bor (List ℕ))) where
  -- no arrays are left
  shown_none : (ps : List Parameter) (vs : List Variable) → shown outs ps vs [] ≡ []
  shown_none [] vs = refl
  shown_none (p ∷ ps) [] = refl
  shown_none (p ∷ ps) (v ∷ vs) = refl

  shown_value : (p : Parameter) (v : Variable) (ps : List Parameter) (vs : List Variable) (rs : List Row) → p.is_array ≡ false
      → shown outs (p ∷ ps) (v ∷ vs) rs ≡ shown outs ps vs rs
  shown_value p v ps vs [] e = sym (shown_none ps vs)
  shown_value p v ps vs (r ∷ rs) e =
      ap (λ (b : Bool). if b then (if is_hidden outs p v then shown outs ps vs rs else (p, r) ∷ shown outs ps vs rs) else shown outs ps vs (r ∷ rs)) e

  shown_array : (p : Parameter) (v : Variable) (ps : List Parameter) (vs : List Variable) (r : Row) (rs : List Row) → p.is_array ≡ true
      → shown outs (p ∷ ps) (v ∷ vs) (r ∷ rs) ≡ (if is_hidden outs p v then shown outs ps vs rs else (p, r) ∷ shown outs ps vs rs)
  shown_array p v ps vs r rs e =
      ap (λ (b : Bool). if b then (if is_hidden outs p v then shown outs ps vs rs else (p, r) ∷ shown outs ps vs rs) else shown outs ps vs (r ∷ rs)) e

  -- the parameter of this turn and its variable, and what is done with each that is shown
  module _ {A : Type 0} (f : Parameter × Row → A) (all done : List A) (ps : List Parameter) (k : ℕ) (p : Parameter) (v : Variable) (vs others : List Variable)
      (less : k < length ps) (is : p ≡ get_or ps k p) (first : vs ≡ v ∷ others) where
    here : (rs : List Row) → shown outs (drop k ps) vs rs ≡ shown outs (p ∷ drop (k + 1) ps) (v ∷ others) rs
    here rs =
        ap (λ (l : List Parameter). shown outs l vs rs) (drop_more ps k p less ∙ ap (λ (q : Parameter). q ∷ drop (k + 1) ps) (sym is))
        ∙ ap (λ (l : List Variable). shown outs (p ∷ drop (k + 1) ps) l rs) first

    pub turn_value : (rs : List Row) → p.is_array ≡ false → all ≡ done ++ map f (shown outs (drop k ps) vs rs)
        → all ≡ done ++ map f (shown outs (drop (k + 1) ps) others rs)
    turn_value rs e h = h ∙ ap (λ (l : List (Parameter × Row)). done ++ map f l) (here rs ∙ shown_value p v (drop (k + 1) ps) others rs e)

    pub turn_array : (left rs : List Row) (r : Row) (more : List A) → p.is_array ≡ true → left ≡ r ∷ rs
        → more ≡ done ++ (if is_hidden outs p v then [] else f (p, r) ∷ []) → all ≡ done ++ map f (shown outs (drop k ps) vs left)
        → all ≡ more ++ map f (shown outs (drop (k + 1) ps) others rs)
    turn_array left rs r more e next grown h =
        let others_shown : List (Parameter × Row) = shown outs (drop (k + 1) ps) others rs in
        h ∙ ap (λ (l : List (Parameter × Row)). done ++ map f l) (here left ∙ ap (λ (l : List Row). shown outs (p ∷ drop (k + 1) ps) (v ∷ others) l) next
        ∙ shown_array p v (drop (k + 1) ps) others r rs e)
        ∙ offered f done (is_hidden outs p v) (p, r) others_shown ∙ ap (λ (l : List A). l ++ map f others_shown) (sym grown)
