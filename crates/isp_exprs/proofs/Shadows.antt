-- One binding more, and one less: where the last ones stand, and what they hide.
use Rattle.std.proofs.Common.{◌≡◌, ℕ, ◌-◌, ◌<◌, ◌++◌, Bool, true, false, cond, take, refl, sym, ap, ◌∙◌, arith, length-append, String, Global}
use Rattle.std.specs.Prelude.{Option, Some, None, IsSome, List, [], ◌∷◌, length, bytes_eq}
use Rattle.std.specs.Option.{option_to_list}
use Rattle.std.proofs.lemmas.List.{append-nil, append_assoc}
use Rattle.std.proofs.Math.Seq.{take-append_seam}
use Rattle.std.proofs.lemmas.Slice.Eq.{bytes_eq-Decides}
use Rattle.std.specs.BTreeMap.{BTreeMap, get_by_text}
use Rattle.isp_exprs.specs.declared.scope.Binding.{Binding}
use Rattle.isp_exprs.specs.reader.Scopes.{last_place, hidden_behind, hidden_places}
use Rattle.isp_exprs.proofs.Bindings.{last_more}

hidden_behind_more : (before ns : List Binding) (b : Binding) → hidden_behind before (ns ++ b ∷ []) ≡ hidden_behind before ns ++ last_place b.name (before ++ ns) ∷ []
hidden_behind_more before [] b = ap (λ z. last_place b.name z ∷ []) (sym (append-nil before))
hidden_behind_more before (c ∷ ns) b = ap (λ z. last_place c.name before ∷ z)
    (hidden_behind_more (before ++ c ∷ []) ns b ∙ ap (λ z. hidden_behind (before ++ c ∷ []) ns ++ last_place b.name z ∷ []) (append_assoc before (c ∷ []) ns))

-- what one more binding hides
hidden_more : (ns : List Binding) (b : Binding) → hidden_places (ns ++ b ∷ []) ≡ hidden_places ns ++ last_place b.name ns ∷ []
hidden_more ns b = hidden_behind_more [] ns b

some_there : {A : Type 0} (ys : List A) (y : A) → [] ≡ ys ++ y ∷ [] → ⊥
some_there [] y e = cc
some_there (z ∷ ys) y e = cc

head_same : {A : Type 0} (x y : A) (xs ys : List A) → x ∷ xs ≡ y ∷ ys → x ≡ y
head_same x y xs ys e = cc

tail_same : {A : Type 0} (x y : A) (xs ys : List A) → x ∷ xs ≡ y ∷ ys → xs ≡ ys
tail_same x y xs ys e = cc

-- two lists with one more each are equal: so are the lists, and what they have more
lists_same : {A : Type 0} (xs ys : List A) (x y : A) → xs ++ x ∷ [] ≡ ys ++ y ∷ [] → xs ≡ ys
lists_same [] [] x y e = refl
lists_same [] (b ∷ ys) x y e = absurd (some_there ys y (tail_same x b [] (ys ++ y ∷ []) e))
lists_same (a ∷ xs) [] x y e = absurd (some_there xs x (sym (tail_same a y (xs ++ x ∷ []) [] e)))
lists_same (a ∷ xs) (b ∷ ys) x y e = let h = head_same a b (xs ++ x ∷ []) (ys ++ y ∷ []) e in
    let t = lists_same xs ys x y (tail_same a b (xs ++ x ∷ []) (ys ++ y ∷ []) e) in cc

ends_same : {A : Type 0} (xs ys : List A) (x y : A) → xs ++ x ∷ [] ≡ ys ++ y ∷ [] → x ≡ y
ends_same [] [] x y e = head_same x y [] [] e
ends_same [] (b ∷ ys) x y e = absurd (some_there ys y (tail_same x b [] (ys ++ y ∷ []) e))
ends_same (a ∷ xs) [] x y e = absurd (some_there xs x (sym (tail_same a y (xs ++ x ∷ []) [] e)))
ends_same (a ∷ xs) (b ∷ ys) x y e = ends_same xs ys x y (tail_same a b (xs ++ x ∷ []) (ys ++ y ∷ []) e)

-- a name that comes last stands there
pub last_here : (ns : List Binding) (b : Binding) → last_place b.name (ns ++ b ∷ []) ≡ Some (length ns)
last_here ns b = last_more b.name ns b ∙ ap (λ z. cond z (Some (length ns)) (last_place b.name ns)) ((bytes_eq-Decides b.name b.name).1 refl)

-- a map that has the places, after one less
pub places_less : (w : List ℕ) (ns : List Binding) (b : Binding) (before after h : Option ℕ) → before ≡ last_place w (ns ++ b ∷ []) → h ≡ last_place b.name ns
    → after ≡ cond (bytes_eq b.name w) h before → after ≡ last_place w ns
places_less w ns b before after h e k a = a ∙ (ap (cond (bytes_eq b.name w) h) (e ∙ last_more w ns b) ∙ go (bytes_eq b.name w) refl)
  where
    go : (t : Bool) → bytes_eq b.name w ≡ t → cond t h (cond t (Some (length ns)) (last_place w ns)) ≡ last_place w ns
    go true t = k ∙ ap (λ z. last_place z ns) ((bytes_eq-Decides b.name w).0 t)
    go false t = refl

-- what one more hides stands after the others
pub hidden_pushed : (ns : List Binding) (b : Binding) (hs : List (Option ℕ)) (o : Option ℕ) → hs ≡ hidden_places ns → o ≡ last_place b.name ns → hs ++ o ∷ [] ≡ hidden_places (ns ++ b ∷ [])
hidden_pushed ns b hs o e k = rw (e, k) (sym (hidden_more ns b))

no_more : (hs less : List (Option ℕ)) (x : Option ℕ) → hs ≡ less ++ x ∷ [] → 0 < length hs
no_more hs less x e = omega (arith, simp length-append at (ap length e))

clash : true ≡ false → ⊥
clash e = cc

-- what the last binding hid, taken off its list
pub hidden_last : (hs less : List (Option ℕ)) (o : Option (Option ℕ)) (ns : List Binding) (b : Binding) (n : ℕ) → n ≡ length hs → hs ≡ less ++ option_to_list o → (0 < n → IsSome o)
    → hs ≡ hidden_places (ns ++ b ∷ []) → o ≡ Some (last_place b.name ns)
hidden_last hs less None ns b n l e s h = let m = no_more hs (hidden_places ns) (last_place b.name ns) (h ∙ hidden_more ns b) in absurd (clash (sym (s (omega arith))))
hidden_last hs less (Some x) ns b n l e s h = ap Some (ends_same less (hidden_places ns) x (last_place b.name ns) (sym e ∙ (h ∙ hidden_more ns b)))

pub hidden_rest : (hs less : List (Option ℕ)) (o : Option (Option ℕ)) (ns : List Binding) (b : Binding) (n : ℕ) → n ≡ length hs → hs ≡ less ++ option_to_list o → (0 < n → IsSome o)
    → hs ≡ hidden_places (ns ++ b ∷ []) → less ≡ hidden_places ns
hidden_rest hs less None ns b n l e s h = let m = no_more hs (hidden_places ns) (last_place b.name ns) (h ∙ hidden_more ns b) in absurd (clash (sym (s (omega arith))))
hidden_rest hs less (Some x) ns b n l e s h = lists_same less (hidden_places ns) x (last_place b.name ns) (sym e ∙ (h ∙ hidden_more ns b))

-- a list without what was put after it
pub popped_back : {A : Type 0} (xs more less : List A) (x : A) (n : ℕ) → more ≡ xs ++ x ∷ [] → n ≡ length more → less ≡ take (n - 1) more → less ≡ xs
popped_back xs more less x n m l e =
    let k : n - 1 ≡ length xs = omega (arith, simp length-append at (ap length m)) in
    e ∙ (rw (k, m) (take-append_seam xs (x ∷ [])))

-- a map that stayed as it was
pub same_places : (w : List ℕ) (old new : BTreeMap (String Global) ℕ) → new.entries ≡ old.entries → get_by_text new w ≡ get_by_text old w
same_places w old new e = rw e refl
