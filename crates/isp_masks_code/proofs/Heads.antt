-- The header of a function's routine fits: its name and those of its parameters are new, where it is exported it takes no vector
-- and gives none, and it has masks.
use Rattle.std.proofs.Common.{◌≡◌, ◌≢◌, ℕ, zero, suc, ◌≤◌, List, [], ◌∷◌, ◌++◌, length, map, take, Option, Some, None, Bool, true, false, refl, sym, ap, ◌∙◌, subst, arith}
use Rattle.std.proofs.lemmas.Option.{same_Some}
use Rattle.std.specs.Prelude.{slice_get, ◌==◌, ◌&&◌, ◌||◌, not, bytes_eq}
use Rattle.std.specs.List.{list_any}
use Rattle.std.proofs.lemmas.Bool.{ne_eqb}
use Rattle.std.proofs.lemmas.List.{append_assoc, append-nil, take-map}
use Rattle.std.proofs.lemmas.List.Folds.{list_any-append}
use Rattle.std.proofs.lemmas.Slice.Eq.{bytes_eq-Decides}
use Rattle.isp_base.specs.declared.signature.Parameter.{Parameter}
use Rattle.isp_base.specs.declared.types.Rate.{Rate}
use Rattle.isp_base.specs.declared.types.Rate.TheVariants.{Uniform, Varying}
use Rattle.isp_base.specs.declared.types.Ty.{Ty}
use Rattle.isp_code.specs.Entries.{parameter_of, parameters_of}
use Rattle.isp_code.specs.Listing.{Routine}
use Rattle.isp_code.specs.declared.function.Param.{Param}
use Rattle.isp_typed.specs.Fine.{IsParam, AreParams, all_new}
use Rattle.isp_typed.specs.Typed.{TFunction}
use Rattle.isp_typed.specs.declared.variable.Holds.{Holds}
use Rattle.isp_typed.specs.declared.variable.Holds.TheVariants as holds
use Rattle.isp_typed.specs.declared.variable.Variable.{Variable as Declared}
use Rattle.isp_verify.specs.Faults.{is_named, names_differ, is_vector, gives_vector, can_export, export_fits, is_function, header_fits}
use Rattle.isp_masks_code.specs.Compiled.{AreOne, IsOne}
use Rattle.isp_lower_code.specs.Header.{value_kind, param_of, params_of, value_returned, returns_of}
use Rattle.isp_masks_code.specs.Made.{GivesUniform}
use Rattle.isp_masks_code.proofs.Begins.{not_so}
use Rattle.isp_masks_code.proofs.Unions.{both_so}

all_so : (a b : Bool) → a ≡ true → b ≡ true → (a && b) ≡ true
all_so a b ea eb = ap (λ z. z && b) ea ∙ eb

so_not : (a : Bool) → a ≡ false → not a ≡ true
so_not a e = ap not e

none_of : (a b : Bool) → a ≡ false → b ≡ false → (a || b) ≡ false
none_of a b ea eb = ap (λ z. z || b) ea ∙ eb

neither_so : (a b : Bool) → (a || b) ≡ false → (a ≡ false) × (b ≡ false)
neither_so true b e = absurd (cc)
neither_so false b e = (refl, e)

-- ---- names

-- names that differ do so both ways
other_way : (xs ys : List ℕ) → bytes_eq xs ys ≡ false → bytes_eq ys xs ≡ false
other_way xs ys e = go (bytes_eq ys xs) refl
  where
    go : (b : Bool) → bytes_eq ys xs ≡ b → bytes_eq ys xs ≡ false
    go false eb = eb
    go true eb =
        let same : ys ≡ xs = (bytes_eq-Decides ys xs).0 eb in
        let no : true ≡ false = sym ((bytes_eq-Decides xs ys).1 (sym same)) ∙ e in
        absurd (cc)

any_map : {A B : Type 0} (p : B → Bool) (f : A → B) (xs : List A) → list_any p (map f xs) ≡ list_any (λ x. p (f x)) xs
any_map p f [] = refl
any_map p f (x ∷ xs) = ap (λ z. p (f x) || z) (any_map p f xs)

-- a name that is there comes up no more
no_more : (before after : List (List ℕ)) (n : List ℕ) (ws : List (List ℕ)) → all_new (before ++ n ∷ after) ws ≡ true → list_any (λ w. bytes_eq w n) ws ≡ false
no_more before after n [] e = refl
no_more before after n (w ∷ ws) e =
    let h = both_so (not (list_any (λ m. bytes_eq m w) (before ++ n ∷ after))) (all_new ((before ++ n ∷ after) ++ w ∷ []) ws) e in
    let none = not_so (list_any (λ m. bytes_eq m w) (before ++ n ∷ after)) h.0 in
    let split = neither_so (list_any (λ m. bytes_eq m w) before) (list_any (λ m. bytes_eq m w) (n ∷ after)) (sym (list_any-append (λ m. bytes_eq m w) before (n ∷ after)) ∙ none) in
    let own = neither_so (bytes_eq n w) (list_any (λ m. bytes_eq m w) after) split.1 in
    none_of (bytes_eq w n) (list_any (λ m. bytes_eq m n) ws) (other_way n w own.0) (no_more before (after ++ w ∷ []) n ws (subst (λ z. all_new z ws ≡ true) (append_assoc before (n ∷ after) (w ∷ [])) h.1))

differ_from : (before : List (List ℕ)) (ps : List Param) → all_new before (map (λ q. q.name) (map parameter_of ps)) ≡ true → names_differ ps ≡ true
differ_from before [] e = refl
differ_from before (p ∷ ps) e =
    let later = map (λ (q : Parameter). q.name) (map parameter_of ps) in
    let h = both_so (not (list_any (λ m. bytes_eq m p.name) before)) (all_new (before ++ p.name ∷ []) later) e in
    let none : list_any (is_named p.name) ps ≡ false = sym (any_map (λ (q : Parameter). bytes_eq q.name p.name) parameter_of ps)
    ∙ sym (any_map (λ w. bytes_eq w p.name) (λ (q : Parameter). q.name) (map parameter_of ps)) ∙ no_more before [] p.name later h.1 in
    all_so (not (list_any (is_named p.name) ps)) (names_differ ps) (so_not (list_any (is_named p.name) ps) none) (differ_from (before ++ p.name ∷ []) ps h.1)

pub names_apart : (g : Routine) (ps : List Parameter) → parameters_of g ≡ ps → all_new [] (map (λ p. p.name) ps) ≡ true → names_differ g.params ≡ true
names_apart g ps e new = differ_from [] g.params (subst (λ (z : List Parameter). all_new [] (map (λ p. p.name) z) ≡ true) (sym e) new)

-- a name is none of those before it
earlier_differ : (before ws : List (List ℕ)) (f : ℕ) (w : List ℕ) → all_new before ws ≡ true → slice_get ws f ≡ Some w → list_any (λ n. bytes_eq n w) (before ++ take f ws) ≡ false
earlier_differ before [] f w new e = absurd (cc)
earlier_differ before (x ∷ ws) zero w new e =
    let h = both_so (not (list_any (λ n. bytes_eq n x) before)) (all_new (before ++ x ∷ []) ws) new in
    let own : list_any (λ n. bytes_eq n x) before ≡ false = not_so (list_any (λ n. bytes_eq n x) before) h.0 in
    ap (list_any (λ n. bytes_eq n w)) (append-nil before) ∙ subst (λ z. list_any (λ n. bytes_eq n z) before ≡ false) (same_Some x w e) own
earlier_differ before (x ∷ ws) (suc f) w new e =
    let h = both_so (not (list_any (λ n. bytes_eq n x) before)) (all_new (before ++ x ∷ []) ws) new in
    ap (list_any (λ n. bytes_eq n w)) (sym (append_assoc before (x ∷ []) (take f ws))) ∙ earlier_differ (before ++ x ∷ []) ws f w h.1 e

-- routines have the names of functions
pub names_same : (hs : List TFunction) (gs : List Routine) → length gs ≡ length hs → ((f : ℕ) (h : TFunction) (g : Routine) → slice_get hs f ≡ Some h → slice_get gs f ≡ Some g → g.name ≡ h.name) → map (λ g. g.name) gs ≡ map (λ h. h.name) hs
names_same [] [] n each = refl
names_same [] (g ∷ gs) n each = absurd (omega (arith, n))
names_same (h ∷ hs) [] n each = absurd (omega (arith, n))
names_same (h ∷ hs) (g ∷ gs) n each =
    ap (λ z. z ∷ map (λ (k : Routine). k.name) gs) (each 0 h g refl refl) ∙ ap (λ z. h.name ∷ z) (names_same hs gs (omega (arith, n)) (λ f. each (suc f)))

at_map : {A B : Type 0} (m : A → B) (xs : List A) (f : ℕ) (x : A) → slice_get xs f ≡ Some x → slice_get (map m xs) f ≡ Some (m x)
at_map m [] f x e = absurd (cc)
at_map m (y ∷ xs) zero x e = ap (λ z. Some (m z)) (same_Some y x e)
at_map m (y ∷ xs) (suc f) x e = at_map m xs f x e

pub new_name : (gs : List Routine) (f : ℕ) (g : Routine) → all_new [] (map (λ k. k.name) gs) ≡ true → slice_get gs f ≡ Some g → list_any (is_function g.name) (take f gs) ≡ false
new_name gs f g new e =
    sym (any_map (λ n. bytes_eq n g.name) (λ (k : Routine). k.name) (take f gs)) ∙ ap (list_any (λ n. bytes_eq n g.name)) (sym (take-map (λ (k : Routine). k.name) f gs))
    ∙ earlier_differ [] (map (λ k. k.name) gs) f g.name new (at_map (λ (k : Routine). k.name) gs f g e)

-- ---- what is exported

no_vectors : (n : ℕ) (ps : List Parameter) (vs : List Declared) → AreParams ps (take n vs) → AreOne (take n vs) → list_any is_vector (params_of ps vs) ≡ false
no_vectors n [] vs a one = refl
no_vectors zero (p ∷ ps) vs a one = absurd a
no_vectors (suc n) (p ∷ ps) [] a one = absurd a
no_vectors (suc n) (p ∷ ps) (x ∷ vs) a one =
    none_of (is_vector (param_of p x.holds)) (list_any is_vector (params_of ps vs)) (go x.holds a.0 one.0) (no_vectors n ps vs a.1 one.1)
  where
    at : (r : Rate) → r ≡ Uniform → (y : Param) → y.kind ≡ value_kind r → is_vector y ≡ false
    at Uniform e y k = ap (λ z. is_vector (record { name = y.name; kind = z; elem = y.elem })) k
    at Varying e y k = absurd (cc)

    go : (y : Holds) → IsParam p y → IsOne y → is_vector (param_of p y) ≡ false
    go (holds.Value t) i one = at t.rate one (param_of p (holds.Value t)) refl
    go (holds.Given t) i one = refl
    go (holds.Local t m) i h = absurd i

no_vector_given : (answer : Option Ty) → GivesUniform answer → gives_vector (returns_of answer) ≡ false
no_vector_given None u = refl
no_vector_given (Some t) u = ap (λ r. gives_vector (value_returned r t.elem)) u

pub exports : (n : ℕ) (ps : List Parameter) (vs : List Declared) (answer : Option Ty) (g : Routine) → AreParams ps (take n vs) → AreOne (take n vs)
    → GivesUniform answer → g.params ≡ params_of ps vs → g.returns ≡ returns_of answer → can_export g ≡ true
exports n ps vs answer g a one u params returns =
    all_so (not (list_any is_vector g.params)) (not (gives_vector g.returns))
    (so_not (list_any is_vector g.params) (ap (list_any is_vector) params ∙ no_vectors n ps vs a one))
    (so_not (gives_vector g.returns) (ap gives_vector returns ∙ no_vector_given answer u))

-- ---- a header

pub head_fits : (earlier : List Routine) (g : Routine) → list_any (is_function g.name) earlier ≡ false → names_differ g.params ≡ true → (g.exported ≡ true → can_export g ≡ true) → 3 ≤ g.masks → header_fits earlier g ≡ true
head_fits earlier g new differ can three =
    let own : export_fits g.exported g ≡ true = go g.exported refl in
    let some : g.masks ≢ 0 = λ e. omega (arith, e, three) in
    all_so (not (list_any (is_function g.name) earlier)) (names_differ g.params && (export_fits g.exported g && not (g.masks == 0))) (so_not (list_any (is_function g.name) earlier) new)
    (all_so (names_differ g.params) (export_fits g.exported g && not (g.masks == 0)) differ
    (all_so (export_fits g.exported g) (not (g.masks == 0)) own (so_not (g.masks == 0) (ne_eqb g.masks 0 some))))
  where
    go : (b : Bool) → g.exported ≡ b → export_fits b g ≡ true
    go true e = can e
    go false e = refl
