-- The lines of exported functions, one after the other.
use Rattle.std.proofs.Common.{◌≡◌, ℕ, zero, suc, ◌+◌, ◌≤◌, List, [], ◌∷◌, ◌++◌, length, map, Bool, true, false, cond, Option, Some, None, refl, sym, ap, ◌∙◌, subst, arith, add-one, append_assoc, append-nil, take}
use Rattle.std.specs.Prelude.{◌&&◌, bytes_eq, filter, find, slice_get, codes, if◌then◌else◌, OnOk, Result, Ok, Err, ⊤}
use Rattle.std.specs.Result.{is_ok}
use Rattle.std.specs.Option.{IsSome, option_map}
use Rattle.std.proofs.lemmas.Slice.Eq.{bytes_eq-Decides}
use Rattle.isp_independence.specs.declared.dependence.Dependence.{Dependence}
use Rattle.isp_independence.specs.Dependences.{Answered}
use Rattle.isp_independence.specs.Independent.{Depends}
use Rattle.isp_rates.specs.Exports.{exports_from, is_entry, entry_from}
use Rattle.isp_typed.specs.Typed.{Program, TFunction}
use Rattle.isp_typed.specs.Views.{function_of, functions_of, program_of}
use Rattle.isp_typed.specs.declared.function.Program as rust_program
use Rattle.isp_typed.specs.declared.function.TypedFunction.{TypedFunction}
use Rattle.isp_verdicts.specs.Verdicts.{AreVerdicts, Checks, IsVerdict, dependence_text, exported_names, verdict_line}

-- ---- names

get_map : {A B : Type 0} (f : A → B) (xs : List A) (k : ℕ) → slice_get (map f xs) k ≡ option_map f (slice_get xs k)
get_map f [] k = refl
get_map f (x ∷ xs) zero = refl
get_map f (x ∷ xs) (suc k) = get_map f xs k

abbrev pub exported : List TypedFunction → List TypedFunction
exported = filter (λ (f : TypedFunction). f.exported)

abbrev pub named : List TypedFunction → List (List ℕ)
named fs = map (λ (f : TypedFunction). f.name) (exported fs)

-- the names by the typed tree are those by the code
names_are : (fs : List TypedFunction) → map (λ (g : TFunction). g.name) (filter (λ (g : TFunction). g.exported) (functions_of fs)) ≡ named fs
names_are [] = refl
names_are (f ∷ fs) = at (names_are fs) f.exported
  where
    at : map (λ (g : TFunction). g.name) (filter (λ (g : TFunction). g.exported) (functions_of fs)) ≡ named fs → (t : Bool)
        → map (λ (g : TFunction). g.name) (cond t (function_of f ∷ filter (λ (g : TFunction). g.exported) (functions_of fs))
        (filter (λ (g : TFunction). g.exported) (functions_of fs))) ≡ map (λ (f : TypedFunction). f.name) (cond t (f ∷ exported fs) (exported fs))
    at h true = ap (λ z. f.name ∷ z) h
    at h false = h

-- there are as many as numbers of exported functions
as_many : (n : ℕ) (fs : List TypedFunction) → length (exports_from n fs) ≡ length (named fs)
as_many n [] = refl
as_many n (f ∷ fs) = at (as_many (suc n) fs) f.exported
  where
    at : length (exports_from (suc n) fs) ≡ length (named fs) → (t : Bool) → length (cond t (n ∷ exports_from (suc n) fs) (exports_from (suc n) fs)) ≡ length (map (λ (f : TypedFunction). f.name) (cond t (f ∷ exported fs) (exported fs)))
    at h true = ap suc h
    at h false = h

-- the name of an exported function is found
name_is_found : (fs : List TypedFunction) (k : ℕ) (w : List ℕ) → slice_get (named fs) k ≡ Some w → IsSome (find (is_entry w) fs)
name_is_found [] k w e = absurd (let z : ⊥ = cc in z)
name_is_found (f ∷ fs) k w e = at (λ j. name_is_found fs j w) f.exported refl k e
  where
    found : (t : Bool) → t ≡ true → IsSome (cond t (Some f) (find (is_entry w) fs))
    found true e = refl
    found false e = absurd (let z : ⊥ = cc in z)

    later : (t : Bool) → IsSome (find (is_entry w) fs) → IsSome (cond t (Some f) (find (is_entry w) fs))
    later true h = refl
    later false h = h

    same : f.exported ≡ true → f.name ≡ w → is_entry w f ≡ true
    same x e = ap (λ t. t && bytes_eq f.name w) x ∙ (bytes_eq-Decides f.name w).1 e

    at : ((j : ℕ) → slice_get (named fs) j ≡ Some w → IsSome (find (is_entry w) fs)) → (t : Bool) → f.exported ≡ t → (k : ℕ)
        → slice_get (map (λ (f : TypedFunction). f.name) (cond t (f ∷ exported fs) (exported fs))) k ≡ Some w → IsSome (find (is_entry w) (f ∷ fs))
    at h true x zero e = found (is_entry w f) (same x (let z : f.name ≡ w = cc in z))
    at h true x (suc k) e = later (is_entry w f) (h k e)
    at h false x k e = later (is_entry w f) (h k e)

pub entry_is_found : (fs : List TypedFunction) (k : ℕ) (w : List ℕ) → Some w ≡ option_map (λ (f : TypedFunction). f.name) (slice_get (exported fs) k) → IsSome (find (is_entry w) fs)
entry_is_found fs k w e = name_is_found fs k w (get_map (λ (f : TypedFunction). f.name) (exported fs) k ∙ sym e)

-- ---- what is found of a name

-- the function with the name's number
pub record Found (w : List ℕ) (n : ℕ) (fs : List TypedFunction) : Type 0 where
  pub place : ℕ
  pub function : TypedFunction
  pub at : slice_get fs place ≡ Some function
  pub is : is_entry w function ≡ true
  pub number : entry_from w n fs ≡ Some (n + place)

found_in : (w : List ℕ) (n : ℕ) (fs : List TypedFunction) → IsSome (find (is_entry w) fs) → Found w n fs
found_in w n [] h = absurd (let z : ⊥ = cc in z)
found_in w n (f ∷ fs) h = at (found_in w (suc n) fs) (is_entry w f) refl h
  where
    at : (IsSome (find (is_entry w) fs) → Found w (suc n) fs) → (t : Bool) → is_entry w f ≡ t → IsSome (cond t (Some f) (find (is_entry w) fs)) → Found w n (f ∷ fs)
    at more true x h = record { place = 0; function = f; at = refl; is = x; number = ap (λ t. cond t (Some n) (entry_from w (suc n) fs)) x ∙ ap Some (let z : n ≡ n + 0 = omega arith in z) }
    at more false x h =
        let r = more h in
        record { place = suc r.place; function = r.function; at = r.at; is = r.is; number = ap (λ t. cond t (Some n) (entry_from w (suc n) fs)) x ∙ r.number ∙ ap Some (let z : suc n + r.place ≡ n + suc r.place = omega arith in z) }

pub verdict_is : (p : rust_program.Program) (w : List ℕ) (o : Option Dependence) → IsSome (find (is_entry w) p.functions.items)
    → ((f : ℕ) → entry_from w 0 p.functions.items ≡ Some f → Answered o (Depends (program_of p) f)) → IsVerdict (program_of p) w o
verdict_is p w o h answered =
    let r = found_in w 0 p.functions.items h in
    record {
      number = r.place;
      function = function_of r.function;
      export = record {
        found = get_map function_of p.functions.items r.place ∙ ap (option_map function_of) r.at;
        named = (bytes_eq-Decides r.function.name w).0 (and_right r.function.exported (bytes_eq r.function.name w) r.is);
        exported = and_left r.function.exported (bytes_eq r.function.name w) r.is;
      };
      answered = answered r.place (r.number ∙ ap Some (let z : 0 + r.place ≡ r.place = omega arith in z));
    }
  where
    and_left : (a b : Bool) → (a && b) ≡ true → a ≡ true
    and_left true b h = refl
    and_left false b h = h

    and_right : (a b : Bool) → (a && b) ≡ true → b ≡ true
    and_right true b h = h
    and_right false b h = absurd (let z : ⊥ = cc in z)

-- ---- lines

module _ (p : Program) where
  one_more : (names : List (List ℕ)) (name text : List ℕ) (o : Option Dependence) → AreVerdicts p names text → IsVerdict p name o → AreVerdicts p (names ++ name ∷ []) (text ++ verdict_line name o)
  one_more [] name text o h v = (o, [], v, refl, ap (λ z. z ++ verdict_line name o) h ∙ sym (append-nil (verdict_line name o)))
  one_more (n ∷ names) name text o (o', rest, v', h, e) v =
      (o', rest ++ verdict_line name o, v', one_more names name rest o h v, ap (λ z. z ++ verdict_line name o) e ∙ append_assoc (verdict_line n o') rest (verdict_line name o))

take_next : {A : Type 0} (xs : List A) (k : ℕ) (x : A) → slice_get xs k ≡ Some x → take (suc k) xs ≡ take k xs ++ x ∷ []
take_next [] k x e = absurd (let z : ⊥ = cc in z)
take_next (y ∷ ys) zero x e = ap (λ z. z ∷ []) (let z : y ≡ x = cc in z)
take_next (y ∷ ys) (suc k) x e = ap (λ z. y ∷ z) (take_next ys k x e)

take_past : {A : Type 0} (xs : List A) (k : ℕ) → slice_get xs k ≡ None → take (suc k) xs ≡ take k xs
take_past [] zero e = refl
take_past [] (suc k) e = refl
take_past (y ∷ ys) zero e = absurd (let z : ⊥ = cc in z)
take_past (y ∷ ys) (suc k) e = ap (λ z. y ∷ z) (take_past ys k e)

take_long : {A : Type 0} (xs : List A) (k : ℕ) → length xs ≤ k → take k xs ≡ xs
take_long [] zero h = refl
take_long [] (suc k) h = refl
take_long (y ∷ ys) zero h = absurd (let z : ⊥ = omega arith in z)
take_long (y ∷ ys) (suc k) h = ap (λ z. y ∷ z) (take_long ys k (omega arith))

-- the text after k of them
pub record SoFar (p : Program) (k : ℕ) (text : List ℕ) : Type 0 where
  pub lines : List ℕ
  pub verdicts : AreVerdicts p (take k (exported_names p)) lines
  pub text_is : text ≡ (codes "ok" ++ 10 ∷ []) ++ lines

pub begun : (p : Program) (text : List ℕ) → text ≡ codes "ok" ++ 10 ∷ [] → SoFar p 0 text
begun p text e = record { lines = []; verdicts = refl; text_is = e ∙ sym (append-nil (codes "ok" ++ 10 ∷ [])) }

module _ (p : rust_program.Program) where
  names_of : exported_names (program_of p) ≡ named p.functions.items
  names_of = names_are p.functions.items

  pub said : (k : ℕ) (w old new : List ℕ) (o : Option Dependence)
      → Some w ≡ option_map (λ (f : TypedFunction). f.name) (slice_get (exported p.functions.items) k) → IsVerdict (program_of p) w o
      → new ≡ old ++ verdict_line w o → SoFar (program_of p) k old → SoFar (program_of p) (k + 1) new
  said k w old new o e v is h = record {
    lines = h.lines ++ verdict_line w o;
    verdicts = subst (λ z. AreVerdicts (program_of p) z (h.lines ++ verdict_line w o))
        (sym (ap (λ j. take j (exported_names (program_of p))) (add-one k) ∙ take_next (exported_names (program_of p)) k w at))
        (one_more (program_of p) _ w h.lines o h.verdicts v);
    text_is = is ∙ ap (λ z. z ++ verdict_line w o) h.text_is ∙ append_assoc (codes "ok" ++ 10 ∷ []) h.lines (verdict_line w o);
  }
    where
      at : slice_get (exported_names (program_of p)) k ≡ Some w
      at = ap (λ z. slice_get z k) names_of ∙ get_map (λ (f : TypedFunction). f.name) (exported p.functions.items) k ∙ sym e

  pub none_said : (k : ℕ) (text : List ℕ) → None ≡ option_map (λ (f : TypedFunction). f.name) (slice_get (exported p.functions.items) k) → SoFar (program_of p) k text → SoFar (program_of p) (k + 1) text
  none_said k text e h = record {
    lines = h.lines;
    verdicts = subst (λ z. AreVerdicts (program_of p) z h.lines)
        (sym (ap (λ j. take j (exported_names (program_of p))) (add-one k) ∙ take_past (exported_names (program_of p)) k at)) h.verdicts;
    text_is =
        h.text_is;
  }
    where
      at : slice_get (exported_names (program_of p)) k ≡ None
      at = ap (λ z. slice_get z k) names_of ∙ get_map (λ (f : TypedFunction). f.name) (exported p.functions.items) k ∙ sym e

  pub all_said : (k : ℕ) (ns text : List ℕ) → ns ≡ exports_from 0 p.functions.items → length ns ≤ k → SoFar (program_of p) k text → Checks (program_of p) text
  all_said k ns text e past h = record {
    lines = h.lines;
    verdicts = subst (λ z. AreVerdicts (program_of p) z h.lines) (take_long (exported_names (program_of p)) k long) h.verdicts;
    text_is = h.text_is;
  }
    where
      long : length (exported_names (program_of p)) ≤ k
      long = subst (λ z. z ≤ k) (ap length e ∙ as_many 0 p.functions.items ∙ sym (ap length names_of)) past

-- ---- the pieces of a line

pub line_of_dependence : {E : Type 0} (r : Result ⊤ E) (name old a b c new : List ℕ) (o : Option Dependence) (d : Dependence) → o ≡ Some d
    → a ≡ old ++ name → b ≡ a ++ codes " dependent: " → c ≡ b ++ dependence_text d → new ≡ (if is_ok r then c ++ 10 ∷ [] else c)
    → OnOk r (new ≡ old ++ verdict_line name o)
line_of_dependence (Err e) name old a b c new o d is h k l m = tt
line_of_dependence (Ok u) name old a b c new o d is h k l m =
    m
    ∙ ap (λ z. z ++ 10 ∷ []) (l ∙ ap (λ z. z ++ dependence_text d) (k ∙ ap (λ z. z ++ codes " dependent: ") h))
    ∙ ap (λ z. z ++ 10 ∷ []) (append_assoc (old ++ name) (codes " dependent: ") (dependence_text d))
    ∙ append_assoc (old ++ name) (codes " dependent: " ++ dependence_text d) (10 ∷ [])
    ∙ append_assoc old name ((codes " dependent: " ++ dependence_text d) ++ 10 ∷ [])
    ∙ ap (λ z. old ++ verdict_line name z) (sym is)
