-- What a module exports is there, and no name stands twice.
use Rattle.std.proofs.Common.{◌≡◌, ◌⊎◌, inl, inr, ⊎_elim, ℕ, zero, suc, ◌+◌, ◌<◌, List, [], ◌∷◌, ◌++◌, take, Option, Some, None, Bool, true, false, ◌&&◌, not, refl, sym, ap, ◌∙◌, subst, arith}
use Rattle.std.specs.Prelude.{◌||◌, ◌==◌, slice_get, if◌then◌else◌}
use Rattle.std.specs.List.{list_all, list_any}
use Rattle.std.proofs.lemmas.Bool.{cases_eq, cases_lt}
use Rattle.std.proofs.lemmas.Slice.Eq.{bytes_eq-Decides}
use Rattle.isp_code.specs.Listing.{Listing, Routine}
use Rattle.isp_code.specs.Writable.{IsWritable, name_fits, routine_fits, param_fits, local_fits, instr_fits, number_fits}
use Rattle.isp_verify.specs.Accepted.{IsFine}
use Rattle.isp_verify.specs.Faults.{is_function, names_differ, export_fits}
use Rattle.isp_forms.specs.Runs.{Forms}
use Rattle.isp_wasm_meaning.specs.Module.{Function, unused}
use Rattle.isp_wasm.specs.Module.{is_covered, is_called, all_plain, kernel_of, function_of, inner_of, inner_function, each_function, module_with}
use Rattle.isp_wasm.specs.Stack.{has_call}
use Rattle.isp_wasm_binary.specs.Binary.{names, named}
use Rattle.isp_wasm_binary.specs.Instructions.{hosts}
use Rattle.isp_wasm_binary.specs.Modules.{Export, FunctionKind}
use Rattle.isp_wasm_valid.proofs.Folded.{both}
use Rattle.isp_wasm_valid.proofs.Sections.{same_some, all_at}

-- ---- what is exported is a function

-- the export of a function under its name
abbrev pub Named : List Function → ℕ → Export → Type 0
Named fs n e = (k : ℕ) × (g : Function) × (slice_get fs k ≡ Some g) × (g.export ≡ Some e.name) × (e.kind ≡ FunctionKind) × (e.index ≡ hosts + (n + k))

later : (h : Function) (hs : List Function) (n : ℕ) (e : Export) → Named hs (suc n) e → Named (h ∷ hs) n e
later h hs n e it = (suc it.0, it.1, it.2, it.3, it.4, it.5 ∙ (let sum : suc n + it.0 ≡ n + suc it.0 = omega arith in ap (λ z. hosts + z) sum))

abbrev export_of : ℕ → List ℕ → Export
export_of n name = record { name = name; kind = FunctionKind; index = hosts + n }

first_from : (g : Function) (gs : List Function) (n k : ℕ) (e : Export) (o : Option (List ℕ)) → g.export ≡ o → slice_get (named o n (names (suc n) gs)) k ≡ Some e
    → ((j : ℕ) → slice_get (names (suc n) gs) j ≡ Some e → Named gs (suc n) e) → Named (g ∷ gs) n e
first_from g gs n k e None is h rest = later g gs n e (rest k h)
first_from g gs n zero e (Some name) is h rest =
    let same = same_some (export_of n name) e h in
    (0, g, refl, is ∙ ap (λ (z : Export). Some z.name) same, sym (ap (λ (z : Export). z.kind) same), sym (ap (λ (z : Export). z.index) same) ∙ (let sum : n ≡ n + 0 = omega arith in ap (λ z. hosts + z) sum))
first_from g gs n (suc k) e (Some name) is h rest = later g gs n e (rest k h)

pub named_from : (fs : List Function) (n k : ℕ) (e : Export) → slice_get (names n fs) k ≡ Some e → Named fs n e
named_from [] n k e h = absurd (let no : ⊥ = cc in no)
named_from (g ∷ gs) n k e h = first_from g gs n k e g.export refl h (λ j. named_from gs (suc n) j e)

-- ---- no name twice, where no two functions have one

abbrev pub Once : List Function → Type 0
Once fs = (j k : ℕ) (f g : Function) (name : List ℕ) → slice_get fs j ≡ Some f → slice_get fs k ≡ Some g → f.export ≡ Some name → g.export ≡ Some name → j ≡ k

once_behind : (h : Function) (hs : List Function) → Once (h ∷ hs) → Once hs
once_behind h hs once j k f g name a b c d = let same : suc j ≡ suc k = once (suc j) (suc k) f g name a b c d in omega (arith, same)

-- the first one's name is that of no later one
not_later : (h : Function) (hs : List Function) → Once (h ∷ hs) → (n : ℕ) (name : List ℕ) (e : Export) → h.export ≡ Some name → name ≡ e.name → Named hs n e → ⊥
not_later h hs once n name e is same it =
    let clash : 0 ≡ suc it.0 = once 0 (suc it.0) h it.1 name refl it.2 is (it.3 ∙ ap Some (sym same)) in omega (arith, clash)

one_more : (h : Function) (hs : List Function) (n j k : ℕ) (d e : Export) → Once (h ∷ hs) → (o : Option (List ℕ)) → h.export ≡ o → slice_get (named o n (names (suc n) hs)) j ≡ Some d
    → slice_get (named o n (names (suc n) hs)) k ≡ Some e → d.name ≡ e.name
    → ((a b : ℕ) → slice_get (names (suc n) hs) a ≡ Some d → slice_get (names (suc n) hs) b ≡ Some e → a ≡ b) → j ≡ k
one_more h hs n j k d e once None is x y same rest = rest j k x y
one_more h hs n zero zero d e once (Some name) is x y same rest = refl
one_more h hs n zero (suc k) d e once (Some name) is x y same rest =
    absurd (not_later h hs once (suc n) name e is (ap (λ (z : Export). z.name) (same_some (export_of n name) d x) ∙ same) (named_from hs (suc n) k e y))
one_more h hs n (suc j) zero d e once (Some name) is x y same rest =
    absurd (not_later h hs once (suc n) name d is (ap (λ (z : Export). z.name) (same_some (export_of n name) e y) ∙ sym same) (named_from hs (suc n) j d x))
one_more h hs n (suc j) (suc k) d e once (Some name) is x y same rest = ap suc (rest j k x y)

pub names_once : (fs : List Function) → Once fs → (n j k : ℕ) (d e : Export) → slice_get (names n fs) j ≡ Some d → slice_get (names n fs) k ≡ Some e → d.name ≡ e.name → j ≡ k
names_once [] once n j k d e x y same = absurd (let no : ⊥ = cc in no)
names_once (g ∷ gs) once n j k d e x y same = one_more g gs n j k d e once g.export refl x y same (λ a b u v. names_once gs (once_behind g gs once) (suc n) a b d e u v same)

-- ---- the functions of code have a name each

abbrev Of : (ℕ → Routine → Function) → List Routine → List Function → ℕ → Function → Type 0
Of make hs ys k g = ((h : Routine) × (n : ℕ) × (slice_get hs k ≡ Some h) × (make n h ≡ g)) ⊎ ((j : ℕ) × (slice_get ys j ≡ Some g))

get_made : (make : ℕ → Routine → Function) (i : ℕ) (hs : List Routine) (ys : List Function) (k : ℕ) (g : Function) → slice_get (each_function make i hs ++ ys) k ≡ Some g → Of make hs ys k g
get_made make i [] ys k g e = inr (k, e)
get_made make i (h ∷ hs) ys zero g e = inl (h, i, refl, same_some (make i h) g e)
get_made make i (h ∷ hs) ys (suc k) g e = get_made make (suc i) hs ys k g e

none_is : (g : Function) (name : List ℕ) → g.export ≡ None → g.export ≡ Some name → ⊥
none_is g name a b = let clash : None ≡ Some name = sym a ∙ b in cc

earlier : {A : Type 0} (p : A → Bool) (xs : List A) (j k : ℕ) (x : A) → j < k → slice_get xs j ≡ Some x → p x ≡ true → list_any p (take k xs) ≡ true
earlier p [] j k x lt e h = absurd (let no : ⊥ = cc in no)
earlier p (a ∷ xs) j zero x lt e h = absurd (omega (arith, lt))
earlier p (a ∷ xs) zero (suc k) x lt e h = ap (λ b. b || list_any p (take k xs)) (ap p (same_some a x e) ∙ h)
earlier p (a ∷ xs) (suc j) (suc k) x lt e h = or_later (p a) (list_any p (take k xs)) (earlier p xs j k x (omega (arith, lt)) e h)
  where
    or_later : (b d : Bool) → d ≡ true → (b || d) ≡ true
    or_later true d e = refl
    or_later false d e = e

not_both : (b : Bool) → not b ≡ true → b ≡ true → ⊥
not_both true e f = let no : ⊥ = cc in no
not_both false e f = let no : ⊥ = cc in no

module _ (image : Listing) (forms : Forms) where
  -- a later function has another name
  other_name : IsFine image → (j k : ℕ) (f g : Routine) → j < k → slice_get image.routines j ≡ Some f → slice_get image.routines k ≡ Some g → f.name ≡ g.name → ⊥
  other_name fine j k f g lt x y same =
      not_both (list_any (is_function g.name) (take k image.routines))
      (both (not (list_any (is_function g.name) (take k image.routines))) (names_differ g.params && (export_fits g.exported g && not (g.masks == 0))) (fine.headers k g y)).0
      (earlier (is_function g.name) image.routines j k f lt x ((bytes_eq-Decides f.name g.name).1 same))

  one_routine : IsFine image → (j k : ℕ) (f g : Routine) → slice_get image.routines j ≡ Some f → slice_get image.routines k ≡ Some g → f.name ≡ g.name → j ≡ k
  one_routine fine j k f g x y same =
      ⊎_elim (λ e. e)
      (λ apart. ⊎_elim (λ lt. absurd (other_name fine j k f g lt x y same)) (λ le. absurd (other_name fine k j g f (omega (arith, le, apart)) y x (sym same))) (cases_lt j k))
      (cases_eq j k)

  inner_unnamed : (b : Bool) (n : ℕ) (h : Routine) → (if b then inner_of image forms n h else unused).export ≡ None
  inner_unnamed true n h = refl
  inner_unnamed false n h = refl

  inner_none : (hs : List Routine) (f j : ℕ) (g : Function) → slice_get (each_function (inner_function image forms) f hs) j ≡ Some g → g.export ≡ None
  inner_none [] f j g e = absurd (let no : ⊥ = cc in no)
  inner_none (h ∷ hs) f zero g e = ap (λ (z : Function). z.export) (sym (same_some _ g e)) ∙ inner_unnamed (is_called image f && all_plain image) f h
  inner_none (h ∷ hs) f (suc j) g e = inner_none hs (suc f) j g e

  behind_none : (b : Bool) (j : ℕ) (g : Function) → slice_get (if b then each_function (inner_function image forms) 0 image.routines else []) j ≡ Some g → g.export ≡ None
  behind_none true j g e = inner_none image.routines 0 j g e
  behind_none false j g e = absurd (let no : ⊥ = cc in no)

  named_kernel : (n : ℕ) (h : Routine) (b : Bool) (name : List ℕ) → (if b then kernel_of image forms n h else unused).export ≡ Some name → h.name ≡ name
  named_kernel n h true name e = same_some h.name name e
  named_kernel n h false name e = absurd (let no : ⊥ = cc in no)

  -- a function that is exported has the name of the code's
  abbrev Routine_of : ℕ → List ℕ → Type 0
  Routine_of k name = (h : Routine) × (slice_get image.routines k ≡ Some h) × (h.name ≡ name)

  routine_of : (k : ℕ) (g : Function) (name : List ℕ) → g.export ≡ Some name
      → Of (function_of image forms) image.routines (if list_any has_call image.routines then each_function (inner_function image forms) 0 image.routines else []) k g → Routine_of k name
  routine_of k g name e (inl (h, n, found, is)) = (h, found, named_kernel n h (h.exported && is_covered image h) name (ap (λ (z : Function). z.export) is ∙ e))
  routine_of k g name e (inr (j, found)) = absurd (none_is g name (behind_none (list_any has_call image.routines) j g found) e)

  routine_at : (k : ℕ) (g : Function) (name : List ℕ) → slice_get (module_with image forms).functions k ≡ Some g → g.export ≡ Some name → Routine_of k name
  routine_at k g name x e =
      routine_of k g name e (get_made (function_of image forms) 0 image.routines (if list_any has_call image.routines then each_function (inner_function image forms) 0 image.routines else []) k g x)

  pub functions_once : IsFine image → Once (module_with image forms).functions
  functions_once fine j k f g name x y d e =
      let a = routine_at j f name x d in
      let b = routine_at k g name y e in
      one_routine fine j k a.0 b.0 a.1 b.1 (a.2 ∙ sym b.2)

  -- and a name that a text of code can have
  word_name : (h : Routine) → routine_fits h ≡ true → name_fits h.name ≡ true
  word_name h e =
      let a = both (name_fits h.name && list_all param_fits h.params && list_all local_fits h.locals && number_fits h.masks) (list_all instr_fits h.code) e in
      let b = both (name_fits h.name && list_all param_fits h.params && list_all local_fits h.locals) (number_fits h.masks) a.0 in
      let c = both (name_fits h.name && list_all param_fits h.params) (list_all local_fits h.locals) b.0 in
      (both (name_fits h.name) (list_all param_fits h.params) c.0).0

  name_of : IsWritable image → (e : Export) → Named (module_with image forms).functions 0 e → name_fits e.name ≡ true
  name_of writable e it =
      let k = routine_at it.0 it.1 e.name it.2 it.3 in
      subst (λ z. name_fits z ≡ true) k.2 (word_name k.0 (all_at routine_fits image.routines it.0 k.0 writable.routines k.1))

  pub no_name : IsWritable image → (e : Export) → Named (module_with image forms).functions 0 e → (name : List ℕ) → name_fits name ≡ false → e.name ≡ name → ⊥
  no_name writable e it name bad same = let good : name_fits name ≡ true = subst (λ z. name_fits z ≡ true) same (name_of writable e it) in let clash : true ≡ false = sym good ∙ bad in cc
