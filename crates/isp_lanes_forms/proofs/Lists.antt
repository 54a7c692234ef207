-- Forms in lists, made one after the other.
use Rattle.std.proofs.Common.{◌≡◌, inl, inr, ◌⊎◌, ℕ, zero, suc, ◌+◌, ◌<◌, ◌≤◌, List, [], ◌∷◌, ◌++◌, length, map, Vec, Global, Some, refl, sym, ap, ◌∙◌, subst, arith}
use Rattle.std.specs.Prelude.{slice_get, slice_index_or}
use Rattle.std.proofs.lemmas.List.{length-append}
use Rattle.isp_code.specs.Listing.{Listing, Routine, routine_of}
use Rattle.isp_code.specs.declared.function.Function.{Function}
use Rattle.isp_code.specs.declared.instr.Instr.{Instr}
use Rattle.isp_forms.specs.Tables.{form_or_kept, forms_in}
use Rattle.isp_forms.specs.declared.form.Form.{Form}
use Rattle.isp_lanes_read.specs.Rows.{Rows, row_at}
use Rattle.isp_lanes_forms.specs.Allowed.{IsAllowed, AreAllowed}
use Rattle.isp_lanes_forms.specs.reader.Lists.{FirstAllowed, LinesAllowed, FunctionsAllowed}

-- ---- one more at the end of a list

before_last : {A : Type 0} (xs : List A) (x d : A) (k : ℕ) → k < length xs → slice_index_or (xs ++ (x ∷ [])) k d ≡ slice_index_or xs k d
before_last [] x d k h = absurd (omega (arith, h))
before_last (y ∷ xs) x d zero h = refl
before_last (y ∷ xs) x d (suc k) h = before_last xs x d k (omega (arith, h))

at_last : {A : Type 0} (xs : List A) (x d : A) → slice_index_or (xs ++ (x ∷ [])) (length xs) d ≡ x
at_last [] x d = refl
at_last (y ∷ xs) x d = at_last xs x d

get_below : {A : Type 0} (xs : List A) (k : ℕ) (x : A) → slice_get xs k ≡ Some x → k < length xs
get_below [] k x e = absurd cc
get_below (y ∷ xs) zero x e = omega arith
get_below (y ∷ xs) (suc k) x e = let h = get_below xs k x e in omega (arith, h)

-- an element that is read at its place
got : {A : Type 0} (xs : List A) (k : ℕ) (x : A) → k < length xs → x ≡ slice_index_or xs k x → slice_get xs k ≡ Some x
got [] k x h e = absurd (omega (arith, h))
got (y ∷ xs) zero x h e = ap Some (sym e)
got (y ∷ xs) (suc k) x h e = got xs k x (omega (arith, h)) e

below_or_last : (k n : ℕ) → k < suc n → (k < n) ⊎ (k ≡ n)
below_or_last zero zero h = inr refl
below_or_last zero (suc n) h = inl (omega arith)
below_or_last (suc k) zero h = absurd (omega (arith, h))
below_or_last (suc k) (suc n) h = by (below_or_last k n (omega (arith, h)))
  where
    by : (k < n) ⊎ (k ≡ n) → (suc k < suc n) ⊎ (suc k ≡ suc n)
    by (inl l) = inl (omega (arith, l))
    by (inr e) = inr (ap suc e)

longer : {A : Type 0} (xs : List A) (x : A) (n : ℕ) → length xs ≡ n → length (xs ++ (x ∷ [])) ≡ n + 1
longer xs x n e = length-append xs (x ∷ []) ∙ ap (λ m. m + 1) e

map_more : {A B : Type 0} (f : A → B) (xs : List A) (x : A) → map f (xs ++ (x ∷ [])) ≡ map f xs ++ (f x ∷ [])
map_more f [] x = refl
map_more f (y ∷ xs) x = ap (λ ys. f y ∷ ys) (map_more f xs x)

map_length : {A B : Type 0} (f : A → B) (xs : List A) → length (map f xs) ≡ length xs
map_length f [] = refl
map_length f (x ∷ xs) = ap suc (map_length f xs)

map_get : {A B : Type 0} (f : A → B) (xs : List A) (k : ℕ) (x : A) → slice_get xs k ≡ Some x → slice_get (map f xs) k ≡ Some (f x)
map_get f [] k x e = absurd cc
map_get f (y ∷ xs) zero x e = let same : y ≡ x = cc in ap (λ z. Some (f z)) same
map_get f (y ∷ xs) (suc k) x e = map_get f xs k x e

module _ (rows : Rows) where
  -- one more instruction
  pub line_more : (f n : ℕ) (is : List Instr) (forms : List Form) (i : Instr) (x : Form) → length forms ≡ n → FirstAllowed rows f n is forms → slice_get is n ≡ Some i
      → IsAllowed (row_at rows f n) (row_at rows f (n + 1)) i x → FirstAllowed rows f (n + 1) is (forms ++ (x ∷ []))
  line_more f n is forms i x size first here allowed k j h at = by (below_or_last k n (omega (arith, h)))
    where
      some : {A : Type 0} (a b : A) → Some a ≡ Some b → a ≡ b
      some a b e = cc

      by : (k < n) ⊎ (k ≡ n) → IsAllowed (row_at rows f k) (row_at rows f (k + 1)) j (form_or_kept (forms ++ (x ∷ [])) k)
      by (inl l) = subst (IsAllowed (row_at rows f k) (row_at rows f (k + 1)) j) (sym (before_last forms x _ k (subst (λ m. k < m) (sym size) l))) (first k j l at)
      by (inr e) =
          subst (λ m. IsAllowed (row_at rows f m) (row_at rows f (m + 1)) j (form_or_kept (forms ++ (x ∷ [])) m)) (sym e)
          (subst (IsAllowed (row_at rows f n) (row_at rows f (n + 1)) j) (sym (subst (λ m. form_or_kept (forms ++ (x ∷ [])) m ≡ x) size (at_last forms x _)))
          (subst (λ z. IsAllowed (row_at rows f n) (row_at rows f (n + 1)) z x) (some i j (sym here ∙ subst (λ m. slice_get is m ≡ Some j) e at)) allowed))

  pub line_pushed : (f n : ℕ) (is : List Instr) (forms made : List Form) (i : Instr) (x : Form) → made ≡ forms ++ (x ∷ []) → (length forms ≡ n) × FirstAllowed rows f n is forms → n < length is → i ≡ slice_index_or is n i
      → IsAllowed (row_at rows f n) (row_at rows f (n + 1)) i x → (length made ≡ n + 1) × FirstAllowed rows f (n + 1) is made
  line_pushed f n is forms made i x e first low here allowed =
      subst (λ (fs : List Form). (length fs ≡ n + 1) × FirstAllowed rows f (n + 1) is fs) (sym e) (longer forms x n first.0, line_more f n is forms i x first.0 first.1 (got is n i low here) allowed)

  pub lines_done : (f n : ℕ) (is : List Instr) (forms : List Form) → length is ≤ n → FirstAllowed rows f n is forms → LinesAllowed rows f is forms
  lines_done f n is forms all first k i here = let h = get_below is k i here in first k i (omega (arith, h, all)) here

  -- one more function
  pub function_more : (n : ℕ) (hs : List Routine) (lists : List (List Form)) (h : Routine) (x : List Form) → length lists ≡ n → FunctionsAllowed rows n hs lists → slice_get hs n ≡ Some h
      → LinesAllowed rows n h.code x → FunctionsAllowed rows (n + 1) hs (lists ++ (x ∷ []))
  function_more n hs lists h x size first here allowed f g l at = by (below_or_last f n (omega (arith, l)))
    where
      some : {A : Type 0} (a b : A) → Some a ≡ Some b → a ≡ b
      some a b e = cc

      by : (f < n) ⊎ (f ≡ n) → LinesAllowed rows f g.code (slice_index_or (lists ++ (x ∷ [])) f [])
      by (inl l) = subst (LinesAllowed rows f g.code) (sym (before_last lists x _ f (subst (λ m. f < m) (sym size) l))) (first f g l at)
      by (inr e) =
          subst (λ m. LinesAllowed rows m g.code (slice_index_or (lists ++ (x ∷ [])) m [])) (sym e)
          (subst (LinesAllowed rows n g.code) (sym (subst (λ m. slice_index_or (lists ++ (x ∷ [])) m [] ≡ x) size (at_last lists x _)))
          (subst (λ (z : Routine). LinesAllowed rows n z.code x) (some h g (sym here ∙ subst (λ m. slice_get hs m ≡ Some g) e at)) allowed))

  pub function_pushed : (n : ℕ) (hs : List Function) (rs : List Routine) (vs made : List (Vec Form Global)) (h : Function) (v : Vec Form Global) → map routine_of hs ≡ rs → made ≡ vs ++ (v ∷ [])
      → (length vs ≡ n) × FunctionsAllowed rows n rs (map (λ z. z.items) vs) → n < length hs → h ≡ slice_index_or hs n h → LinesAllowed rows n (routine_of h).code v.items
      → (length made ≡ n + 1) × FunctionsAllowed rows (n + 1) rs (map (λ z. z.items) made)
  function_pushed n hs rs vs made h v same e first low here allowed =
      let at : slice_get rs n ≡ Some (routine_of h) = subst (λ (xs : List Routine). slice_get xs n ≡ Some (routine_of h)) same (map_get routine_of hs n h (got hs n h low here)) in
      subst (λ (ws : List (Vec Form Global)). (length ws ≡ n + 1) × FunctionsAllowed rows (n + 1) rs (map (λ z. z.items) ws)) (sym e) (
        longer vs v n first.0,
        subst (FunctionsAllowed rows (n + 1) rs) (sym (map_more (λ (z : Vec Form Global). z.items) vs v))
            (function_more n rs (map (λ z. z.items) vs) (routine_of h) v.items (map_length (λ (z : Vec Form Global). z.items) vs ∙ first.0) first.1 at allowed),
      )

  -- all of them
  pub all_allowed : (code : Listing) (n : ℕ) (hs : List Function) (lists : List (List Form)) → map routine_of hs ≡ code.routines → length hs ≤ n → FunctionsAllowed rows n code.routines lists
      → AreAllowed code rows (forms_in lists)
  all_allowed code n hs lists same done all f h pc d i found here =
      let b = get_below code.routines f h found in
      let size : length code.routines ≡ length hs = ap (λ (xs : List Routine). length xs) (sym same) ∙ map_length routine_of hs in
      all f h (omega (arith, b, done, size)) found pc _ here
