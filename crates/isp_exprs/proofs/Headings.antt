-- Functions by their names and numbers.
use Rattle.std.proofs.Common.{◌≡◌, ℕ, suc, ◌+◌, ◌++◌, Bool, true, false, cond, refl, sym, ap, ap₂, ◌∙◌, arith, String, Global}
use Rattle.std.specs.Prelude.{Option, Some, None, List, [], ◌∷◌, length, bytes_eq, option_map, slice_get, is_some}
use Rattle.std.specs.Option.{option_or}
use Rattle.std.proofs.lemmas.Slice.Eq.{bytes_eq-Decides}
use Rattle.std.specs.BTreeMap.{BTreeMap, get_by_text}
use Rattle.std.proofs.lemmas.List.{map-append, length-map}
use Rattle.std.proofs.lemmas.Option.{slice_get-map}
use Rattle.isp_exprs.specs.declared.callee.Header.{Header}
use Rattle.isp_exprs.specs.declared.callee.Callee.{Callee}
use Rattle.isp_exprs.specs.declared.callee.Want.{Want}
use Rattle.isp_exprs.specs.Callees.{Heading, function_from, library_named, of_function, callee}
use Rattle.isp_exprs.specs.reader.Headings.{heading_of, headings_of}

-- the first function of a name stands where its number says
found_at : (w : List ℕ) (k : ℕ) (hs : List Heading) (p : ℕ × Heading) → function_from w k hs ≡ Some p → (i : ℕ) × ((p.0 ≡ k + i) × (slice_get hs i ≡ Some p.1))
found_at w k [] p e = absurd (nothing e)
  where
    nothing : None ≡ Some p → ⊥
    nothing e = cc
found_at w k (h ∷ hs) p e = go (bytes_eq h.name w) (found_at w (suc k) hs p) e
  where
    go : (t : Bool) → (function_from w (suc k) hs ≡ Some p → (i : ℕ) × ((p.0 ≡ suc k + i) × (slice_get hs i ≡ Some p.1)))
        → cond t (Some (k, h)) (function_from w (suc k) hs) ≡ Some p → (i : ℕ) × ((p.0 ≡ k + i) × (slice_get (h ∷ hs) i ≡ Some p.1))
    go true f q = let s : (k, h) ≡ p = cc in let n : k ≡ p.0 = ap (λ (z : ℕ × Heading). z.0) s in (0, (omega arith, ap (λ (z : ℕ × Heading). Some z.1) s))
    go false f q = let r = f q in let n = r.1.0 in (suc r.0, (omega arith, r.1.1))

-- a number that is known for a name, and what stands there
numbered : (w : List ℕ) (hs : List Heading) (n : ℕ) (h : Heading) → Some n ≡ option_map (λ (f : ℕ × Heading). f.0) (function_from w 0 hs) → slice_get hs n ≡ Some h
    → function_from w 0 hs ≡ Some (n, h)
numbered w hs n h e at = go (function_from w 0 hs) refl e
  where
    go : (o : Option (ℕ × Heading)) → function_from w 0 hs ≡ o → Some n ≡ option_map (λ (f : ℕ × Heading). f.0) o → o ≡ Some (n, h)
    go None q m = cc
    go (Some p) q m = let r = found_at w 0 hs p q in
        let same : n ≡ p.0 = cc in
        let place : r.0 ≡ n = omega (arith, r.1.0) in
        let what : p.1 ≡ h = cc (ap (slice_get hs) place, r.1.1, at) in
        ap Some (ap₂ (λ (a : ℕ) (b : Heading). (a, b)) (sym same) what)

-- at a known number stands a function
numbered_there : (w : List ℕ) (hs : List Heading) (n : ℕ) → Some n ≡ option_map (λ (f : ℕ × Heading). f.0) (function_from w 0 hs) → slice_get hs n ≡ None → ⊥
numbered_there w hs n e at = go (function_from w 0 hs) refl e
  where
    go : (o : Option (ℕ × Heading)) → function_from w 0 hs ≡ o → Some n ≡ option_map (λ (f : ℕ × Heading). f.0) o → ⊥
    go None q m = cc
    go (Some p) q m = let r = found_at w 0 hs p q in
        let same : n ≡ p.0 = cc in
        let place : r.0 ≡ n = omega (arith, r.1.0) in
        cc (ap (slice_get hs) place, r.1.1, at)

-- one function more
function_more : (w : List ℕ) (k n : ℕ) (hs : List Heading) (h : Heading) → n ≡ k + length hs
    → function_from w k (hs ++ h ∷ []) ≡ option_or (function_from w k hs) (cond (bytes_eq h.name w) (Some (n, h)) None)
function_more w k n [] h e = let s : k ≡ n = omega arith in ap (λ z. cond (bytes_eq h.name w) (Some (z, h)) None) s
function_more w k n (g ∷ hs) h e = go (bytes_eq g.name w) (function_more w (suc k) n hs h (omega (arith, e)))
  where
    go : (t : Bool) → function_from w (suc k) (hs ++ h ∷ []) ≡ option_or (function_from w (suc k) hs) (cond (bytes_eq h.name w) (Some (n, h)) None)
        → cond t (Some (k, g)) (function_from w (suc k) (hs ++ h ∷ [])) ≡ option_or (cond t (Some (k, g)) (function_from w (suc k) hs)) (cond (bytes_eq h.name w) (Some (n, h)) None)
    go true r = refl
    go false r = r

abbrev pub number_of : List ℕ → List Heading → Option ℕ
number_of w hs = option_map (λ (f : ℕ × Heading). f.0) (function_from w 0 hs)

number_more : (w : List ℕ) (hs : List Heading) (h : Heading) → number_of w (hs ++ h ∷ []) ≡ option_or (number_of w hs) (cond (bytes_eq h.name w) (Some (length hs)) None)
number_more w hs h = ap (option_map (λ (f : ℕ × Heading). f.0)) (function_more w 0 (length hs) hs h (omega arith)) ∙ go (function_from w 0 hs) (bytes_eq h.name w)
  where
    go : (o : Option (ℕ × Heading)) (t : Bool) → option_map (λ (f : ℕ × Heading). f.0) (option_or o (cond t (Some (length hs, h)) None)) ≡ option_or (option_map (λ (f : ℕ × Heading). f.0) o) (cond t (Some (length hs)) None)
    go None true = refl
    go None false = refl
    go (Some p) t = refl

-- a name that is known keeps its number
pub number_known : (w : List ℕ) (hs : List Heading) (h : Heading) (o : Option ℕ) → o ≡ number_of w hs → true ≡ is_some (number_of h.name hs) → o ≡ number_of w (hs ++ h ∷ [])
number_known w hs h o e k = e ∙ (go (number_of w hs) refl (bytes_eq h.name w) refl ∙ sym (number_more w hs h))
  where
    go : (m : Option ℕ) → number_of w hs ≡ m → (t : Bool) → bytes_eq h.name w ≡ t → m ≡ option_or m (cond t (Some (length hs)) None)
    go (Some n) q t d = refl
    go None q false d = refl
    go None q true d = let s : true ≡ is_some (number_of w hs) = k ∙ ap (λ z. is_some (number_of z hs)) ((bytes_eq-Decides h.name w).0 d) in
        let f : true ≡ false = s ∙ ap is_some q in cc

-- a name that is not known gets the next one
pub number_new : (w : List ℕ) (hs : List Heading) (h : Heading) (key : List ℕ) (n : ℕ) (before after : Option ℕ) → key ≡ h.name → n ≡ length hs → before ≡ number_of w hs
    → false ≡ is_some (number_of h.name hs) → after ≡ cond (bytes_eq key w) (Some n) before → after ≡ number_of w (hs ++ h ∷ [])
number_new w hs h key n before after k l e u a = a ∙ (rw (k, l, e) (go (number_of w hs) refl (bytes_eq h.name w) refl) ∙ sym (number_more w hs h))
  where
    go : (m : Option ℕ) → number_of w hs ≡ m → (t : Bool) → bytes_eq h.name w ≡ t → cond t (Some (length hs)) m ≡ option_or m (cond t (Some (length hs)) None)
    go (Some x) q false d = refl
    go (Some x) q true d = let s : false ≡ is_some (number_of w hs) = u ∙ ap (λ z. is_some (number_of z hs)) ((bytes_eq-Decides h.name w).0 d) in
        let f : false ≡ true = s ∙ ap is_some q in cc
    go None q false d = refl
    go None q true d = refl

-- what stands at a known number is the first function of the name
placed : (w : List ℕ) (all : List Header) (n : ℕ) → Some n ≡ number_of w (headings_of all)
    → option_map (λ (h : Header). (n, heading_of h)) (slice_get all n) ≡ function_from w 0 (headings_of all)
placed w all n e = go (slice_get all n) refl
  where
    seen : (o : Option Header) → slice_get all n ≡ o → slice_get (headings_of all) n ≡ option_map heading_of o
    seen o q = slice_get-map heading_of all n ∙ ap (option_map heading_of) q

    go : (o : Option Header) → slice_get all n ≡ o → option_map (λ (h : Header). (n, heading_of h)) o ≡ function_from w 0 (headings_of all)
    go None q = absurd (numbered_there w (headings_of all) n e (seen None q))
    go (Some h) q = sym (numbered w (headings_of all) n (heading_of h) e (seen (Some h) q))

-- what a name calls
pub called_function : (all : List Header) (w : List ℕ) (n k : ℕ) (r : Callee × List Want) → library_named w ≡ None → Some k ≡ number_of w (headings_of all)
    → r ≡ of_function n (option_map (λ (h : Header). (k, heading_of h)) (slice_get all k)) → r ≡ callee (headings_of all) w n
called_function all w n k r l s e = e ∙ (ap (of_function n) (placed w all k s) ∙ sym (rw l refl))

-- headings with one more after them
pub headings_more : (all more : List Header) (h : Header) → more ≡ all ++ h ∷ [] → headings_of more ≡ headings_of all ++ heading_of h ∷ []
headings_more all more h e = ap headings_of e ∙ map-append heading_of all (h ∷ [])

pub headings_counted : (all : List Header) → length all ≡ length (headings_of all)
headings_counted all = sym (length-map all heading_of)

-- whether a map that has the numbers has a name
pub known_is : (w : List ℕ) (m : BTreeMap (String Global) ℕ) (hs : List Heading) (v : List ℕ) (known : Bool) → known ≡ is_some (get_by_text m v) → v ≡ w → get_by_text m w ≡ number_of w hs
    → known ≡ is_some (number_of w hs)
known_is w m hs v known e p q = e ∙ (ap (λ z. is_some (get_by_text m z)) p ∙ ap is_some q)
