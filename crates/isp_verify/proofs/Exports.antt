-- The exported functions, and a look through the list of functions.
use Rattle.std.proofs.Common.{◌≡◌, sym, ◌∙◌, refl, ap, subst, ℕ, ◌+◌, ◌<◌, List, length, map, get_or, Some, Bool, true, false, ◌&&◌, ◌⊎◌, inl, inr, arith}
use Rattle.std.specs.Prelude.{slice_get, option_map}
use Rattle.std.specs.Str.{bytes_eq}
use Rattle.std.proofs.Math.Nat.{eq-or-lt_of_le}
use Rattle.std.proofs.lemmas.List.{length-map}
use Rattle.std.proofs.lemmas.Option.{slice_get-map, slice_get_read, slice_get_within}
use Rattle.std.proofs.lemmas.Slice.Eq.{bytes_eq-Decides}
use Rattle.isp_code.specs.Entries.{IsExport, is_export}
use Rattle.isp_code.specs.Listing.{Listing, Routine, routine_of}
use Rattle.isp_base.specs.declared.signature.Signature.{Signature}
use Rattle.isp_code.specs.declared.function.Function.{Function}
use Rattle.isp_verify.specs.Signatures.{handed, signature_of}

both_first : (a b : Bool) → (a && b) ≡ true → a ≡ true
both_first true b e = refl
both_first false b e = cc

both_second : (a b : Bool) → (a && b) ≡ true → b ≡ true
both_second true b e = e
both_second false b e = cc

both_true : (a b : Bool) → a ≡ true → b ≡ true → (a && b) ≡ true
both_true true b e f = f
both_true false b e f = cc

some_same : {A : Type 0} {x y : A} → Some x ≡ Some y → x ≡ y
some_same e = cc

-- the function at a place, as the definitions see it
pub routine_at : (code : Listing) (fs : List Function) (k : ℕ) (f : Function) → map routine_of fs ≡ code.routines → k < length fs → f ≡ get_or fs k f → slice_get code.routines k ≡ Some (routine_of f)
routine_at code fs k f made low at =
    ap (λ hs. slice_get hs k) (sym made) ∙ slice_get-map routine_of fs k ∙ ap (option_map routine_of) (slice_get_read fs (length fs) k f refl low at)

pub export_at : (code : Listing) (name : List ℕ) (fs : List Function) (k : ℕ) (f : Function) → map routine_of fs ≡ code.routines → k < length fs → f ≡ get_or fs k f → true ≡ is_export name (routine_of f) → IsExport code name k (routine_of f)
export_at code name fs k f made low at test =
    record {
      found = routine_at code fs k f made low at;
      named = (bytes_eq-Decides f.name name).0 (both_second f.exported (bytes_eq f.name name) (sym test));
      exported = both_first f.exported (bytes_eq f.name name) (sym test);
    }

-- an exported function passes the test
pub export_test : (code : Listing) (name : List ℕ) (k : ℕ) (h : Routine) → IsExport code name k h → is_export name h ≡ true
export_test code name k h x = both_true h.exported (bytes_eq h.name name) x.exported ((bytes_eq-Decides h.name name).1 x.named)

-- where one is none, the look goes on
pub none_at : (code : Listing) (name : List ℕ) (fs : List Function) (n : ℕ) (f : Function) → map routine_of fs ≡ code.routines → n < length fs → f ≡ get_or fs n f → false ≡ is_export name (routine_of f)
    → ((j : ℕ) (h : Routine) → j < n → IsExport code name j h → ⊥) → (j : ℕ) (h : Routine) → j < n + 1 → IsExport code name j h → ⊥
none_at code name fs n f made low at test before j h below x = go (eq-or-lt_of_le (omega (arith, below)))
  where
    here : j ≡ n → ⊥
    here e =
        let same = some_same (sym x.found ∙ ap (slice_get code.routines) e ∙ routine_at code fs n f made low at) in
        let t = test ∙ ap (is_export name) (sym same) ∙ export_test code name j h x in cc

    go : (j ≡ n) ⊎ (j < n) → ⊥
    go (inl e) = here e
    go (inr lt) = before j h lt x

-- past the last there is none
pub none_past : (code : Listing) (name : List ℕ) (fs : List Function) → map routine_of fs ≡ code.routines → ((j : ℕ) (h : Routine) → j < length fs → IsExport code name j h → ⊥) → (j : ℕ) (h : Routine) → IsExport code name j h → ⊥
none_past code name fs made before j h x = before j h (within fs j h (ap (λ hs. slice_get hs j) made ∙ x.found)) x
  where
    within : (fs : List Function) (j : ℕ) (h : Routine) → slice_get (map routine_of fs) j ≡ Some h → j < length fs
    within fs j h e = subst (λ n. j < n) (length-map fs routine_of) (slice_get_within (map routine_of fs) j h e)

-- the signature that is kept for a function
pub kept_at : (hs : List Routine) (ss : List Signature) (k : ℕ) (h : Routine) (s : Signature) → map handed ss ≡ map signature_of hs → slice_get hs k ≡ Some h → s ≡ get_or ss k s → handed s ≡ signature_of h
kept_at hs ss k h s made found at =
    let low : k < length ss = subst (λ n. k < n) (sym (length-map hs signature_of) ∙ ap length (sym made) ∙ length-map ss handed) (slice_get_within hs k h found) in
    some_same (sym (ap (option_map handed) (slice_get_read ss (length ss) k s refl low at)) ∙ sym (slice_get-map handed ss k) ∙ ap (λ xs. slice_get xs k) made ∙ slice_get-map signature_of hs k ∙ ap (option_map signature_of) found)
