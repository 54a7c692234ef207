-- What holds of all functions, or of one, as one goes along them.
use Rattle.std.proofs.Common.{◌≡◌, ℕ, zero, suc, ◌+◌, ◌*◌, ◌^◌, ◌≤◌, List, [], ◌∷◌, length, drop, Bool, true, false, Some, ap, ◌∙◌, arith}
use Rattle.std.proofs.Math.Nat.{mul-le-mul}
use Rattle.std.proofs.lemmas.List.{drop_all}
use Rattle.std.specs.Prelude.{slice_get, ◌&&◌, ◌||◌}
use Rattle.std.specs.List.{list_all, list_any}
use Rattle.isp_code.specs.Listing.{Listing, Routine}
use Rattle.isp_wasm.specs.Module.{is_plain, calls_function}
use Rattle.isp_wasm.specs.Stack.{has_call}

pub few_copies : (lanes bytes : ℕ) → lanes ≤ 32 → bytes ≤ 8 * 2 ^ 32 → lanes * bytes ≤ 2 ^ 40
few_copies lanes bytes l b = let both = mul-le-mul l b in omega (arith, both)

pub drop_at : {A : Type 0} (xs : List A) (n : ℕ) (x : A) → slice_get xs n ≡ Some x → drop n xs ≡ x ∷ drop (n + 1) xs
drop_at {A = A} xs n x e = by xs n e ∙ ap (λ m. x ∷ drop m xs) (let same : suc n ≡ n + 1 = omega arith in same)
  where
    by : (xs : List A) (n : ℕ) → slice_get xs n ≡ Some x → drop n xs ≡ x ∷ drop (suc n) xs
    by [] n e = cc
    by (y ∷ xs) zero e = ap (λ z. z ∷ xs) (let same : y ≡ x = cc in same)
    by (y ∷ xs) (suc n) e = by xs n e

-- ---- all are plain

pub one_more_plain : (code : Listing) (n : ℕ) (h : Routine) → slice_get code.routines n ≡ Some h → is_plain code h ≡ true
    → list_all (is_plain code) (drop n code.routines) ≡ list_all (is_plain code) (drop (n + 1) code.routines)
one_more_plain code n h e p =
    ap (list_all (is_plain code)) (drop_at code.routines n h e) ∙ ap (λ b. b && list_all (is_plain code) (drop (n + 1) code.routines)) p

pub not_plain : (code : Listing) (n : ℕ) (h : Routine) → slice_get code.routines n ≡ Some h → is_plain code h ≡ false
    → list_all (is_plain code) (drop n code.routines) ≡ false
not_plain code n h e p =
    ap (list_all (is_plain code)) (drop_at code.routines n h e) ∙ ap (λ b. b && list_all (is_plain code) (drop (n + 1) code.routines)) p

pub all_seen : (code : Listing) (n : ℕ) → length code.routines ≤ n → list_all (is_plain code) (drop n code.routines) ≡ true
all_seen code n h = ap (list_all (is_plain code)) (drop_all n code.routines h)

-- ---- one calls

pub no_call : (code : Listing) (n : ℕ) (h : Routine) → slice_get code.routines n ≡ Some h → has_call h ≡ false
    → list_any has_call (drop n code.routines) ≡ list_any has_call (drop (n + 1) code.routines)
no_call code n h e p = ap (list_any has_call) (drop_at code.routines n h e) ∙ ap (λ b. b || list_any has_call (drop (n + 1) code.routines)) p

pub a_call : (code : Listing) (n : ℕ) (h : Routine) → slice_get code.routines n ≡ Some h → has_call h ≡ true → list_any has_call (drop n code.routines) ≡ true
a_call code n h e p = ap (list_any has_call) (drop_at code.routines n h e) ∙ ap (λ b. b || list_any has_call (drop (n + 1) code.routines)) p

pub none_seen : (code : Listing) (n : ℕ) → length code.routines ≤ n → list_any has_call (drop n code.routines) ≡ false
none_seen code n h = ap (list_any has_call) (drop_all n code.routines h)

-- ---- one calls a function

abbrev pub calls : ℕ → Routine → Bool
calls f h = list_any (calls_function f) h.code

pub not_here : (code : Listing) (f n : ℕ) (h : Routine) → slice_get code.routines n ≡ Some h → list_any (calls_function f) h.code ≡ false
    → list_any (λ h. list_any (calls_function f) h.code) (drop n code.routines) ≡ list_any (λ h. list_any (calls_function f) h.code) (drop (n + 1) code.routines)
not_here code f n h e p = ap (list_any (calls f)) (drop_at code.routines n h e) ∙ ap (λ b. b || list_any (calls f) (drop (n + 1) code.routines)) p

pub here : (code : Listing) (f n : ℕ) (h : Routine) → slice_get code.routines n ≡ Some h → list_any (calls_function f) h.code ≡ true
    → list_any (λ h. list_any (calls_function f) h.code) (drop n code.routines) ≡ true
here code f n h e p = ap (list_any (calls f)) (drop_at code.routines n h e) ∙ ap (λ b. b || list_any (calls f) (drop (n + 1) code.routines)) p

pub nowhere : (code : Listing) (f n : ℕ) → length code.routines ≤ n → list_any (λ h. list_any (calls_function f) h.code) (drop n code.routines) ≡ false
nowhere code f n h = ap (list_any (calls f)) (drop_all n code.routines h)
