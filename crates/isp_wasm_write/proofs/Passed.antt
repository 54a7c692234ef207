-- What a caller passes, whoever it is.
use Rattle.std.proofs.Common.{◌≡◌, ℕ, suc, ◌+◌, ◌<◌, List, [], ◌∷◌, ◌++◌, length, drop, get_or, refl, ap, sym, ◌∙◌, append_assoc, add-one, arith}
use Rattle.std.proofs.lemmas.List.{drop_more, length-append}
use Rattle.isp_code.specs.Listing.{Routine}
use Rattle.isp_code.specs.declared.function.Param.{Param}
use Rattle.isp_code.specs.declared.function.ParamKind.{ParamKind}
use Rattle.isp_code.specs.declared.function.ParamKind.TheVariants as kind
use Rattle.isp_wasm_meaning.specs.Syntax as wasm
use Rattle.isp_wasm.specs.Locals.{row, passing, params_from, taking, taken_from}
use Rattle.isp_wasm.specs.Places as places
use Rattle.isp_wasm.specs.Places.{Place, parts_for}
use Rattle.isp_wasm_write.specs.Settings.{given_places}
use Rattle.isp_wasm_write.specs.reader.Given.{vector_width, param_width, giving, given_from, call_places}
use Rattle.isp_wasm_write.specs.declared.kernel.Caller.{Caller}
use Rattle.isp_wasm_write.specs.declared.kernel.Caller.TheVariants.{Host, Function}
use Rattle.isp_wasm_write.proofs.Listed.{row_long}

-- ---- which places

by_host : (lanes : ℕ) (ps : List Param) (r v a : ℕ) → given_from Host lanes ps r v a ≡ params_from ps r a
by_host lanes [] r v a = refl
by_host lanes (p ∷ ps) r v a = by p.kind (by_host lanes ps)
  where
    by : (k : ParamKind) → ((r v a : ℕ) → given_from Host lanes ps r v a ≡ params_from ps r a)
        → giving Host lanes k p.elem (given_from Host lanes ps) r v a ≡ passing k (params_from ps) r a
    by kind.Scalar more = ap (λ l. places.Scalar r ∷ l) (more (suc r) v a)
    by kind.Array more = ap (λ l. places.Base a ∷ places.Count a ∷ l) (more r v (suc a))
    by kind.Vector more = more r (suc v) a

by_function : (lanes : ℕ) (ps : List Param) (r v a : ℕ) → given_from Function lanes ps r v a ≡ taken_from lanes ps r v a
by_function lanes [] r v a = refl
by_function lanes (p ∷ ps) r v a = by p.kind (by_function lanes ps)
  where
    by : (k : ParamKind) → ((r v a : ℕ) → given_from Function lanes ps r v a ≡ taken_from lanes ps r v a)
        → giving Function lanes k p.elem (given_from Function lanes ps) r v a ≡ taking lanes k p.elem (taken_from lanes ps) r v a
    by kind.Scalar more = ap (λ l. places.Scalar r ∷ l) (more (suc r) v a)
    by kind.Array more = ap (λ l. places.Base a ∷ places.Count a ∷ l) (more r v (suc a))
    by kind.Vector more = ap (λ l. row (vector_width Function lanes p.elem) (places.Vector v) ++ l) (more r (suc v) a)

pub given_is : (c : Caller) (lanes : ℕ) (h : Routine) → call_places c lanes ++ given_from c lanes h.params 0 0 0 ≡ given_places c lanes h
given_is Host lanes h = by_host lanes h.params 0 0 0
given_is Function lanes h = ap (λ l. places.Depth ∷ places.Top ∷ (row (parts_for lanes wasm.I8x16) (places.Mask 0) ++ l)) (by_function lanes h.params 0 0 0)

-- what is pushed of a parameter, and then of the others
pub scalar_next : (c : Caller) (lanes : ℕ) (p : Param) (more : List Param) (r v a : ℕ) (got : List Place) → p.kind ≡ kind.Scalar
    → (got ++ places.Scalar r ∷ []) ++ given_from c lanes more (r + 1) v a ≡ got ++ given_from c lanes (p ∷ more) r v a
scalar_next c lanes p more r v a got e =
    append_assoc got (places.Scalar r ∷ []) (given_from c lanes more (r + 1) v a)
    ∙ ap (λ n. got ++ places.Scalar r ∷ given_from c lanes more n v a) (add-one r)
    ∙ ap (λ k. got ++ giving c lanes k p.elem (given_from c lanes more) r v a) (sym e)

pub array_next : (c : Caller) (lanes : ℕ) (p : Param) (more : List Param) (r v a : ℕ) (got : List Place) → p.kind ≡ kind.Array
    → ((got ++ places.Base a ∷ []) ++ places.Count a ∷ []) ++ given_from c lanes more r v (a + 1) ≡ got ++ given_from c lanes (p ∷ more) r v a
array_next c lanes p more r v a got e =
    append_assoc (got ++ places.Base a ∷ []) (places.Count a ∷ []) (given_from c lanes more r v (a + 1))
    ∙ append_assoc got (places.Base a ∷ []) (places.Count a ∷ given_from c lanes more r v (a + 1))
    ∙ ap (λ n. got ++ places.Base a ∷ places.Count a ∷ given_from c lanes more r v n) (add-one a)
    ∙ ap (λ k. got ++ giving c lanes k p.elem (given_from c lanes more) r v a) (sym e)

pub vector_next : (c : Caller) (lanes : ℕ) (p : Param) (more : List Param) (r v a : ℕ) (got : List Place) → p.kind ≡ kind.Vector
    → (got ++ row (vector_width c lanes p.elem) (places.Vector v)) ++ given_from c lanes more r (v + 1) a ≡ got ++ given_from c lanes (p ∷ more) r v a
vector_next c lanes p more r v a got e =
    append_assoc got (row (vector_width c lanes p.elem) (places.Vector v)) (given_from c lanes more r (v + 1) a)
    ∙ ap (λ n. got ++ (row (vector_width c lanes p.elem) (places.Vector v) ++ given_from c lanes more r n a)) (add-one v)
    ∙ ap (λ k. got ++ giving c lanes k p.elem (given_from c lanes more) r v a) (sym e)

-- one parameter more
pub params_step : (c : Caller) (lanes : ℕ) (ps : List Param) (i : ℕ) (p : Param) (r v a s w b : ℕ) (got more whole : List Place) → i < length ps → p ≡ get_or ps i p
    → ((qs : List Param) → more ++ given_from c lanes qs s w b ≡ got ++ given_from c lanes (p ∷ qs) r v a)
    → got ++ given_from c lanes (drop i ps) r v a ≡ whole → more ++ given_from c lanes (drop (i + 1) ps) s w b ≡ whole
params_step c lanes ps i p r v a s w b got more whole h e f g =
    f (drop (i + 1) ps) ∙ ap (λ q. got ++ given_from c lanes (q ∷ drop (i + 1) ps) r v a) e
    ∙ ap (λ l. got ++ given_from c lanes l r v a) (sym (drop_more ps i p h)) ∙ g

-- ---- how many

long : (c : Caller) (lanes : ℕ) (ps : List Param) (r v a s w b : ℕ) → length (given_from c lanes ps r v a) ≡ length (given_from c lanes ps s w b)
long c lanes [] r v a s w b = refl
long c lanes (p ∷ ps) r v a s w b = by p.kind (long c lanes ps)
  where
    by : (k : ParamKind) → ((r v a s w b : ℕ) → length (given_from c lanes ps r v a) ≡ length (given_from c lanes ps s w b))
        → length (giving c lanes k p.elem (given_from c lanes ps) r v a) ≡ length (giving c lanes k p.elem (given_from c lanes ps) s w b)
    by kind.Scalar more = ap suc (more (suc r) v a (suc s) w b)
    by kind.Array more = ap (λ n. suc (suc n)) (more r v (suc a) s w (suc b))
    by kind.Vector more =
        let n = vector_width c lanes p.elem in
        let one = length-append (row n (places.Vector v)) (given_from c lanes ps r (suc v) a) in
        let other = length-append (row n (places.Vector w)) (given_from c lanes ps s (suc w) b) in
        let a1 = row_long n (places.Vector v) in
        let a2 = row_long n (places.Vector w) in
        let same = more r (suc v) a s (suc w) b in omega (arith, one, other, a1, a2, same)

first_long : (c : Caller) (lanes : ℕ) (p : Param) (ps : List Param)
    → length (given_from c lanes (p ∷ ps) 0 0 0) ≡ param_width c lanes p.kind p.elem + length (given_from c lanes ps 0 0 0)
first_long c lanes p ps = by p.kind
  where
    by : (k : ParamKind) → length (giving c lanes k p.elem (given_from c lanes ps) 0 0 0) ≡ param_width c lanes k p.elem + length (given_from c lanes ps 0 0 0)
    by kind.Scalar = (let more = long c lanes ps 1 0 0 0 0 0 in omega (arith, more))
    by kind.Array = (let more = long c lanes ps 0 0 1 0 0 0 in omega (arith, more))
    by kind.Vector =
        let one = length-append (row (vector_width c lanes p.elem) (places.Vector 0)) (given_from c lanes ps 0 1 0) in
        let wide = row_long (vector_width c lanes p.elem) (places.Vector 0) in
        let more = long c lanes ps 0 1 0 0 0 0 in omega (arith, one, wide, more)

-- one parameter more
pub param_step : (c : Caller) (lanes : ℕ) (ps : List Param) (i n w : ℕ) (p : Param) → i < length ps → p ≡ get_or ps i p
    → n + length (given_from c lanes (drop i ps) 0 0 0) ≡ w → n + param_width c lanes p.kind p.elem + length (given_from c lanes (drop (i + 1) ps) 0 0 0) ≡ w
param_step c lanes ps i n w p h e g =
    let a = ap (λ l. length (given_from c lanes l 0 0 0)) (drop_more ps i p h) in
    let b = first_long c lanes (get_or ps i p) (drop (i + 1) ps) in
    let d = ap (λ (q : Param). param_width c lanes q.kind q.elem) e in omega (arith, a, b, d, g)

pub call_long : (n : ℕ) → length (row n (places.Mask 0)) ≡ n
call_long n = row_long n (places.Mask 0)

pub given_long : (c : Caller) (lanes : ℕ) (h : Routine)
    → length (call_places c lanes) + length (given_from c lanes h.params 0 0 0) ≡ length (given_places c lanes h)
given_long c lanes h = sym (length-append (call_places c lanes) (given_from c lanes h.params 0 0 0)) ∙ ap length (given_is c lanes h)
