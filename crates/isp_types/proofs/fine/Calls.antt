-- A call of what fits is fine.
use Rattle.std.proofs.Common.{◌≡◌, ℕ, suc, Bool, true, false, refl, sym, ap, subst, ◌∙◌, arith}
use Rattle.std.proofs.lemmas.List.{length-map}
use Rattle.std.specs.Prelude.{Option, Some, None, List, [], ◌∷◌, length, map, slice_get, ◌&&◌, not, if◌then◌else◌, Result, Ok, Err}
use Rattle.isp_base.specs.declared.types.Elem.{Elem}
use Rattle.isp_base.specs.declared.types.Rate.TheVariants.{Varying}
use Rattle.isp_base.specs.declared.types.Span.{Span}
use Rattle.isp_base.specs.declared.types.Ty.{Ty}
use Rattle.isp_base.specs.Ranks.{same_elem, common}
use Rattle.isp_tree.specs.Sound.{InText}
use Rattle.isp_lex.specs.declared.fault.Fault.{Fault}
use Rattle.isp_typed.specs.declared.library.Library.{Library}
use Rattle.isp_typed.specs.declared.library.Library.TheVariants as the
use Rattle.isp_typed.specs.declared.library.Part.{Part}
use Rattle.isp_typed.specs.declared.variable.Holds.TheVariants as holds
use Rattle.isp_typed.specs.declared.variable.Variable.{Variable}
use Rattle.isp_typed.specs.Library.{parts, part_elem, library_type}
use Rattle.isp_typed.specs.Typed.{TExpr, TFunction, TBase, base_array, t_packed_store, t_packed_load, ty_of, elem_of}
use Rattle.isp_typed.specs.Fine.{FineBase, FineCall, FineArguments, FineParts, LibraryWorksIn, rates_of, params_of}
use Rattle.isp_exprs.specs.declared.scope.Known.{Known}
use Rattle.isp_exprs.specs.declared.callee.Callee.{Callee}
use Rattle.isp_exprs.specs.declared.callee.Callee.TheVariants.{Unknown, Miscounted, Function, Library as OfLibrary, PackedStore, PackedLoad}
use Rattle.isp_exprs.specs.declared.callee.Want.{Want}
use Rattle.isp_exprs.specs.declared.callee.Want.TheVariants.{AnyValue, ValueOf, ArrayOf, Base, Destination, NoReference, Anything}
use Rattle.isp_exprs.specs.Values.{converted}
use Rattle.isp_exprs.specs.Passing.{Passed, p_value, p_array, p_base, p_destination, Called, gives, runs, value_called, handed_call}
use Rattle.isp_exprs.specs.PackedCalls.{packed_store, loaded, packed_load}
use Rattle.isp_exprs.specs.LibraryCalls.{values_among, worked_in, rate_all, as_parts, library_call}
use Rattle.isp_exprs.specs.Callees.{Heading}
use Rattle.isp_exprs.specs.Calls.{first_want, rest_of, arguments_among, function_call, call_of}
use Rattle.isp_types.proofs.fine.Callees.{AreWants, Headed, Fits}
use Rattle.isp_types.proofs.fine.Passed.{ok_is, no_ok, IsKnown, Suited, FineHanded}
use Rattle.isp_base.proofs.RankLaws.{same_is}
use Rattle.isp_types.proofs.fine.Values.{BareExpr, operand_whole, common_whole, converted_elem, converted_rate, converted_fine}

-- ---- the library's element type

pub works_in : (f : Library) (es : List Elem) → LibraryWorksIn f (worked_in f es)
works_in the.Any es = refl
works_in the.All es = refl
works_in the.None es = refl
works_in the.Select es = tt
works_in the.ShuffleTwo (a ∷ b ∷ es) = common_whole a b
works_in the.Min (a ∷ b ∷ es) = common_whole a b
works_in the.Max (a ∷ b ∷ es) = common_whole a b
works_in the.Clamp (a ∷ b ∷ c ∷ es) = common_whole (common a b) c
works_in f (a ∷ es) = operand_whole a
works_in f [] = refl

rates_are : (t : Elem) (qs : List Part) (xs : List TExpr) → length xs ≡ length qs → rate_all xs ≡ rates_of (as_parts t qs xs)
rates_are t [] [] l = refl
rates_are t [] (x ∷ xs) l = absurd (let no : ⊥ = cc in no)
rates_are t (p ∷ qs) [] l = absurd (let no : ⊥ = cc in no)
rates_are t (p ∷ qs) (x ∷ xs) l =
    rw (converted_rate (part_elem t p) x, rates_are t qs xs (omega (arith, l))) refl

and_false : (b : Bool) → (b && true) ≡ false → b ≡ false
and_false true e = e
and_false false e = refl

held_is : (v : Variable) (t : Ty) (e : Elem) → v.holds ≡ holds.Value t → t.rate ≡ Varying → t.elem ≡ e → v.constant ≡ false
    → Some v ≡ Some (record { holds = holds.Value (ty_of Varying e); constant = false })
held_is v t e h r i c =
    ap (λ z. Some (record { holds = z; constant = v.constant })) (h ∙ ap holds.Value (ap (λ z. ty_of z t.elem) r ∙ ap (ty_of Varying) i))
    ∙ ap (λ z. Some (record { holds = holds.Value (ty_of Varying e); constant = z })) c

two_tests : {A : Type 0} (a b : Bool) (x y z : A) → a ≡ true → b ≡ false → (if not a then x else (if b then y else z)) ≡ z
two_tests true false x y z p q = refl
two_tests true true x y z p q = absurd (let no : ⊥ = cc in no)
two_tests false b x y z p q = absurd (let no : ⊥ = cc in no)

loaded_open : (s : Span) (b : TBase) (k : Known) (t : Ty) (p : Span) → same_elem t.elem (base_array b).ty.elem ≡ true → k.variable.constant ≡ false
    → loaded s b k t p ≡ Ok (gives (t_packed_load b k.number s))
loaded_open s b k t p d m = two_tests _ _ _ _ _ d m

module _ (hs : List Heading) (gs : List TFunction) (all : List Variable) where
  -- all that is passed suits what is asked
  abbrev pub AllSuited : Want → List Want → List Passed → Type 0
  AllSuited past ws [] = Unit {0}
  AllSuited past ws (p ∷ ps) = Suited gs all (first_want past ws) p × AllSuited past (rest_of ws) ps

  abbrev pub FineCalled : Called → Type 0
  FineCalled (gives x) = BareExpr gs all x
  FineCalled (runs c) = FineCall gs all c None

  pub value_fine : (s : Span) (c : Called) → FineCalled c → (x : TExpr) → value_called s c ≡ Ok x → BareExpr gs all x
  value_fine s (gives y) f x e = subst (BareExpr gs all) (ok_is y x e) f
  value_fine s (runs c) f x e = absurd (no_ok e)

  pub handed_fine : (c : Called) → FineCalled c → FineHanded gs all (handed_call c)
  handed_fine (gives x) f = f
  handed_fine (runs c) f = f

  -- ---- a function's arguments

  arguments_fine : (past : Want) (ws : List Want) (vs : List Variable) (ps : List Passed) → AreWants ws vs → AllSuited past ws ps → length ps ≡ length ws → FineArguments gs all vs (arguments_among ps)
  arguments_fine past [] [] [] a s l = tt
  arguments_fine past [] [] (p ∷ ps) a s l = absurd (let no : ⊥ = cc in no)
  arguments_fine past (w ∷ ws) (v ∷ vs) [] a s l = absurd (let no : ⊥ = cc in no)
  arguments_fine past (ValueOf e ∷ ws) (v ∷ vs) (p_value x ∷ ps) a s l =
      (rw a.0.1 (s.0.0, s.0.1 ∙ sym a.0.2), arguments_fine past ws vs ps a.1 s.1 (omega (arith, l)))
  arguments_fine past (ArrayOf e c ∷ ws) (v ∷ vs) (p_array b n ∷ ps) a s l =
      (rw (a.0.0, a.0.1) (s.0.0, s.0.1, s.0.2), arguments_fine past ws vs ps a.1 s.1 (omega (arith, l)))
  arguments_fine past (AnyValue ∷ ws) (v ∷ vs) (p ∷ ps) a s l = absurd a.0
  arguments_fine past (Base b ∷ ws) (v ∷ vs) (p ∷ ps) a s l = absurd a.0
  arguments_fine past (Destination ∷ ws) (v ∷ vs) (p ∷ ps) a s l = absurd a.0
  arguments_fine past (NoReference ∷ ws) (v ∷ vs) (p ∷ ps) a s l = absurd a.0
  arguments_fine past (Anything ∷ ws) (v ∷ vs) (p ∷ ps) a s l = absurd a.0
  arguments_fine past [] (v ∷ vs) ps a s l = absurd a
  arguments_fine past (w ∷ ws) [] ps a s l = absurd a
  arguments_fine past (ValueOf e ∷ ws) (v ∷ vs) (p ∷ ps) a s l = absurd s.0
  arguments_fine past (ArrayOf e c ∷ ws) (v ∷ vs) (p ∷ ps) a s l = absurd s.0

  -- ---- the library

  abbrev AreFine : List TExpr → Type 0
  AreFine [] = Unit {0}
  AreFine (x ∷ xs) = BareExpr gs all x × AreFine xs

  values_fine : (past : Want) (qs : List Part) (ps : List Passed) → AllSuited past (map (λ p. AnyValue) qs) ps → length ps ≡ length qs
      → AreFine (values_among ps) × (length (values_among ps) ≡ length qs)
  values_fine past [] [] s l = (tt, refl)
  values_fine past [] (p ∷ ps) s l = absurd (let no : ⊥ = cc in no)
  values_fine past (q ∷ qs) [] s l = absurd (let no : ⊥ = cc in no)
  values_fine past (q ∷ qs) (p_value x ∷ ps) s l = let v = values_fine past qs ps s.1 (omega (arith, l)) in ((s.0, v.0), ap suc v.1)
  values_fine past (q ∷ qs) (p ∷ ps) s l = absurd s.0

  parts_fine : (t : Elem) (qs : List Part) (xs : List TExpr) → AreFine xs → length xs ≡ length qs → FineParts gs all t qs (as_parts t qs xs)
  parts_fine t [] [] f l = tt
  parts_fine t [] (x ∷ xs) f l = absurd (let no : ⊥ = cc in no)
  parts_fine t (q ∷ qs) [] f l = absurd (let no : ⊥ = cc in no)
  parts_fine t (q ∷ qs) (x ∷ xs) f l =
      (converted_fine gs all (part_elem t q) x f.0, converted_elem (part_elem t q) x, parts_fine t qs xs f.1 (omega (arith, l)))

  library_fine : (f : Library) (s : Span) (xs : List TExpr) → AreFine xs → length xs ≡ length (parts f) → BareExpr gs all (library_call f s xs)
  library_fine f s xs a l =
      let t = worked_in f (map elem_of xs) in
      ((parts_fine t (parts f) xs a l, works_in f (map elem_of xs), ap (λ r. library_type f t r) (rates_are t (parts f) xs l)), refl)

  -- ---- calls

  function_fine : (k : ℕ) (s : Span) → InText s → (ps : List Passed) (t : Option Ty) (g : TFunction) → slice_get gs k ≡ Some g → g.answer ≡ t
      → FineArguments gs all (params_of g) (arguments_among ps) → FineCalled (function_call k s ps t)
  function_fine k s i ps None g e a f = (g, e, a, f, i)
  function_fine k s i ps (Some t) g e a f = ((g, e, a, f, i), refl)

  store_fine : (past : Want) (s : Span) → InText s → (ps : List Passed) → AllSuited past (Base true ∷ AnyValue ∷ []) ps → (r : Called) → packed_store s ps ≡ Ok r → FineCalled r
  store_fine past s i (p_base b ∷ p_value x ∷ ps) f r e =
      subst FineCalled (ok_is (gives (t_packed_store b (converted (base_array b).ty.elem x) s)) r e)
      ((f.0.0, converted_fine gs all (base_array b).ty.elem x f.1.0, converted_elem (base_array b).ty.elem x, and_false (base_array b).constant f.0.1, i), refl)
  store_fine past s i [] f r e = absurd (no_ok e)
  store_fine past s i (p_base b ∷ []) f r e = absurd (no_ok e)
  store_fine past s i (p_base b ∷ p ∷ ps) f r e = absurd f.1.0
  store_fine past s i (p ∷ ps) f r e = absurd f.0

  loaded_fine : (s : Span) → InText s → (b : TBase) (k : Known) (t : Ty) (p : Span) → FineBase gs all b → IsKnown all k → k.variable.holds ≡ holds.Value t → t.rate ≡ Varying
      → (r : Called) → loaded s b k t p ≡ Ok r → FineCalled r
  loaded_fine s i b k t p f known h v r e = by (same_elem t.elem (base_array b).ty.elem) refl k.variable.constant refl
    where
      by : (o : Bool) → same_elem t.elem (base_array b).ty.elem ≡ o → (c : Bool) → k.variable.constant ≡ c → FineCalled r
      by false d c m = absurd (no_ok (rw d at e))
      by true d true m = absurd (no_ok (rw (d, m) at e))
      by true d false m =
          let is : slice_get all k.number ≡ Some (record { holds = holds.Value (ty_of Varying (base_array b).ty.elem); constant = false }) =
          known ∙ held_is k.variable t (base_array b).ty.elem h v (same_is t.elem (base_array b).ty.elem d) m in
          let done : FineCalled (gives (t_packed_load b k.number s)) = ((f, is, i), refl) in
          subst FineCalled (ok_is (gives (t_packed_load b k.number s)) r (opened d m)) done
        where
          opened : same_elem t.elem (base_array b).ty.elem ≡ true → k.variable.constant ≡ false → ◌≡◌ {A = Result Called Fault} (Ok (gives (t_packed_load b k.number s))) (Ok r)
          opened d m = sym (loaded_open s b k t p d m) ∙ e

  load_fine : (past : Want) (s : Span) → InText s → (ps : List Passed) → AllSuited past (Base false ∷ Destination ∷ []) ps → (r : Called) → packed_load s ps ≡ Ok r → FineCalled r
  load_fine past s i (p_base b ∷ p_destination k t p ∷ ps) f r e = loaded_fine s i b k t p f.0.0 f.1.0.0 f.1.0.1 f.1.0.2 r e
  load_fine past s i [] f r e = absurd (no_ok e)
  load_fine past s i (p_base b ∷ []) f r e = absurd (no_ok e)
  load_fine past s i (p_base b ∷ p ∷ ps) f r e = absurd f.1.0
  load_fine past s i (p ∷ ps) f r e = absurd f.0

  pub call_fine : (s : Span) → InText s → Headed hs gs → (n : ℕ) (c : Callee) (ws : List Want) → Fits hs n c ws → (past : Want) (ps : List Passed) → AllSuited past ws ps → length ps ≡ n
      → (r : Called) → call_of s (c, ps) ≡ Ok r → FineCalled r
  call_fine s i headed n Unknown ws f past ps a l r e = absurd (no_ok e)
  call_fine s i headed n (Miscounted packed) ws f past ps a l r e = absurd (no_ok e)
  call_fine s i headed n (Function k (Err d)) ws f past ps a l r e = absurd (no_ok e)
  call_fine s i headed n (Function k (Ok t)) ws f past ps a l r e =
      let g = headed k f.0 t f.1 f.2 in
      subst FineCalled (ok_is _ r e) (function_fine k s i ps t g.0 g.1 g.2 (arguments_fine past f.0.wants (params_of g.0) ps g.3 (rw (← f.3) a) (l ∙ sym (rw (← f.3) f.4))))
  call_fine s i headed n (OfLibrary f) ws fits past ps a l r e =
      let v = values_fine past (parts f) ps (rw fits.0 at a) (l ∙ sym (rw (fits.0, length-map (parts f) (λ p. AnyValue)) at fits.1)) in
      subst FineCalled (ok_is (gives (library_call f s (values_among ps))) r e) (library_fine f s (values_among ps) v.0 v.1)
  call_fine s i headed n PackedStore ws f past ps a l r e = store_fine past s i ps (rw f.0 at a) r e
  call_fine s i headed n PackedLoad ws f past ps a l r e = load_fine past s i ps (rw f.0 at a) r e
