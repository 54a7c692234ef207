-- What is known on the way through the body of a `foreach` is so.
use Rattle.std.specs.Prelude.{◌≡◌, ℕ, suc, ◌<◌, List, [], ◌∷◌, ◌++◌, map, Some, None, Bool, true, false, ◌||◌, nat_eq, if◌then◌else◌, ℤ, pos, ◌+ℤ◌}
use Rattle.std.proofs.Common.{refl, sym, ap, ap₂, ◌∙◌, subst, ⊎_elim, arith, eq-eqb}
use Rattle.std.proofs.lemmas.Bool.{ne_eqb, cases_eq}
use Rattle.std.proofs.lemmas.Int.{ints}
use Rattle.isp_base.specs.Maps.{Lanes, Map, on, over, or_old, put}
use Rattle.isp_base.specs.Sets.{Mask}
use Rattle.isp_base.specs.Values.{wrap}
use Rattle.isp_base.specs.declared.types.Elem.{Elem}
use Rattle.isp_base.specs.declared.types.Elem.TheVariants.{I32}
use Rattle.isp_base.specs.declared.types.Rate.TheVariants.{Varying}
use Rattle.isp_typed.specs.declared.variable.Variable.{Variable}
use Rattle.isp_meaning.specs.State.{State}
use Rattle.isp_meaning.specs.Payloads.{Each}
use Rattle.isp_meaning.specs.Outcomes.{Res, Went, Trapped, Cut}
use Rattle.isp_meaning.specs.Places.{written}
use Rattle.isp_meaning.specs.Rounds.{Range, Run, last_run, with_outer, joined_lists, runs_of, from_on, runs_for, length_of, set_indices}
use Rattle.isp_steady.specs.Known.{type_in, Known, Unknown, Steady, Linear, is_known, IsPart, IsAsKnown, AreAsKnown, elem_at}
use Rattle.isp_steady.specs.Assigns.{UnsetBy}
use Rattle.isp_steady.specs.Indices.{known_indices, index_scalars, EachRun, indices_of, IndicesAreKnown}
use Rattle.isp_steady.specs.Code.{Where, gang_of, ranges_of}
use Rattle.std.specs.List.{All}
use Rattle.std.proofs.lemmas.List.Elements.{All-head, All-tail}
use Rattle.isp_typed.specs.Fine.{FineRange}
use Rattle.isp_typed.specs.Scoped.{Scope, RangesAt}
use Rattle.isp_typed.specs.Typed.{TRange}
use Rattle.isp_meaning.specs.Expressions.{value}
use Rattle.isp_meaning.specs.Calls.{calls_at}
use Rattle.isp_meaning.specs.Outcomes.{Val, Gives, Fails, Stops, bind}
use Rattle.isp_steady.specs.Kept.{KnownBy, StaysKnown}
use Rattle.isp_steady.proofs.Counts.{counted_wraps}
use Rattle.isp_steady.proofs.Untouched.{statement_stays, statements_stay}

-- ---- fewer members, and other states

pub part_is : (k : Known) (t : Elem) (u : ℕ) (x : Lanes) (a b : Mask) → IsPart b a → IsAsKnown k t u x a → IsAsKnown k t u x b
part_is Unknown t u x a b h k = tt
part_is Steady t u x a b h k = λ p i. k p (h p i)
part_is Linear t u x a b h k = λ p i. k p (h p i)

pub parts_are : (vars : List Variable) (known : ℕ → Known) (scalars : ℕ → ℕ) (a b : Mask) (s : State) → IsPart b a → AreAsKnown vars known scalars a s → AreAsKnown vars known scalars b s
parts_are vars known scalars a b s h are v = part_is (known v) (elem_at vars v) (scalars v) (s.varying v) a b h (are v)

-- where each known variable is as it was
pub still_is : (k : Known) (t : Elem) (u : ℕ) (x y : Lanes) (a : Mask) → (is_known k ≡ true → y ≡ x) → IsAsKnown k t u x a → IsAsKnown k t u y a
still_is Unknown t u x y a h k = tt
still_is Steady t u x y a h k = subst (λ z. IsAsKnown Steady t u z a) (sym (h refl)) k
still_is Linear t u x y a h k = subst (λ z. IsAsKnown Linear t u z a) (sym (h refl)) k

stays_by : (vars : List Variable) (known : ℕ → Known) (scalars : ℕ → ℕ) (a : Mask) (s : State) (r : Res) → ((v : ℕ) → is_known (known v) ≡ true → UnsetBy v s r) → AreAsKnown vars known scalars a s
    → KnownBy (AreAsKnown vars known scalars a) r
stays_by vars known scalars a s (Went s1 g b c r) h are = λ v. still_is (known v) (elem_at vars v) (scalars v) (s.varying v) (s1.varying v) a (λ e. (h v e).1) (are v)
stays_by vars known scalars a s (Trapped t s1) h are = tt
stays_by vars known scalars a s (Cut s1) h are = tt

pub stays_known : StaysKnown
stays_known =
    record {
      statement = λ w vars known scalars x a b s unset are. stays_by vars known scalars a s _ (λ v e. statement_stays v w.program w.most w.left w.frame x b s (unset v e)) are;
      statements = λ w vars known scalars xs a b s unset are. stays_by vars known scalars a s _ (λ v e. statements_stay v w.program w.most w.left w.frame xs b s (unset v e)) are;
      part = parts_are;
    }

-- ---- one variable is written

-- what is written for the members is there
pub over_at : (a : Mask) (g : Lanes) (m : Map) (old : Lanes) (p : ℕ) → m ≡ on a g → a p ≡ true → over m old p ≡ g p
over_at a g m old p e h = ap (λ f. or_old (f p) (old p)) e ∙ ap (λ t. or_old (if t then Some (g p) else None) (old p)) h

pub put_as : (vars : List Variable) (known : ℕ → Known) (scalars : ℕ → ℕ) (v : ℕ) (k : Known) (u : ℕ) (y : Lanes) (a : Mask) (s : State) → IsAsKnown k (elem_at vars v) u y a
    → ((w : ℕ) → IsAsKnown (known w) (elem_at vars w) (scalars w) (s.varying w) a) → (w : ℕ)
    → IsAsKnown (put known v k w) (elem_at vars w) (put scalars v u w) (put s.varying v y w) a
put_as vars known scalars v k u y a s h are w =
    ⊎_elim (λ (e : w ≡ v). here e (nat_eq w v) (eq-eqb w v e)) (λ ne. there (nat_eq w v) (ne_eqb w v ne)) (cases_eq w v)
  where
    here : w ≡ v → (b : Bool) → b ≡ true → IsAsKnown (if b then k else known w) (elem_at vars w) (if b then u else scalars w) (if b then y else s.varying w) a
    here e true is = subst (λ z. IsAsKnown k (elem_at vars z) u y a) (sym e) h
    here e false is = absurd (cc)

    there : (b : Bool) → b ≡ false → IsAsKnown (if b then k else known w) (elem_at vars w) (if b then u else scalars w) (if b then y else s.varying w) a
    there true is = absurd (cc)
    there false is = are w

-- and nothing is known of it then
pub put_unknown : (vars : List Variable) (known : ℕ → Known) (scalars : ℕ → ℕ) (v : ℕ) (y : Lanes) (a : Mask) (s : State) → ((w : ℕ) → IsAsKnown (known w) (elem_at vars w) (scalars w) (s.varying w) a) → (w : ℕ)
    → IsAsKnown (put known v Unknown w) (elem_at vars w) (scalars w) (put s.varying v y w) a
put_unknown vars known scalars v y a s are w = by (nat_eq w v)
  where
    by : (b : Bool) → IsAsKnown (if b then Unknown else known w) (elem_at vars w) (scalars w) (if b then y else s.varying w) a
    by true = tt
    by false = are w

-- ---- indices

abbrev numbers : List (ℕ × (ℕ → ℤ)) → List ℕ
numbers [] = []
numbers (x ∷ xs) = x.0 ∷ numbers xs

-- none is named twice
abbrev is_among : ℕ → List ℕ → Bool
is_among v [] = false
is_among v (i ∷ is) = nat_eq v i || is_among v is

abbrev AreApart : List ℕ → Type 0
AreApart [] = Unit {0}
AreApart (i ∷ is) = (is_among i is ≡ false) × AreApart is

abbrev AreInt : List Variable → List ℕ → Type 0
AreInt vars [] = Unit {0}
AreInt vars (i ∷ is) = (elem_at vars i ≡ I32) × AreInt vars is

-- the last counts on, the others are the same in all instances
abbrev CountOn : List (ℕ × (ℕ → ℤ)) → Type 0
CountOn [] = Unit {0}
CountOn (x ∷ []) = (p : ℕ) → x.1 p ≡ x.1 0 +ℤ pos p
CountOn (x ∷ y ∷ ys) = ((p : ℕ) → x.1 p ≡ x.1 0) × CountOn (y ∷ ys)

module _ (a : Mask) where
  abbrev set_one : ℕ × (ℕ → ℤ) → State → State
  set_one x s = written Varying x.0 a (Each (on a (λ p. wrap I32 (x.1 p)))) s

  put_rest : (f : ℕ → Lanes) (d : ℕ) (y : Lanes) (w : ℕ) → nat_eq w d ≡ false → put f d y w ≡ f w
  put_rest f d y w e = ap (λ b. if b then y else f w) e

  neither : (b c : Bool) → (b || c) ≡ false → (b ≡ false) × (c ≡ false)
  neither true c e = absurd (cc)
  neither false c e = (refl, e)

  -- others are as they were
  set_other : (xs : List (ℕ × (ℕ → ℤ))) (w : ℕ) → is_among w (numbers xs) ≡ false → (s : State) → (set_indices a xs s).varying w ≡ s.varying w
  set_other [] w e s = refl
  set_other (x ∷ xs) w e s =
      let n = neither _ _ e in
      set_other xs w n.1 (set_one x s) ∙ put_rest s.varying x.0 (over (on a (λ p. wrap I32 (x.1 p))) (s.varying x.0)) w n.0

  module _ (vars : List Variable) where
    one_known : (x : ℕ × (ℕ → ℤ)) → ((p : ℕ) → x.1 p ≡ x.1 0 +ℤ pos p) → elem_at vars x.0 ≡ I32 → (s : State) → IsAsKnown Linear (elem_at vars x.0) (wrap I32 (x.1 0)) (over (on a (λ p. wrap I32 (x.1 p))) (s.varying x.0)) a
    one_known x h t s =
        subst (λ e. IsAsKnown Linear e (wrap I32 (x.1 0)) (over (on a (λ p. wrap I32 (x.1 p))) (s.varying x.0)) a) (sym t)
        (λ p i. over_at a (λ q. wrap I32 (x.1 q)) _ (s.varying x.0) p refl i ∙ ap (wrap I32) (h p) ∙ sym (counted_wraps I32 (x.1 0) p))

    indices_known : (xs : List (ℕ × (ℕ → ℤ))) → CountOn xs → AreApart (numbers xs) → AreInt vars (numbers xs) → (s : State) → (w : ℕ)
        → IsAsKnown (known_indices (numbers xs) w) (elem_at vars w) (index_scalars xs w) ((set_indices a xs s).varying w) a
    indices_known [] h k t s w = tt
    indices_known (x ∷ []) h k t s w =
        put_as vars (λ v. Unknown) (λ v. 0) x.0 Linear (wrap I32 (x.1 0)) (over (on a (λ p. wrap I32 (x.1 p))) (s.varying x.0)) a s (one_known x h t.0 s) (λ v. tt) w
    indices_known (x ∷ y ∷ ys) h k t s w =
        ⊎_elim (λ (e : w ≡ x.0). here e (nat_eq w x.0) (eq-eqb w x.0 e)) (λ ne. there (nat_eq w x.0) (ne_eqb w x.0 ne) (indices_known (y ∷ ys) h.1 k.1 t.1 (set_one x s) w)) (cases_eq w x.0)
      where
        after : State
        after = set_indices a (y ∷ ys) (set_one x s)

        value_here : (p : ℕ) → a p ≡ true → after.varying x.0 p ≡ wrap I32 (x.1 0)
        value_here p i =
            ap (λ f. f p) (set_other (y ∷ ys) x.0 k.0 (set_one x s)) ∙ ap (λ b. (if b then over (on a (λ q. wrap I32 (x.1 q))) (s.varying x.0) else s.varying x.0) p) (eq-eqb x.0 x.0 refl)
            ∙ over_at a (λ q. wrap I32 (x.1 q)) _ (s.varying x.0) p refl i ∙ ap (wrap I32) (h.0 p)

        here : w ≡ x.0 → (b : Bool) → b ≡ true → IsAsKnown (if b then Steady else known_indices (numbers (y ∷ ys)) w) (elem_at vars w) (if b then wrap I32 (x.1 0) else index_scalars (y ∷ ys) w) (after.varying w) a
        here e true is = λ p i. ap (λ z. after.varying z p) e ∙ value_here p i
        here e false is = absurd (cc)

        there : (b : Bool) → b ≡ false → IsAsKnown (known_indices (numbers (y ∷ ys)) w) (elem_at vars w) (index_scalars (y ∷ ys) w) (after.varying w) a
            → IsAsKnown (if b then Steady else known_indices (numbers (y ∷ ys)) w) (elem_at vars w) (if b then wrap I32 (x.1 0) else index_scalars (y ∷ ys) w) (after.varying w) a
        there true is i = absurd (cc)
        there false is i = i

-- each run sets the indices of the ranges so
record IsRun (is : List ℕ) (x : Run) : Type 0 where
  pub named : numbers x.indices ≡ is
  pub counts : CountOn x.indices

pub join_runs : (P : Run → Type 0) (xs ys : List Run) → EachRun P xs → EachRun P ys → EachRun P (xs ++ ys)
join_runs P [] ys h k = k
join_runs P (x ∷ xs) ys h k = (h.0, join_runs P xs ys h.1 k)

of_each : (P Q : Run → Type 0) (xs : List Run) → ((x : Run) → P x → Q x) → EachRun P xs → EachRun Q xs
of_each P Q [] f h = tt
of_each P Q (x ∷ xs) f h = (f x h.0, of_each P Q xs f h.1)

last_runs : (gang : ℕ) (r : Range) (zs : List ℤ) → EachRun (IsRun (r.index ∷ [])) (map (last_run gang r) zs)
last_runs gang r [] = tt
last_runs gang r (z ∷ zs) = (record { named = refl; counts = λ p. omega (arith, ints) }, last_runs gang r zs)

outer_counts : (i j : ℕ) (is : List ℕ) (z : ℤ) (xs : List (ℕ × (ℕ → ℤ))) → numbers xs ≡ j ∷ is → CountOn xs → CountOn ((i, λ p. z) ∷ xs)
outer_counts i j is z [] e h = absurd (cc)
outer_counts i j is z (y ∷ ys) e h = (λ p. refl, h)

outer_runs : (i j : ℕ) (is : List ℕ) (z : ℤ) (xs : List Run) → EachRun (IsRun (j ∷ is)) xs → EachRun (IsRun (i ∷ j ∷ is)) (map (with_outer i z) xs)
outer_runs i j is z [] h = tt
outer_runs i j is z (x ∷ xs) h = (record { named = ap (λ ks. i ∷ ks) h.0.named; counts = outer_counts i j is z x.indices h.0.named h.0.counts }, outer_runs i j is z xs h.1)

joined_runs : (i j : ℕ) (is : List ℕ) (xs : List Run) (zs : List ℤ) → EachRun (IsRun (j ∷ is)) xs → EachRun (IsRun (i ∷ j ∷ is)) (joined_lists (map (λ z. map (with_outer i z) xs) zs))
joined_runs i j is xs [] h = tt
joined_runs i j is xs (z ∷ zs) h = join_runs (IsRun (i ∷ j ∷ is)) (map (with_outer i z) xs) _ (outer_runs i j is z xs h) (joined_runs i j is xs zs h)

runs_are : (gang : ℕ) (rs : List Range) → EachRun (IsRun (map (λ r. r.index) rs)) (runs_of gang rs)
runs_are gang [] = tt
runs_are gang (r ∷ []) = last_runs gang r (from_on gang (runs_for gang (length_of r)) r.start)
runs_are gang (r ∷ q ∷ rs) = joined_runs r.index q.index (map (λ y. y.index) rs) (runs_of gang (q ∷ rs)) (from_on 1 (length_of r) r.start) (runs_are gang (q ∷ rs))

runs_known : (gang : ℕ) (vars : List Variable) (is : List ℕ) (rs : List Range) → map (λ r. r.index) rs ≡ is → AreApart is → AreInt vars is
    → EachRun (λ x. (s : State) → AreAsKnown vars (known_indices is) (index_scalars x.indices) x.members (set_indices x.members x.indices s)) (runs_of gang rs)
runs_known gang vars is rs named apart int =
    of_each (IsRun is) _ (runs_of gang rs)
    (λ x h s v. subst (λ ks. IsAsKnown (known_indices ks v) (elem_at vars v) (index_scalars x.indices v) ((set_indices x.members x.indices s).varying v) x.members) h.named
    (indices_known x.members vars x.indices h.counts (subst AreApart (sym h.named) apart) (subst (AreInt vars) (sym h.named) int) s v))
    (subst (λ ks. EachRun (IsRun ks) (runs_of gang rs)) named (runs_are gang rs))

-- ---- what the tree says

-- variables are numbered in order
later_among : (v : Scope) (n k : ℕ) (rs : List TRange) → k < n → RangesAt v n rs → is_among k (indices_of rs) ≡ false
later_among v n k [] lt h = refl
later_among v n k (r ∷ rs) lt h = ap₂ (λ b c. b || c) (ne_eqb k r.index (λ e. absurd (omega (arith, e, h.0, lt)))) (later_among v (suc n) k rs (omega (arith, lt)) h.3)

ranges_apart : (v : Scope) (n : ℕ) (rs : List TRange) → RangesAt v n rs → AreApart (indices_of rs)
ranges_apart v n [] h = tt
ranges_apart v n (r ∷ rs) h = (later_among v (suc n) r.index rs (omega (arith, h.0)) h.3, ranges_apart v (suc n) rs h.3)

module _ (home : Where) (vars : List Variable) where
  ranges_int : (rs : List TRange) → All (FineRange home.program.functions vars) rs → AreInt vars (indices_of rs)
  ranges_int [] f = tt
  ranges_int (r ∷ rs) f = (ap type_in (All-head (FineRange home.program.functions vars) r rs f).index, ranges_int rs (All-tail (FineRange home.program.functions vars) r rs f))

  -- the ranges have the names of the tree
  abbrev Named : List ℕ → Val (List Range) → Type 0
  Named is (Gives xs s) = map (λ r. r.index) xs ≡ is
  Named is (Fails t s) = Unit {0}
  Named is (Stops s) = Unit {0}

  named_by : {A : Type 0} (is : List ℕ) (v : Val A) (go : A → State → Val (List Range)) → ((x : A) (s : State) → Named is (go x s)) → Named is (bind v go)
  named_by is (Gives x s) go h = h x s
  named_by is (Fails t s) go h = tt
  named_by is (Stops s) go h = tt

  named_after : (i : ℕ) (is : List ℕ) (v : Val (List Range)) (r : Range) → r.index ≡ i → Named is v → Named (i ∷ is) (bind v (λ xs s. Gives (r ∷ xs) s))
  named_after i is (Gives xs s) r e h = ap₂ (λ j js. j ∷ js) e h
  named_after i is (Fails t s) r e h = tt
  named_after i is (Stops s) r e h = tt

  ranges_named : (rs : List TRange) (a : Mask) (s : State) → Named (indices_of rs) (ranges_of home rs a s)
  ranges_named [] a s = refl
  ranges_named (r ∷ rs) a s =
      named_by (indices_of (r ∷ rs)) (value (gang_of home) home.frame (calls_at home.program home.most home.left) r.start a s) _
      (λ m s1. named_by (indices_of (r ∷ rs)) (value (gang_of home) home.frame (calls_at home.program home.most home.left) r.end a s1) _
      (λ n s2. named_after r.index (indices_of rs) (ranges_of home rs a s2) _ refl (ranges_named rs a s2)))

pub indices_are_known : IndicesAreKnown
indices_are_known home vars scope n rs a s s1 xs fine at e =
    runs_known (gang_of home) vars (indices_of rs) xs (subst (Named home vars (indices_of rs)) e (ranges_named home vars rs a s)) (ranges_apart scope n rs at) (ranges_int home vars rs fine)
