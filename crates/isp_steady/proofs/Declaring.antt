-- What is known of a declared variable is so.
use Rattle.std.specs.Prelude.{Option, ◌≡◌, ℕ, List, [], ◌∷◌, Bool, true, false, ◌||◌, nat_eq, if◌then◌else◌}
use Rattle.std.proofs.Common.{refl, sym, ap, ◌∙◌, subst, ⊎_elim, eq-eqb}
use Rattle.std.proofs.lemmas.Bool.{ne_eqb, cases_eq}
use Rattle.isp_base.specs.Maps.{over, put}
use Rattle.isp_base.specs.Sets.{Mask, any}
use Rattle.isp_base.specs.Types.{gang_width}
use Rattle.isp_base.specs.declared.types.Rate.{Rate}
use Rattle.isp_base.specs.declared.types.Rate.TheVariants.{Uniform, Varying}
use Rattle.isp_base.specs.declared.types.Ty.{Ty}
use Rattle.isp_typed.specs.Fine.{FineStmt, FineExpr, HoldsValue}
use Rattle.isp_typed.specs.Typed.{TExpr, TItem, TStmt, TStmts, t_plain, t_with_value, t_with_size, elem_of, t_declare, t_stmt_then}
use Rattle.isp_typed.specs.declared.variable.Variable.{Variable}
use Rattle.isp_meaning.specs.State.{State, tick}
use Rattle.isp_meaning.specs.Payloads.{Payload, One, spread}
use Rattle.isp_meaning.specs.Outcomes.{Val, Done, Gives, Fails, Stops, Res, Went, Trapped, Cut, bind}
use Rattle.isp_meaning.specs.Places.{written}
use Rattle.isp_meaning.specs.Calls.{calls_at}
use Rattle.isp_meaning.specs.Expressions.{Calls, value}
use Rattle.isp_meaning.specs.Simple.{cleared, items}
use Rattle.isp_meaning.specs.Loads.{either, loads, KeepsBy}
use Rattle.isp_meaning.proofs.Loads.{variables_stay}
use Rattle.isp_steady.specs.Known.{Known, Unknown, Steady, Linear, is_known, IsInside, IsAsKnown, AreAsKnown, counted_on, elem_at, type_in}
use Rattle.isp_steady.specs.Steady.{steady}
use Rattle.isp_steady.specs.Linear.{linear}
use Rattle.isp_steady.specs.Alone.{alone, lent}
use Rattle.isp_steady.specs.Values.{Sole, Comes, Traps, IsOne, IsCounted, ComesTo, over_set}
use Rattle.isp_steady.specs.Assigns.{only, item_sets, items_set, assigns, all_assign}
use Rattle.isp_steady.specs.Kept.{AreUnset, KnownBy}
use Rattle.isp_steady.proofs.Ones.{spread_one}
use Rattle.isp_steady.proofs.Steadies.{steady_gives_one}
use Rattle.isp_steady.proofs.Linears.{linear_counts_on}
use Rattle.isp_steady.specs.Declared.{known_value, known_at, learned, with_scalar, IsItsScalar, LearnsBy, AreThere, ItemIsKnown, items_learned, behind, AreKnown, BehindIsKnown}
use Rattle.isp_steady.specs.Code.{Where, gang_of, item_of, run_of}
use Rattle.isp_steady.proofs.Scoping.{still_is, over_at, put_as, put_unknown, stays_known}
use Rattle.std.specs.List.{All}
use Rattle.isp_meaning.specs.Statements.{all_go}
use Rattle.isp_typed.specs.Fine.{FineItem}
use Rattle.std.proofs.lemmas.List.Elements.{All-head, All-tail}

held_elem : (vars : List Variable) (v : ℕ) (t : Ty) → HoldsValue vars v t → elem_at vars v ≡ t.elem
held_elem vars v t h = ap type_in h.is

-- nothing is known of what is written
forget : (vars : List Variable) (known : ℕ → Known) (scalars : ℕ → ℕ) (v u : ℕ) (r : Rate) (m : Payload) (a : Mask) (s : State) → AreAsKnown vars known scalars a s
    → AreAsKnown vars (put known v Unknown) (put scalars v u) a (written r v a m s)
forget vars known scalars v u Varying m a s are w = put_as vars known scalars v Unknown u (over (spread a m) (s.varying v)) a s tt are w
forget vars known scalars v u Uniform m a s are w = by (nat_eq w v)
  where
    by : (b : Bool) → IsAsKnown (if b then Unknown else known w) (elem_at vars w) (if b then u else scalars w) (s.varying w) a
    by true = tt
    by false = are w

forget_only : (vars : List Variable) (known : ℕ → Known) (scalars : ℕ → ℕ) (v : ℕ) (r : Rate) (m : Payload) (a : Mask) (s : State) → AreAsKnown vars known scalars a s
    → AreAsKnown vars (put known v Unknown) scalars a (written r v a m s)
forget_only vars known scalars v Varying m a s are w = put_unknown vars known scalars v (over (spread a m) (s.varying v)) a s are w
forget_only vars known scalars v Uniform m a s are w = by (nat_eq w v)
  where
    by : (b : Bool) → IsAsKnown (if b then Unknown else known w) (elem_at vars w) (scalars w) (s.varying w) a
    by true = tt
    by false = are w

module _ (home : Where) (vars : List Variable) (known : ℕ → Known) (scalars : ℕ → ℕ) (a : Mask) (s : State)
    (some : any (gang_width home.program.gang) a ≡ true) (inside : IsInside (gang_width home.program.gang) a) (are : AreAsKnown vars known scalars a s)
    (v : ℕ) (t : Ty) (x : TExpr) (held : HoldsValue vars v t) (fine : FineExpr home.program.functions vars x) (type : elem_of x ≡ t.elem) (unset : AreUnset known (loads x)) where
  abbrev gang : ℕ
  gang = gang_width home.program.gang

  abbrev calls : Calls
  calls = calls_at home.program home.most home.left

  abbrev behind_it : Known → ℕ → State → Type 0
  behind_it k u s1 =
      AreAsKnown vars (put known v k) (put scalars v u) a s1 × (is_known k ≡ true → (s2 : State) × (value gang home.frame calls (alone x) a (lent known scalars (tick s)) ≡ Gives (One u) s2))

  abbrev Goal : Rate → Known → Val Payload → Type 0
  Goal r k w = LearnsBy (behind_it k) (bind w (λ m s1. Gives tt (written r v a m s1)))

  -- what is known is so after the value
  behind_value : (m : Payload) (s2 : State) → KeepsBy (loads x) (tick s) (Gives m s2) → AreAsKnown vars known scalars a s2
  behind_value m s2 keeps w = still_is (known w) (elem_at vars w) (scalars w) (s.varying w) (s2.varying w) a (λ e. keeps.1 w (unset w e)) (are w)

  unknown_goal : (r : Rate) (w : Val Payload) → KeepsBy (loads x) (tick s) w → Goal r Unknown w
  unknown_goal r (Gives m s2) keeps = (0, (forget vars known scalars v 0 r m a s2 (behind_value m s2 keeps), λ e. absurd (cc)))
  unknown_goal r (Fails trap s2) keeps = tt
  unknown_goal r (Stops s2) keeps = tt

  steady_goal : (o : Sole) (w : Val Payload) → KeepsBy (loads x) (tick s) w → ComesTo gang IsOne a o w
      → value gang home.frame calls (alone x) a (lent known scalars (tick s)) ≡ over_set gang (lent known scalars) a o → Goal Varying Steady w
  steady_goal (Comes u s1) (Gives m s2) keeps h e = (
    u,
    (
      put_as vars known scalars v Steady u (over (spread a m) (s2.varying v)) a s2 (λ p i. over_at a (λ q. u) (spread a m) (s2.varying v) p (spread_one a u m h.0) i)
          (behind_value m s2 keeps),
      λ _. (lent known scalars s1, e),
    ),
  )
  steady_goal (Comes u s1) (Fails trap s2) keeps h e = absurd h
  steady_goal (Comes u s1) (Stops s2) keeps h e = absurd h
  steady_goal (Traps kind sp s1) w keeps h e = subst (Goal Varying Steady) (sym h) tt

  linear_goal : (o : Sole) (w : Val Payload) → KeepsBy (loads x) (tick s) w → ComesTo gang (IsCounted (elem_of x)) a o w
      → value gang home.frame calls (alone x) a (lent known scalars (tick s)) ≡ over_set gang (lent known scalars) a o → Goal Varying Linear w
  linear_goal (Comes u s1) (Gives m s2) keeps h e = (
    u,
    (
      put_as vars known scalars v Linear u (over (spread a m) (s2.varying v)) a s2
          (λ p i. over_at a (counted_on (elem_of x) u) (spread a m) (s2.varying v) p (ap (spread a) h.0) i ∙ ap (λ f. counted_on f u p) (type ∙ sym (held_elem vars v t held)))
          (behind_value m s2 keeps),
      λ _. (lent known scalars s1, e),
    ),
  )
  linear_goal (Comes u s1) (Fails trap s2) keeps h e = absurd h
  linear_goal (Comes u s1) (Stops s2) keeps h e = absurd h
  linear_goal (Traps kind sp s1) w keeps h e = subst (Goal Varying Linear) (sym h) tt

  abbrev now : Val Payload
  now = value gang home.frame calls x a (tick s)

  keeps_now : KeepsBy (loads x) (tick s) now
  keeps_now = variables_stay home.program home.most home.left home.frame x a (tick s)

  by_value : (c : Bool) → steady known x ≡ c → (d : Bool) → linear known x ≡ d → Goal Varying (known_value c d) now
  by_value true e d k = let law = steady_gives_one gang vars home.frame calls known scalars x a (tick s) e are in steady_goal law.0 now keeps_now (law.1 a (λ p i. i) some) (law.2 a some)
  by_value false e true k =
      let law = linear_counts_on home.program.gang home.program.functions vars home.frame calls known scalars x a (tick s) fine k inside are in
      linear_goal law.0 now keeps_now (law.1 a (λ p i. i) some) (law.2 a some)
  by_value false e false k = unknown_goal Varying now keeps_now

  declared_goal : (b : Bool) (r : Rate) → Goal r (if b then Unknown else known_at r known x) now
  declared_goal true r = unknown_goal r now keeps_now
  declared_goal false Uniform = unknown_goal Uniform now keeps_now
  declared_goal false Varying = by_value (steady known x) refl (linear known x) refl

pub either_left : (b c : Bool) → (b || c) ≡ false → b ≡ false
either_left true c e = absurd (cc)
either_left false c e = refl

pub item_is_known : ItemIsKnown
item_is_known home vars known scalars sets (t_plain v t sp) a s fine there unset are = (0, (forget_only vars known scalars v t.rate (One 0) a (tick s) are, tt))
item_is_known home vars known scalars sets (t_with_value v t x sp) a s fine there unset are =
    declared_goal home vars known scalars a s there.0 there.1 are v t x fine.0 fine.1.0 fine.1.1 (λ w e. either_left (loads x w) (only v w) (unset w e)) (sets v) t.rate
item_is_known home vars known scalars sets (t_with_size b sp) a s fine there unset are = (0, (by b.ty.rate, tt))
  where
    by : (r : Rate) → AreAsKnown vars known scalars a (cleared home.frame r b.number a (tick s))
    by Uniform = are
    by Varying = are

-- ---- several items, and statements

pub right_of : (b c : Bool) → (b || c) ≡ false → c ≡ false
right_of true c e = absurd (cc)
right_of false c e = e

-- what is learned is not set by the code after
value_unset : (sets : ℕ → Bool) (v : ℕ) (k : Known) → is_known (if sets v then Unknown else k) ≡ true → sets v ≡ false
value_unset sets v k e = by (sets v) refl e
  where
    by : (b : Bool) → sets v ≡ b → is_known (if b then Unknown else k) ≡ true → sets v ≡ false
    by true is h = absurd (cc)
    by false is h = is

put_unset : (sets : ℕ → Bool) (known : ℕ → Known) (v : ℕ) (k : Known) → AreUnset known sets → (is_known k ≡ true → sets v ≡ false) → AreUnset (put known v k) sets
put_unset sets known v k unset h w e = ⊎_elim (λ (i : w ≡ v). ap sets i ∙ h (ap is_known (sym (put_here i)) ∙ e)) (λ ne. unset w (ap is_known (sym (put_there ne)) ∙ e)) (cases_eq w v)
  where
    put_here : w ≡ v → put known v k w ≡ k
    put_here i = ap (λ b. if b then k else known w) (eq-eqb w v i)

    put_there : (w ≡ v → ⊥) → put known v k w ≡ known w
    put_there ne = ap (λ b. if b then k else known w) (ne_eqb w v ne)

learned_unset : (sets : ℕ → Bool) (known : ℕ → Known) (x : TItem) → AreUnset known sets → AreUnset (learned sets known x) sets
learned_unset sets known (t_with_value v t x sp) unset = put_unset sets known v (if sets v then Unknown else known_at t.rate known x) unset (value_unset sets v (known_at t.rate known x))
learned_unset sets known (t_plain v t sp) unset = put_unset sets known v Unknown unset (λ e. absurd (cc))
learned_unset sets known (t_with_size b sp) unset = unset

items_unset : (sets : ℕ → Bool) (known : ℕ → Known) (xs : List TItem) → AreUnset known (either (items_set xs) sets) → AreUnset (items_learned sets known xs) sets
items_unset sets known [] unset = unset
items_unset sets known (x ∷ xs) unset =
    let rest : AreUnset known (either (items_set xs) sets) = after x xs known unset in
    items_unset sets (learned (either (items_set xs) sets) known x) xs (learned_unset (either (items_set xs) sets) known x rest)
  where
    after : (y : TItem) (ys : List TItem) (k : ℕ → Known) → AreUnset k (either (items_set (y ∷ ys)) sets) → AreUnset k (either (items_set ys) sets)
    after y ys k unset w e = joined (item_sets y w) (items_set ys w) (sets w) (unset w e)
      where
        joined : (b c d : Bool) → ((b || c) || d) ≡ false → (c || d) ≡ false
        joined true c d h = absurd (cc)
        joined false c d h = h

abbrev ItemsBy : (State → Type 0) → Val Done → Type 0
ItemsBy P (Gives d s1) = P s1
ItemsBy P (Fails trap s1) = Unit {0}
ItemsBy P (Stops s1) = Unit {0}

module _ (home : Where) (vars : List Variable) (a : Mask) (sets : ℕ → Bool)
    (there : AreThere home a) where
  abbrev Behind : (ℕ → Known) → State → Type 0
  Behind known = AreKnown vars known a

  abbrev items_do : List TItem → State → Val Done
  items_do xs = items (gang_of home) home.frame (calls_at home.program home.most home.left) xs a

  items_known : (xs : List TItem) → All (FineItem home.program.functions vars) xs → (known : ℕ → Known) (scalars : ℕ → ℕ) (s : State) → AreUnset known (either (items_set xs) sets)
      → AreAsKnown vars known scalars a s → ItemsBy (Behind (items_learned sets known xs)) (items_do xs s)
  items_known [] fine known scalars s unset are = (scalars, are)
  items_known (x ∷ xs) fine known scalars s unset are =
      by (λ learnt s1 are1. items_known xs (All-tail (FineItem home.program.functions vars) x xs fine) (learned (either (items_set xs) sets) known x) learnt s1
      (learned_unset (either (items_set xs) sets) known x rest) are1)
      (item_of home x a s)
      (item_is_known home vars known scalars (either (items_set xs) sets) x a s (All-head (FineItem home.program.functions vars) x xs fine) there
      (λ w e. either_left (item_sets x w) (items_set xs w) (either_left (item_sets x w || items_set xs w) (sets w) (unset w e))) are)
    where
      rest : AreUnset known (either (items_set xs) sets)
      rest w e = joined (item_sets x w) (items_set xs w) (sets w) (unset w e)
        where
          joined : (b c d : Bool) → ((b || c) || d) ≡ false → (c || d) ≡ false
          joined true c d h = absurd (cc)
          joined false c d h = h

      by : ((learnt : ℕ → ℕ) (s1 : State) → AreAsKnown vars (learned (either (items_set xs) sets) known x) learnt a s1
          → ItemsBy (Behind (items_learned sets known (x ∷ xs))) (items_do xs s1))
          → (w : Val Done) → LearnsBy (λ u s1. AreAsKnown vars (learned (either (items_set xs) sets) known x) (with_scalar x u scalars) a s1
          × IsItsScalar home (either (items_set xs) sets) known scalars x u a s) w
          → ItemsBy (Behind (items_learned sets known (x ∷ xs))) (bind w (λ d s1. items_do xs s1))
      by more (Gives d s1) h = more (with_scalar x h.0 scalars) s1 h.1.0
      by more (Fails trap s1) h = tt
      by more (Stops s1) h = tt

  went_by : (P : State → Type 0) (w : Val Done) → ItemsBy P w → KnownBy P (all_go a w)
  went_by P (Gives d s1) h = h
  went_by P (Fails trap s1) h = tt
  went_by P (Stops s1) h = tt

  with_learnt : (known : ℕ → Known) (scalars : ℕ → ℕ) (r : Res) → KnownBy (AreAsKnown vars known scalars a) r → KnownBy (Behind known) r
  with_learnt known scalars (Went s1 g b c d) h = (scalars, h)
  with_learnt known scalars (Trapped trap s1) h = tt
  with_learnt known scalars (Cut s1) h = tt

  behind_known : (answer : Option Ty) (known : ℕ → Known) (scalars : ℕ → ℕ) (x : TStmt) (s : State) → FineStmt home.program.functions vars answer x → AreUnset known (either (assigns x) sets)
      → AreAsKnown vars known scalars a s → KnownBy (Behind (behind sets known x)) (run_of home x a s)
  behind_known answer known scalars (t_declare xs sp) s fine unset are =
      went_by (Behind (items_learned sets known xs)) (items_do xs (tick s)) (items_known xs fine known scalars (tick s) unset are)
  behind_known answer known scalars x s fine unset are =
      with_learnt known scalars _ (stays_known.statement home vars known scalars x a a s (λ w e. either_left (assigns x w) (sets w) (unset w e)) are)

behind_unset : (known : ℕ → Known) (x : TStmt) (rest : TStmts) → AreUnset known (all_assign (t_stmt_then x rest)) → AreUnset (behind (all_assign rest) known x) (all_assign rest)
behind_unset known (t_declare xs sp) rest unset = items_unset (all_assign rest) known xs unset
behind_unset known x rest unset = λ w e. right_of (assigns x w) (all_assign rest w) (unset w e)

pub behind_is_known : BehindIsKnown
behind_is_known =
    record {
      known = λ home vars answer known x rest a s fine there unset are. behind_known home vars a (all_assign rest) there answer known are.0 x s fine unset are.1;
      unset = behind_unset;
    }
