-- What is known before a statement is known wherever its body runs.
use Rattle.std.specs.Prelude.{◌≡◌, ℕ, zero, suc, ◌+◌, ◌<◌, ◌≤◌, List, [], ◌∷◌, ◌++◌, map, Option, Some, None, Bool, true, false, not, ◌&&◌, ◌||◌, if◌then◌else◌}
use Rattle.std.proofs.Common.{refl, sym, ap, ◌∙◌, subst, arith, eq-eqb}
use Rattle.std.proofs.lemmas.Bool.{eqb-true}
use Rattle.isp_base.specs.Maps.{holds, where_true}
use Rattle.isp_base.specs.Sets.{Mask, nobody, union, without, any, lone}
use Rattle.isp_base.specs.declared.types.Rate.TheVariants.{Uniform}
use Rattle.isp_typed.specs.Typed.{TExpr, TSimple, TFirst, TStmt}
use Rattle.isp_typed.specs.declared.variable.Variable.{Variable}
use Rattle.isp_meaning.specs.State.{State, tick}
use Rattle.isp_meaning.specs.Payloads.{Payload, One, Each, is_true, kept_by}
use Rattle.isp_meaning.specs.Outcomes.{Val, Gives, Fails, Stops, Res, Went, Trapped, Cut, Done, with_value, go_on, went_all, if_so, unless_empty}
use Rattle.isp_meaning.specs.Calls.{calls_at}
use Rattle.isp_meaning.specs.Expressions.{Calls}
use Rattle.isp_meaning.specs.Simple.{first_part, step_part, no_step}
use Rattle.isp_meaning.specs.Loops.{loop_end, tested, stepped, turns}
use Rattle.isp_meaning.specs.Places.{written}
use Rattle.isp_meaning.specs.Rounds.{rounds, round_of_one, members, if_listed}
use Rattle.isp_meaning.specs.Statements.{branches, test_part}
use Rattle.isp_meaning.specs.Laws.{Parted, HasNone, LeavesBy}
use Rattle.isp_meaning.proofs.Parts.{four_sets}
use Rattle.isp_meaning.proofs.Others.{others_stay}
use Rattle.isp_meaning.specs.Loads.{either, loads}
use Rattle.isp_meaning.proofs.Members.{any_at}
use Rattle.isp_steady.specs.Known.{Known, is_known, IsPart, AreAsKnown}
use Rattle.isp_steady.specs.Code.{Where, gang_of, value_of, run_of, run_list}
use Rattle.isp_steady.specs.Assigns.{only, if_there, first_sets, simple_sets, assigns, all_assign}
use Rattle.isp_steady.specs.Kept.{AreUnset, KnownBy}
use Rattle.isp_steady.specs.Declared.{AreThere, AreKnown, behind}
use Rattle.isp_steady.specs.Bodies.{DoAlike, KnownInBodies}
use Rattle.isp_steady.proofs.Scoping.{still_is, parts_are, stays_known}
use Rattle.isp_steady.proofs.Declaring.{behind_is_known, either_left, right_of}
use Rattle.isp_steady.proofs.Untouched.{Keeps, Any, value_keeps, first_keeps, step_keeps}

-- ---- sets

no_part : (b : Bool) → (b ≡ false → ⊥) → b ≡ true
no_part true h = refl
no_part false h = absurd (h refl)

by_none : (b a : Mask) → ((p : ℕ) → a p ≡ false → b p ≡ false) → IsPart b a
by_none b a h p e = by (a p) refl
  where
    by : (t : Bool) → a p ≡ t → a p ≡ true
    by true i = i
    by false i = absurd (let k : b p ≡ false = h p i in cc)

part_self : (a : Mask) → IsPart a a
part_self a p e = e

part_on : (a b c : Mask) → IsPart b a → IsPart c b → IsPart c a
part_on a b c h k p e = h p (k p e)

union_part : (a b c : Mask) → IsPart b a → IsPart c a → IsPart (union b c) a
union_part a b c h k p e = by (b p) refl e
  where
    by : (t : Bool) → b p ≡ t → (t || c p) ≡ true → a p ≡ true
    by true i j = h p i
    by false i j = k p j

kept_part : (f : ℕ → Bool) (live : Mask) (m : Payload) → ((p : ℕ) → live p ≡ false → HasNone p m) → IsPart (kept_by f live m) live
kept_part f live (One x) h = by (f x)
  where
    by : (t : Bool) → IsPart (if t then live else nobody) live
    by true p e = e
    by false p e = absurd (cc)
kept_part f live (Each x) h = by_none (where_true f x) live (λ p e. ap (holds f) (h p e))

without_part : (a b : Mask) → IsPart (without a b) a
without_part a b p e = by (a p) refl e
  where
    by : (t : Bool) → a p ≡ t → (t && not (b p)) ≡ true → a p ≡ true
    by true i j = i
    by false i j = absurd (cc)

-- the four sets of a statement are parts of the set that it ran over
abbrev PartsOf : Mask → Res → Type 0
PartsOf a (Went s g b c r) = IsPart g a × IsPart c a
PartsOf a (Trapped t s) = Unit {0}
PartsOf a (Cut s) = Unit {0}

bit_none : (g b c r a : Bool) → (if g then 1 else 0) + ((if b then 1 else 0) + ((if c then 1 else 0) + (if r then 1 else 0))) ≡ (if a then 1 else 0) → a ≡ false → (g ≡ false) × (c ≡ false)
bit_none true b c r true e h = absurd (cc)
bit_none true b c r false e h = absurd (omega arith)
bit_none false b true r true e h = absurd (cc)
bit_none false b true r false e h = absurd (omega arith)
bit_none false b false r a e h = (refl, refl)

parts_of : (a : Mask) (x : Res) → Parted a x → PartsOf a x
parts_of a (Went s g b c r) h = (by_none g a (λ p e. (bit_none (g p) (b p) (c p) (r p) (a p) (h p) e).0), by_none c a (λ p e. (bit_none (g p) (b p) (c p) (r p) (a p) (h p) e).1))
parts_of a (Trapped t s) h = tt
parts_of a (Cut s) h = tt

-- ---- one way of going on for another, where what is known goes on

module _ (P : State → Type 0) where
  abbrev ValBy : {A : Type 0} → (A → Type 0) → Val A → Type 0
  ValBy Q (Gives x s1) = Q x × P s1
  ValBy Q (Fails t s1) = Unit {0}
  ValBy Q (Stops s1) = Unit {0}

  with_cong : {A : Type 0} (Q : A → Type 0) (v : Val A) (h k : A → State → Res) → ValBy Q v → ((x : A) (s1 : State) → Q x → P s1 → h x s1 ≡ k x s1) → with_value v h ≡ with_value v k
  with_cong Q (Gives x s1) h k i e = e x s1 i.0 i.1
  with_cong Q (Fails t s1) h k i e = refl
  with_cong Q (Stops s1) h k i e = refl

  go_cong : (kept : Mask) (v : Res) (h k : State → Mask → Mask → Mask → Mask → Res) → KnownBy P v → PartsOf kept v
      → ((s1 : State) (g b c r : Mask) → P s1 → IsPart g kept → IsPart c kept → h s1 g b c r ≡ k s1 g b c r) → go_on v h ≡ go_on v k
  go_cong kept (Went s1 g b c r) h k i j e = e s1 g b c r i j.0 j.1
  go_cong kept (Trapped t s1) h k i j e = refl
  go_cong kept (Cut s1) h k i j e = refl

  go_known : (v : Res) (h k : State → Mask → Mask → Mask → Mask → Res) → KnownBy P v → ((s1 : State) (g b c r : Mask) → P s1 → h s1 g b c r ≡ k s1 g b c r) → go_on v h ≡ go_on v k
  go_known (Went s1 g b c r) h k i e = e s1 g b c r i
  go_known (Trapped t s1) h k i e = refl
  go_known (Cut s1) h k i e = refl

if_cong : {A : Type 0} (b : Bool) (m k n o : State → A) (s : State) → (b ≡ true → m s ≡ k s) → (b ≡ false → n s ≡ o s) → if_so b m n s ≡ if_so b k o s
if_cong true m k n o s h i = h refl
if_cong false m k n o s h i = i refl

unless_cong : (gang : ℕ) (b : Mask) (s : State) (f g : Mask → State → Res) → (any gang b ≡ true → f b s ≡ g b s) → unless_empty gang b s f ≡ unless_empty gang b s g
unless_cong gang b s f g h = if_cong (any gang b) (f b) (g b) (went_all b) (went_all b) s h (λ e. refl)

-- each is a member, and an instance of the gang
abbrev ListedIn : ℕ → Mask → List ℕ → Type 0
ListedIn gang a [] = Unit {0}
ListedIn gang a (q ∷ qs) = (a q ≡ true) × (q < gang) × ListedIn gang a qs

module _ (gang : ℕ) (a : Mask) (K : State → Type 0) (ticks : (s : State) → K s → K (tick s)) (f g : Mask → State → Res)
    (same : (b : Mask) (s : State) → IsPart b a → any gang b ≡ true → K s → f b s ≡ g b s)
    (keeps : (b : Mask) (s : State) → K s → KnownBy K (f b s)) (parts : (b : Mask) (s : State) → PartsOf b (f b s)) where
  -- ---- branches

  first_cong : (h : Mask → State → Res) (m : Payload) (s : State) → any gang a ≡ true → ((p : ℕ) → a p ≡ false → HasNone p m) → K s → branches gang a f h m s ≡ branches gang a g h m s
  first_cong h (One c) s some off k = if_cong (is_true c) (f a) (g a) (h a) (h a) s (λ e. same a s (part_self a) some k) (λ e. refl)
  first_cong h (Each c) s some off k =
      ap (λ v. go_on v (λ s1 g1 b c1 r. go_on (unless_empty gang (without a (where_true is_true c)) s1 h) (λ s2 g2 b2 c2 r2. Went s2 (union g1 g2) (union b b2) (union c1 c2) (union r r2))))
      (unless_cong gang (where_true is_true c) s f g (λ e. same (where_true is_true c) s (kept_part is_true a (Each c) off) e k))

  second_cong : (h : Mask → State → Res) (m : Payload) (s : State) → any gang a ≡ true → ((b : Mask) (s1 : State) → K s1 → KnownBy K (h b s1)) → K s → branches gang a h f m s ≡ branches gang a h g m s
  second_cong h (One c) s some known k = if_cong (is_true c) (h a) (h a) (f a) (g a) s (λ e. refl) (λ e. same a s (part_self a) some k)
  second_cong h (Each c) s some known k =
      let t = where_true is_true c in
      go_known K (unless_empty gang t s h) _ _ (by (any gang t))
      (λ s1 g1 b c1 r k1. ap (λ v. go_on v (λ s2 g2 b2 c2 r2. Went s2 (union g1 g2) (union b b2) (union c1 c2) (union r r2)))
      (unless_cong gang (without a t) s1 f g (λ e. same (without a t) s1 (without_part a t) e k1)))
    where
      by : (b : Bool) → KnownBy K (if_so b (h (where_true is_true c)) (went_all (where_true is_true c)) s)
      by true = known (where_true is_true c) s k
      by false = k

  -- ---- loops

  module _ (test : Mask → State → Val Payload) (step : Mask → State → Val Done) (all : Mask)
      (tests : (b : Mask) (s : State) → K s → ValBy K (λ m. (p : ℕ) → b p ≡ false → HasNone p m) (test b s)) (steps : (b : Mask) (s : State) → K s → ValBy K (λ x. Unit {0}) (step b s)) where
    abbrev TurnsAlike : (m n : Mask → Mask → State → Res) → Type 0
    TurnsAlike m n = (kept r : Mask) (s : State) → IsPart kept a → any gang kept ≡ true → K s → m kept r s ≡ n kept r s

    tested_cong : (m n : Mask → Mask → State → Res) → TurnsAlike m n → (live r : Mask) (s : State) → IsPart live a → K s → tested gang test f step all m live r s ≡ tested gang test g step all n live r s
    tested_cong m n e live r s i k =
        with_cong K (λ x. (p : ℕ) → live p ≡ false → HasNone p x) (test live s) _ _ (tests live s k)
        (λ x s1 off k1. if_cong (any gang (kept_by is_true live x)) (m (kept_by is_true live x) r) (n (kept_by is_true live x) r) _ _ s1
        (λ h. e (kept_by is_true live x) r s1 (part_on a live (kept_by is_true live x) i (kept_part is_true live x off)) h k1) (λ h. refl))

    turns_cong : (n : ℕ) → TurnsAlike (turns gang test f step all n) (turns gang test g step all n)
    turns_cong zero kept r s i h k = refl
    turns_cong (suc n) kept r s i h k =
        go_cong K kept (f kept (tick s)) _ _ (keeps kept (tick s) (ticks s k)) (parts kept (tick s))
        (λ s1 g1 b c r1 k1 j l. if_cong (any gang (union g1 c)) _ _ _ _ s1
        (λ e. with_cong K (λ x. Unit {0}) (step (union g1 c) s1) _ _ (steps (union g1 c) s1 k1)
        (λ x s2 u k2. tested_cong _ _ (turns_cong n) (union g1 c) (union r r1) s2 (part_on a kept (union g1 c) i (union_part kept g1 c j l)) k2)) (λ e. refl))
        ∙ ap (λ v. go_on v (λ s1 g1 b c r1. if_so (any gang (union g1 c)) (stepped gang test g step all (turns gang test g step all n) (union g1 c) (union r r1)) (loop_end gang test g step all (union r r1)) s1))
        (same kept (tick s) i h (ticks s k))

  -- ---- one by one

  active_cong : (all : Mask) (index : ℕ) (qs : List ℕ) → ListedIn gang a qs → ((q : ℕ) (s : State) → K s → K (written Uniform index (lone (Some q)) (One q) (tick s)))
      → ((q : ℕ) → q < gang → any gang (lone (Some q)) ≡ true) → (s : State) → K s → rounds f all (map (round_of_one index) qs) s ≡ rounds g all (map (round_of_one index) qs) s
  active_cong all index [] l b o s k = refl
  active_cong all index (q ∷ qs) l b o s k =
      let begun = written Uniform index (lone (Some q)) (One q) (tick s) in
      go_known K (f (lone (Some q)) begun) _ _ (keeps (lone (Some q)) begun (b q s k)) (λ s1 g1 c d r k1. active_cong all index qs l.2 b o s1 k1)
      ∙ ap (λ v. go_on v (λ s1 g1 c d r. rounds g all (map (round_of_one index) qs) s1))
      (same (lone (Some q)) begun (λ p e. subst (λ z. a z ≡ true) (sym (eqb-true p q e)) l.0) (o q l.1) (b q s k))

-- the members of a set are listed
listed_join : (gang : ℕ) (a : Mask) (xs ys : List ℕ) → ListedIn gang a xs → ListedIn gang a ys → ListedIn gang a (xs ++ ys)
listed_join gang a [] ys h k = k
listed_join gang a (x ∷ xs) ys h k = (h.0, h.1, listed_join gang a xs ys h.2 k)

members_listed : (gang : ℕ) (a : Mask) (n : ℕ) → n ≤ gang → ListedIn gang a (members n a)
members_listed gang a zero h = tt
members_listed gang a (suc n) h = listed_join gang a (members n a) (if_listed (a n) n) (members_listed gang a n (omega arith)) (by (a n) refl)
  where
    by : (b : Bool) → a n ≡ b → ListedIn gang a (if_listed b n)
    by true e = (e, omega arith, tt)
    by false e = tt

-- ---- statements

module _ (w : Where) (vars : List Variable) (known : ℕ → Known) (scalars : ℕ → ℕ) (a : Mask) where
  abbrev K : State → Type 0
  K s = AreAsKnown vars known scalars a s

  keeps_by : {A : Type 0} (s : State) (v : Val A) → ((x : ℕ) → is_known (known x) ≡ true → Keeps x (Any x) s v) → K s → ValBy K (λ y. Unit {0}) v
  keeps_by s (Gives y s1) h k = (tt, λ x. still_is (known x) _ (scalars x) (s.varying x) (s1.varying x) a (λ e. (h x e).1.1) (k x))
  keeps_by s (Fails t s1) h k = tt
  keeps_by s (Stops s1) h k = tt

  value_by : (b : Mask) (s : State) (v : Val Payload) → ((p : ℕ) → b p ≡ false → LeavesBy p s v) → ((x : ℕ) → is_known (known x) ≡ true → Keeps x (Any x) s v) → K s
      → ValBy K (λ m. (p : ℕ) → b p ≡ false → HasNone p m) v
  value_by b s (Gives m s1) h e k = (λ p i. (h p i).0, λ x. still_is (known x) _ (scalars x) (s.varying x) (s1.varying x) a (λ i. (e x i).1.1) (k x))
  value_by b s (Fails t s1) h e k = tt
  value_by b s (Stops s1) h e k = tt

  test_by : (e : TExpr) → AreUnset known (loads e) → (b : Mask) (s : State) → K s → ValBy K (λ m. (p : ℕ) → b p ≡ false → HasNone p m) (value_of w e b s)
  test_by e unset b s k =
      value_by b s (value_of w e b s) (λ p h. others_stay.expression w.program w.most w.left w.frame e b s p h) (λ x h. value_keeps x w.program w.most w.left w.frame e b s (unset x h)) k

  abbrev calls : Calls
  calls = calls_at w.program w.most w.left

  option_by : (e : Option TExpr) → AreUnset known (if_there loads e) → (b : Mask) (s : State) → K s → ValBy K (λ m. (p : ℕ) → b p ≡ false → HasNone p m) (test_part (gang_of w) w.frame calls e b s)
  option_by None unset b s k = (λ p h. tt, k)
  option_by (Some e) unset b s k = test_by e unset b s k

  step_by : (x : Option TSimple) → AreUnset known (if_there simple_sets x) → (b : Mask) (s : State) → K s → ValBy K (λ y. Unit {0}) (step_part (gang_of w) w.frame calls x b s)
  step_by x unset b s k = keeps_by s (step_part (gang_of w) w.frame calls x b s) (λ v h. step_keeps v w.program w.most w.left w.frame x b s (unset v h)) k

  first_by : (x : Option TFirst) → AreUnset known (if_there first_sets x) → (b : Mask) (s : State) → K s → ValBy K (λ y. Unit {0}) (first_part (gang_of w) w.frame calls x b s)
  first_by x unset b s k = keeps_by s (first_part (gang_of w) w.frame calls x b s) (λ v h. first_keeps v w.program w.most w.left w.frame x b s (unset v h)) k

  run_keeps : (y : TStmt) → AreUnset known (assigns y) → (b : Mask) (s : State) → K s → KnownBy K (run_of w y b s)
  run_keeps y unset b s k = stays_known.statement w vars known scalars y a b s unset k

  run_parts : (y : TStmt) (b : Mask) (s : State) → PartsOf b (run_of w y b s)
  run_parts y b s = parts_of b (run_of w y b s) (four_sets w.program w.most w.left w.frame y b s)

  alike_at : (y z : TStmt) → AreThere w a → DoAlike w vars known a (run_of w y) (run_of w z) → (b : Mask) (s : State) → IsPart b a → any (gang_of w) b ≡ true → K s → run_of w y b s ≡ run_of w z b s
  alike_at y z there alike b s h some k = alike b s h (some, λ p e. there.1 p (h p e)) (scalars, parts_are vars known scalars a b s h k)

  -- what is asked of a body, and what is said of it
  abbrev Body : TStmt → TStmt → Type 0
  Body y z = AreUnset known (assigns y) × DoAlike w vars known a (run_of w y) (run_of w z)

  branch_is : (e : TExpr) (y z x : TStmt) → AreThere w a → AreUnset known (loads e) → Body y z → (h : Mask → State → Res) → (s : State) → K s
      → with_value (value_of w e a s) (λ m s1. branches (gang_of w) a (run_of w y) h m s1) ≡ with_value (value_of w e a s) (λ m s1. branches (gang_of w) a (run_of w z) h m s1)
  branch_is e y z x there unset body h s k =
      with_cong K (λ m. (p : ℕ) → a p ≡ false → HasNone p m) (value_of w e a s) _ _ (test_by e unset a s k)
      (λ m s1 off k1. first_cong (gang_of w) a K (λ s2 i. i) (run_of w y) (run_of w z) (alike_at y z there body.1) (run_keeps y body.0) (run_parts y) h m s1 there.0 off k1)

  other_is : (e : TExpr) (y z x : TStmt) → AreThere w a → AreUnset known (loads e) → AreUnset known (assigns x) → Body y z → (s : State) → K s
      → with_value (value_of w e a s) (λ m s1. branches (gang_of w) a (run_of w x) (run_of w y) m s1) ≡ with_value (value_of w e a s) (λ m s1. branches (gang_of w) a (run_of w x) (run_of w z) m s1)
  other_is e y z x there unset kept body s k =
      with_cong K (λ m. (p : ℕ) → a p ≡ false → HasNone p m) (value_of w e a s) _ _ (test_by e unset a s k)
      (λ m s1 off k1. second_cong (gang_of w) a K (λ s2 i. i) (run_of w y) (run_of w z) (alike_at y z there body.1) (run_keeps y body.0) (run_parts y) (run_of w x) m s1 there.0 (run_keeps x kept) k1)

  module _ (y z : TStmt) (there : AreThere w a) (body : Body y z) (test : Mask → State → Val Payload) (step : Mask → State → Val Done)
      (tests : (b : Mask) (s : State) → K s → ValBy K (λ m. (p : ℕ) → b p ≡ false → HasNone p m) (test b s)) (steps : (b : Mask) (s : State) → K s → ValBy K (λ x. Unit {0}) (step b s)) where
    turns_are : (n : ℕ) (s : State) → K s → turns (gang_of w) test (run_of w y) step a n a nobody s ≡ turns (gang_of w) test (run_of w z) step a n a nobody s
    turns_are n s k =
        turns_cong (gang_of w) a K (λ s2 i. i) (run_of w y) (run_of w z) (alike_at y z there body.1) (run_keeps y body.0) (run_parts y) test step a tests steps n a nobody s (part_self a) there.0 k

    tests_are : (n : ℕ) (s : State) → K s → tested (gang_of w) test (run_of w y) step a (turns (gang_of w) test (run_of w y) step a n) a nobody s ≡ tested (gang_of w) test (run_of w z) step a (turns (gang_of w) test (run_of w z) step a n) a nobody s
    tests_are n s k =
        tested_cong (gang_of w) a K (λ s2 i. i) (run_of w y) (run_of w z) (alike_at y z there body.1) (run_keeps y body.0) (run_parts y) test step a tests steps _ _
        (turns_cong (gang_of w) a K (λ s2 i. i) (run_of w y) (run_of w z) (alike_at y z there body.1) (run_keeps y body.0) (run_parts y) test step a tests steps n) a nobody s (part_self a) k

  one_is_there : (q : ℕ) → q < gang_of w → any (gang_of w) (lone (Some q)) ≡ true
  one_is_there q lt = any_at (gang_of w) (lone (Some q)) q lt (eq-eqb q q refl)

  active_are : (y z : TStmt) → AreThere w a → Body y z → (i : ℕ) (s : State) → K s
      → rounds (run_of w y) a (map (round_of_one i) (members (gang_of w) a)) s ≡ rounds (run_of w z) a (map (round_of_one i) (members (gang_of w) a)) s
  active_are y z there body i s k =
      active_cong (gang_of w) a K (λ s2 j. j) (run_of w y) (run_of w z) (alike_at y z there body.1) (run_keeps y body.0) (run_parts y) a i (members (gang_of w) a)
      (members_listed (gang_of w) a (gang_of w) (omega arith)) (λ q s2 j. j) one_is_there s k

left_unset : (known : ℕ → Known) (b c : ℕ → Bool) → AreUnset known (either b c) → AreUnset known b
left_unset known b c h v e = either_left (b v) (c v) (h v e)

right_unset : (known : ℕ → Known) (b c : ℕ → Bool) → AreUnset known (either b c) → AreUnset known c
right_unset known b c h v e = right_of (b v) (c v) (h v e)

pub known_in_bodies : KnownInBodies
known_in_bodies w vars known a s =
    record {
      branch = λ f k e y z sp there unset are alike.
          branch_is w vars known are.0 a e y z y there (left_unset known (loads e) (assigns y) unset) (right_unset known (loads e) (assigns y) unset, alike) went_all (tick s) are.1;
      first = λ f k e y z x sp there unset are alike.
          let rest = right_unset known (loads e) (either (assigns y) (assigns x)) unset in
          branch_is w vars known are.0 a e y z x there (left_unset known (loads e) (either (assigns y) (assigns x)) unset) (left_unset known (assigns y) (assigns x) rest, alike) (run_of w x) (tick s) are.1;
      second = λ f k e y z x sp there unset are alike.
          let rest = right_unset known (loads e) (either (assigns x) (assigns y)) unset in
          other_is w vars known are.0 a e y z x there (left_unset known (loads e) (either (assigns x) (assigns y)) unset) (left_unset known (assigns x) (assigns y) rest) (right_unset known (assigns x) (assigns y) rest, alike) (tick s) are.1;
      turn = λ f k e y z sp there unset are alike.
          tests_are w vars known are.0 a y z there (right_unset known (loads e) (assigns y) unset, alike) (value_of w e) no_step (test_by w vars known are.0 a e (left_unset known (loads e) (assigns y) unset)) (λ b s1 i. (tt, i)) w.most (tick s) are.1;
      first_turn = λ f k e y z sp there unset are alike.
          turns_are w vars known are.0 a y z there (right_unset known (loads e) (assigns y) unset, alike) (value_of w e) no_step (test_by w vars known are.0 a e (left_unset known (loads e) (assigns y) unset)) (λ b s1 i. (tt, i)) w.most (tick s) are.1;
      counted = λ f k i e step n y z sp there unset are alike.
          let rest = right_unset known (if_there first_sets i) (either (if_there loads e) (either (if_there simple_sets step) (assigns y))) unset in
          let last = right_unset known (if_there loads e) (either (if_there simple_sets step) (assigns y)) rest in
          let K : State → Type 0 = AreAsKnown vars known are.0 a in
          with_cong K (λ x. Unit {0}) (first_part (gang_of w) w.frame (calls_at w.program w.most w.left) i a (tick s)) _ _
          (first_by w vars known are.0 a i (left_unset known (if_there first_sets i) (either (if_there loads e) (either (if_there simple_sets step) (assigns y))) unset) a (tick s) are.1)
          (λ u s1 t k1. tests_are w vars known are.0 a y z there (right_unset known (if_there simple_sets step) (assigns y) last, alike) (test_part (gang_of w) w.frame (calls_at w.program w.most w.left) e) (step_part (gang_of w) w.frame (calls_at w.program w.most w.left) step)
          (option_by w vars known are.0 a e (left_unset known (if_there loads e) (either (if_there simple_sets step) (assigns y)) rest)) (step_by w vars known are.0 a step (left_unset known (if_there simple_sets step) (assigns y) last)) w.most s1 k1);
      active = λ at k i y z sp there unset are alike.
          active_are w vars known are.0 a y z there (right_unset known (only i) (assigns y) unset, alike) i (tick s) are.1;
      rest = λ answer x ys zs fine there unset are alike.
          let after : ℕ → Known = behind (all_assign ys) known x in
          go_cong (AreKnown vars after a) a (run_of w x a s) _ _ (behind_is_known.known w vars answer known x ys a s fine there unset are) (run_parts w vars known are.0 a x a s)
          (λ s1 g b c r k1 j l. ap (λ v. go_on v (λ s2 g2 b2 c2 r2. Went s2 g2 (union b b2) (union c c2) (union r r2)))
          (unless_cong (gang_of w) g s1 (run_list w ys) (run_list w zs) (λ some. alike g s1 j (some, λ p e. there.1 p (j p e)) (k1.0, parts_are vars after k1.0 a g s1 j k1.1))));
    }
