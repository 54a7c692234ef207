-- Loops, rounds and statements beside each other: the same comes of both.
use Rattle.std.proofs.Common.{◌≡◌, ℕ, zero, suc, ◌<◌, ◌≤◌, ◌⊎◌, inl, inr, Bool, true, false, refl, ap, ◌∙◌, arith}
use Rattle.std.specs.Prelude.{◌++◌, List, [], ◌∷◌, map, Some, None, not, slice_get, ℤ}
use Rattle.isp_base.specs.Cross.{or_zero}
use Rattle.isp_base.specs.Maps.{where_true}
use Rattle.isp_base.specs.Maps.{on as bits_on}
use Rattle.isp_base.specs.declared.types.Elem.TheVariants.{I32}
use Rattle.isp_base.specs.Sets.{Mask, nobody, everyone, union, without, any, lone}
use Rattle.isp_base.specs.Values.{number, wrap, compare_to}
use Rattle.isp_base.specs.declared.operators.Compare.TheVariants.{Equal}
use Rattle.isp_base.specs.declared.trap.TrapKind.TheVariants.{Assert}
use Rattle.isp_base.specs.declared.types.Elem.{Elem}
use Rattle.isp_base.specs.declared.types.Rate.{Rate}
use Rattle.isp_base.specs.declared.types.Rate.TheVariants.{Uniform, Varying}
use Rattle.isp_base.specs.Prints.{print_text}
use Rattle.isp_tree.specs.declared.stmt.Jump.TheVariants.{Break, Continue}
use Rattle.isp_typed.specs.Typed.{elem_of, TStmt, t_block, t_declare, t_simple, t_if, t_if_else, t_while, t_do, t_for, t_foreach, t_foreach_active, t_foreach_unique, t_unmasked, t_jump, t_return, t_print, t_assert, TBlock}
use Rattle.isp_typed.specs.Typed.{t_braces, TStmts, t_no_stmts, t_stmt_then}
use Rattle.isp_meaning.specs.Distinct.{InOrder}
use Rattle.isp_meaning.specs.Expressions.{Passed, Calls}
use Rattle.isp_meaning.specs.Laws.{Masked, MaskedBlock, MaskedAll}
use Rattle.isp_meaning.specs.Loops.{loop_end, tested, turns}
use Rattle.isp_meaning.specs.Outcomes.{Val, Res, Done, unless_empty}
use Rattle.isp_meaning.specs.Payloads.{Payload, One, Each, spread, is_true, is_false, kept_by, offender, converted}
use Rattle.isp_meaning.specs.Places.{written}
use Rattle.isp_meaning.specs.Printing.{shown_all}
use Rattle.isp_meaning.specs.Rounds.{Range, Run, Round, rounds, round_of_one, members, if_listed, holders, firsts, round_of_value, round_of_run, set_indices, runs_of, counted}
use Rattle.isp_meaning.specs.Simple.{no_step}
use Rattle.isp_meaning.specs.State.{State, Frame, tick}
use Rattle.isp_meaning.specs.Statements.{all_go, branches, run, block, run_all}
use Rattle.isp_meaning.proofs.Distinct.{each_value_once}
use Rattle.isp_meaning.proofs.Members.{any_at, lowest_below, lowest_in}
use Rattle.isp_meaning_laws.specs.Acts.{Act, Printed, OfStmt, OfBlock, EachStmt}
use Rattle.isp_meaning_laws.proofs.LoneSets.{eq_true, any_lone}
use Rattle.isp_meaning_laws.proofs.Dealt.{dealt_once}
use Rattle.isp_meaning_laws.proofs.MemberSets.{everyone_some, some_gang, and_inside, union_inside}
use Rattle.isp_meaning_laws.proofs.Twins.{Free, fst_of, snd_of, left_of, middle_of, last_of, first_of, second_of, third_of, fourth_of, Part, Out, PartBy, kept_part, spread_part, Twin, TwinRes, gives, with_twin, all_went, on, next}
use Rattle.isp_meaning_laws.proofs.Twins.{if_twin, checks}
use Rattle.isp_meaning_laws.proofs.TwinValues.{Ground, Right, right, value_out, listed_twin, simple_twin, items_twin, first_part_twin, step_part_twin, test_part_twin, ranges_twin}

module _ (gang : ℕ) (m : Mask) (L : State → State → Type 0) where
  -- what runs over a part of the set that is not empty
  abbrev pub Runs : (Mask → State → Res) → (Mask → State → Res) → Type 0
  Runs f g = (a : Mask) (s t : State) → Part m a → any gang a ≡ true → L s t → TwinRes m L (f a s) (g a t)

  abbrev Values : {A : Type 0} → (A → Type 0) → (Mask → State → Val A) → (Mask → State → Val A) → Type 0
  Values Q f g = (a : Mask) (s t : State) → Part m a → any gang a ≡ true → L s t → Twin m L Q (f a s) (g a t)

  unless_twin : (a : Mask) (s t : State) (f g : Mask → State → Res) → Part m a → L s t → Runs f g → TwinRes m L (unless_empty gang a s f) (unless_empty gang a t g)
  unless_twin a s t f g sub l h = if_twin m L (any gang a) _ _ _ _ s t (λ e. h a s t sub e l) (λ _. all_went m L a s t l)

  all_go_twin : (a : Mask) (v w : Val Done) → Twin m L Free v w → TwinRes m L (all_go a v) (all_go a w)
  all_go_twin a v w h = with_twin m L Free v w _ _ h (λ _ s t _ l. all_went m L a s t l)

  branches_twin : (a : Mask) (f g f1 g1 : Mask → State → Res) → Part m a → any gang a ≡ true → Runs f f1 → Runs g g1 → (y : Payload) (s t : State) → Out m y → L s t → TwinRes m L (branches gang a f g y s) (branches gang a f1 g1 y t)
  branches_twin a f g f1 g1 sub e h k (One c) s t i l = if_twin m L (is_true c) _ _ _ _ s t (λ _. h a s t sub e l) (λ _. k a s t sub e l)
  branches_twin a f g f1 g1 sub e h k (Each c) s t i l =
      next m L _ _ _ _ (unless_twin (where_true is_true c) s t f f1 (kept_part m is_true a (Each c) sub i) l h)
      (λ s1 t1 w1 b1 c1 r1 l1. next m L _ _ _ _ (unless_twin (without a (where_true is_true c)) s1 t1 g g1 (λ p d. sub p (and_inside a (λ q. not (where_true is_true c q)) p d)) l1 k) (λ s2 t2 w2 b2 c2 r2 l2. record { by = (refl, l2) }))

  module _ (test test1 : Mask → State → Val Payload) (body body1 : Mask → State → Res) (step step1 : Mask → State → Val Done) (all : Mask) (ticks : (s t : State) → L s t → L (tick s) (tick t))
      (tests : Values (Out m) test test1) (bodies : Runs body body1) (parts : (a : Mask) (s : State) → Part m a → PartBy m (body a s)) (steps : Values Free step step1) where
    abbrev Turn : (Mask → Mask → State → Res) → (Mask → Mask → State → Res) → Type 0
    Turn turn turn1 = (k r : Mask) (s t : State) → Part m k → any gang k ≡ true → L s t → TwinRes m L (turn k r s) (turn1 k r t)

    ends : (r : Mask) (s t : State) → L s t → TwinRes m L (loop_end gang test body step all r s) (loop_end gang test1 body1 step1 all r t)
    ends r s t l = record { by = (refl, l) }

    pub tested_twin : (turn turn1 : Mask → Mask → State → Res) → Turn turn turn1 → (live r : Mask) (s t : State) → Part m live → any gang live ≡ true → L s t
        → TwinRes m L (tested gang test body step all turn live r s) (tested gang test1 body1 step1 all turn1 live r t)
    tested_twin turn turn1 h live r s t sub e l =
        with_twin m L (Out m) (test live s) (test1 live t) _ _ (tests live s t sub e l) (λ y s1 t1 k l1. if_twin m L (any gang (kept_by is_true live y)) _ _ _ _ s1 t1
        (λ i. h (kept_by is_true live y) r s1 t1 (kept_part m is_true live y sub k) i l1) (λ _. ends r s1 t1 l1))

    pub turns_twin : (n : ℕ) → Turn (turns gang test body step all n) (turns gang test1 body1 step1 all n)
    turns_twin zero k r s t sub e l = record { by = l }
    turns_twin (suc n) k r s t sub e l =
        on m L (body k (tick s)) (body1 k (tick t)) _ _ (bodies k (tick s) (tick t) sub e (ticks s t l)) (parts k (tick s) sub) (λ s1 t1 g b c r1 i j l1.
        let live : Part m (union g c) = union_inside m g c i j in if_twin m L (any gang (union g c)) _ _ _ _ s1 t1
        (λ o. with_twin m L Free (step (union g c) s1) (step1 (union g c) t1) _ _ (steps (union g c) s1 t1 live o l1) (λ _ s2 t2 _ l2. tested_twin _ _ (turns_twin n) (union g c) (union r r1) s2 t2 live o l2))
        (λ _. ends (union r r1) s1 t1 l1))

  -- ---- rounds

  record Begins (x : Round) : Type 0 where
    pub part : Part m x.members
    pub some : any gang x.members ≡ true
    pub begins : (s t : State) → L s t → L (x.begins s) (x.begins t)

  abbrev AllBegin : List Round → Type 0
  AllBegin [] = Unit {0}
  AllBegin (x ∷ xs) = Begins x × AllBegin xs

  rounds_twin : (body body1 : Mask → State → Res) (all : Mask) → Runs body body1 → (xs : List Round) → AllBegin xs → (s t : State) → L s t → TwinRes m L (rounds body all xs s) (rounds body1 all xs t)
  rounds_twin body body1 all h [] i s t l = all_went m L all s t l
  rounds_twin body body1 all h (x ∷ xs) i s t l =
      next m L _ _ _ _ (h x.members (x.begins s) (x.begins t) i.0.part i.0.some (i.0.begins s t l)) (λ s1 t1 g b c r l1. rounds_twin body body1 all h xs i.1 s1 t1 l1)

  -- the members of a part of the set
  abbrev AllIn : List ℕ → Type 0
  AllIn [] = Unit {0}
  AllIn (p ∷ ps) = ((p < gang) × (m p ≡ true)) × AllIn ps

  in_both : (xs ys : List ℕ) → AllIn xs → AllIn ys → AllIn (xs ++ ys)
  in_both [] ys h k = k
  in_both (x ∷ xs) ys h k = (h.0, in_both xs ys h.1 k)

  members_in : (n : ℕ) (a : Mask) → n ≤ gang → Part m a → AllIn (members n a)
  members_in zero a le sub = tt
  members_in (suc n) a le sub = in_both (members n a) (if_listed (a n) n) (members_in n a (omega (arith, le)) sub) (go (a n) refl) where
    go : (t : Bool) → a n ≡ t → AllIn (if_listed t n)
    go true e = let lt : n < gang = omega (arith, le) in ((lt, sub n e), tt)
    go false e = tt

  module _ (ticks : (s t : State) → L s t → L (tick s) (tick t)) (writes : (r : Rate) (v : ℕ) (a : Mask) (x : Payload) (s t : State) → Part m a → L s t → L (written r v a x s) (written r v a x t)) where
    active_begin : (index : ℕ) (ps : List ℕ) → AllIn ps → AllBegin (map (round_of_one index) ps)
    active_begin index [] i = tt
    active_begin index (p ∷ ps) i = (
      record { part = λ q e. ap m (eq_true q p e) ∙ i.0.1; some = any_lone p gang i.0.0; begins = λ s t l. writes Uniform index (lone (Some p)) (One p) (tick s) (tick t) (λ q e. ap m (eq_true q p e) ∙ i.0.1) (ticks s t l) },
      active_begin index ps i.1,
    )

    unique_begin : (a : Mask) (u k : Elem) (x : Payload) (index : ℕ) → Part m a → Out m x → (least : ℕ) (qs : List ℕ) → InOrder gang least (map (round_of_value u k (spread a x) index) qs) → AllBegin (map (round_of_value u k (spread a x) index) qs)
    unique_begin a u k x index sub out least [] i = tt
    unique_begin a u k x index sub out least (q ∷ qs) i =
        let those = holders u (spread a x) q in let part : Part m those = spread_part m (λ b. compare_to Equal (number u b) (number u (or_zero (spread a x q)))) a x sub out in (
          record {
            part = part;
            some = any_at gang those i.0 (lowest_below gang those i.0 i.1) (lowest_in gang those i.0 i.1);
            begins = λ s t l. writes Uniform index those (One (converted u k (or_zero (spread a x q)))) (tick s) (tick t) part (ticks s t l);
          },
          unique_begin a u k x index sub out (suc i.0) qs i.3,
        )

    indices_twin : (a : Mask) → Part m a → (xs : List (ℕ × (ℕ → ℤ))) (s t : State) → L s t → L (set_indices a xs s) (set_indices a xs t)
    indices_twin a sub [] s t l = l
    indices_twin a sub (x ∷ xs) s t l = indices_twin a sub xs _ _ (writes Varying x.0 a (Each (bits_on a (λ p. wrap I32 (x.1 p)))) s t sub l)

    runs_begin : ((p : ℕ) → m p ≡ true) → (xs : List Run) → ((k : ℕ) (x : Run) → slice_get xs k ≡ Some x → any gang x.members ≡ true) → AllBegin (map round_of_run xs)
    runs_begin whole [] i = tt
    runs_begin whole (x ∷ xs) i =
        (record { part = λ p _. whole p; some = i 0 x refl; begins = λ s t l. indices_twin x.members (λ p _. whole p) x.indices s t l }, runs_begin whole xs (λ k y e. i (suc k) y e))

    foreach_begin : ((p : ℕ) → m p ≡ true) → 0 < gang → (rs : List Range) → AllBegin (map round_of_run (runs_of gang rs))
    foreach_begin whole lt [] = tt
    foreach_begin whole lt (r ∷ rs) = runs_begin whole (runs_of gang (r ∷ rs)) (dealt_once gang (r ∷ rs) lt (omega arith)).some

module _ (gang : ℕ) (frame : Frame) (calls other : Calls) (m : Mask) (P : Act → Type 0) (G : Passed → Type 0) (L : State → State → Type 0) (ground : Ground gang frame calls other m P G L) (most : ℕ)
    (parts : (x : TStmt) (a : Mask) (s : State) → Part m a → PartBy m (run gang frame calls most x a s)) where
  -- the set has all instances
  abbrev Everybody : Type 0
  Everybody = (p : ℕ) → m p ≡ true

  all_of : Everybody ⊎ ⊥ → Everybody
  all_of (inl w) = w
  all_of (inr h) = absurd h

  ticks : (s t : State) → L s t → L (tick s) (tick t)
  ticks s t l = ground.works 1 s t l

  mutual
    run_twin : (x : TStmt) → Everybody ⊎ Masked x → Right gang frame calls other m P G L ⊎ OfStmt P x → Runs gang m L (run gang frame calls most x) (run gang frame other most x)
    run_twin (t_block b) f c a s t h e l = block_twin b f c a s t h e l
    run_twin (t_declare xs sp) f c a s t h e l = all_go_twin gang m L a _ _ (items_twin gang frame calls other m P G L ground xs c a (tick s) (tick t) h e (ticks s t l))
    run_twin (t_simple x sp) f c a s t h e l = all_go_twin gang m L a _ _ (simple_twin gang frame calls other m P G L ground x c a s t h e l)
    run_twin (t_if o k x y sp) f c a s t h e l =
        with_twin m L (Out m) _ _ _ _ (value_out gang frame calls other m P G L ground x (fst_of c) a (tick s) (tick t) h e (ticks s t l))
        (λ v s1 t1 i l1. branches_twin gang m L a _ _ _ _ h e (run_twin y f (snd_of c)) (λ b s2 t2 _ _ l2. all_went m L b s2 t2 l2) v s1 t1 i l1)
    run_twin (t_if_else o k x y z sp) f c a s t h e l =
        with_twin m L (Out m) _ _ _ _ (value_out gang frame calls other m P G L ground x (left_of c) a (tick s) (tick t) h e (ticks s t l))
        (λ v s1 t1 i l1. branches_twin gang m L a _ _ _ _ h e (run_twin y (fst_of f) (middle_of c)) (run_twin z (snd_of f) (last_of c)) v s1 t1 i l1)
    run_twin (t_while o k x y sp) f c a s t h e l =
        let tests = value_out gang frame calls other m P G L ground x (fst_of c) in let bodies = run_twin y f (snd_of c) in
        tested_twin gang m L _ _ _ _ no_step no_step a ticks tests bodies (parts y) (λ _ s1 t1 _ _ l1. gives m L Free _ _ s1 t1 refl tt l1) _ _
        (turns_twin gang m L _ _ _ _ no_step no_step a ticks tests bodies (parts y) (λ _ s1 t1 _ _ l1. gives m L Free _ _ s1 t1 refl tt l1) most) a nobody (tick s) (tick t) h e (ticks s t l)
    run_twin (t_do o k y x sp) f c a s t h e l =
        turns_twin gang m L _ _ _ _ no_step no_step a ticks (value_out gang frame calls other m P G L ground x (fst_of c)) (run_twin y f (snd_of c)) (parts y)
        (λ _ s1 t1 _ _ l1. gives m L Free _ _ s1 t1 refl tt l1) most a nobody (tick s) (tick t) h e (ticks s t l)
    run_twin (t_for o k i x p j y sp) f c a s t h e l =
        let tests = test_part_twin gang frame calls other m P G L ground x (second_of c) in let steps = step_part_twin gang frame calls other m P G L ground p (third_of c) in
        let bodies = run_twin y f (fourth_of c) in
        with_twin m L Free _ _ _ _ (first_part_twin gang frame calls other m P G L ground i (first_of c) a (tick s) (tick t) h e (ticks s t l))
        (λ _ s1 t1 _ l1. tested_twin gang m L _ _ _ _ _ _ a ticks tests bodies (parts y) steps _ _ (turns_twin gang m L _ _ _ _ _ _ a ticks tests bodies (parts y) steps most) a nobody s1 t1 h e l1)
    run_twin (t_foreach w k rs y sp) f c a s t h e l =
        with_twin m L Free _ _ _ _ (ranges_twin gang frame calls other m P G L ground rs (fst_of c) a (tick s) (tick t) h e (ticks s t l))
        (λ xs s1 t1 _ l1. rounds_twin gang m L _ _ a (run_twin y (inl (all_of f)) (snd_of c)) _ (foreach_begin gang m L ticks ground.writes (all_of f) (some_gang gang a e) xs) _ _ (ground.works (counted gang 1 xs) s1 t1 l1))
    run_twin (t_foreach_active w k i y sp) f c a s t h e l =
        rounds_twin gang m L _ _ a (run_twin y f c) _ (active_begin gang m L ticks ground.writes i (members gang a) (members_in gang m L gang a (omega arith) h)) _ _ (ticks s t l)
    run_twin (t_foreach_unique w k i u x y sp) f c a s t h e l =
        with_twin m L (Out m) _ _ _ _ (value_out gang frame calls other m P G L ground x (fst_of c) a (tick s) (tick t) h e (ticks s t l))
        (λ v s1 t1 o l1. rounds_twin gang m L _ _ a (run_twin y f (snd_of c)) _ (unique_begin gang m L ticks ground.writes a (elem_of x) u v i h o 0 (members gang (firsts (elem_of x) (spread a v)))
        (each_value_once.in_order gang (elem_of x) u i (spread a v))) s1 t1 l1)
    run_twin (t_unmasked w b sp) f c a s t h e l =
        next m L _ _ _ _ (block_twin b (inl (all_of f)) c (everyone gang) (tick s) (tick t) (λ p _. all_of f p) (everyone_some gang a e) (ticks s t l)) (λ s1 t1 g b' c' r l1. all_went m L a s1 t1 l1)
    run_twin (t_jump Break w sp) f c a s t h e l = record { by = (refl, ticks s t l) }
    run_twin (t_jump Continue w sp) f c a s t h e l = record { by = (refl, ticks s t l) }
    run_twin (t_return w None sp) f c a s t h e l = record { by = (refl, ticks s t l) }
    run_twin (t_return w (Some x) sp) f c a s t h e l =
        with_twin m L (Out m) _ _ _ _ (value_out gang frame calls other m P G L ground x c a (tick s) (tick t) h e (ticks s t l)) (λ v s1 t1 _ l1. record { by = (refl, ground.answers a v s1 t1 h l1) })
    run_twin (t_print w text xs sp) f c a s t h e l =
        with_twin m L Free _ _ _ _ (listed_twin gang frame calls other m P G L ground xs (snd_of c) a (tick s) (tick t) h e (ticks s t l))
        (λ vs s1 t1 _ l1. record { by = (refl, ground.prints (right gang frame calls other m P G L Printed (fst_of c)) (print_text text (shown_all gang a xs vs)) s1 t1 l1) })
    run_twin (t_assert x w sp) f c a s t h e l =
        with_twin m L (Out m) _ _ _ _ (value_out gang frame calls other m P G L ground x c a (tick s) (tick t) h e (ticks s t l))
        (λ v s1 t1 i l1. all_go_twin gang m L a _ _ (checks m L Free (offender gang is_false a v) Assert w s1 t1 tt tt refl tt l1))

    block_twin : (b : TBlock) → Everybody ⊎ MaskedBlock b → Right gang frame calls other m P G L ⊎ OfBlock P b → Runs gang m L (block gang frame calls most b) (block gang frame other most b)
    block_twin (t_braces xs sp) f c a s t h e l = all_twin xs f c a (tick s) (tick t) h e (ticks s t l)

    all_twin : (xs : TStmts) → Everybody ⊎ MaskedAll xs → Right gang frame calls other m P G L ⊎ EachStmt P xs → Runs gang m L (run_all gang frame calls most xs) (run_all gang frame other most xs)
    all_twin t_no_stmts f c a s t h e l = all_went m L a s t l
    all_twin (t_stmt_then x xs) f c a s t h e l =
        on m L _ _ _ _ (run_twin x (fst_of f) (fst_of c) a s t h e l) (parts x a s h)
        (λ s1 t1 g b c' r i j l1. next m L _ _ _ _ (unless_twin gang m L g s1 t1 _ _ i l1 (all_twin xs (snd_of f) (snd_of c))) (λ s2 t2 g2 b2 c2 r2 l2. record { by = (refl, l2) }))

  pub run_same : (x : TStmt) → Everybody ⊎ Masked x → Right gang frame calls other m P G L ⊎ OfStmt P x → Runs gang m L (run gang frame calls most x) (run gang frame other most x)
  run_same = run_twin

  pub block_same : (b : TBlock) → Everybody ⊎ MaskedBlock b → Right gang frame calls other m P G L ⊎ OfBlock P b → Runs gang m L (block gang frame calls most b) (block gang frame other most b)
  block_same = block_twin
