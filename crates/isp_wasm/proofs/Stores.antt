-- The templates that store: an element, an element a lane, and elements in a row.
use Rattle.std.proofs.Common.{◌≡◌, ℕ, suc, ◌+◌, ◌%◌, ◌^◌, ◌<◌, ◌≤◌, ◌⊎◌, inl, inr, List, Option, Some, None, Bool, true, false, not, ◌&&◌, refl, sym, ap, ap₂, ◌∙◌, subst, arith, mod-eq_of_lt, eq-eqb}
use Rattle.std.specs.Prelude.{slice_get, nat_eq, nat_lt, if◌then◌else◌, pos, ◌+ℤ◌, unsigned_abs}
use Rattle.std.proofs.lemmas.Bool.{ltb-true, not-false, cases_eq, ne_eqb}
use Rattle.isp_base.specs.Access.{is_beyond, element, scatter, put_at}
use Rattle.isp_base.specs.Cross.{rank, run_outside, run_places, packed_outside, packed_places}
use Rattle.isp_base.specs.Maps.{Map, Lanes, on, map1, each1, put, where_true, holds}
use Rattle.isp_base.specs.Stores.{own_put}
use Rattle.isp_base.specs.Sets.{Mask, lowest}
use Rattle.isp_base.specs.Values.{number, width}
use Rattle.isp_base.specs.declared.trap.TrapKind.TheVariants as kind
use Rattle.isp_base.specs.declared.types.Elem.{Elem}
use Rattle.isp_base.specs.declared.types.Elem.TheVariants.{I32, I64}
use Rattle.isp_code.specs.Conf.{Conf, Go}
use Rattle.isp_code.specs.Lines.{act, moved, unless, outside, failing, size, stored, scattered, run_stored, packed_stored}
use Rattle.isp_code.specs.Registers.{is_per_lane}
use Rattle.isp_code.specs.declared.instr.Instr.{Instr}
use Rattle.isp_code.specs.declared.instr.Instr.TheVariants as instr
use Rattle.isp_code.specs.declared.register.Class.TheVariants as class
use Rattle.isp_code.specs.declared.register.Register.{Register}
use Rattle.isp_wasm_meaning.specs.Syntax as syntax
use Rattle.isp_wasm_meaning.specs.Syntax.{Expr, Code, Store, If, Skip, Const32, Local}
use Rattle.isp_wasm_meaning.specs.Meaning.{Report, State, Result, Fell, Branched, Returned, Trapped, OutOfFuel, run, value, behind, then_to, flag, set_local}
use Rattle.isp_wasm_meaning.specs.Ladder.{Meets}
use Rattle.isp_wasm.specs.Places as place
use Rattle.isp_wasm.specs.Places.{Setting, Counter, elem, bytes_of, gang}
use Rattle.isp_wasm.specs.Rows.{lane_at}
use Rattle.isp_wasm.specs.Lanes.{store_at}
use Rattle.isp_wasm.specs.Templates.{lane_checks, lane_stores, is_there, is_member, address_at, base_at, lane_address, fault, checked, own_index, run_index, packed_index, rank_expr, set_count, scalar_local, vector_local}
use Rattle.isp_wasm.specs.Standing.{all_of, Stands, Holds, Keeps, IsSettled, the_machine, scalar_register}
use Rattle.isp_wasm.specs.Thin.{IsArray, IsEither, IsVector, IsScalar}
use Rattle.isp_wasm.proofs.Frames.{put_same, put_other, holds_scalar, there, elsewhere}
use Rattle.isp_wasm.proofs.Steps.{falls_on}
use Rattle.isp_wasm.proofs.Parts.{Kept, Told}
use Rattle.isp_wasm.proofs.Vectors.{narrow, scalar_fits, vector_fits, vector_lane}
use Rattle.isp_wasm.proofs.MaskWords.{member_is}
use Rattle.isp_wasm.proofs.Indices.{element_is, beyond_is, first_is}
use Rattle.isp_wasm.proofs.LaneLoops.{fault_of, Sound, Refused, IsLaneCode, lanes_run}
use Rattle.isp_wasm.proofs.LaneEnds.{one_test, none_fails, lane_fails}
use Rattle.isp_wasm.proofs.Shared.{all_low, all_put, store_shared, store_own}
use Rattle.isp_wasm.proofs.Elements.{IsFound, found_shared, found_own, many, few, size_is, outside_at, base_found, store_is, new_memory, keeps_stored, keeps_same}
use Rattle.isp_wasm.proofs.Owned.{upto, with_own, copy, none_yet, all_have, kept_copy, old_copy, new_copy}
use Rattle.isp_wasm.proofs.Opening.{some_lanes}
use Rattle.isp_wasm.proofs.Loads.{there_cut, test_is}
use Rattle.isp_wasm.proofs.Gathers.{sound_index, rank_low, rank_is, checked_is, outside_here, faults}

is_off : (b : Bool) → not b ≡ true → b ≡ false
is_off true h = absurd cc
is_off false h = refl

never : (b : Bool) → (b && false) ≡ true → ⊥
never true h = cc
never false h = cc

then_fell : (r : Result) → then_to r Fell ≡ r
then_fell (Fell s) = refl
then_fell (Branched k s) = refl
then_fell (Returned v s) = refl
then_fell (Trapped t s) = refl
then_fell (OutOfFuel s) = refl

-- nothing follows
pub ends_so : (x : Result) (f : State → Result) → then_to x (λ u. then_to (f u) Fell) ≡ then_to x f
ends_so (Fell s) f = then_fell (f s)
ends_so (Branched k s) f = refl
ends_so (Returned v s) f = refl
ends_so (Trapped t s) f = refl
ends_so (OutOfFuel s) f = refl

module _ (w : Setting) (ready : IsSettled w) (fuel n k : ℕ) (call : ℕ → List ℕ → State → Result) (pc : ℕ) (c : Conf) (s : State) (st : Stands w pc c s) where
  abbrev pub Good : ℕ → Conf → Result → Type 0
  Good pc = Meets (the_machine w) (w.local Counter) n fuel (Stands w pc) (suc k)

  module _ (a m y : Register) (q : ℕ) (t : Elem) (el : IsFound w ready a t) (yv : IsVector w y t) (index : ℕ → Expr) (x : ℕ → ℕ)
      (index_is : (p : ℕ) → p < gang w → c.masks m.number p ≡ true → value s.locals (index p) ≡ x p) where
    abbrev pub set : Mask
    set = c.masks m.number

    abbrev pub length : ℕ
    length = many w ready a t el

    abbrev pub bad : Mask
    bad p = not (nat_lt (x p) (many w ready a t el))

    -- ---- all lanes are checked

    abbrev pub check : ℕ → Code
    check p = If (is_there w a (index p)) Skip (fault w 1 q (Const32 p))

    abbrev pub Same : ℕ → State → Type 0
    Same p u = u ≡ s

    checked_lane : (p : ℕ) → p < gang w → set p ≡ true → (b : Bool) → nat_lt (x p) (many w ready a t el) ≡ b
        → run fuel call (check p) s ≡ behind (if b then Fell s else Trapped (Some (fault_of w fuel call c.masks m bad 1 q check Same p)) s)
    checked_lane p low on b e =
        ap (λ v. behind (if nat_eq v 0 then Trapped (Some (fault_of w fuel call c.masks m bad 1 q check Same p)) s else Fell s))
        (test_is w ready fuel n k call pc c s st a s.locals (index p) (x p) (st.holds.counts a.number) (index_is p low on) ∙ ap flag e)
        ∙ there_cut b (Trapped (Some (fault_of w fuel call c.masks m bad 1 q check Same p)) s) (Fell s)

    check_code : IsLaneCode w fuel call c.masks m bad 1 q check Same
    check_code =
        record {
          member = λ p u f. ap (λ v. value v.locals (is_member w m p)) f ∙ member_is w c.scalars c.vectors c.masks s.locals st.holds m p;
          skips = λ p u low f off. f;
          works = λ p u low f on good. record { state = s; fell = ap (run fuel call (check p)) f ∙ checked_lane p low on true (not-false (nat_lt (x p) (many w ready a t el)) good); holds = refl };
          fails = λ p u low f on wrong. ap (run fuel call (check p)) f ∙ checked_lane p low on false (is_off (nat_lt (x p) (many w ready a t el)) wrong)
              ∙ ap (Trapped (Some (fault_of w fuel call c.masks m bad 1 q check Same p))) (sym f);
        }

    abbrev pub Checked : Type 0
    Checked =
        Kept (Sound w fuel call c.masks m bad 1 q check Same (gang w)) (run fuel call (lane_checks w a index m q) s) ⊎ Told (Refused w fuel call c.masks m bad 1 q check Same) (run fuel call (lane_checks w a index m q) s)

    pub checks_run : Checked
    checks_run = lanes_run w fuel call c.masks m bad 1 q check Same check_code s refl

    -- ---- then they are stored: what all stores have, after so many lanes

    pub record IsLeft (left : ℕ → ℕ → Lanes) : Type 0 where
      pub first : (b e : ℕ) → all_of w c b e ≡ left 0 b e
      pub off : (p : ℕ) → p < gang w → set p ≡ false → (b e : ℕ) → left p b e ≡ left (suc p) b e
      pub on : (p : ℕ) → p < gang w → set p ≡ true → x p < many w ready a t el
          → (b e : ℕ) → put (left p) (store_at w a.number p) (put (left p (store_at w a.number p)) (x p) (c.vectors y.number p)) b e ≡ left (suc p) b e

    module _ (left : ℕ → ℕ → Lanes) (is_left : IsLeft left) (sound : (p : ℕ) → p < gang w → (set p && bad p) ≡ false) where
      pub record Stored (p : ℕ) (u : State) : Type 0 where
        pub memory : ℕ → ℕ
        pub is : u ≡ record s { memory = memory }
        pub keeps : Keeps w (left p) memory s.size

      abbrev pub store_lane : ℕ → Code
      store_lane p = Store (bytes_of (elem w a)) (lane_address w a p (index p)) 0 (lane_at (elem w a) (vector_local w y) p)

      no_store : (p : ℕ) (u : State) → p < gang w → Stored p u → set p ≡ false → Stored (suc p) u
      no_store p u low f off = record { memory = f.memory; is = f.is; keeps = keeps_same w ready (left p) (left (suc p)) f.memory s.size (is_left.off p low off) f.keeps }

      one_store : (p : ℕ) (u : State) → p < gang w → Stored p u → set p ≡ true → Kept (Stored (suc p)) (run fuel call (store_lane p) u)
      one_store p u low f on =
          let v = c.vectors y.number p in
          let at = store_at w a.number p in
          let lt = sound_index (set p) (x p) (many w ready a t el) (sound p low) on in
          let lane : value s.locals (lane_at (elem w a) (vector_local w y) p) ≡ v =
          subst (λ e. value s.locals (lane_at e (vector_local w y) p) ≡ v) (sym el.elem_is) (vector_lane w c s.locals st.holds y t yv p low) in
          let base = base_found w ready a t el p low (left p) f.memory s.size f.keeps s.locals (x p) lt (st.holds.bases a.number) in
          let kept = keeps_stored w ready a t el p low (left p) f.memory s.size f.keeps (x p) v lt (vector_fits w c s.locals st.holds y t yv p low) in
          record {
            state = record s { memory = _ };
            fell =
                ap (run fuel call (store_lane p)) f.is
                ∙ store_is w ready a t el p low (left p) f.memory s.size f.keeps s.locals (base_at w a p) (index p) (x p) base (index_is p low on) fuel call s.out s.globals
                (lane_at (elem w a) (vector_local w y) p) v lane lt;
            holds =
                record {
                  memory = _;
                  is = refl;
                  keeps = keeps_same w ready (put (left p) at (put (left p at) (x p) v)) (left (suc p)) _ s.size (is_left.on p low on lt) kept;
                };
          }

      abbrev pub Nobody : Mask
      Nobody p = false

      store_code : IsLaneCode w fuel call c.masks m Nobody 1 q store_lane Stored
      store_code =
          record {
            member = λ p u f. ap (λ v. value v.locals (is_member w m p)) f.is ∙ member_is w c.scalars c.vectors c.masks s.locals st.holds m p;
            skips = λ p u low f off. no_store p u low f off;
            works = λ p u low f on good. one_store p u low f on;
            fails = λ p u low f on wrong. absurd (let impossible : false ≡ true = wrong in cc);
          }

      pub stores_run : Kept (Stored (gang w)) (run fuel call (lane_stores w a index y m) s)
      stores_run =
          by
          (lanes_run w fuel call c.masks m Nobody 1 q store_lane Stored store_code s
          (record { memory = s.memory; is = refl; keeps = keeps_same w ready (all_of w c) (left 0) s.memory s.size is_left.first st.keeps }))
        where
          by : Kept (Sound w fuel call c.masks m Nobody 1 q store_lane Stored (gang w)) (run fuel call (lane_stores w a index y m) s)
              ⊎ Told (Refused w fuel call c.masks m Nobody 1 q store_lane Stored) (run fuel call (lane_stores w a index y m) s) → Kept (Stored (gang w)) (run fuel call (lane_stores w a index y m) s)
          by (inl k) = record { state = k.state; fell = k.fell; holds = k.holds.inv }
          by (inr told) = absurd (never (set told.holds.number) told.holds.outside)

    -- ---- checks and then stores, and what follows

    -- as they are, or as a branch
    pub stores_end_as : (out : Result → Result) → ((o : Option Report) (u : State) → out (Trapped o u) ≡ Trapped o u) → (i : Instr) (worse : Mask) (c1 : Conf) (after : State → Result) → slice_get w.routine.code pc ≡ Some i
        → act w.code w.routine c i ≡ moved (unless w.code w.routine c (lowest (gang w) worse) kind.Index q c1) (λ z. z)
        → ((p : ℕ) → p < gang w → worse p ≡ (set p && bad p)) → (left : ℕ → ℕ → Lanes) → IsLeft left
        → ((memory : ℕ → ℕ) → act w.code w.routine c i ≡ Go c1 → Keeps w (left (gang w)) memory s.size → Good (pc + 1) c (out (after (record s { memory = memory }))))
        → Good (pc + 1) c (out (then_to (run fuel call (lane_checks w a index m q) s) (λ u. then_to (run fuel call (lane_stores w a index y m) u) after)))
    stores_end_as out traps i worse c1 after has is same_bad left is_left goes = by checks_run
      where
        second : State → Result
        second u = then_to (run fuel call (lane_stores w a index y m) u) after

        by : Checked → Good (pc + 1) c (out (then_to (run fuel call (lane_checks w a index m q) s) second))
        by (inl kept) =
            let ran = stores_run left is_left kept.holds.sound in
            let f = ran.holds in
            subst (Good (pc + 1) c) (sym (ap (λ r. out (then_to r second)) (kept.fell ∙ ap Fell kept.holds.inv) ∙ ap (λ r. out (then_to r after)) (ran.fell ∙ ap Fell f.is)))
            (goes f.memory (is ∙ ap (λ o. moved (unless w.code w.routine c o kind.Index q c1) (λ z. z)) (none_fails w ready fuel n k call pc c s st m bad kind.Index q check Same worse same_bad kept.state kept.holds)) f.keeps)
        by (inr told) =
            subst (Good (pc + 1) c) (sym (ap (λ r. out (then_to r second)) told.trapped ∙ traps told.report told.state))
            (lane_fails w ready fuel n k call pc c s st m bad kind.Index q check Same worse same_bad i Conf c1 (λ z. z) has is
            (λ p u f. subst (λ u. (u.out ≡ s.out) × Keeps w (all_of w c) u.memory u.size) (sym f) (refl, st.keeps)) (Trapped told.report told.state)
            (record { state = told.state; report = told.report; trapped = refl; holds = told.holds }))

    pub stores_end : (i : Instr) (worse : Mask) (c1 : Conf) (after : State → Result) → slice_get w.routine.code pc ≡ Some i
        → act w.code w.routine c i ≡ moved (unless w.code w.routine c (lowest (gang w) worse) kind.Index q c1) (λ z. z)
        → ((p : ℕ) → p < gang w → worse p ≡ (set p && bad p)) → (left : ℕ → ℕ → Lanes) → IsLeft left
        → ((memory : ℕ → ℕ) → act w.code w.routine c i ≡ Go c1 → Keeps w (left (gang w)) memory s.size → Good (pc + 1) c (after (record s { memory = memory })))
        → Good (pc + 1) c (then_to (run fuel call (lane_checks w a index m q) s) (λ u. then_to (run fuel call (lane_stores w a index y m) u) after))
    stores_end = stores_end_as (λ r. r) (λ o u. refl)

    -- ---- an array that all lanes share gets what a scatter leaves

    module _ (shared : is_per_lane w.routine a ≡ false) (places : Map) (on_place : (p : ℕ) → p < gang w → set p ≡ true → x p < many w ready a t el → places p ≡ Some (x p))
        (off_place : (p : ℕ) → set p ≡ false → places p ≡ None) where
      abbrev pub at : ℕ
      at = w.home.named a.number

      abbrev pub left_after : ℕ → Lanes
      left_after p = scatter p places (on set (c.vectors y.number)) (all_of w c at)

      abbrev pub shared_after : ℕ → ℕ → Lanes
      shared_after p = put (all_of w c) at (left_after p)

      twice : (f g : Lanes) (i v : ℕ) → g ≡ put f i v → (r e : ℕ) → put (put (all_of w c) at f) at (put (put (all_of w c) at f at) i v) r e ≡ put (all_of w c) at g r e
      twice f g i v is r e = by (cases_eq r at)
        where
          by : (r ≡ at) ⊎ (r ≡ at → ⊥) → put (put (all_of w c) at f) at (put (put (all_of w c) at f at) i v) r e ≡ put (all_of w c) at g r e
          by (inl h) =
              ap (λ z. z e) (put_same (put (all_of w c) at f) at (put (put (all_of w c) at f at) i v) r h) ∙ ap (λ z. put z i v e) (put_same (all_of w c) at f at refl) ∙ ap (λ z. z e) (sym is)
              ∙ ap (λ z. z e) (sym (put_same (all_of w c) at g r h))
          by (inr ne) = ap (λ z. z e) (put_other (put (all_of w c) at f) at (put (put (all_of w c) at f at) i v) r ne ∙ put_other (all_of w c) at f r ne ∙ sym (put_other (all_of w c) at g r ne))

      same_arrays : (r e : ℕ) → all_of w c r e ≡ shared_after 0 r e
      same_arrays r e = by (cases_eq r at)
        where
          by : (r ≡ at) ⊎ (r ≡ at → ⊥) → all_of w c r e ≡ shared_after 0 r e
          by (inl h) = ap (λ z. all_of w c z e) h ∙ ap (λ z. z e) (sym (put_same (all_of w c) at (left_after 0) r h))
          by (inr ne) = ap (λ z. z e) (sym (put_other (all_of w c) at (left_after 0) r ne))

      pub shared_left : IsLeft shared_after
      shared_left =
          record {
            first = same_arrays;
            off = λ p low off b e. sym (ap₂ (λ o v. put (all_of w c) at (put_at o v (left_after p)) b e) (off_place p off) (ap (λ b. if b then Some (c.vectors y.number p) else None) off));
            on = λ p low on lt b e. subst (λ n. put (shared_after p) n (put (shared_after p n) (x p) (c.vectors y.number p)) b e ≡ shared_after (suc p) b e) (sym (store_shared w a.number p shared))
                (twice (left_after p) (left_after (suc p)) (x p) (c.vectors y.number p)
                (ap₂ (λ o u. put_at o u (left_after p)) (on_place p low on lt) (ap (λ b. if b then Some (c.vectors y.number p) else None) on)) b e);
          }

    -- ---- one of which each lane has its own

    module _ (own : is_per_lane w.routine a ≡ true) (places : Map) (on_place : (p : ℕ) → p < gang w → set p ≡ true → x p < many w ready a t el → places p ≡ Some (x p))
        (off_place : (p : ℕ) → set p ≡ false → places p ≡ None) where
      abbrev pub own_after : ℕ → Lanes
      own_after = own_put places (c.vectors y.number) (c.own a.number)

      turned : (i j : ℕ) → nat_eq i j ≡ nat_eq j i
      turned i j = by (cases_eq i j)
        where
          by : (i ≡ j) ⊎ (i ≡ j → ⊥) → nat_eq i j ≡ nat_eq j i
          by (inl e) = eq-eqb i j e ∙ sym (eq-eqb j i (sym e))
          by (inr ne) = ne_eqb i j ne ∙ sym (ne_eqb j i (λ e. ne (sym e)))

      kept_off : (p : ℕ) → set p ≡ false → (e : ℕ) → own_after e p ≡ c.own a.number e p
      kept_off p off e = ap (λ o. if holds (λ i. nat_eq i e) o then c.vectors y.number p else c.own a.number e p) (off_place p off)

      put_on : (p : ℕ) → p < gang w → set p ≡ true → x p < many w ready a t el → (e : ℕ)
          → put (all_of w (with_own w c a.number own_after (upto w c a.number own_after p)) (copy w c a.number own_after p)) (x p) (c.vectors y.number p) e ≡ own_after e p
      put_on p low on lt e =
          ap (λ z. if nat_eq e (x p) then c.vectors y.number p else z) (old_copy w c a.number own_after p e (let le = narrow w.code.gang in omega (arith, low, le)))
          ∙ ap (λ b. if b then c.vectors y.number p else c.own a.number e p) (turned e (x p))
          ∙ sym (ap (λ o. if holds (λ i. nat_eq i e) o then c.vectors y.number p else c.own a.number e p) (on_place p low on lt))

      pub own_left : IsLeft (λ p. all_of w (with_own w c a.number own_after (upto w c a.number own_after p)))
      own_left =
          record {
            first = none_yet w c a.number own_after;
            off = λ p low off b e. kept_copy w c a.number own_after p (kept_off p off) b e;
            on = λ p low on lt b e. subst
                (λ n. put (left p) n (put (left p n) (x p) (c.vectors y.number p)) b e ≡ left (suc p) b e) (sym (store_own w a.number p own))
                (new_copy w c a.number own_after p (let le = narrow w.code.gang in omega (arith, low, le)) (put (left p (copy w c a.number own_after p)) (x p) (c.vectors y.number p)) (put_on p low on lt) b e);
          }
        where
          left : ℕ → ℕ → Lanes
          left p = all_of w (with_own w c a.number own_after (upto w c a.number own_after p))

      pub own_kept : (memory : ℕ → ℕ) → Keeps w (all_of w (with_own w c a.number own_after (upto w c a.number own_after (gang w)))) memory s.size → Keeps w (all_of w (with_own w c a.number own_after own_after)) memory s.size
      own_kept memory keeps =
          keeps_same w ready (all_of w (with_own w c a.number own_after (upto w c a.number own_after (gang w)))) (all_of w (with_own w c a.number own_after own_after)) memory s.size
          (all_have w c a.number own_after (gang w) (λ r e le. kept_off r (no_member r le (set r) refl) e)) keeps
        where
          no_member : (r : ℕ) → gang w ≤ r → (b : Bool) → set r ≡ b → set r ≡ false
          no_member r le false e = e
          no_member r le true e = absurd (let low = st.holds.members m.number r e in omega (arith, low, le))

  -- ---- the instructions

  module _ (a i y m : Register) (q : ℕ) (yv : IsVector w y (elem w y)) where
    abbrev pub here : Elem
    here = elem w y

    abbrev pub places_of : Map
    places_of = map1 (element I64) (on (c.masks m.number) (c.vectors i.number))

    module _ (fd : IsFound w ready a (elem w y)) (iv : IsVector w i I64) where
      scatter_bad : (p : ℕ) → p < gang w → where_true (outside w.code w.routine c a) (on (c.masks m.number) (c.vectors i.number)) p ≡ (c.masks m.number p && not (nat_lt (c.vectors i.number p) (many w ready a here fd)))
      scatter_bad p l =
          one_test (c.masks m.number p) (outside w.code w.routine c a) (c.vectors i.number p) ∙ ap (λ o. c.masks m.number p && o) (outside_at w ready a here fd pc c s (c.vectors i.number p) st (vector_fits w c s.locals st.holds i I64 iv p l))

      map_one : Option ℕ → Option ℕ
      map_one o = each1 (element I64) o

      on_places : (p : ℕ) → p < gang w → c.masks m.number p ≡ true → c.vectors i.number p < many w ready a here fd → places_of p ≡ Some (c.vectors i.number p)
      unfolding map_one
      on_places p l h lt = ap (λ b. map_one (if b then Some (c.vectors i.number p) else None)) h ∙ ap Some (element_is (c.vectors i.number p) (let size = few w ready a here fd in omega arith))

      off_places : (p : ℕ) → c.masks m.number p ≡ false → places_of p ≡ None
      unfolding map_one
      off_places p h = ap (λ b. map_one (if b then Some (c.vectors i.number p) else None)) h

      pub scatters_own : is_per_lane w.routine a ≡ true → slice_get w.routine.code pc ≡ Some (instr.Scatter a i y m q)
          → Good (pc + 1) c (then_to (run fuel call (lane_checks w a (own_index w i) m q) s) (λ u. then_to (run fuel call (lane_stores w a (own_index w i) y m) u) Fell))
      scatters_own own has =
          stores_end a m y q here fd yv (own_index w i) (c.vectors i.number) lanes_are (instr.Scatter a i y m q)
          (where_true (outside w.code w.routine c a) (on (c.masks m.number) (c.vectors i.number))) (scattered w.code w.routine c true a i y m) Fell has
          (ap (λ b. moved (unless w.code w.routine c (lowest (gang w) (where_true (outside w.code w.routine c a) (on (c.masks m.number) (c.vectors i.number)))) kind.Index q (scattered w.code w.routine c b a i y m)) (λ z. z)) own)
          scatter_bad (λ p. all_of w (with_own w c a.number f (upto w c a.number f p)))
          (own_left a m y q here fd yv (own_index w i) (c.vectors i.number) lanes_are own places_of on_places off_places)
          (λ memory goes keeps. falls_on w ready fuel n k pc c s (instr.Scatter a i y m q) st has (scattered w.code w.routine c true a i y m) (record s { memory = memory }) goes refl refl refl refl st.holds
          (own_kept a m y q here fd yv (own_index w i) (c.vectors i.number) lanes_are own places_of on_places off_places memory keeps))
        where
          f : ℕ → Lanes
          f = own_put places_of (c.vectors y.number) (c.own a.number)

          lanes_are : (p : ℕ) → p < gang w → c.masks m.number p ≡ true → value s.locals (own_index w i p) ≡ c.vectors i.number p
          lanes_are p low h = vector_lane w c s.locals st.holds i I64 iv p low

  module _ (a i y m : Register) (q : ℕ) (el : IsArray w a (elem w y)) (yv : IsVector w y (elem w y)) where
    abbrev pub fd : IsFound w ready a (elem w y)
    fd = found_shared w ready a (elem w y) el

    abbrev pub size_of_it : ℕ
    size_of_it = many w ready a (elem w y) fd

    -- the arrays after it, as the machine names them
    abbrev pub arrays_after : Map → ℕ → Lanes
    arrays_after places = put c.arrays (c.home.named a.number) (scatter (gang w) places (on (c.masks m.number) (c.vectors y.number)) (c.arrays (c.home.named a.number)))

    pub named_so : (places : Map) (memory : ℕ → ℕ)
        → Keeps w (put (all_of w c) (w.home.named a.number) (scatter (gang w) places (on (c.masks m.number) (c.vectors y.number)) (all_of w c (w.home.named a.number)))) memory s.size
        → Keeps w (all_of w (record c { arrays = arrays_after places })) memory s.size
    named_so places memory keeps =
        subst (λ h. Keeps w (all_of w (record c { arrays = put c.arrays (h.named a.number) (scatter (gang w) places (on (c.masks m.number) (c.vectors y.number)) (c.arrays (h.named a.number))) })) memory s.size) (sym st.home_is)
        (keeps_same w ready (put (all_of w c) at f) (all_of w (record c { arrays = put c.arrays at f })) memory s.size (all_put w c at el.low f)
        (subst (λ g. Keeps w (put (all_of w c) at (scatter (gang w) places (on (c.masks m.number) (c.vectors y.number)) g)) memory s.size) (all_low w c at (let low = el.low in omega (arith, low))) keeps))
      where
        at : ℕ
        at = w.home.named a.number

        f : Lanes
        f = scatter (gang w) places (on (c.masks m.number) (c.vectors y.number)) (c.arrays at)

    pub scatters_shared : IsVector w i I64 → slice_get w.routine.code pc ≡ Some (instr.Scatter a i y m q)
        → Good (pc + 1) c (then_to (run fuel call (lane_checks w a (own_index w i) m q) s) (λ u. then_to (run fuel call (lane_stores w a (own_index w i) y m) u) Fell))
    scatters_shared iv has =
        stores_end a m y q (elem w y) fd yv (own_index w i) (c.vectors i.number) lanes_are (instr.Scatter a i y m q)
        (where_true (outside w.code w.routine c a) (on (c.masks m.number) (c.vectors i.number))) (scattered w.code w.routine c false a i y m) Fell has
        (ap (λ b. moved (unless w.code w.routine c (lowest (gang w) (where_true (outside w.code w.routine c a) (on (c.masks m.number) (c.vectors i.number)))) kind.Index q (scattered w.code w.routine c b a i y m)) (λ z. z)) el.shared)
        (scatter_bad a i y m q yv fd iv) (λ p. put (all_of w c) (w.home.named a.number) (scatter p places (on (c.masks m.number) (c.vectors y.number)) (all_of w c (w.home.named a.number))))
        (shared_left a m y q (elem w y) fd yv (own_index w i) (c.vectors i.number) lanes_are el.shared places (on_places a i y m q yv fd iv) (off_places a i y m q yv fd iv))
        (λ memory goes keeps. falls_on w ready fuel n k pc c s (instr.Scatter a i y m q) st has (scattered w.code w.routine c false a i y m) (record s { memory = memory }) goes refl refl refl refl st.holds (named_so places memory keeps))
      where
        places : Map
        places = places_of a i y m q yv

        lanes_are : (p : ℕ) → p < gang w → c.masks m.number p ≡ true → value s.locals (own_index w i p) ≡ c.vectors i.number p
        lanes_are p low h = vector_lane w c s.locals st.holds i I64 iv p low

    module _ (is : IsScalar w i I64) where
      fits : c.scalars i.number < 2 ^ 64
      fits = scalar_fits w c s.locals st.holds i I64 is

      pub stores_in_row_as : (out : Result → Result) → ((o : Option Report) (u : State) → out (Trapped o u) ≡ Trapped o u) → ((u : State) → out (Fell u) ≡ Fell u)
          → slice_get w.routine.code pc ≡ Some (instr.StoreRun a i y m q)
          → Good (pc + 1) c (out (then_to (run fuel call (lane_checks w a (run_index w i) m q) s) (λ u. then_to (run fuel call (lane_stores w a (run_index w i) y m) u) Fell)))
      stores_in_row_as out traps falls has =
          stores_end_as a m y q (elem w y) fd yv (run_index w i) (λ p. (c.scalars i.number + p) % 2 ^ 64) lanes_are out traps (instr.StoreRun a i y m q)
          (run_outside (size w.code w.routine c a) (number I64 (c.scalars i.number)) (c.masks m.number)) (run_stored w.code w.routine c a i y m) Fell has refl
          (λ p l. ap (λ b. c.masks m.number p && b) (ap (λ n. is_beyond n (number I64 (c.scalars i.number) +ℤ pos p)) (size_is w ready a (elem w y) fd pc c s st) ∙ beyond_is size_of_it (c.scalars i.number) p (few w ready a (elem w y) fd) fits (let le = narrow w.code.gang in omega arith)))
          (λ p. put (all_of w c) (w.home.named a.number) (scatter p places (on (c.masks m.number) (c.vectors y.number)) (all_of w c (w.home.named a.number))))
          (shared_left a m y q (elem w y) fd yv (run_index w i) (λ p. (c.scalars i.number + p) % 2 ^ 64) lanes_are el.shared places
          (λ p l h lt. ap (λ b. if b then Some (unsigned_abs (number I64 (c.scalars i.number) +ℤ pos p)) else None) h ∙ ap Some (first_is size_of_it (c.scalars i.number) p (few w ready a (elem w y) fd) fits (let le = narrow w.code.gang in omega arith) lt))
          (λ p h. ap (λ b. if b then Some (unsigned_abs (number I64 (c.scalars i.number) +ℤ pos p)) else None) h))
          (λ memory goes keeps. subst (Good (pc + 1) c) (sym (falls (record s { memory = memory })))
          (falls_on w ready fuel n k pc c s (instr.StoreRun a i y m q) st has (run_stored w.code w.routine c a i y m) (record s { memory = memory }) goes refl refl refl refl st.holds (named_so places memory keeps)))
        where
          places : Map
          places = run_places (number I64 (c.scalars i.number)) (c.masks m.number)

          lanes_are : (p : ℕ) → p < gang w → c.masks m.number p ≡ true → value s.locals (run_index w i p) ≡ (c.scalars i.number + p) % 2 ^ 64
          lanes_are p low h = ap₂ (λ u v. (u + v) % 2 ^ 64) (st.holds.scalars_are i.number) (mod-eq_of_lt (let le = narrow w.code.gang in let lt : p < 2 ^ 64 = omega arith in lt))

      pub stores_in_row : slice_get w.routine.code pc ≡ Some (instr.StoreRun a i y m q)
          → Good (pc + 1) c (then_to (run fuel call (lane_checks w a (run_index w i) m q) s) (λ u. then_to (run fuel call (lane_stores w a (run_index w i) y m) u) Fell))
      stores_in_row = stores_in_row_as (λ r. r) (λ o u. refl) (λ u. refl)

      pub packed_stores : (r : Register) → r.class ≡ class.Scalar → elem w r ≡ I32 → slice_get w.routine.code pc ≡ Some (instr.PackedStore r a i y m q)
          → Good (pc + 1) c (then_to (run fuel call (lane_checks w a (packed_index w i m) m q) s) (λ u. then_to (run fuel call (lane_stores w a (packed_index w i m) y m) u) (run fuel call (set_count w r m))))
      packed_stores r cl re has =
          stores_end a m y q (elem w y) fd yv (packed_index w i m) (λ p. (c.scalars i.number + rank set p) % 2 ^ 64) lanes_are (instr.PackedStore r a i y m q)
          (packed_outside (size w.code w.routine c a) (number I64 (c.scalars i.number)) set) after (run fuel call (set_count w r m)) has refl
          (λ p l. ap (λ b. set p && b) (ap (λ n. is_beyond n (number I64 (c.scalars i.number) +ℤ pos (rank set p))) (size_is w ready a (elem w y) fd pc c s st) ∙ beyond_is size_of_it (c.scalars i.number) (rank set p) (few w ready a (elem w y) fd) fits (small p l)))
          (λ p. put (all_of w c) (w.home.named a.number) (scatter p places (on (c.masks m.number) (c.vectors y.number)) (all_of w c (w.home.named a.number))))
          (shared_left a m y q (elem w y) fd yv (packed_index w i m) (λ p. (c.scalars i.number + rank set p) % 2 ^ 64) lanes_are el.shared places
          (λ p l h lt. ap (λ b. if b then Some (unsigned_abs (number I64 (c.scalars i.number) +ℤ pos (rank set p))) else None) h ∙ ap Some (first_is size_of_it (c.scalars i.number) (rank set p) (few w ready a (elem w y) fd) fits (small p l) lt))
          (λ p h. ap (λ b. if b then Some (unsigned_abs (number I64 (c.scalars i.number) +ℤ pos (rank set p))) else None) h))
          (λ memory goes keeps. falls_on w ready fuel n k pc c s (instr.PackedStore r a i y m q) st has after (set_local (w.local (place.Scalar r.number)) v (record s { memory = memory })) goes refl refl refl refl
          (subst (λ z. Holds w (put c.scalars r.number z) c.vectors c.masks (set_local (w.local (place.Scalar r.number)) v (record s { memory = memory })).locals) counted
          (holds_scalar w c.scalars c.vectors c.masks s.locals (set_local (w.local (place.Scalar r.number)) v (record s { memory = memory })).locals r.number v st.holds
          (subst (λ z. z < 2 ^ width (elem w (scalar_register r.number))) (sym counted) (subst (λ t. rank set (gang w) < 2 ^ width t) (sym (ap (λ a. elem w (record { class = a; number = r.number })) (sym cl) ∙ re)) (omega (arith, all))))
          (there w ready (place.Scalar r.number) v (record s { memory = memory })) (λ p kept ne. elsewhere w ready (place.Scalar r.number) p v (record s { memory = memory }) ne)))
          (named_so places memory keeps))
        where
          set : Mask
          set = c.masks m.number

          small : (p : ℕ) → p < gang w → rank set p < 32
          small p l = let le = narrow w.code.gang in let up = rank_low set p in omega arith

          all : rank set (gang w) ≤ 32
          all = let le = narrow w.code.gang in let up = rank_low set (gang w) in omega arith

          places : Map
          places = packed_places (number I64 (c.scalars i.number)) set

          lanes_are : (p : ℕ) → p < gang w → c.masks m.number p ≡ true → value s.locals (packed_index w i m p) ≡ (c.scalars i.number + rank set p) % 2 ^ 64
          lanes_are p low h = ap₂ (λ u v. (u + v) % 2 ^ 64) (st.holds.scalars_are i.number) (rank_is w c.scalars c.vectors c.masks s.locals st.holds m p (let le = narrow w.code.gang in omega arith))

          after : Conf
          after = packed_stored w.code w.routine c r a (number I64 (c.scalars i.number)) y m

          v : ℕ
          v = value s.locals (syntax.One syntax.Wrap (rank_expr w m (gang w)))

          counted : v ≡ rank set (gang w)
          counted = ap (λ z. z % 2 ^ 32) (rank_is w c.scalars c.vectors c.masks s.locals st.holds m (gang w) (narrow w.code.gang)) ∙ mod-eq_of_lt (let lt : rank set (gang w) < 2 ^ 32 = omega (arith, all) in lt)

  pub scatters : (a i y m : Register) (q : ℕ) → IsEither w a (elem w y) → IsVector w y (elem w y) → IsVector w i I64 → slice_get w.routine.code pc ≡ Some (instr.Scatter a i y m q)
      → Good (pc + 1) c (then_to (run fuel call (lane_checks w a (own_index w i) m q) s) (λ u. then_to (run fuel call (lane_stores w a (own_index w i) y m) u) Fell))
  scatters a i y m q (inl el) yv iv has = scatters_shared a i y m q el yv iv has
  scatters a i y m q (inr el) yv iv has = scatters_own a i y m q yv (found_own w ready a (elem w y) el) iv el.own has

  -- ---- one element

  pub stores : (a i y m : Register) (q : ℕ) → slice_get w.routine.code pc ≡ Some (instr.Store a i y m q) → (el : IsArray w a (elem w a)) → (is : IsScalar w i I64) → IsScalar w y (elem w a)
      → Good (pc + 1) c (then_to (run fuel call (checked w a i m q) s) (run fuel call (Store (bytes_of (elem w a)) (address_at w a (scalar_local w i)) 0 (scalar_local w y))))
  stores a i y m q has el is ys = by (nat_lt (c.scalars i.number) (many w ready a t fd)) refl
    where
      t : Elem
      t = elem w a

      fd : IsFound w ready a t
      fd = found_shared w ready a t el

      at : ℕ
      at = w.home.named a.number

      after : State → Result
      after = run fuel call (Store (bytes_of (elem w a)) (address_at w a (scalar_local w i)) 0 (scalar_local w y))

      index : ℕ
      index = c.scalars i.number

      v : ℕ
      v = c.scalars y.number

      by : (b : Bool) → nat_lt index (many w ready a t fd) ≡ b → Good (pc + 1) c (then_to (run fuel call (checked w a i m q) s) after)
      by true e =
          let lt = ltb-true index (many w ready a t fd) e in
          let size = few w ready a t fd in
          let fit = scalar_fits w c s.locals st.holds y t ys in
          let first = some_lanes w.code.gang in
          let memory = new_memory w ready a t fd 0 first (all_of w c) s.memory s.size st.keeps index v lt fit in
          let keeps = keeps_stored w ready a t fd 0 first (all_of w c) s.memory s.size st.keeps index v lt fit in
          subst (Good (pc + 1) c)
          (sym (ap (λ r. then_to r after) (checked_is w ready fuel n k call pc c s st a i m q t fd is true e)
          ∙ store_is w ready a t fd 0 first (all_of w c) s.memory s.size st.keeps s.locals (Local (w.local (place.Base a.number))) (scalar_local w i) index (st.holds.bases a.number) (st.holds.scalars_are i.number) fuel call s.out s.globals (scalar_local w y) v (st.holds.scalars_are y.number) lt))
          (falls_on w ready fuel n k pc c s (instr.Store a i y m q) st has (stored w.code w.routine c a i y) (record s { memory = memory })
          (ap (λ b. moved (unless w.code w.routine c (failing w.code w.routine c b m) kind.Index q (stored w.code w.routine c a i y)) (λ c1. c1)) (outside_here w ready fuel n k call pc c s st a i m q t fd is true e)) refl refl refl refl st.holds
          (subst (λ h. Keeps w (all_of w (record c { arrays = put c.arrays (h.named a.number) (put (c.arrays (h.named a.number)) (element I64 index) v) })) memory s.size) (sym st.home_is)
          (subst (λ e. Keeps w (all_of w (record c { arrays = put c.arrays at (put (c.arrays at) e v) })) memory s.size) (sym (element_is index (omega arith)))
          (keeps_same w ready (put (all_of w c) at (put (c.arrays at) index v)) (all_of w (record c { arrays = put c.arrays at (put (c.arrays at) index v) })) memory s.size (all_put w c at el.low (put (c.arrays at) index v))
          (subst (λ g. Keeps w (put (all_of w c) at (put g index v)) memory s.size) (all_low w c at (let low = el.low in omega (arith, low)))
          (subst (λ n. Keeps w (put (all_of w c) n (put (all_of w c n) index v)) memory s.size) (store_shared w a.number 0 el.shared) keeps))))))
      by false e =
          subst (Good (pc + 1) c) (sym (ap (λ r. then_to r after) (checked_is w ready fuel n k call pc c s st a i m q t fd is false e)))
          (faults w ready fuel n k call pc c s st a i m q t fd is (instr.Store a i y m q) Conf (stored w.code w.routine c a i y) (λ c1. c1) has e refl)
