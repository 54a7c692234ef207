-- Configurations that agree in what may still be read step to such configurations.
use Rattle.std.proofs.Common.{◌≡◌, ℕ, zero, suc, ◌+◌, List, [], ◌∷◌, map, Option, Some, None, Bool, true, false, ◌&&◌, ◌⊎◌, inl, inr, refl, sym, ap, ◌∙◌, subst, arith, Contains, eq-eqb}
use Rattle.std.proofs.lemmas.Bool.{and_parts, and_from, or_cases, not-true, cases_eq}
use Rattle.std.specs.Prelude.{slice_get, if◌then◌else◌, nat_lt, nat_eq}
use Rattle.std.specs.List.{list_all, list_any}
use Rattle.isp_base.specs.Cross.{or_zero}
use Rattle.isp_base.specs.Depths.{most_calls}
use Rattle.isp_base.specs.Maps.{Lanes, Map, on, over, put}
use Rattle.isp_base.specs.Sets.{lowest}
use Rattle.isp_base.specs.Types.{gang_width}
use Rattle.isp_base.specs.Traps.{trap}
use Rattle.isp_base.specs.declared.trap.TrapKind.TheVariants.{Depth}
use Rattle.isp_code.specs.Calls.{place_at, numbers, from, waits, called, depth, entered}
use Rattle.isp_code.specs.Conf.{Conf, Frame, Move, Go, Say, Fail, Over}
use Rattle.isp_code.specs.Lines as lines
use Rattle.isp_code.specs.Lines.{act}
use Rattle.isp_code.specs.Listing.{Listing, Routine}
use Rattle.isp_code.specs.declared.instr.Call.{Call}
use Rattle.isp_code.specs.declared.instr.Instr.{Instr}
use Rattle.isp_code.specs.declared.instr.Instr.TheVariants as instr
use Rattle.isp_code.specs.declared.instr.VectorInstr.{VectorInstr}
use Rattle.isp_code.specs.declared.register.Class.TheVariants as class
use Rattle.isp_code.specs.declared.register.Register.{Register}
use Rattle.isp_lanes_read.specs.Lanes.{Meaning, sets, IsRead}
use Rattle.isp_lanes_read.specs.Free.{is_of, is_unread, is_useless}
use Rattle.isp_lanes_read.specs.Reads.{under, number_under, result_written, reads, written, is_pure, is_vector}
use Rattle.isp_lanes_read.specs.Rows.{Rows, row_at, row_in, table_at}
use Rattle.isp_lanes_read.specs.Standing.{Holds, is_filled, FramesAlike, AllAlike, Alike}
use Rattle.isp_lanes_read.specs.reader.Passing.{Edge, edges, mask_written, covers_reading, passes}
use Rattle.isp_lanes_read.proofs.Lists.{all_has, none_has, put_other}
use Rattle.isp_lanes_read.proofs.Knowing.{IsSoBesides, covered_read}
use Rattle.isp_lanes_read.proofs.Maps.{on_same}
use Rattle.isp_lanes_read.proofs.Follows.{Changes, IsWritten, read_before}
use Rattle.isp_lanes_read.proofs.Moves.{IsInner, GoesOn, MovesOn, moves_on}
use Rattle.isp_lanes_read.proofs.Readers.{swapped, Agree, pure_value}
use Rattle.isp_lanes_read.proofs.Twins.{Twins, MoveTwins, act_twins, written_or_not}
use Rattle.isp_lanes_read.proofs.Passed.{read_passes}
use Rattle.isp_lanes_read.proofs.Holding.{sets_sound, edge_comes}
use Rattle.isp_lanes_read.proofs.Alikes.{as_many}

-- what is found in a list has an image in the list of images
mapped : {X Y : Type 0} (f : X → Y) (xs : List X) (k : ℕ) (x : X) → slice_get xs k ≡ Some x → Contains (map f xs) (f x)
mapped f [] k x e = absurd cc
mapped f (y ∷ xs) zero x e = let same : y ≡ x = cc in (0, omega arith, ap f same)
mapped f (y ∷ xs) (suc k) x e = let r = mapped f xs k x e in (suc r.0, omega (arith, r.1), r.2)

module _ (code : Listing) (rows : Rows) (pass : passes code rows ≡ true) where
  abbrev pub MoveAlike : Move → Move → Type 0
  MoveAlike (Go a) (Go b) = Alike code rows a b
  MoveAlike (Say t a) (Say u b) = (t ≡ u) × Alike code rows a b
  MoveAlike (Fail t) (Fail u) = t ≡ u
  MoveAlike (Over x) (Over y) = x ≡ y
  MoveAlike m n = ⊥

  module _ (c : Conf) (holds : Holds code rows c) (ws : List Frame) (vs : ℕ → Lanes) (others : AllAlike code rows c.waiting ws)
      (agree : (v p : ℕ) → IsRead (sets code c) (row_at rows c.home.fn c.pc) v p → c.vectors v p ≡ vs v p) where
    module _ (h : Routine) (found : slice_get code.routines c.home.fn ≡ Some h) (i : Instr) (at : slice_get h.code c.pc ≡ Some i) where
      -- what is read after an instruction
      pub before : (set1 : Meaning) (e : Edge) → Contains (edges c.pc i) e → IsSoBesides (sets code c) e.more → Changes (sets code c) set1 (mask_written i)
          → (v p : ℕ) → IsRead set1 (row_in (table_at rows c.home.fn) e.to) v p → IsWritten (sets code c) (written i) v p ⊎ IsRead (sets code c) (row_at rows c.home.fn c.pc) v p
      before set1 e has so new v p r =
          read_before (sets code c) set1 (sets_sound code rows c holds) (row_at rows c.home.fn c.pc) holds.told e.more so i new (row_in (table_at rows c.home.fn) e.to)
          (edge_comes code rows pass c holds h found i at e has) v p r

      -- the lanes that it reads
      pub operands : list_all (covers_reading (row_at rows c.home.fn c.pc)) (reads h i) ≡ true → Agree code h c ws vs (reads h i)
      operands e r has p t =
          agree r.vector p (covered_read (sets code c) (sets_sound code rows c holds) (row_at rows c.home.fn c.pc) holds.told None tt r.vector r.lanes
          (all_has (covers_reading (row_at rows c.home.fn c.pc)) (reads h i) r e has) p t)

      goes_alike : (a b : Conf) → GoesOn code h c i a → Twins code h c ws vs (written i) a b → Alike code rows a b
      goes_alike a b goes twins =
          record {
            same = twins.same ∙ ap (λ w. record a { waiting = w; vectors = b.vectors }) (sym there);
            lanes = λ v p r. lanes v p (before (sets code a) goes.edge goes.has goes.so goes.changes v p (moved v p r));
            waiting = subst (λ w. AllAlike code rows w b.waiting) (sym goes.waiting_is) (subst (AllAlike code rows c.waiting) (sym there) others);
          }
        where
          there : b.waiting ≡ ws
          there = ap (λ z. z.waiting) twins.same

          moved : (v p : ℕ) → IsRead (sets code a) (row_at rows a.home.fn a.pc) v p → IsRead (sets code a) (row_in (table_at rows c.home.fn) goes.edge.to) v p
          moved v p r = subst (λ n. IsRead (sets code a) (row_at rows c.home.fn n) v p) goes.pc_is (subst (λ m. IsRead (sets code a) (row_at rows m.fn a.pc) v p) goes.home_is r)

          lanes : (v p : ℕ) → IsWritten (sets code c) (written i) v p ⊎ IsRead (sets code c) (row_at rows c.home.fn c.pc) v p → a.vectors v p ≡ b.vectors v p
          lanes v p (inl w) = twins.new v p w
          lanes v p (inr r) = elim (written_or_not code h c ws vs (written i) v p) [ inl w ↦ twins.new v p w | inr n ↦ (let k = twins.kept v p n in k.0 ∙ agree v p r ∙ sym k.1) ]

      both_go : (m n : Move) → MovesOn code h c i m → MoveTwins code h c ws vs (written i) m n → MoveAlike m n
      both_go (Go a) (Go b) on t = goes_alike a b on t
      both_go (Say x a) (Say y b) on t = (t.0, goes_alike a b on t.1)
      both_go (Fail x) (Fail y) on t = t
      both_go (Over x) (Over y) on t = t
      both_go (Go a) (Say y b) on t = absurd t
      both_go (Go a) (Fail y) on t = absurd t
      both_go (Go a) (Over y) on t = absurd t
      both_go (Say x a) (Go b) on t = absurd t
      both_go (Say x a) (Fail y) on t = absurd t
      both_go (Say x a) (Over y) on t = absurd t
      both_go (Fail x) (Go b) on t = absurd t
      both_go (Fail x) (Say y b) on t = absurd t
      both_go (Fail x) (Over y) on t = absurd t
      both_go (Over x) (Go b) on t = absurd t
      both_go (Over x) (Say y b) on t = absurd t
      both_go (Over x) (Fail y) on t = absurd t

    -- an instruction that can be left out
    useless_alike : (h : Routine) (found : slice_get code.routines c.home.fn ≡ Some h) (r : Register) (i : VectorInstr) (at : slice_get h.code c.pc ≡ Some (instr.Vector r i))
        → (is_pure i && is_unread (row_in (table_at rows c.home.fn) (c.pc + 1)) r.number) ≡ true → MoveAlike (act code h c (instr.Vector r i)) (act code h (swapped c ws vs) (instr.Vector r i))
    useless_alike h found r i at e =
        let parts = and_parts (is_pure i) (is_unread (row_in (table_at rows c.home.fn) (c.pc + 1)) r.number) e in
        let x = pure_value code h c r i parts.0 in
        let y = pure_value code h (swapped c ws vs) r i parts.0 in
        subst (λ z. MoveAlike (lines.moved z (lines.set_vector c r)) (lines.moved (lines.vector_value code h (swapped c ws vs) r i) (lines.set_vector (swapped c ws vs) r))) (sym x.1)
        (subst (λ z. MoveAlike (Go (lines.set_vector c r x.0)) (lines.moved z (lines.set_vector (swapped c ws vs) r))) (sym y.1)
        (record { same = refl; lanes = lanes x.0 y.0 parts.1; waiting = others }))
      where
        lanes : (x y : Map) → is_unread (row_in (table_at rows c.home.fn) (c.pc + 1)) r.number ≡ true → (v p : ℕ) → IsRead (sets code c) (row_in (table_at rows c.home.fn) (c.pc + 1)) v p
            → put c.vectors r.number (over x (c.vectors r.number)) v p ≡ put vs r.number (over y (vs r.number)) v p
        lanes x y unread v p t = by (cases_eq v r.number)
          where
            here : v ≡ r.number → ⊥
            here s = none_has (is_of r.number) (row_in (table_at rows c.home.fn) (c.pc + 1)).read t.0 (not-true (list_any (is_of r.number) (row_in (table_at rows c.home.fn) (c.pc + 1)).read) unread) t.1 (eq-eqb (t.0).vector r.number (t.2 ∙ s))

            earlier : (v ≡ r.number → ⊥) → c.vectors v p ≡ vs v p
            earlier ne =
                elim (before h found (instr.Vector r i) at (sets code c) (record { to = c.pc + 1; more = None }) (0, omega arith, refl) tt (λ a. refl) v p t) [ inl w ↦ absurd (ne w.0) | inr q ↦ agree v p q ]

            by : (v ≡ r.number) ⊎ (v ≡ r.number → ⊥) → put c.vectors r.number (over x (c.vectors r.number)) v p ≡ put vs r.number (over y (vs r.number)) v p
            by (inl s) = absurd (here s)
            by (inr ne) = ap (λ l. l p) (put_other c.vectors r.number (over x (c.vectors r.number)) v ne) ∙ earlier ne ∙ sym (ap (λ l. l p) (put_other vs r.number (over y (vs r.number)) v ne))

    pub inner_alike : (h : Routine) (found : slice_get code.routines c.home.fn ≡ Some h) (i : Instr) (at : slice_get h.code c.pc ≡ Some i) → IsInner i
        → list_all (covers_reading (row_at rows c.home.fn c.pc)) (reads h i) ≡ true → MoveAlike (act code h c i) (act code h (swapped c ws vs) i)
    inner_alike h found i at inner e =
        both_go h found i at (act code h c i) (act code h (swapped c ws vs) i) (moves_on code h c holds.inside i inner) (act_twins code h c ws vs i inner (operands h found i at e))

    pub vector_alike : (h : Routine) (found : slice_get code.routines c.home.fn ≡ Some h) (r : Register) (i : VectorInstr) (at : slice_get h.code c.pc ≡ Some (instr.Vector r i))
        → MoveAlike (act code h c (instr.Vector r i)) (act code h (swapped c ws vs) (instr.Vector r i))
    vector_alike h found r i at =
        elim (or_cases (is_useless (row_in (table_at rows c.home.fn) (c.pc + 1)) (instr.Vector r i)) (list_all (covers_reading (row_at rows c.home.fn c.pc)) (reads h (instr.Vector r i))) (read_passes code rows pass c.home.fn h found c.pc (instr.Vector r i) at)) [
          | inl e ↦ useless_alike h found r i at e
          | inr e ↦ inner_alike h found (instr.Vector r i) at tt e
        ]

    -- a call that begins
    module _ (h : Routine) (found : slice_get code.routines c.home.fn ≡ Some h) (k : Call) (at : slice_get h.code c.pc ≡ Some (instr.Call k)) where
      frames_alike : FramesAlike code rows (waits c k.result (c.masks k.mask.number)) (waits (swapped c ws vs) k.result (c.masks k.mask.number)) c.waiting
      frames_alike =
          record { same = refl; lanes = λ v p r off. lanes v p off (before h found (instr.Call k) at (sets code c) (record { to = c.pc + 1; more = None }) (0, omega arith, refl) tt (λ a. refl) v p r) }
        where
          filled : (o : Option Register) (v p : ℕ) → IsWritten (sets code c) (result_written k.mask o) v p → is_filled o (c.masks k.mask.number) v p ≡ true
          filled None v p w = absurd w
          filled (Some d) v p w = by (is_vector d) refl w
            where
              by : (b : Bool) → is_vector d ≡ b → IsWritten (sets code c) (if b then Some (under k.mask d) else None) v p → (is_vector d && (nat_eq v d.number && c.masks k.mask.number p)) ≡ true
              by true e w = and_from (is_vector d) (nat_eq v d.number && c.masks k.mask.number p) e (and_from (nat_eq v d.number) (c.masks k.mask.number p) (eq-eqb v d.number w.0) w.1)
              by false e w = absurd w

          lanes : (v p : ℕ) → is_filled k.result (c.masks k.mask.number) v p ≡ false → IsWritten (sets code c) (written (instr.Call k)) v p ⊎ IsRead (sets code c) (row_at rows c.home.fn c.pc) v p → c.vectors v p ≡ vs v p
          lanes v p off (inl w) = let bad : true ≡ false = sym (filled k.result v p w) ∙ off in absurd cc
          lanes v p off (inr r) = agree v p r

      passed_same : Agree code h c ws vs (reads h (instr.Call k)) → (r : ℕ)
          → from (λ p. 0) (λ x. over (on (c.masks k.mask.number) (c.vectors x)) (λ p. 0)) (slice_get (numbers class.Vector k.arguments) r) ≡ from (λ p. 0) (λ x. over (on (c.masks k.mask.number) (vs x)) (λ p. 0)) (slice_get (numbers class.Vector k.arguments) r)
      passed_same ok r = by (slice_get (numbers class.Vector k.arguments) r) refl
        where
          by : (o : Option ℕ) → slice_get (numbers class.Vector k.arguments) r ≡ o → from (λ p. 0) (λ x. over (on (c.masks k.mask.number) (c.vectors x)) (λ p. 0)) o ≡ from (λ p. 0) (λ x. over (on (c.masks k.mask.number) (vs x)) (λ p. 0)) o
          by None e = refl
          by (Some x) e = ap (λ m. over m (λ p. 0)) (on_same (c.masks k.mask.number) (c.vectors x) (vs x) (λ p t. ok (number_under k.mask x) (mapped (number_under k.mask) (numbers class.Vector k.arguments) r x e) p t))

      called_alike : (g : Routine) → Agree code h c ws vs (reads h (instr.Call k)) → Alike code rows (called c k g) (called (swapped c ws vs) k g)
      called_alike g ok = record { same = refl; lanes = λ v p r. ap (λ l. l p) (passed_same ok v); waiting = (frames_alike, others) }

      entered_alike : (o : Option Routine) → Agree code h c ws vs (reads h (instr.Call k)) → MoveAlike (entered code c k o) (entered code (swapped c ws vs) k o)
      entered_alike None ok = refl
      entered_alike (Some g) ok = subst (λ n. MoveAlike (turn (depth c) c) (turn n (swapped c ws vs))) (ap suc (as_many code rows c.waiting ws others)) (by (nat_lt (depth c) most_calls))
        where
          turn : ℕ → Conf → Move
          turn n b = if nat_lt n most_calls then Go (called b k g) else Fail (trap Depth (place_at code k.place) (or_zero (lowest (gang_width code.gang) (c.masks k.mask.number))))

          by : (b : Bool) → MoveAlike (if b then Go (called c k g) else Fail (trap Depth (place_at code k.place) (or_zero (lowest (gang_width code.gang) (c.masks k.mask.number)))))
              (if b then Go (called (swapped c ws vs) k g) else Fail (trap Depth (place_at code k.place) (or_zero (lowest (gang_width code.gang) (c.masks k.mask.number)))))
          by true = called_alike g ok
          by false = refl

      pub call_alike : MoveAlike (act code h c (instr.Call k)) (act code h (swapped c ws vs) (instr.Call k))
      call_alike =
          entered_alike (slice_get code.routines k.function)
          (operands h found (instr.Call k) at
          (elim (or_cases false (list_all (covers_reading (row_at rows c.home.fn c.pc)) (reads h (instr.Call k))) (read_passes code rows pass c.home.fn h found c.pc (instr.Call k) at)) [ inl e ↦ absurd cc | inr e ↦ e ]))
