-- Two machines that agree in the lanes that an instruction reads move alike: they differ only in lanes in which they differed.
use Rattle.std.proofs.Common.{◌≡◌, ℕ, ◌+◌, List, [], ◌∷◌, Option, Some, None, Bool, true, false, Result, Ok, Err, refl, sym, ap, ◌∙◌, subst, arith, ◌⊎◌, inl, inr}
use Rattle.std.proofs.lemmas.Bool.{cases_Bool, cases_eq, false_from_ne_true}
use Rattle.std.specs.Prelude.{if◌then◌else◌}
use Rattle.isp_base.specs.Access.{element, scatter, is_zero}
use Rattle.isp_base.specs.Cross.{packed_places, run_places}
use Rattle.isp_base.specs.Maps.{Lanes, Map, over, map1, map2, lowest_failing, put}
use Rattle.isp_base.specs.Prints.{list_text}
use Rattle.isp_base.specs.Stores.{own_put}
use Rattle.isp_base.specs.Types.{gang_width}
use Rattle.isp_base.specs.Values.{number, op_bits}
use Rattle.isp_base.specs.declared.operators.BinOp.{BinOp}
use Rattle.isp_base.specs.declared.trap.Trap.{Trap}
use Rattle.isp_base.specs.declared.trap.TrapKind.{TrapKind}
use Rattle.isp_base.specs.declared.trap.TrapKind.TheVariants.{Divide, Index, Assert}
use Rattle.isp_base.specs.declared.types.Elem.TheVariants.{I64}
use Rattle.isp_code.specs.Conf.{Conf, Frame, Move, Go, Say, Fail, Over}
use Rattle.isp_code.specs.Lines as lines
use Rattle.isp_code.specs.Lines.{act, moved, unless, divided, division_of}
use Rattle.isp_code.specs.Listing.{Listing, Routine}
use Rattle.isp_code.specs.Registers.{elem_of, is_per_lane, same_class}
use Rattle.isp_code.specs.declared.instr.Instr.{Instr}
use Rattle.isp_code.specs.declared.instr.Instr.TheVariants as instr
use Rattle.isp_code.specs.declared.register.Class.{Class}
use Rattle.isp_code.specs.declared.register.Class.TheVariants as class
use Rattle.isp_code.specs.declared.register.Register.{Register}
use Rattle.isp_lanes_read.specs.Lanes.{sets}
use Rattle.isp_lanes_read.specs.Reads.{under, reads, written, mask_of, is_vector}
use Rattle.isp_lanes_read.specs.declared.table.Reading.{Reading}
use Rattle.isp_lanes_read.proofs.Lists.{put_same, put_other}
use Rattle.isp_lanes_read.proofs.Maps.{own_same, HasJust, just_on, over_some, over_none}
use Rattle.isp_lanes_read.proofs.Follows.{IsWritten}
use Rattle.isp_lanes_read.proofs.Moves.{IsInner}
use Rattle.isp_lanes_read.proofs.Readers.{swapped, Agree, first, second, scalar_same, mask_same, vector_same, WritesJust, vector_just, unless_just, pair_just}

module _ (code : Listing) (h : Routine) (c : Conf) (ws : List Frame) (vs : ℕ → Lanes) where
  -- Where the two go on: the same, but for the vectors. What is written is the same in both, all else is as each had it.
  pub record Twins (o : Option Reading) (a b : Conf) : Type 0 where
    pub same : b ≡ swapped a ws b.vectors
    pub new : (v p : ℕ) → IsWritten (sets code c) o v p → a.vectors v p ≡ b.vectors v p
    pub kept : (v p : ℕ) → (IsWritten (sets code c) o v p → ⊥) → (a.vectors v p ≡ c.vectors v p) × (b.vectors v p ≡ vs v p)

  abbrev pub MoveTwins : Option Reading → Move → Move → Type 0
  MoveTwins o (Go a) (Go b) = Twins o a b
  MoveTwins o (Say t a) (Say u b) = (t ≡ u) × Twins o a b
  MoveTwins o (Fail t) (Fail u) = t ≡ u
  MoveTwins o (Over x) (Over y) = x ≡ y
  MoveTwins o m n = ⊥

  -- where no vector is written
  plain : (a : Conf) → a.vectors ≡ c.vectors → Twins None a (swapped a ws vs)
  plain a e = record { same = refl; new = λ v p w. absurd w; kept = λ v p off. (ap (λ f. f v p) e, refl) }

  -- where a vector is written under a mask
  put_twins : (a : Conf) (k r : Register) (x : Map) → HasJust (c.masks k.number) x → a.vectors ≡ put c.vectors r.number (over x (c.vectors r.number))
      → Twins (Some (under k r)) a (swapped a ws (put vs r.number (over x (vs r.number))))
  put_twins a k r x just e = record { same = refl; new = λ v p w. new v p w; kept = λ v p off. (ap (λ f. f v p) e ∙ old (c.vectors) v p off, old vs v p off) }
    where
      at : (f : ℕ → Lanes) (v p : ℕ) → v ≡ r.number → put f r.number (over x (f r.number)) v p ≡ over x (f r.number) p
      at f v p s = ap (λ u. put f r.number (over x (f r.number)) u p) s ∙ ap (λ l. l p) (put_same f r.number (over x (f r.number)))

      new : (v p : ℕ) → IsWritten (sets code c) (Some (under k r)) v p → a.vectors v p ≡ put vs r.number (over x (vs r.number)) v p
      new v p w = ap (λ f. f v p) e ∙ at c.vectors v p w.0 ∙ over_some (c.masks k.number) x just p w.1 (c.vectors r.number) (vs r.number) ∙ sym (at vs v p w.0)

      old : (f : ℕ → Lanes) (v p : ℕ) → (IsWritten (sets code c) (Some (under k r)) v p → ⊥) → put f r.number (over x (f r.number)) v p ≡ f v p
      old f v p off =
          elim (cases_eq v r.number) [
            | inl s ↦ at f v p s ∙ over_none (c.masks k.number) x just p (false_from_ne_true (c.masks k.number p) (λ t. off (s, t))) (f r.number) ∙ ap (λ u. f u p) (sym s)
            | inr ne ↦ ap (λ l. l p) (put_other f r.number (over x (f r.number)) v ne)
          ]

  moved_twins : {A : Type 0} (o : Option Reading) (r r1 : Result A Trap) → r ≡ r1 → (go go1 : A → Conf) → ((x : A) → Twins o (go x) (go1 x)) → MoveTwins o (moved r go) (moved r1 go1)
  moved_twins o r r1 e go go1 each = subst (λ z. MoveTwins o (moved r go) (moved z go1)) e (at r)
    where
      at : (z : Result _ Trap) → MoveTwins o (moved z go) (moved z go1)
      at (Ok x) = each x
      at (Err t) = refl

  vector_twins : (k r : Register) (z z1 : Result Map Trap) → z ≡ z1 → WritesJust (c.masks k.number) z
      → MoveTwins (Some (under k r)) (moved z (lines.set_vector c r)) (moved z1 (lines.set_vector (swapped c ws vs) r))
  vector_twins k r z z1 e just = subst (λ y. MoveTwins (Some (under k r)) (moved z (lines.set_vector c r)) (moved y (lines.set_vector (swapped c ws vs) r))) e (at z just)
    where
      at : (y : Result Map Trap) → WritesJust (c.masks k.number) y → MoveTwins (Some (under k r)) (moved y (lines.set_vector c r)) (moved y (lines.set_vector (swapped c ws vs) r))
      at (Ok x) just = put_twins (lines.set_vector c r x) k r x just refl
      at (Err t) just = refl

  unless_twins : (o : Option Reading) (f f1 : Option ℕ) → f ≡ f1 → (kind : TrapKind) (q : ℕ) (a b : Conf) → Twins o a b
      → MoveTwins o (moved (unless code h c f kind q a) (λ c1. c1)) (moved (unless code h (swapped c ws vs) f1 kind q b) (λ c1. c1))
  unless_twins o f f1 e kind q a b twins = subst (λ g. MoveTwins o (moved (unless code h c f kind q a) (λ c1. c1)) (moved (unless code h (swapped c ws vs) g kind q b) (λ c1. c1))) e (at f)
    where
      at : (g : Option ℕ) → MoveTwins o (moved (unless code h c g kind q a) (λ c1. c1)) (moved (unless code h (swapped c ws vs) g kind q b) (λ c1. c1))
      at None = twins
      at (Some p) = refl

  divided_twins : (k : Class) (o : BinOp) (r x y m : Register) (q : ℕ) → r.class ≡ k → Agree code h c ws vs (if is_vector r then under m x ∷ under m y ∷ [] else [])
      → MoveTwins (if is_vector r then Some (under m r) else None) (divided code h c k o r x y m q) (divided code h (swapped c ws vs) k o r x y m q)
  divided_twins class.Vector o r x y m q e agree = subst (λ w. MoveTwins w (divided code h c class.Vector o r x y m q) (divided code h (swapped c ws vs) class.Vector o r x y m q)) (sym (ap (λ z. if same_class z class.Vector then Some (under m r) else None) e)) at
    where
      both : Agree code h c ws vs (under m x ∷ under m y ∷ [])
      both = subst (Agree code h c ws vs) (ap (λ z. if same_class z class.Vector then under m x ∷ under m y ∷ [] else []) e) agree

      quotients : Map → Map → Result Map Trap
      quotients u v = unless code h c (lowest_failing (gang_width code.gang) (is_zero o (elem_of h r)) v) Divide q (map2 (op_bits o (elem_of h r)) u v)

      at : MoveTwins (Some (under m r)) (divided code h c class.Vector o r x y m q) (divided code h (swapped c ws vs) class.Vector o r x y m q)
      at =
          vector_twins m r (quotients (lines.lanes code h c m x) (lines.lanes code h c m y)) (quotients (lines.lanes code h (swapped c ws vs) m x) (lines.lanes code h (swapped c ws vs) m y))
          (ap (λ u. quotients u (lines.lanes code h c m y)) (first code h c ws vs (under m y ∷ []) m x both) ∙ ap (quotients (lines.lanes code h (swapped c ws vs) m x)) (second code h c ws vs [] (under m x) m y both))
          (unless_just code h c (c.masks m.number) (lowest_failing (gang_width code.gang) (is_zero o (elem_of h r)) (lines.lanes code h c m y)) Divide q (map2 (op_bits o (elem_of h r)) (lines.lanes code h c m x) (lines.lanes code h c m y)) (pair_just code h c m x y (op_bits o (elem_of h r))))
  divided_twins class.Scalar o r x y m q e agree = subst (λ w. MoveTwins w (divided code h c class.Scalar o r x y m q) (divided code h (swapped c ws vs) class.Scalar o r x y m q)) (sym (ap (λ z. if same_class z class.Vector then Some (under m r) else None) e)) (moved_twins None (unless code h c _ Divide q _) _ refl (lines.set_scalar c r) (lines.set_scalar (swapped c ws vs) r) (λ v. plain (lines.set_scalar c r v) refl))
  divided_twins class.Mask o r x y m q e agree = subst (λ w. MoveTwins w (divided code h c class.Mask o r x y m q) (divided code h (swapped c ws vs) class.Mask o r x y m q)) (sym (ap (λ z. if same_class z class.Vector then Some (under m r) else None) e)) (moved_twins None (unless code h c _ Divide q _) _ refl (lines.set_scalar c r) (lines.set_scalar (swapped c ws vs) r) (λ v. plain (lines.set_scalar c r v) refl))
  divided_twins class.Array o r x y m q e agree = subst (λ w. MoveTwins w (divided code h c class.Array o r x y m q) (divided code h (swapped c ws vs) class.Array o r x y m q)) (sym (ap (λ z. if same_class z class.Vector then Some (under m r) else None) e)) (moved_twins None (unless code h c _ Divide q _) _ refl (lines.set_scalar c r) (lines.set_scalar (swapped c ws vs) r) (λ v. plain (lines.set_scalar c r v) refl))

  -- a configuration that is made of lanes
  made : {X : Type 0} (go : X → Conf) → ((x : X) → (go x).vectors ≡ c.vectors) → (x y : X) → x ≡ y → Twins None (go x) (swapped (go y) ws vs)
  made go keeps x y e = subst (λ z. Twins None (go x) (swapped (go z) ws vs)) e (plain (go x) (keeps x))

  scattered_twins : (b : Bool) (a i y k : Register) → Agree code h c ws vs (under k i ∷ under k y ∷ []) → Twins None (lines.scattered code h c b a i y k) (lines.scattered code h (swapped c ws vs) b a i y k)
  scattered_twins true a i y k agree =
      made (λ f. lines.set_own c a f) (λ f. refl) (own_put (map1 (element I64) (lines.lanes code h c k i)) (c.vectors y.number) (c.own a.number)) (own_put (map1 (element I64) (lines.lanes code h (swapped c ws vs) k i)) (vs y.number) (c.own a.number))
      (own_same (element I64) (c.masks k.number) (c.vectors i.number) (c.vectors y.number) (vs y.number) (c.own a.number) (agree (under k y) (1, omega arith, refl))
      ∙ ap (λ m. own_put (map1 (element I64) m) (vs y.number) (c.own a.number)) (first code h c ws vs (under k y ∷ []) k i agree))
  scattered_twins false a i y k agree =
      made (λ f. lines.set_array c a f) (λ f. refl) (stores (lines.lanes code h c k i) (lines.lanes code h c k y)) (stores (lines.lanes code h (swapped c ws vs) k i) (lines.lanes code h (swapped c ws vs) k y))
      (ap (λ m. stores m (lines.lanes code h c k y)) (first code h c ws vs (under k y ∷ []) k i agree) ∙ ap (stores (lines.lanes code h (swapped c ws vs) k i)) (second code h c ws vs [] (under k i) k y agree))
    where
      stores : Map → Map → Lanes
      stores u v = scatter (gang_width code.gang) (map1 (element I64) u) v (c.arrays (c.home.named a.number))

  cleared_twins : (b : Bool) (a k : Register) → Twins None (lines.cleared code h c b a k) (lines.cleared code h (swapped c ws vs) b a k)
  cleared_twins true a k = plain (lines.cleared code h c true a k) refl
  cleared_twins false a k = plain (lines.cleared code h c false a k) refl

  pub act_twins : (i : Instr) → IsInner i → Agree code h c ws vs (reads h i) → MoveTwins (written i) (act code h c i) (act code h (swapped c ws vs) i)
  act_twins (instr.Scalar r i) inner agree = moved_twins None (lines.scalar_value code h c r i) (lines.scalar_value code h (swapped c ws vs) r i) (scalar_same code h c ws vs r i agree) (lines.set_scalar c r) (lines.set_scalar (swapped c ws vs) r) (λ v. plain (lines.set_scalar c r v) refl)
  act_twins (instr.Vector r i) inner agree = vector_twins (mask_of i) r (lines.vector_value code h c r i) (lines.vector_value code h (swapped c ws vs) r i) (vector_same code h c ws vs r i agree) (vector_just code h c r i)
  act_twins (instr.Mask r i) inner agree = made (lines.set_mask c r) (λ m. refl) (lines.mask_value code h c i) (lines.mask_value code h (swapped c ws vs) i) (mask_same code h c ws vs i agree)
  act_twins (instr.Divide o r x y k q) inner agree = divided_twins r.class (division_of o) r x y k q refl agree
  act_twins (instr.Store a i y k q) inner agree = unless_twins None _ _ refl Index q (lines.stored code h c a i y) (lines.stored code h (swapped c ws vs) a i y) (plain (lines.stored code h c a i y) refl)
  act_twins (instr.Scatter a i y k q) inner agree =
      unless_twins None (lowest_failing (gang_width code.gang) (lines.outside code h c a) (lines.lanes code h c k i)) (lowest_failing (gang_width code.gang) (lines.outside code h c a) (lines.lanes code h (swapped c ws vs) k i))
      (ap (lowest_failing (gang_width code.gang) (lines.outside code h c a)) (first code h c ws vs (under k y ∷ []) k i agree)) Index q (lines.scattered code h c (is_per_lane h a) a i y k) (lines.scattered code h (swapped c ws vs) (is_per_lane h a) a i y k)
      (scattered_twins (is_per_lane h a) a i y k agree)
  act_twins (instr.StoreRun a i y k q) inner agree =
      unless_twins None _ _ refl Index q (lines.run_stored code h c a i y k) (lines.run_stored code h (swapped c ws vs) a i y k)
      (made (λ m. lines.set_array c a (scatter (gang_width code.gang) (run_places (number I64 (c.scalars i.number)) (c.masks k.number)) m (c.arrays (c.home.named a.number)))) (λ m. refl) (lines.lanes code h c k y) (lines.lanes code h (swapped c ws vs) k y) (first code h c ws vs [] k y agree))
  act_twins (instr.PackedStore r a i y k q) inner agree =
      unless_twins None _ _ refl Index q (lines.packed_stored code h c r a (number I64 (c.scalars i.number)) y k) (lines.packed_stored code h (swapped c ws vs) r a (number I64 (c.scalars i.number)) y k)
      (made (λ m. lines.counted code h c r k (lines.set_array c a (scatter (gang_width code.gang) (packed_places (number I64 (c.scalars i.number)) (c.masks k.number)) m (c.arrays (c.home.named a.number))))) (λ m. refl) (lines.lanes code h c k y) (lines.lanes code h (swapped c ws vs) k y) (first code h c ws vs [] k y agree))
  act_twins (instr.PackedLoad r a i y k q) inner agree =
      unless_twins (Some (under k y)) _ _ refl Index q (lines.packed_loaded code h c r a (number I64 (c.scalars i.number)) y k) (lines.packed_loaded code h (swapped c ws vs) r a (number I64 (c.scalars i.number)) y k)
      (put_twins (lines.packed_loaded code h c r a (number I64 (c.scalars i.number)) y k) k y _ (just_on (c.masks k.number) _) refl)
  act_twins (instr.Clear a k) inner agree = cleared_twins (is_per_lane h a) a k
  act_twins (instr.Jump to) inner agree = plain (record c { pc = to }) refl
  act_twins (instr.JumpIf t x to) inner agree = plain (record c { pc = if lines.jumps code h c t x then to else c.pc + 1 }) refl
  act_twins (instr.Say t) inner agree = (refl, plain (lines.next c) refl)
  act_twins (instr.PrintScalar x) inner agree = (refl, plain (lines.next c) refl)
  act_twins (instr.PrintVector x k) inner agree = (ap (list_text (elem_of h x) (gang_width code.gang)) (first code h c ws vs [] k x agree), plain (lines.next c) refl)
  act_twins (instr.Fail x q) inner agree = unless_twins None _ _ refl Assert q (lines.next c) (lines.next (swapped c ws vs)) (plain (lines.next c) refl)
  act_twins (instr.Call k) inner agree = absurd inner
  act_twins (instr.Return x) inner agree = absurd inner

  pub written_or_not : (o : Option Reading) (v p : ℕ) → IsWritten (sets code c) o v p ⊎ (IsWritten (sets code c) o v p → ⊥)
  written_or_not None v p = inr (λ w. w)
  written_or_not (Some r) v p =
      elim (cases_eq v r.vector) [
        | inl e ↦ elim (cases_Bool (sets code c r.lanes p)) [ inl t ↦ inl (e, t) | inr f ↦ inr (λ w. let bad : true ≡ false = sym w.1 ∙ f in absurd cc) ]
        | inr ne ↦ inr (λ w. ne w.0)
      ]
