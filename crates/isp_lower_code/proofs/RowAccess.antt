-- Elements in a row, by the code of specs/RowAccess: where the test says that there is room, a run reads what each lane's own index means, and
-- else these indices do.
use Rattle.std.proofs.Common.{◌≡◌, ◌≢◌, ℕ, ◌+◌, ◌<◌, ◌≤◌, ◌^◌, length, Some, Bool, true, false, refl, sym, ap, ◌∙◌, subst, arith, ℤ, pos, mod-eq_of_lt}
use Rattle.std.specs.Prelude.{◌-◌, ◌-ℤ◌, ◌+ℤ◌, ◌≤ℤ◌, if◌then◌else◌, not, slice_get}
use Rattle.std.proofs.lemmas.Int.{ints}
use Rattle.isp_base.specs.Maps.{Lanes, Map, on, over, map1, map2}
use Rattle.isp_base.specs.Ranges.{IsValue}
use Rattle.isp_base.specs.Sets.{Mask}
use Rattle.isp_base.specs.Values.{compare_bits, compare_to, greatest, number, number_to, op_bits, wrap}
use Rattle.isp_base.specs.declared.operators.BinOp.TheVariants.{Add}
use Rattle.isp_base.specs.declared.operators.Compare.TheVariants.{LessOrEqual}
use Rattle.isp_base.specs.declared.trap.TrapKind.TheVariants.{Index}
use Rattle.isp_base.specs.declared.types.Elem.{Elem}
use Rattle.isp_base.specs.declared.types.Elem.TheVariants.{Bool as Truth, I8, U8, I16, U16, I32, U32, I64, U64}
use Rattle.isp_base.specs.declared.types.Rate.{Rate}
use Rattle.isp_base.specs.declared.types.Rate.TheVariants.{Uniform, Varying}
use Rattle.isp_base.specs.declared.types.Span.{Span}
use Rattle.isp_base.proofs.Converts.{no_truth}
use Rattle.isp_base.proofs.Elems.{number_below}
use Rattle.isp_base.proofs.Gangs.{few_width}
use Rattle.isp_base.proofs.Laws.{back_is, bits_are}
use Rattle.isp_base.proofs.Wraps.{wrap_to-lt}
use Rattle.isp_code.specs.Conf.{Conf, Go}
use Rattle.isp_code.specs.Lines.{act}
use Rattle.isp_code.specs.Registers.{elem_of}
use Rattle.isp_code.specs.declared.instr.Instr.{Instr}
use Rattle.isp_code.specs.declared.instr.Instr.TheVariants as instr
use Rattle.isp_code.specs.declared.instr.JumpTest.TheVariants as jump
use Rattle.isp_code.specs.declared.instr.Plain.TheVariants as plain
use Rattle.isp_code.specs.declared.instr.VectorInstr.TheVariants as vector
use Rattle.isp_typed.specs.Typed.{t_constant, ty_of}
use Rattle.isp_typed.specs.declared.variable.ArrayVariable.{ArrayVariable}
use Rattle.isp_meaning.specs.Outcomes.{Val, Gives, Fails, Stops, Done, bind, checked}
use Rattle.isp_meaning.specs.Payloads.{Payload, One, Each, converted, is_true, mapped}
use Rattle.isp_meaning.specs.Places.{Element, held, kept, outside}
use Rattle.isp_meaning.specs.State.{State}
use Rattle.isp_steady.specs.Known.{counted_on}
use Rattle.isp_steady.specs.Rows.{has_room}
use Rattle.isp_steady.proofs.Lemmas.{not_more, on_same, plus_lane, reach, room_in, widened}
use Rattle.isp_lower_code.specs.Fits.{InTable}
use Rattle.isp_lower_code.specs.Found.{is_whole}
use Rattle.isp_lower_code.specs.Instructions.{compare, compute, constant, convert, jump_on, read, read_by, read_run, splat, write, write_by, write_run}
use Rattle.isp_lower_code.specs.Layout.{mask_register, register}
use Rattle.isp_lower_code.specs.Rated.{Reaches}
use Rattle.isp_lower_code.specs.RowAccess.{IsRowType, RowFits, RowReads, RowWrites, lane_indices, last_start, row_asks, row_code, row_place, row_read, row_write}
use Rattle.isp_lower_code.specs.Runs.{Comes, DoneRuns, Enters, Runs}
use Rattle.isp_lower_code.specs.Setting.{AreAt, At, Holds, IsSettled, Setting, Spares, Stands, gang_of}
use Rattle.isp_lower_code.specs.Tables.{IsTyped}
use Rattle.isp_lower_code.proofs.Access.{as_whole}
use Rattle.isp_lower_code.proofs.Base.{comes_none, comes_on, put_other, put_same, spares_all, spares_less, spares_on, step_go}
use Rattle.isp_lower_code.proofs.Combine.{failed_less, set_comes, set_goes, set_masks, set_spares, set_stands, stopped_less}
use Rattle.isp_lower_code.proofs.Consecutive.{InReach, IndexHolds, run_lane}
use Rattle.isp_lower_code.proofs.ElementRuns.{element_runs}
use Rattle.isp_lower_code.proofs.Found.{whole_is}
use Rattle.isp_lower_code.proofs.Jumps.{jump_at, jump_comes, jumped}
use Rattle.isp_lower_code.proofs.Lines.{compare_line, compute_line, convert_line, set_at}
use Rattle.isp_lower_code.proofs.Rates.{filled_on, on_map1, on_map2}
use Rattle.isp_lower_code.proofs.Targets.{InSlot, InVariable, Leaves, Target, target}
use Rattle.isp_lower_code.proofs.Writes.{element_done}

-- ---- numbers

last_value : (t : Elem) → t ≢ Truth → IsValue t (pos (greatest t) -ℤ pos 31)
last_value Truth n = absurd (n refl)
last_value I8 n = (omega (arith, ints), omega (arith, ints))
last_value U8 n = (omega (arith, ints), omega (arith, ints))
last_value I16 n = (omega (arith, ints), omega (arith, ints))
last_value U16 n = (omega (arith, ints), omega (arith, ints))
last_value I32 n = (omega (arith, ints), omega (arith, ints))
last_value U32 n = (omega (arith, ints), omega (arith, ints))
last_value I64 n = (omega (arith, ints), omega (arith, ints))
last_value U64 n = (omega (arith, ints), omega (arith, ints))

-- what the register of the test's constant has
abbrev last_held : Elem → ℕ
last_held t = wrap t (number t (last_start t))

last_is : (t : Elem) → t ≢ Truth → number t (last_held t) ≡ pos (greatest t) -ℤ pos 31
last_is t n =
    let z = pos (greatest t) -ℤ pos 31 in
    let back : number t (wrap t z) ≡ z = back_is t z (last_value t n) in
    ap (λ y. number t (wrap t y)) back ∙ back

-- an index as code has it
whole_as : (b : Bool) (t : Elem) (z : ℤ) → is_whole t ≡ b → as_whole b t (wrap t z) ≡ converted t I64 (wrap t z)
whole_as false t z e = refl
whole_as true t z e = subst (λ u. wrap u z ≡ converted u I64 (wrap u z)) (sym (whole_is t e)) (sym (bits_are I64 (wrap I64 z) (wrap_to-lt 64 z)))

-- the number of a lane in another type
lane_as : (t : Elem) (p : ℕ) → t ≢ Truth → p < 32 → converted I32 t p ≡ wrap t (pos p)
lane_as t p n lt =
    let small : p < 2 ^ 32 = omega arith in
    let is : number I32 p ≡ pos p = ap (number_to 32 (2 ^ 31 - 1)) (mod-eq_of_lt small) ∙ number_below 32 (2 ^ 31 - 1) p (omega arith) in
    sym (no_truth t (number I32 p) n) ∙ ap (wrap t) is

not_bit : (d : Bool) → not (is_true (if d then 1 else 0)) ≡ not d
not_bit true = refl
not_bit false = refl

shared_reaches : (r : Rate) → Reaches r Varying
shared_reaches Uniform = tt
shared_reaches Varying = tt

-- ---- on the way through code that writes spare registers alone

module _ (w : Setting) (ready : IsSettled w) (m : ℕ) (s : State) (c0 : Conf) where
  record Way (c : Conf) (steps pc : ℕ) : Type 0 where
    pub comes : Comes w c0 steps c
    pub at : At w c pc
    pub stands : Stands w s c
    pub spares : Spares w m c0 c
    pub masks : (j : ℕ) → c.masks j ≡ c0.masks j

  set_way : (r : Rate) (e : Elem) (j : ℕ) (y : Payload) (i : Instr) (c : Conf) (steps pc : ℕ) → m ≤ j → Way c steps pc → slice_get w.routine.code pc ≡ Some i
      → act w.code w.routine c i ≡ Go (set_at r c (w.layout.spare r e j) y) → Way (set_at r c (w.layout.spare r e j) y) (steps + 1) (pc + 1)
  set_way r e j y i c steps pc le f has is =
      let d = w.layout.spare r e j in
      record {
        comes = comes_on w c0 c (set_at r c d y) steps 1 f.comes (set_comes w ready r c d y pc i f.at has is);
        at = set_goes w ready r c d y pc f.at;
        stands = set_stands w ready r c e j y s f.stands;
        spares = spares_on w m c0 c (set_at r c d y) f.spares (set_spares w ready r c e m j y le);
        masks = λ q. set_masks w ready r c d y q ∙ f.masks q;
      }

  jump_way : (x to : ℕ) (b : Bool) (c : Conf) (steps pc : ℕ) → Way c steps pc → slice_get w.routine.code pc ≡ Some (jump_on jump.False x to) → not (is_true (c.scalars x)) ≡ b
      → Way (jumped w ready c jump.False (register Uniform x) to) (steps + 1) (if b then to else pc + 1)
  jump_way x to b c steps pc f has e = record {
    comes = comes_on w c0 c (jumped w ready c jump.False (register Uniform x) to) steps 1 f.comes (jump_comes w ready c pc jump.False (register Uniform x) to f.at has);
    at = jump_at w ready c pc jump.False (register Uniform x) to b f.at e;
    stands = f.stands;
    spares = f.spares;
    masks = f.masks;
  }

  way_to : (c : Conf) (steps pc pc' : ℕ) → pc ≡ pc' → Way c steps pc → Way c steps pc'
  way_to c steps pc pc' e f = subst (Way c steps) e f

-- ---- a jump after what has a value, or is done

module _ (w : Setting) (ready : IsSettled w) where
  jumped_behind : (c : Conf) (pc to n q : ℕ) (a : Mask) (d : ℕ) (v : Val Payload) → slice_get w.routine.code pc ≡ Some (instr.Jump to) → Runs w c pc n (1 + q) (Holds Varying a d) v → Runs w c to n q (Holds Varying a d) v
  jumped_behind c pc to n q a d (Gives x s1) has r =
      let c2 : Conf = record r.conf { pc = to } in
      record {
        conf = c2;
        steps = r.steps + 1;
        comes = comes_on w c r.conf c2 r.steps 1 r.comes (step_go w r.conf pc (instr.Jump to) c2 ready r.at has refl);
        at = record { home_is = r.at.home_is; waiting_is = r.at.waiting_is; pc_is = refl };
        stands = r.stands;
        spares = r.spares;
        masks = r.masks;
        holds = r.holds;
        bound = omega (arith, r.bound);
      }
  jumped_behind c pc to n q a d (Fails t s1) has r = failed_less w ready c 1 q t s1 r
  jumped_behind c pc to n q a d (Stops s1) has r = stopped_less w ready w.turns c 1 q s1 r

  done_behind : (c : Conf) (pc to n q : ℕ) (v : Val Done) → slice_get w.routine.code pc ≡ Some (instr.Jump to) → DoneRuns w c pc n (1 + q) v → DoneRuns w c to n q v
  done_behind c pc to n q (Gives x s1) has r =
      let c2 : Conf = record r.conf { pc = to } in
      record {
        conf = c2;
        steps = r.steps + 1;
        comes = comes_on w c r.conf c2 r.steps 1 r.comes (step_go w r.conf pc (instr.Jump to) c2 ready r.at has refl);
        at = record { home_is = r.at.home_is; waiting_is = r.at.waiting_is; pc_is = refl };
        stands = r.stands;
        spares = r.spares;
        masks = r.masks;
        bound = omega (arith, r.bound);
      }
  done_behind c pc to n q (Fails t s1) has r = failed_less w ready c 1 q t s1 r
  done_behind c pc to n q (Stops s1) has r = stopped_less w ready w.turns c 1 q s1 r

  leaves_behind : (u : Target) (c : Conf) (pc to n q : ℕ) (a : Mask) (d : ℕ) (v : Val Payload) → slice_get w.routine.code pc ≡ Some (instr.Jump to) → Leaves w u d c pc n (1 + q) Varying a v → Leaves w u d c to n q Varying a v
  leaves_behind InSlot c pc to n q a d v has r = jumped_behind c pc to n q a d v has r
  leaves_behind (InVariable x) c pc to n q a d v has r = λ other. done_behind c pc to n q _ has (r other)

-- a vector that is written for the members of a set
got : (c : Conf) (d : ℕ) (a : Mask) (f : Lanes) → on a ((set_at Varying c d (Each (on a f))).vectors d) ≡ on a f
got c d a f = ap (on a) (put_same c.vectors d (over (on a f) (c.vectors d))) ∙ filled_on a f (c.vectors d)

-- ---- the code of an element in a row

module _ (w : Setting) (ready : IsSettled w) (t : Elem) (row : IsRowType t) (x k m pc : ℕ) (a : Mask) (s : State) (c0 : Conf)
    (away : (e : Elem) (j : ℕ) → m ≤ j → x ≢ w.layout.spare Uniform e j) (tx : IsTyped w Uniform x t) (table : InTable w (row_asks t m))
    (mask : c0.masks k ≡ a) (inside : (p : ℕ) → a p ≡ true → p < gang_of w) (start : Way w ready m s c0 c0 0 pc) where
  abbrev u : ℕ
  u = c0.scalars x

  abbrev spare : Rate → Elem → ℕ → ℕ
  spare r e j = w.layout.spare r e j

  -- the index of each member, as code has it
  abbrev indices : Payload
  indices = mapped (as_whole (is_whole t) t) (Each (on a (counted_on t u)))

  -- ---- the test

  abbrev c1 : Conf
  c1 = set_at Uniform c0 (spare Uniform t m) (One (last_held t))

  abbrev bit : ℕ
  bit = compare_bits LessOrEqual t u (last_held t)

  abbrev c2 : Conf
  c2 = set_at Uniform c1 (spare Uniform Truth m) (One bit)

  -- whether there is room
  abbrev has_space : Bool
  has_space = compare_to LessOrEqual (number t u) (number t (last_held t))

  way1 : slice_get w.routine.code pc ≡ Some (constant (spare Uniform t m) t (last_start t)) → Way w ready m s c0 c1 1 (pc + 1)
  way1 has =
      set_way w ready m s c0 Uniform t m (One (last_held t)) (constant (spare Uniform t m) t (last_start t)) c0 0 pc (omega arith) start has
      (ap (λ e. Go (set_at Uniform c0 (spare Uniform t m) (One (wrap e (number t (last_start t)))))) table.0)

  scalar1 : c1.scalars x ≡ u
  scalar1 = put_other c0.scalars (spare Uniform t m) (last_held t) x (away t m (omega arith))

  way2 : slice_get w.routine.code (pc + 1) ≡ Some (compare Uniform LessOrEqual (spare Uniform Truth m) x (spare Uniform t m) k) → Way w ready m s c0 c1 1 (pc + 1) → Way w ready m s c0 c2 2 (pc + 1 + 1)
  way2 has way =
      let put_here = λ (n : ℕ). Go (set_at Uniform c1 (spare Uniform Truth m) (One n)) in
      set_way w ready m s c0 Uniform Truth m (One bit) (compare Uniform LessOrEqual (spare Uniform Truth m) x (spare Uniform t m) k) c1 1 (pc + 1) (omega arith) way has
      (compare_line w.code w.routine c1 Uniform LessOrEqual (spare Uniform Truth m) x (spare Uniform t m) k
      ∙ ap (λ e. put_here (compare_bits LessOrEqual e (c1.scalars x) (c1.scalars (spare Uniform t m)))) tx
      ∙ ap (λ y. put_here (compare_bits LessOrEqual t y (c1.scalars (spare Uniform t m)))) scalar1
      ∙ ap (λ y. put_here (compare_bits LessOrEqual t u y)) (put_same c0.scalars (spare Uniform t m) (last_held t)))

  scalar2 : c2.scalars x ≡ u
  scalar2 = put_other c1.scalars (spare Uniform Truth m) bit x (away Truth m (omega arith)) ∙ scalar1

  -- after the jump
  abbrev c3 : ℕ → Conf
  c3 to = jumped w ready c2 jump.False (register Uniform (spare Uniform Truth m)) to

  way3 : (to : ℕ) (d : Bool) → has_space ≡ d → slice_get w.routine.code (pc + 1 + 1) ≡ Some (jump_on jump.False (spare Uniform Truth m) to) → Way w ready m s c0 c2 2 (pc + 1 + 1)
      → Way w ready m s c0 (c3 to) 3 (if not d then to else pc + 1 + 1 + 1)
  way3 to d e has way =
      jump_way w ready m s c0 (spare Uniform Truth m) to (not d) c2 2 (pc + 1 + 1) way has
      (ap (λ y. not (is_true y)) (put_same c1.scalars (spare Uniform Truth m) bit) ∙ not_bit has_space ∙ ap not e)

  -- ---- with room, the run begins with the scalar as int64

  abbrev c4 : ℕ → Conf
  c4 to = set_at Uniform (c3 to) (spare Uniform I64 m) (One (converted t I64 u))

  way4 : (to : ℕ) → slice_get w.routine.code (pc + 1 + 1 + 1) ≡ Some (convert Uniform (spare Uniform I64 m) x k) → Way w ready m s c0 (c3 to) 3 (pc + 1 + 1 + 1)
      → Way w ready m s c0 (c4 to) 4 (pc + 1 + 1 + 1 + 1)
  way4 to has way =
      let put_here = λ (n : ℕ). Go (set_at Uniform (c3 to) (spare Uniform I64 m) (One n)) in
      set_way w ready m s c0 Uniform I64 m (One (converted t I64 u)) (convert Uniform (spare Uniform I64 m) x k) (c3 to) 3 (pc + 1 + 1 + 1) (omega arith) way has
      (convert_line w.code w.routine (c3 to) Uniform (spare Uniform I64 m) x k
      ∙ ap (λ e. put_here (converted e (elem_of w.routine (register Uniform (spare Uniform I64 m))) (c2.scalars x))) tx
      ∙ ap (λ e. put_here (converted t e (c2.scalars x))) table.1.1.0
      ∙ ap (λ y. put_here (converted t I64 y)) scalar2)

  room : has_space ≡ true → has_room (gang_of w) t u ≡ true
  room e =
      let le = not_more (number t u) (number t (last_held t)) e in
      room_in (gang_of w) t u (few_width w.code.gang) (subst (λ z. number t u ≤ℤ z) (last_is t row.whole) le)

  -- each member has the index that code has for it
  as_code : (p : ℕ) → as_whole (is_whole t) t (counted_on t u p) ≡ converted t I64 (counted_on t u p)
  as_code p = whole_as (is_whole t) t (number t u +ℤ pos p) refl

  run_holds : (to : ℕ) (br : Rate) → br ≡ Uniform → has_space ≡ true → IndexHolds true br Varying a (spare Uniform I64 m) indices (c4 to).scalars (c4 to).vectors
  run_holds to br shared e =
      let first : (c4 to).scalars (spare Uniform I64 m) ≡ converted t I64 u = put_same (c3 to).scalars (spare Uniform I64 m) (converted t I64 u) in
      let same : map1 (as_whole (is_whole t) t) (on a (counted_on t u)) ≡ on a (run_lane (converted t I64 u)) = sym (on_map1 a (as_whole (is_whole t) t) (counted_on t u))
      ∙ on_same a (λ p. as_whole (is_whole t) t (counted_on t u p)) (run_lane (converted t I64 u))
      (λ p h. as_code p ∙ widened (gang_of w) t I64 u p (room e) (inside p h) (λ no. absurd (cc))) in
      record {
        holds = ap Each (same ∙ ap (λ y. on a (run_lane y)) (sym first));
        fits = (shared, refl, subst (InReach a) (sym first) (λ p h. reach (gang_of w) t u p (room e) (inside p h) row.narrow));
      }

  -- ---- without room, each lane has its own index

  abbrev d4 : ℕ → Conf
  d4 to = set_at Varying (c3 to) (spare Varying t m) (Each (on a (λ p. u)))

  abbrev d5 : ℕ → Conf
  d5 to = set_at Varying (d4 to) (spare Varying I32 (m + 1)) (Each (on a (λ p. p)))

  abbrev d6 : ℕ → Conf
  d6 to = set_at Varying (d5 to) (spare Varying t (m + 1)) (Each (on a (converted I32 t)))

  abbrev sums : Lanes
  sums p = op_bits Add t u (converted I32 t p)

  abbrev d7 : ℕ → Conf
  d7 to = set_at Varying (d6 to) (spare Varying t m) (Each (on a sums))

  abbrev d8 : ℕ → Conf
  d8 to = set_at Varying (d7 to) (spare Varying I64 m) (Each (on a (λ p. converted t I64 (sums p))))

  -- slot m is not the next one
  next : (e f : Elem) → spare Varying e m ≢ spare Varying f (m + 1)
  next e f = let ne : m ≢ m + 1 = omega arith in ready.apart.spares Varying e f m (m + 1) ne

  module _ (to at : ℕ) where
    dway4 : slice_get w.routine.code at ≡ Some (splat (spare Varying t m) x k) → Way w ready m s c0 (c3 to) 3 at → Way w ready m s c0 (d4 to) 4 (at + 1)
    dway4 has way =
        set_way w ready m s c0 Varying t m (Each (on a (λ p. u))) (splat (spare Varying t m) x k) (c3 to) 3 at (omega arith) way has
        (ap (λ b. Go (set_at Varying (c3 to) (spare Varying t m) (Each (on b (λ p. c2.scalars x))))) (way.masks k ∙ mask)
        ∙ ap (λ y. Go (set_at Varying (c3 to) (spare Varying t m) (Each (on a (λ p. y))))) scalar2)

    dway5 : slice_get w.routine.code (at + 1) ≡ Some (instr.Vector (register Varying (spare Varying I32 (m + 1))) (vector.Index (mask_register k))) → Way w ready m s c0 (d4 to) 4 (at + 1)
        → Way w ready m s c0 (d5 to) 5 (at + 1 + 1)
    dway5 has way =
        set_way w ready m s c0 Varying I32 (m + 1) (Each (on a (λ p. p))) (instr.Vector (register Varying (spare Varying I32 (m + 1))) (vector.Index (mask_register k))) (d4 to) 4 (at + 1) (omega arith) way has
        (ap (λ b. Go (set_at Varying (d4 to) (spare Varying I32 (m + 1)) (Each (on b (λ p. p))))) (way.masks k ∙ mask))

    dway6 : slice_get w.routine.code (at + 1 + 1) ≡ Some (convert Varying (spare Varying t (m + 1)) (spare Varying I32 (m + 1)) k) → Way w ready m s c0 (d5 to) 5 (at + 1 + 1)
        → Way w ready m s c0 (d6 to) 6 (at + 1 + 1 + 1)
    dway6 has way =
        let from = spare Varying I32 (m + 1) in
        let dest = spare Varying t (m + 1) in
        let put_here = λ (b : Map). Go (set_at Varying (d5 to) dest (Each b)) in
        set_way w ready m s c0 Varying t (m + 1) (Each (on a (converted I32 t))) (convert Varying dest from k) (d5 to) 5 (at + 1 + 1) (omega arith) way has
        (convert_line w.code w.routine (d5 to) Varying dest from k
        ∙ ap (λ e. put_here (map1 (converted e (elem_of w.routine (register Varying dest))) (on ((d5 to).masks k) ((d5 to).vectors from)))) table.1.1.1.1.1.1.0
        ∙ ap (λ e. put_here (map1 (converted I32 e) (on ((d5 to).masks k) ((d5 to).vectors from)))) table.1.1.1.1.1.1.1
        ∙ ap (λ b. put_here (map1 (converted I32 t) (on b ((d5 to).vectors from)))) (way.masks k ∙ mask)
        ∙ ap (λ b. put_here (map1 (converted I32 t) b)) (got (d4 to) from a (λ p. p))
        ∙ ap put_here (sym (on_map1 a (converted I32 t) (λ p. p))))

    dway7 : slice_get w.routine.code (at + 1 + 1 + 1) ≡ Some (compute Varying plain.Add (spare Varying t m) (spare Varying t m) (spare Varying t (m + 1)) k) → Way w ready m s c0 (d6 to) 6 (at + 1 + 1 + 1)
        → Way w ready m s c0 (d7 to) 7 (at + 1 + 1 + 1 + 1)
    dway7 has way =
        let v = spare Varying t m in
        let y = spare Varying t (m + 1) in
        let put_here = λ (b : Map). Go (set_at Varying (d6 to) v (Each b)) in
        let first : on a ((d6 to).vectors v) ≡ on a (λ p. u) = ap (on a) (put_other (d5 to).vectors y (over (on a (converted I32 t)) ((d5 to).vectors y)) v (next t t)
        ∙ put_other (d4 to).vectors (spare Varying I32 (m + 1)) (over (on a (λ p. p)) ((d4 to).vectors (spare Varying I32 (m + 1)))) v (next t I32))
        ∙ got (c3 to) v a (λ p. u) in
        set_way w ready m s c0 Varying t m (Each (on a sums)) (compute Varying plain.Add v v y k) (d6 to) 6 (at + 1 + 1 + 1) (omega arith) way has
        (compute_line w.code w.routine (d6 to) Varying plain.Add v v y k
        ∙ ap (λ e. put_here (map2 (op_bits Add e) (on ((d6 to).masks k) ((d6 to).vectors v)) (on ((d6 to).masks k) ((d6 to).vectors y)))) table.1.1.1.0
        ∙ ap (λ b. put_here (map2 (op_bits Add t) (on b ((d6 to).vectors v)) (on b ((d6 to).vectors y)))) (way.masks k ∙ mask)
        ∙ ap (λ b. put_here (map2 (op_bits Add t) b (on a ((d6 to).vectors y)))) first
        ∙ ap (λ b. put_here (map2 (op_bits Add t) (on a (λ p. u)) b)) (got (d5 to) y a (converted I32 t))
        ∙ ap put_here (sym (on_map2 a (op_bits Add t) (λ p. u) (converted I32 t))))

    dway8 : slice_get w.routine.code (at + 1 + 1 + 1 + 1) ≡ Some (convert Varying (spare Varying I64 m) (spare Varying t m) k) → Way w ready m s c0 (d7 to) 7 (at + 1 + 1 + 1 + 1)
        → Way w ready m s c0 (d8 to) 8 (at + 1 + 1 + 1 + 1 + 1)
    dway8 has way =
        let from = spare Varying t m in
        let dest = spare Varying I64 m in
        let put_here = λ (b : Map). Go (set_at Varying (d7 to) dest (Each b)) in
        set_way w ready m s c0 Varying I64 m (Each (on a (λ p. converted t I64 (sums p)))) (convert Varying dest from k) (d7 to) 7 (at + 1 + 1 + 1 + 1) (omega arith) way has
        (convert_line w.code w.routine (d7 to) Varying dest from k
        ∙ ap (λ e. put_here (map1 (converted e (elem_of w.routine (register Varying dest))) (on ((d7 to).masks k) ((d7 to).vectors from)))) table.1.1.1.0
        ∙ ap (λ e. put_here (map1 (converted t e) (on ((d7 to).masks k) ((d7 to).vectors from)))) table.1.1.1.1.0
        ∙ ap (λ b. put_here (map1 (converted t I64) (on b ((d7 to).vectors from)))) (way.masks k ∙ mask)
        ∙ ap (λ b. put_here (map1 (converted t I64) b)) (got (d6 to) from a sums)
        ∙ ap put_here (sym (on_map1 a (converted t I64) sums)))

    -- the sums are the indices
    lanes_hold : (br : Rate) → IndexHolds false br Varying a (spare Varying I64 m) indices (d8 to).scalars (d8 to).vectors
    lanes_hold br =
        let sum = λ (p : ℕ) (h : a p ≡ true). ap (op_bits Add t u)
        (lane_as t p row.whole (let few = few_width w.code.gang in let lt = inside p h in omega (arith, few, lt))) ∙ plus_lane t u p in
        let same : map1 (as_whole (is_whole t) t) (on a (counted_on t u)) ≡ on a (λ p. converted t I64 (sums p)) = sym (on_map1 a (as_whole (is_whole t) t) (counted_on t u))
        ∙ on_same a (λ p. as_whole (is_whole t) t (counted_on t u p)) (λ p. converted t I64 (sums p)) (λ p h. as_code p ∙ ap (converted t I64) (sym (sum p h))) in
        record { holds = ap Each (same ∙ sym (got (d7 to) (spare Varying I64 m) a (λ p. converted t I64 (sums p)))); fits = tt }

    -- the lanes of a register of no such slot are as they were
    vectors_stay : (v : ℕ) → ((e : Elem) (j : ℕ) → m ≤ j → v ≢ spare Varying e j) → (d8 to).vectors v ≡ c0.vectors v
    vectors_stay v apart =
        put_other (d7 to).vectors (spare Varying I64 m) (over (on a (λ p. converted t I64 (sums p))) ((d7 to).vectors (spare Varying I64 m))) v (apart I64 m (omega arith))
        ∙ put_other (d6 to).vectors (spare Varying t m) (over (on a sums) ((d6 to).vectors (spare Varying t m))) v (apart t m (omega arith))
        ∙ put_other (d5 to).vectors (spare Varying t (m + 1)) (over (on a (converted I32 t)) ((d5 to).vectors (spare Varying t (m + 1)))) v (apart t (m + 1) (omega arith))
        ∙ put_other (d4 to).vectors (spare Varying I32 (m + 1)) (over (on a (λ p. p)) ((d4 to).vectors (spare Varying I32 (m + 1)))) v (apart I32 (m + 1) (omega arith))
        ∙ put_other (c3 to).vectors (spare Varying t m) (over (on a (λ p. u)) ((c3 to).vectors (spare Varying t m))) v (apart t m (omega arith))

    dway : AreAt w.routine.code at (lane_indices w.layout t x k m) → Way w ready m s c0 (c3 to) 3 at → Way w ready m s c0 (d8 to) 8 (at + 1 + 1 + 1 + 1 + 1)
    dway has way =
        dway8 has.1.1.1.1.0 (dway7 has.1.1.1.0 (dway6 has.1.1.0 (dway5 has.1.0 (dway4 has.0 way))))

-- ---- an element is read, or written

module _ (w : Setting) (ready : IsSettled w) (y : ArrayVariable) (t : Elem) (x pc p k n m q : ℕ) (sp : Span) (a : Mask) (s : State) (c : Conf)
    (fits : RowFits w y t x n m) (place : slice_get w.code.places p ≡ Some sp) (b : Enters w pc k n a s c (12 + q)) where
  abbrev index : Payload
  index = Each (on a (counted_on t (c.scalars x)))

  abbrev begin : Way w ready m s c c 0 pc
  begin = record { comes = comes_none w c; at = b.at; stands = b.stands; spares = spares_all w m c; masks = λ j. refl }

  abbrev in_gang : (i : ℕ) → a i ≡ true → i < gang_of w
  in_gang i h = (b.inside i h).0

  abbrev space : Bool
  space = compare_to LessOrEqual (number t (c.scalars x)) (number t (last_held t))

  -- where an access by the lanes' own indices begins
  abbrev other : ℕ
  other = pc + 2 + 1 + 2 + 1

  abbrev begun : Conf
  begun = c4 w ready t fits.row x k m pc a s c fits.away fits.typed fits.table b.mask in_gang begin other

  abbrev listed : Conf
  listed = d8 w ready t fits.row x k m pc a s c fits.away fits.typed fits.table b.mask in_gang begin other

  module _ (run each : Instr) (has : AreAt w.routine.code pc (row_code w.layout t x run each pc k m)) where
    tested : (d : Bool) → space ≡ d → Way w ready m s c (c3 w ready t fits.row x k m pc a s c fits.away fits.typed fits.table b.mask in_gang begin other) 3 (if not d then other else pc + 1 + 1 + 1)
    tested d e =
        way3 w ready t fits.row x k m pc a s c fits.away fits.typed fits.table b.mask in_gang begin other d e has.1.1.0
        (way2 w ready t fits.row x k m pc a s c fits.away fits.typed fits.table b.mask in_gang begin has.1.0 (way1 w ready t fits.row x k m pc a s c fits.away fits.typed fits.table b.mask in_gang begin has.0))

    runs_way : space ≡ true → Way w ready m s c begun 4 (pc + 1 + 1 + 1 + 1)
    runs_way e = way4 w ready t fits.row x k m pc a s c fits.away fits.typed fits.table b.mask in_gang begin other has.1.1.1.0 (tested true e)

    lists_way : space ≡ false → Way w ready m s c listed 8 (pc + 1 + 1 + 1 + 1 + 1 + 1 + 1 + 1 + 1 + 1 + 1)
    lists_way e =
        let there : other ≡ pc + 1 + 1 + 1 + 1 + 1 + 1 = omega arith in
        let rest = has.1.1.1.1.1.1 in
        dway w ready t fits.row x k m pc a s c fits.away fits.typed fits.table b.mask in_gang begin other (pc + 1 + 1 + 1 + 1 + 1 + 1) (rest.0, (rest.1.0, (rest.1.1.0, (rest.1.1.1.0, (rest.1.1.1.1.0, tt)))))
        (way_to w ready m s c _ 3 other (pc + 1 + 1 + 1 + 1 + 1 + 1) there (tested false e))

  run_index : space ≡ true → IndexHolds true y.ty.rate Varying a (w.layout.spare Uniform I64 m) (mapped (as_whole (is_whole t) t) index) begun.scalars begun.vectors
  run_index e = run_holds w ready t fits.row x k m pc a s c fits.away fits.typed fits.table b.mask in_gang begin other y.ty.rate fits.shared e

  list_index : IndexHolds false y.ty.rate Varying a (w.layout.spare Varying I64 m) (mapped (as_whole (is_whole t) t) index) listed.scalars listed.vectors
  list_index = lanes_hold w ready t fits.row x k m pc a s c fits.away fits.typed fits.table b.mask in_gang begin other pc y.ty.rate

  end : pc + 1 + 1 + 1 + 1 + 1 + 1 + 1 + 1 + 1 + 1 + 1 + 1 ≡ pc + 12
  end = omega arith

  past : other + 6 ≡ pc + 12
  past = omega arith

  -- ---- read

  module _ (g : Target) (e : Elem) (has : AreAt w.routine.code pc (row_read w.layout t x (target w.layout g Varying e n) (w.layout.array y.number) p pc k m)) where
    abbrev dest : ℕ
    dest = target w.layout g Varying e n

    abbrev by_run : Instr
    by_run = read_run dest (w.layout.array y.number) (w.layout.spare Uniform I64 m) k p

    abbrev by_lanes : Instr
    by_lanes = read Varying dest (w.layout.array y.number) (w.layout.spare Varying I64 m) k p

    abbrev means : Val Payload
    means = checked (outside (gang_of w) w.frame (Element y t index) a) Index sp s (held (gang_of w) w.frame (Element y t index) a s)

    read_on : (z : Bool) (j pc1 pc2 steps : ℕ) (c2 : Conf) → Way w ready m s c c2 steps pc1 → pc1 + 1 ≡ pc2
        → slice_get w.routine.code pc1 ≡ Some (read_by z Varying dest (w.layout.array y.number) j k p) → (r : ℕ) → steps + 1 + r ≤ 12 + q
        → IndexHolds z y.ty.rate Varying a j (mapped (as_whole (is_whole t) t) index) c2.scalars c2.vectors → Leaves w g dest c pc2 n r Varying a means
    read_on z j pc1 pc2 steps c2 way next at r few holds =
        let used = b.used in
        element_runs w ready g z j y (t_constant (record { elem = t; bits = 0 }) sp) (ty_of Varying e) sp c c2 steps pc1 pc2 k n p r a s index (ready.arrays y fits.held)
        (shared_reaches y.ty.rate) way.comes way.at next at place way.stands (spares_less w n m c c2 fits.free way.spares) (λ i h. way.masks i) (way.masks k ∙ b.mask) b.some b.inside
        (omega (arith, used, few)) holds

    reads : (d : Bool) → space ≡ d → Leaves w g dest c (pc + 12) n q Varying a means
    reads true f =
        subst (λ z. Leaves w g dest c z n q Varying a means) past
        (leaves_behind w ready g c (pc + 1 + 1 + 1 + 1 + 1) (other + 6) n q a dest means has.1.1.1.1.1.0
        (read_on true (w.layout.spare Uniform I64 m) (pc + 1 + 1 + 1 + 1) (pc + 1 + 1 + 1 + 1 + 1) 4 begun (runs_way by_run by_lanes has f) refl has.1.1.1.1.0 (1 + q) (omega arith) (run_index f)))
    reads false f =
        read_on false (w.layout.spare Varying I64 m) (pc + 1 + 1 + 1 + 1 + 1 + 1 + 1 + 1 + 1 + 1 + 1) (pc + 12) 8 listed (lists_way by_run by_lanes has f) end has.1.1.1.1.1.1.1.1.1.1.1.0 q
        (omega arith) list_index

  -- ---- written

  module _ (v : ℕ) (z : Payload) (apart : (e : Elem) (j : ℕ) → m ≤ j → v ≢ w.layout.spare Varying e j) (value : Holds Varying a v z c)
      (has : AreAt w.routine.code pc (row_write w.layout t x v (w.layout.array y.number) p pc k m)) where
    abbrev to_run : Instr
    to_run = write_run (w.layout.array y.number) (w.layout.spare Uniform I64 m) v k p

    abbrev to_lanes : Instr
    to_lanes = write Varying (w.layout.array y.number) (w.layout.spare Varying I64 m) v k p

    abbrev does : Val Done
    does = bind (checked (outside (gang_of w) w.frame (Element y t index) a) Index sp s z) (λ g s1. Gives tt (kept (gang_of w) w.frame (Element y t index) a g s1))

    write_on : (d : Bool) (j pc1 pc2 steps : ℕ) (c2 : Conf) → Way w ready m s c c2 steps pc1 → pc1 + 1 ≡ pc2
        → slice_get w.routine.code pc1 ≡ Some (write_by d Varying (w.layout.array y.number) j v k p) → (r : ℕ) → steps + 1 + r ≤ 12 + q
        → IndexHolds d y.ty.rate Varying a j (mapped (as_whole (is_whole t) t) index) c2.scalars c2.vectors → c2.vectors v ≡ c.vectors v → DoneRuns w c pc2 n r does
    write_on d j pc1 pc2 steps c2 way next at r few holds still =
        let used = b.used in
        let fy = ready.arrays y fits.held in
        element_done w ready d Varying y.ty.rate y t index z a s c c2 steps pc1 pc2 k j v n r p sp fy.is (shared_reaches y.ty.rate) fy.few b.some b.inside way.comes way.at next at place
        way.stands (spares_less w n m c c2 fits.free way.spares) (λ i h. way.masks i) (way.masks k ∙ b.mask) (omega (arith, used, few)) holds
        (value ∙ ap (λ g. Each (on a g)) (sym still))

    writes : (d : Bool) → space ≡ d → DoneRuns w c (pc + 12) n q does
    writes true f =
        subst (λ g. DoneRuns w c g n q does) past
        (done_behind w ready c (pc + 1 + 1 + 1 + 1 + 1) (other + 6) n q does has.1.1.1.1.1.0
        (write_on true (w.layout.spare Uniform I64 m) (pc + 1 + 1 + 1 + 1) (pc + 1 + 1 + 1 + 1 + 1) 4 begun (runs_way to_run to_lanes has f) refl has.1.1.1.1.0 (1 + q) (omega arith) (run_index f) refl))
    writes false f =
        write_on false (w.layout.spare Varying I64 m) (pc + 1 + 1 + 1 + 1 + 1 + 1 + 1 + 1 + 1 + 1 + 1) (pc + 12) 8 listed (lists_way to_run to_lanes has f) end has.1.1.1.1.1.1.1.1.1.1.1.0 q
        (omega arith) list_index (vectors_stay w ready t fits.row x k m pc a s c fits.away fits.typed fits.table b.mask in_gang begin other pc v apart)

-- into a spare register, or a variable
pub row_leaves : (w : Setting) → IsSettled w → (g : Target) (y : ArrayVariable) (t e : Elem) (x pc p k n m q : ℕ) (sp : Span) (a : Mask) (s : State) (c : Conf) → RowFits w y t x n m
    → AreAt w.routine.code pc (row_read w.layout t x (target w.layout g Varying e n) (w.layout.array y.number) p pc k m)
    → slice_get w.code.places p ≡ Some sp → Enters w pc k n a s c (12 + q)
    → Leaves w g (target w.layout g Varying e n) c (pc + length (row_read w.layout t x (target w.layout g Varying e n) (w.layout.array y.number) p pc k m)) n q Varying a
    (checked (outside (gang_of w) w.frame (row_place y t (c.scalars x) a) a) Index sp s (held (gang_of w) w.frame (row_place y t (c.scalars x) a) a s))
row_leaves w ready g y t e x pc p k n m q sp a s c fits has place b =
    reads w ready y t x pc p k n m q sp a s c fits place b g e has (compare_to LessOrEqual (number t (c.scalars x)) (number t (last_held t))) refl

pub row_reads : RowReads
row_reads w ready y t e x pc p k n m q sp a s c fits has place b = row_leaves w ready InSlot y t e x pc p k n m q sp a s c fits has place b

pub row_writes : RowWrites
row_writes w ready y t x v pc p k n m q sp a z s c fits apart value has place b =
    writes w ready y t x pc p k n m q sp a s c fits place b v z apart value has (compare_to LessOrEqual (number t (c.scalars x)) (number t (last_held t))) refl
