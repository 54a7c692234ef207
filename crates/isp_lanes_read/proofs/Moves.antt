-- An instruction that is no call and no return goes on in its function, at one of its edges, with the masks that it writes.
use Rattle.std.proofs.Common.{◌≡◌, ℕ, ◌+◌, Option, Some, None, Bool, true, false, Result, Ok, Err, refl, sym, ap, subst, arith, Contains}
use Rattle.std.proofs.lemmas.Bool.{not-true, eqb-false}
use Rattle.std.specs.Prelude.{if◌then◌else◌}
use Rattle.isp_base.specs.Sets.{everyone, any}
use Rattle.isp_base.specs.Types.{gang_width}
use Rattle.isp_base.specs.declared.operators.BinOp.{BinOp}
use Rattle.isp_base.specs.declared.trap.Trap.{Trap}
use Rattle.isp_base.specs.declared.trap.TrapKind.{TrapKind}
use Rattle.isp_code.specs.Conf.{Conf, Move, Go, Say, Fail, Over}
use Rattle.isp_code.specs.Lines as lines
use Rattle.isp_code.specs.Lines.{act, moved, unless, divided, division_of, scattered, cleared, jumps, mask_value, set_mask}
use Rattle.isp_code.specs.Listing.{Listing, Routine}
use Rattle.isp_code.specs.Registers.{is_per_lane}
use Rattle.isp_code.specs.declared.instr.Instr.{Instr}
use Rattle.isp_code.specs.declared.instr.Instr.TheVariants as instr
use Rattle.isp_code.specs.declared.instr.JumpTest.{JumpTest}
use Rattle.isp_code.specs.declared.instr.JumpTest.TheVariants as jump
use Rattle.isp_code.specs.declared.instr.MaskInstr.{MaskInstr}
use Rattle.isp_code.specs.declared.register.Class.{Class}
use Rattle.isp_code.specs.declared.register.Class.TheVariants as class
use Rattle.isp_code.specs.declared.register.Register.{Register}
use Rattle.isp_lanes_read.specs.Lanes.{IsWithin, sets}
use Rattle.isp_lanes_read.specs.declared.table.LaneSet.{LaneSet}
use Rattle.isp_lanes_read.specs.declared.table.LaneSet.TheVariants as lanes
use Rattle.isp_lanes_read.specs.reader.Known.{same_set, set_of, upper, lower}
use Rattle.isp_lanes_read.specs.reader.Passing.{Edge, edges, if_taken, if_passed, mask_written}
use Rattle.isp_lanes_read.proofs.Lists.{put_same, put_other}
use Rattle.isp_lanes_read.proofs.Knowing.{IsSoBesides}
use Rattle.isp_lanes_read.proofs.Follows.{IsUpper, IsLower, Changes}
use Rattle.isp_lanes_read.proofs.Masks.{above, beneath, empty_so, full_so}

-- it neither calls nor gives back
abbrev pub IsInner : Instr → Type 0
IsInner (instr.Call k) = ⊥
IsInner (instr.Return x) = ⊥
IsInner i = Unit {0}

module _ (code : Listing) (h : Routine) (c : Conf) where
  -- at one of these edges, in the same call, with these masks written
  pub record GoesOn (i : Instr) (c1 : Conf) : Type 0 where
    pub edge : Edge
    pub has : Contains (edges c.pc i) edge
    pub home_is : c1.home ≡ c.home
    pub waiting_is : c1.waiting ≡ c.waiting
    pub pc_is : c1.pc ≡ edge.to
    pub so : IsSoBesides (sets code c) edge.more
    pub changes : Changes (sets code c) (sets code c1) (mask_written i)

  abbrev pub MovesOn : Instr → Move → Type 0
  MovesOn i (Go c1) = GoesOn i c1
  MovesOn i (Say text c1) = GoesOn i c1
  MovesOn i (Fail t) = Unit {0}
  MovesOn i (Over x) = Unit {0}

  moved_on : {A : Type 0} (i : Instr) (r : Result A Trap) (go : A → Conf) → ((x : A) → GoesOn i (go x)) → MovesOn i (moved r go)
  moved_on i (Ok x) go each = each x
  moved_on i (Err t) go each = tt

  unless_on : (i : Instr) (o : Option ℕ) (kind : TrapKind) (q : ℕ) (c1 : Conf) → GoesOn i c1 → MovesOn i (moved (unless code h c o kind q c1) (λ c1. c1))
  unless_on i None kind q c1 goes = goes
  unless_on i (Some p) kind q c1 goes = tt

  -- on to the next instruction, with the masks as they are
  abbrev Plainly : Instr → Type 0
  Plainly i = (c1 : Conf) → c1.home ≡ c.home → c1.waiting ≡ c.waiting → c1.pc ≡ c.pc + 1 → c1.masks ≡ c.masks → GoesOn i c1

  unchanged : (c1 : Conf) → c1.waiting ≡ c.waiting → c1.masks ≡ c.masks → (a : LaneSet) → sets code c1 a ≡ sets code c a
  unchanged c1 w m (lanes.Mask k) = ap (λ f. f k) m
  unchanged c1 w m lanes.Gang = refl
  unchanged c1 w m lanes.Call = ap (λ ws. sets code (record c { waiting = ws }) lanes.Call) w
  unchanged c1 w m lanes.Nobody = refl

  plainly : (i : Instr) → Contains (edges c.pc i) (record { to = c.pc + 1; more = None }) → mask_written i ≡ None → Plainly i
  plainly i has none c1 e f g m =
      record {
        edge = record { to = c.pc + 1; more = None };
        has = has;
        home_is = e;
        waiting_is = f;
        pc_is = g;
        so = tt;
        changes = subst (Changes (sets code c) (sets code c1)) (sym none) (unchanged c1 f m);
      }

  masks_on : (d : Register) (i : MaskInstr) → GoesOn (instr.Mask d i) (set_mask c d (mask_value code h c i))
  masks_on d i =
      record {
        edge = record { to = c.pc + 1; more = None };
        has = (0, omega arith, refl);
        home_is = refl;
        waiting_is = refl;
        pc_is = refl;
        so = tt;
        changes = record {
          above = subst (λ m. IsUpper (sets code c) m (upper i)) (sym new) (above code h c i);
          beneath = subst (λ m. IsLower (sets code c) m (lower i)) (sym new) (beneath code h c i);
          others = others;
        };
      }
    where
      c1 : Conf
      c1 = set_mask c d (mask_value code h c i)

      new : sets code c1 (set_of d) ≡ mask_value code h c i
      new = put_same c.masks d.number (mask_value code h c i)

      others : (a : LaneSet) → same_set a (set_of d) ≡ false → sets code c1 a ≡ sets code c a
      others (lanes.Mask k) e = put_other c.masks d.number (mask_value code h c i) k (eqb-false k d.number e)
      others lanes.Gang e = refl
      others lanes.Call e = refl
      others lanes.Nobody e = refl

  divided_on : (k : Class) (o : BinOp) (i : Instr) (d x y m : Register) (q : ℕ) → Plainly i → MovesOn i (divided code h c k o d x y m q)
  divided_on class.Vector o i d x y m q on = moved_on i (unless code h c _ _ q _) (lines.set_vector c d) (λ v. on (lines.set_vector c d v) refl refl refl refl)
  divided_on class.Scalar o i d x y m q on = moved_on i (unless code h c _ _ q _) (lines.set_scalar c d) (λ v. on (lines.set_scalar c d v) refl refl refl refl)
  divided_on class.Mask o i d x y m q on = moved_on i (unless code h c _ _ q _) (lines.set_scalar c d) (λ v. on (lines.set_scalar c d v) refl refl refl refl)
  divided_on class.Array o i d x y m q on = moved_on i (unless code h c _ _ q _) (lines.set_scalar c d) (λ v. on (lines.set_scalar c d v) refl refl refl refl)

  scattered_on : (b : Bool) (i : Instr) (a j y k : Register) → Plainly i → GoesOn i (scattered code h c b a j y k)
  scattered_on true i a j y k on = on (scattered code h c true a j y k) refl refl refl refl
  scattered_on false i a j y k on = on (scattered code h c false a j y k) refl refl refl refl

  cleared_on : (b : Bool) (i : Instr) (a k : Register) → Plainly i → GoesOn i (cleared code h c b a k)
  cleared_on true i a k on = on (cleared code h c true a k) refl refl refl refl
  cleared_on false i a k on = on (cleared code h c false a k) refl refl refl refl

  module _ (inside : (k : ℕ) → IsWithin (c.masks k) (everyone (gang_width code.gang))) where
    empty_mask : (x : Register) → any (gang_width code.gang) (c.masks x.number) ≡ false → IsWithin (c.masks x.number) (λ p. false)
    empty_mask x e p j = absurd (empty_so (gang_width code.gang) (c.masks x.number) (inside x.number) e p j)

    taken_so : (t : JumpTest) (x : Register) → jumps code h c t x ≡ true → IsSoBesides (sets code c) (if_taken t x)
    taken_so jump.Off x e = empty_mask x (not-true (any (gang_width code.gang) (c.masks x.number)) e)
    taken_so jump.All x e = full_so (gang_width code.gang) (c.masks x.number) e
    taken_so jump.On x e = tt
    taken_so jump.False x e = tt
    taken_so jump.True x e = tt

    passed_so : (t : JumpTest) (x : Register) → jumps code h c t x ≡ false → IsSoBesides (sets code c) (if_passed t x)
    passed_so jump.On x e = empty_mask x e
    passed_so jump.Off x e = tt
    passed_so jump.All x e = tt
    passed_so jump.False x e = tt
    passed_so jump.True x e = tt

    jump_on : (t : JumpTest) (x : Register) (to : ℕ) (b : Bool) → jumps code h c t x ≡ b → GoesOn (instr.JumpIf t x to) (record c { pc = if b then to else c.pc + 1 })
    jump_on t x to true e =
        record { edge = record { to = to; more = if_taken t x }; has = (0, omega arith, refl); home_is = refl; waiting_is = refl; pc_is = refl; so = taken_so t x e; changes = λ a. refl }
    jump_on t x to false e =
        record { edge = record { to = c.pc + 1; more = if_passed t x }; has = (1, omega arith, refl); home_is = refl; waiting_is = refl; pc_is = refl; so = passed_so t x e; changes = λ a. refl }

    pub moves_on : (i : Instr) → IsInner i → MovesOn i (act code h c i)
    moves_on (instr.Scalar d i) inner = moved_on (instr.Scalar d i) (lines.scalar_value code h c d i) (lines.set_scalar c d) (λ v. plainly (instr.Scalar d i) (0, omega arith, refl) refl (lines.set_scalar c d v) refl refl refl refl)
    moves_on (instr.Vector d i) inner = moved_on (instr.Vector d i) (lines.vector_value code h c d i) (lines.set_vector c d) (λ v. plainly (instr.Vector d i) (0, omega arith, refl) refl (lines.set_vector c d v) refl refl refl refl)
    moves_on (instr.Mask d i) inner = masks_on d i
    moves_on (instr.Divide o d x y k q) inner = divided_on d.class (division_of o) (instr.Divide o d x y k q) d x y k q (plainly (instr.Divide o d x y k q) (0, omega arith, refl) refl)
    moves_on (instr.Store a i y k q) inner = unless_on (instr.Store a i y k q) _ _ q _ (plainly (instr.Store a i y k q) (0, omega arith, refl) refl (lines.stored code h c a i y) refl refl refl refl)
    moves_on (instr.Scatter a i y k q) inner = unless_on (instr.Scatter a i y k q) _ _ q _ (scattered_on (is_per_lane h a) (instr.Scatter a i y k q) a i y k (plainly (instr.Scatter a i y k q) (0, omega arith, refl) refl))
    moves_on (instr.StoreRun a i y k q) inner = unless_on (instr.StoreRun a i y k q) _ _ q _ (plainly (instr.StoreRun a i y k q) (0, omega arith, refl) refl (lines.run_stored code h c a i y k) refl refl refl refl)
    moves_on (instr.PackedStore d a i y k q) inner = unless_on (instr.PackedStore d a i y k q) _ _ q _ (plainly (instr.PackedStore d a i y k q) (0, omega arith, refl) refl (lines.packed_stored code h c d a _ y k) refl refl refl refl)
    moves_on (instr.PackedLoad d a i y k q) inner = unless_on (instr.PackedLoad d a i y k q) _ _ q _ (plainly (instr.PackedLoad d a i y k q) (0, omega arith, refl) refl (lines.packed_loaded code h c d a _ y k) refl refl refl refl)
    moves_on (instr.Clear a k) inner = cleared_on (is_per_lane h a) (instr.Clear a k) a k (plainly (instr.Clear a k) (0, omega arith, refl) refl)
    moves_on (instr.Jump to) inner = record { edge = record { to = to; more = None }; has = (0, omega arith, refl); home_is = refl; waiting_is = refl; pc_is = refl; so = tt; changes = λ a. refl }
    moves_on (instr.JumpIf t x to) inner = jump_on t x to (jumps code h c t x) refl
    moves_on (instr.Say t) inner = plainly (instr.Say t) (0, omega arith, refl) refl (lines.next c) refl refl refl refl
    moves_on (instr.PrintScalar x) inner = plainly (instr.PrintScalar x) (0, omega arith, refl) refl (lines.next c) refl refl refl refl
    moves_on (instr.PrintVector x k) inner = plainly (instr.PrintVector x k) (0, omega arith, refl) refl (lines.next c) refl refl refl refl
    moves_on (instr.Fail x q) inner = unless_on (instr.Fail x q) _ _ q _ (plainly (instr.Fail x q) (0, omega arith, refl) refl (lines.next c) refl refl refl refl)
    moves_on (instr.Call k) inner = absurd inner
    moves_on (instr.Return x) inner = absurd inner
