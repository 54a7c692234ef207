-- An instruction that is no call and no return goes on in its function, at the next instruction or where it jumps, and leaves the
-- registers that it does not write.
use Rattle.std.proofs.Common.{◌≡◌, ℕ, ℤ, ◌+◌, Option, Some, None, Bool, true, false, not, ◌&&◌, ◌⊎◌, inl, inr, Result, Ok, Err, refl, ap, ◌∙◌, subst}
use Rattle.std.specs.Prelude.{if◌then◌else◌, nat_eq}
use Rattle.isp_base.specs.Maps.{Map, over}
use Rattle.isp_base.specs.declared.trap.Trap.{Trap}
use Rattle.isp_base.specs.declared.trap.TrapKind.{TrapKind}
use Rattle.isp_code.specs.Conf.{Conf, Move, Go, Say, Fail, Over}
use Rattle.isp_code.specs.Lines as lines
use Rattle.isp_code.specs.Lines.{act, moved, unless, divided, division_of, scattered, cleared, jumps, mask_value, packed_stored, packed_loaded, set_mask, set_scalar, set_vector}
use Rattle.isp_code.specs.Listing.{Listing, Routine}
use Rattle.isp_code.specs.Registers.{is_per_lane, same_class}
use Rattle.isp_code.specs.declared.instr.Division.{Division}
use Rattle.isp_code.specs.declared.instr.Instr.{Instr}
use Rattle.isp_code.specs.declared.instr.Instr.TheVariants as instr
use Rattle.isp_code.specs.declared.instr.JumpTest.{JumpTest}
use Rattle.isp_code.specs.declared.instr.MaskInstr.{MaskInstr}
use Rattle.isp_code.specs.declared.register.Class.{Class}
use Rattle.isp_code.specs.declared.register.Class.TheVariants as class
use Rattle.isp_code.specs.declared.register.Register.{Register}
use Rattle.isp_constants.specs.declared.fact.Fact.{Fact}
use Rattle.isp_constants.specs.reader.Passing.{enters, is_in, writes_scalar, writes_vector, writes_mask}
use Rattle.isp_constants.proofs.Lists.{put_kept}

-- it neither calls nor gives back
abbrev pub IsInner : Instr → Type 0
IsInner (instr.Call k) = ⊥
IsInner (instr.Return x) = ⊥
IsInner i = Unit {0}

module _ (code : Listing) (h : Routine) (c : Conf) where
  -- registers as they were, but for those that an instruction writes
  pub record Keeps (i : Instr) (c1 : Conf) : Type 0 where
    pub scalars : (r : ℕ) → writes_scalar i r ≡ false → c1.scalars r ≡ c.scalars r
    pub vectors : (r : ℕ) → writes_vector i r ≡ false → c1.vectors r ≡ c.vectors r
    pub masks : (r : ℕ) → writes_mask i r ≡ false → c1.masks r ≡ c.masks r

  -- in the same call
  pub record GoesOn (i : Instr) (c1 : Conf) : Type 0 where
    pub home_is : c1.home ≡ c.home
    pub waiting_is : c1.waiting ≡ c.waiting
    pub goes : (c1.pc ≡ c.pc + 1) ⊎ ((x : Fact) → is_in x c1.pc ≡ true → enters i x ≡ true)
    pub keeps : Keeps i c1

  abbrev pub MovesOn : Instr → Move → Type 0
  MovesOn i (Go c1) = GoesOn i c1
  MovesOn i (Say text c1) = GoesOn i c1
  MovesOn i (Fail t) = Unit {0}
  MovesOn i (Over x) = Unit {0}

  moved_on : {A : Type 0} (i : Instr) (r : Result A Trap) (go : A → Conf) → ((x : A) → GoesOn i (go x)) → MovesOn i (moved r go)
  moved_on i (Ok x) go each = each x
  moved_on i (Err t) go each = tt

  unless_on : (i : Instr) (o : Option ℕ) (kind : TrapKind) (q : ℕ) (c1 : Conf) → GoesOn i c1 → MovesOn i (moved (unless code h c o kind q c1) (λ c1. c1))
  unless_on i None kind q c1 goes = goes
  unless_on i (Some p) kind q c1 goes = tt

  on_next : (i : Instr) (c1 : Conf) → c1.home ≡ c.home → c1.waiting ≡ c.waiting → c1.pc ≡ c.pc + 1 → Keeps i c1 → GoesOn i c1
  on_next i c1 e f g keeps = record { home_is = e; waiting_is = f; goes = inl g; keeps = keeps }

  all_kept : (i : Instr) (c1 : Conf) → c1.scalars ≡ c.scalars → c1.vectors ≡ c.vectors → c1.masks ≡ c.masks → Keeps i c1
  all_kept i c1 s v m = record { scalars = λ r e. ap (λ f. f r) s; vectors = λ r e. ap (λ f. f r) v; masks = λ r e. ap (λ f. f r) m }

  -- on to the next instruction, with the registers as they are
  plainly : (i : Instr) (c1 : Conf) → c1.home ≡ c.home → c1.waiting ≡ c.waiting → c1.pc ≡ c.pc + 1 → c1.scalars ≡ c.scalars → c1.vectors ≡ c.vectors → c1.masks ≡ c.masks → GoesOn i c1
  plainly i c1 e f g s v m = on_next i c1 e f g (all_kept i c1 s v m)

  -- with one scalar written, or one vector
  scalar_on : (i : Instr) (d : Register) → ((r : ℕ) → writes_scalar i r ≡ false → nat_eq r d.number ≡ false) → (b : ℕ) → GoesOn i (set_scalar c d b)
  scalar_on i d other b = on_next i (set_scalar c d b) refl refl refl (record { scalars = λ r e. put_kept c.scalars d.number b r (other r e); vectors = λ r e. refl; masks = λ r e. refl })

  pub vector_on : (i : Instr) (d : Register) → ((r : ℕ) → writes_vector i r ≡ false → nat_eq r d.number ≡ false) → (x : Map) → GoesOn i (set_vector c d x)
  vector_on i d other x = on_next i (set_vector c d x) refl refl refl (record { scalars = λ r e. refl; vectors = λ r e. put_kept c.vectors d.number (over x (c.vectors d.number)) r (other r e); masks = λ r e. refl })

  masks_on : (d : Register) (i : MaskInstr) → GoesOn (instr.Mask d i) (set_mask c d (mask_value code h c i))
  masks_on d i = on_next (instr.Mask d i) (set_mask c d (mask_value code h c i)) refl refl refl (record { scalars = λ r e. refl; vectors = λ r e. refl; masks = λ r e. put_kept c.masks d.number (mask_value code h c i) r e })

  -- a division writes a register of its class
  module _ (o : Division) (d x y k : Register) (q : ℕ) where
    scalar_divided : (z : Class) → d.class ≡ z → same_class z class.Vector ≡ false → (r : ℕ) → writes_scalar (instr.Divide o d x y k q) r ≡ false → nat_eq r d.number ≡ false
    scalar_divided z e other r f = let is : same_class d.class class.Vector ≡ false = ap (λ u. same_class u class.Vector) e ∙ other in subst (λ b. (not b && nat_eq r d.number) ≡ false) is f

    vector_divided : d.class ≡ class.Vector → (r : ℕ) → writes_vector (instr.Divide o d x y k q) r ≡ false → nat_eq r d.number ≡ false
    vector_divided e r f = subst (λ z. (same_class z class.Vector && nat_eq r d.number) ≡ false) e f

    divided_on : (z : Class) → d.class ≡ z → MovesOn (instr.Divide o d x y k q) (divided code h c z (division_of o) d x y k q)
    divided_on class.Vector e = moved_on (instr.Divide o d x y k q) (unless code h c _ _ q _) (set_vector c d) (vector_on (instr.Divide o d x y k q) d (vector_divided e))
    divided_on class.Scalar e = moved_on (instr.Divide o d x y k q) (unless code h c _ _ q _) (set_scalar c d) (scalar_on (instr.Divide o d x y k q) d (scalar_divided class.Scalar e refl))
    divided_on class.Mask e = moved_on (instr.Divide o d x y k q) (unless code h c _ _ q _) (set_scalar c d) (scalar_on (instr.Divide o d x y k q) d (scalar_divided class.Mask e refl))
    divided_on class.Array e = moved_on (instr.Divide o d x y k q) (unless code h c _ _ q _) (set_scalar c d) (scalar_on (instr.Divide o d x y k q) d (scalar_divided class.Array e refl))

  scattered_on : (b : Bool) (i : Instr) (a j y k : Register) → GoesOn i (scattered code h c b a j y k)
  scattered_on true i a j y k = plainly i (scattered code h c true a j y k) refl refl refl refl refl refl
  scattered_on false i a j y k = plainly i (scattered code h c false a j y k) refl refl refl refl refl refl

  cleared_on : (b : Bool) (i : Instr) (a k : Register) → GoesOn i (cleared code h c b a k)
  cleared_on true i a k = plainly i (cleared code h c true a k) refl refl refl refl refl refl
  cleared_on false i a k = plainly i (cleared code h c false a k) refl refl refl refl refl refl

  jump_on : (t : JumpTest) (x : Register) (to : ℕ) (b : Bool) → GoesOn (instr.JumpIf t x to) (record c { pc = if b then to else c.pc + 1 })
  jump_on t x to true = record { home_is = refl; waiting_is = refl; goes = inr (λ f e. e); keeps = all_kept (instr.JumpIf t x to) (record c { pc = to }) refl refl refl }
  jump_on t x to false = plainly (instr.JumpIf t x to) (record c { pc = c.pc + 1 }) refl refl refl refl refl refl

  packed_store_on : (d a i y k : Register) (q : ℕ) (z : ℤ) → GoesOn (instr.PackedStore d a i y k q) (packed_stored code h c d a z y k)
  packed_store_on d a i y k q z =
      on_next (instr.PackedStore d a i y k q) (packed_stored code h c d a z y k) refl refl refl (record { scalars = λ r e. put_kept c.scalars d.number _ r e; vectors = λ r e. refl; masks = λ r e. refl })

  packed_load_on : (d a i y k : Register) (q : ℕ) (z : ℤ) → GoesOn (instr.PackedLoad d a i y k q) (packed_loaded code h c d a z y k)
  packed_load_on d a i y k q z =
      on_next (instr.PackedLoad d a i y k q) (packed_loaded code h c d a z y k) refl refl refl (record { scalars = λ r e. put_kept c.scalars d.number _ r e; vectors = λ r e. put_kept c.vectors y.number _ r e; masks = λ r e. refl })

  pub moves_on : (i : Instr) → IsInner i → MovesOn i (act code h c i)
  moves_on (instr.Scalar d i) inner = moved_on (instr.Scalar d i) (lines.scalar_value code h c d i) (set_scalar c d) (scalar_on (instr.Scalar d i) d (λ r e. e))
  moves_on (instr.Vector d i) inner = moved_on (instr.Vector d i) (lines.vector_value code h c d i) (set_vector c d) (vector_on (instr.Vector d i) d (λ r e. e))
  moves_on (instr.Mask d i) inner = masks_on d i
  moves_on (instr.Divide o d x y k q) inner = divided_on o d x y k q d.class refl
  moves_on (instr.Store a i y k q) inner = unless_on (instr.Store a i y k q) _ _ q _ (plainly (instr.Store a i y k q) (lines.stored code h c a i y) refl refl refl refl refl refl)
  moves_on (instr.Scatter a i y k q) inner = unless_on (instr.Scatter a i y k q) _ _ q _ (scattered_on (is_per_lane h a) (instr.Scatter a i y k q) a i y k)
  moves_on (instr.StoreRun a i y k q) inner = unless_on (instr.StoreRun a i y k q) _ _ q _ (plainly (instr.StoreRun a i y k q) (lines.run_stored code h c a i y k) refl refl refl refl refl refl)
  moves_on (instr.PackedStore d a i y k q) inner = unless_on (instr.PackedStore d a i y k q) _ _ q _ (packed_store_on d a i y k q _)
  moves_on (instr.PackedLoad d a i y k q) inner = unless_on (instr.PackedLoad d a i y k q) _ _ q _ (packed_load_on d a i y k q _)
  moves_on (instr.Clear a k) inner = cleared_on (is_per_lane h a) (instr.Clear a k) a k
  moves_on (instr.Jump to) inner = record { home_is = refl; waiting_is = refl; goes = inr (λ f e. e); keeps = all_kept (instr.Jump to) (record c { pc = to }) refl refl refl }
  moves_on (instr.JumpIf t x to) inner = jump_on t x to (jumps code h c t x)
  moves_on (instr.Say t) inner = plainly (instr.Say t) (lines.next c) refl refl refl refl refl refl
  moves_on (instr.PrintScalar x) inner = plainly (instr.PrintScalar x) (lines.next c) refl refl refl refl refl refl
  moves_on (instr.PrintVector x k) inner = plainly (instr.PrintVector x k) (lines.next c) refl refl refl refl refl refl
  moves_on (instr.Fail x q) inner = unless_on (instr.Fail x q) _ _ q _ (plainly (instr.Fail x q) (lines.next c) refl refl refl refl refl refl)
  moves_on (instr.Call k) inner = absurd inner
  moves_on (instr.Return x) inner = absurd inner
