-- What the instructions of a rate do, in the words of the meaning.
use Rattle.std.proofs.Common.{◌≡◌, ℕ, Option, Some, None, Bool, true, false, refl, sym, ap, ◌∙◌}
use Rattle.std.specs.Prelude.{if◌then◌else◌, ◌&&◌, ◌==◌, ◌%◌, ◌^◌, [], ◌∷◌, slice_get}
use Rattle.std.proofs.lemmas.Option.{get_or_from_slice_get}
use Rattle.isp_base.specs.Access.{is_zero}
use Rattle.isp_base.specs.Sets.{Mask, nobody, any}
use Rattle.isp_base.specs.Maps.{on, map2}
use Rattle.isp_base.specs.Types.{gang_width}
use Rattle.isp_base.specs.Unary.{unary_bits}
use Rattle.isp_base.specs.Values.{width, divides, op_bits, compare_bits}
use Rattle.isp_base.specs.declared.operators.BinOp.{BinOp}
use Rattle.isp_base.specs.declared.operators.BinOp.TheVariants as op
use Rattle.isp_base.specs.declared.operators.Compare.{Compare}
use Rattle.isp_base.specs.declared.operators.UnaryOp.{UnaryOp}
use Rattle.isp_base.specs.declared.trap.TrapKind.{TrapKind}
use Rattle.isp_base.specs.declared.trap.TrapKind.TheVariants.{Divide}
use Rattle.isp_base.specs.declared.types.Elem.{Elem}
use Rattle.isp_base.specs.declared.types.Rate.{Rate}
use Rattle.isp_base.specs.declared.types.Rate.TheVariants.{Uniform, Varying}
use Rattle.isp_base.specs.declared.types.Span.{Span}
use Rattle.isp_code.specs.Calls.{place_at}
use Rattle.isp_code.specs.Conf.{Conf, Go}
use Rattle.isp_code.specs.Lines.{act, moved, set_scalar, set_vector, unless, failing, plain_of, division_of}
use Rattle.isp_code.specs.Listing.{Listing, Routine}
use Rattle.isp_code.specs.Registers.{elem_of}
use Rattle.isp_code.specs.declared.instr.Division.{Division}
use Rattle.isp_code.specs.declared.instr.Division.TheVariants as division
use Rattle.isp_code.specs.declared.instr.Instr.TheVariants as instr
use Rattle.isp_code.specs.declared.instr.Plain.{Plain}
use Rattle.isp_code.specs.declared.instr.Plain.TheVariants as plain
use Rattle.isp_meaning.specs.Payloads.{Payload, sole, spread, mapped, joined, converted, offender, if_fails}
use Rattle.isp_lower_code.specs.Layout.{register, mask_register}
use Rattle.isp_lower_code.specs.Setting.{AreAt, held_at}
use Rattle.isp_lower_code.specs.Instructions.{copy, convert, unary, compare, compute, operate, operate_places}
use Rattle.isp_lower_code.proofs.Base.{moved_by}
use Rattle.isp_lower_code.proofs.Rates.{none_fails, some_lowest}

-- a register of a rate gets a value
abbrev pub set_at : Rate → Conf → ℕ → Payload → Conf
set_at Uniform c d x = set_scalar c (register Uniform d) (sole x)
set_at Varying c d x = set_vector c (register Varying d) (spread nobody x)

-- what a register holds for the lanes of mask k
abbrev pub value_at : Rate → Conf → ℕ → ℕ → Payload
value_at r c k x = held_at r c.scalars c.vectors (c.masks k) x

module _ (code : Listing) (h : Routine) (c : Conf) where
  abbrev pub gang : ℕ
  gang = gang_width code.gang

  pub unless_is : {A : Type 0} (o : Option ℕ) (kind : TrapKind) (q : ℕ) (x : A) (go : A → Conf) → moved (unless code h c o kind q x) go ≡ moved_by o kind (place_at code q) (go x)
  unless_is None kind q x go = refl
  unless_is (Some p) kind q x go = refl

  -- a scalar fails for the lowest lane of a mask that is not empty
  pub failing_is : (b : Bool) (k : ℕ) (f : ℕ → Bool) → any gang (c.masks k) ≡ true → failing code h c b (mask_register k) ≡ if_fails gang f (c.masks k) b
  failing_is true k f some = some_lowest gang (c.masks k) some
  failing_is false k f some = refl

  pub copy_line : (r : Rate) (d x k : ℕ) → act code h c (copy r d x k) ≡ Go (set_at r c d (value_at r c k x))
  copy_line Uniform d x k = refl
  copy_line Varying d x k = refl

  pub convert_line : (r : Rate) (d x k : ℕ) → act code h c (convert r d x k) ≡ Go (set_at r c d (mapped (converted (elem_of h (register r x)) (elem_of h (register r d))) (value_at r c k x)))
  convert_line Uniform d x k = refl
  convert_line Varying d x k = refl

  pub unary_line : (r : Rate) (o : UnaryOp) (d x k : ℕ) → act code h c (unary r o d x k) ≡ Go (set_at r c d (mapped (unary_bits o (elem_of h (register r d))) (value_at r c k x)))
  unary_line Uniform o d x k = refl
  unary_line Varying o d x k = refl

  pub compare_line : (r : Rate) (o : Compare) (d x y k : ℕ) → act code h c (compare r o d x y k) ≡ Go (set_at r c d (joined (compare_bits o (elem_of h (register r x))) (c.masks k) (value_at r c k x) (value_at r c k y)))
  compare_line Uniform o d x y k = refl
  compare_line Varying o d x y k = refl

  pub compute_line : (r : Rate) (o : Plain) (d x y k : ℕ) → act code h c (compute r o d x y k) ≡ Go (set_at r c d (joined (op_bits (plain_of o) (elem_of h (register r d))) (c.masks k) (value_at r c k x) (value_at r c k y)))
  compute_line Uniform o d x y k = refl
  compute_line Varying o d x y k = refl

  -- who divides by zero
  abbrev pub zero_lane : Rate → BinOp → Elem → ℕ → ℕ → Option ℕ
  zero_lane r o t y k = offender gang (is_zero o t) (c.masks k) (value_at r c k y)

  abbrev pub OperateLine : Rate → BinOp → ℕ → ℕ → ℕ → ℕ → ℕ → Type 0
  OperateLine r o d x y k q =
      act code h c (operate r o d x y k q) ≡ moved_by (zero_lane r o (elem_of h (register r d)) y k) Divide (place_at code q) (set_at r c d (joined (op_bits o (elem_of h (register r d))) (c.masks k) (value_at r c k x) (value_at r c k y)))

  -- an operator that never fails
  pub never_fails : (r : Rate) (o : BinOp) (t : Elem) (y k : ℕ) → ((b : ℕ) → is_zero o t b ≡ false) → zero_lane r o t y k ≡ None
  never_fails Uniform o t y k never = ap (if_fails gang (is_zero o t) (c.masks k)) (never (c.scalars y))
  never_fails Varying o t y k never = none_fails gang (is_zero o t) (on (c.masks k) (c.vectors y)) never

  plain_line : (r : Rate) (o : Plain) (d x y k q : ℕ) → ((b : ℕ) → is_zero (plain_of o) (elem_of h (register r d)) b ≡ false)
      → act code h c (compute r o d x y k) ≡ moved_by (zero_lane r (plain_of o) (elem_of h (register r d)) y k) Divide (place_at code q)
      (set_at r c d (joined (op_bits (plain_of o) (elem_of h (register r d))) (c.masks k) (value_at r c k x) (value_at r c k y)))
  plain_line r o d x y k q never =
      compute_line r o d x y k
      ∙ ap (λ z. moved_by z Divide (place_at code q) (set_at r c d (joined (op_bits (plain_of o) (elem_of h (register r d))) (c.masks k) (value_at r c k x) (value_at r c k y)))) (sym (never_fails r (plain_of o) (elem_of h (register r d)) y k never))

  divide_line : (r : Rate) (o : Division) (d x y k q : ℕ) → any gang (c.masks k) ≡ true
      → act code h c (instr.Divide o (register r d) (register r x) (register r y) (mask_register k) q)
      ≡ moved_by (zero_lane r (division_of o) (elem_of h (register r d)) y k) Divide (place_at code q)
      (set_at r c d (joined (op_bits (division_of o) (elem_of h (register r d))) (c.masks k) (value_at r c k x) (value_at r c k y)))
  divide_line Uniform o d x y k q some =
      unless_is (failing code h c (is_zero (division_of o) (elem_of h (register Uniform d)) (c.scalars y)) (mask_register k)) Divide q
      (op_bits (division_of o) (elem_of h (register Uniform d)) (c.scalars x) (c.scalars y)) (set_scalar c (register Uniform d))
      ∙ ap (λ z. moved_by z Divide (place_at code q) (set_scalar c (register Uniform d)
      (op_bits (division_of o) (elem_of h (register Uniform d)) (c.scalars x) (c.scalars y))))
      (failing_is (is_zero (division_of o) (elem_of h (register Uniform d)) (c.scalars y)) k
      (is_zero (division_of o) (elem_of h (register Uniform d))) some)
  divide_line Varying o d x y k q some =
      unless_is (zero_lane Varying (division_of o) (elem_of h (register Varying d)) y k) Divide q
      (map2 (op_bits (division_of o) (elem_of h (register Varying d))) (on (c.masks k) (c.vectors x)) (on (c.masks k) (c.vectors y)))
      (set_vector c (register Varying d))

  pub operate_line : (r : Rate) (o : BinOp) (d x y k q : ℕ) → any gang (c.masks k) ≡ true → OperateLine r o d x y k q
  operate_line r op.Add d x y k q some = plain_line r plain.Add d x y k q (λ b. refl)
  operate_line r op.Sub d x y k q some = plain_line r plain.Sub d x y k q (λ b. refl)
  operate_line r op.Mul d x y k q some = plain_line r plain.Mul d x y k q (λ b. refl)
  operate_line r op.Div d x y k q some = divide_line r division.Div d x y k q some
  operate_line r op.Rem d x y k q some = divide_line r division.Rem d x y k q some
  operate_line r op.And d x y k q some = plain_line r plain.And d x y k q (λ b. refl)
  operate_line r op.Or d x y k q some = plain_line r plain.Or d x y k q (λ b. refl)
  operate_line r op.Xor d x y k q some = plain_line r plain.Xor d x y k q (λ b. refl)
  operate_line r op.Shl d x y k q some = plain_line r plain.Shl d x y k q (λ b. refl)
  operate_line r op.Shr d x y k q some = plain_line r plain.Shr d x y k q (λ b. refl)
  operate_line r op.Min d x y k q some = plain_line r plain.Min d x y k q (λ b. refl)
  operate_line r op.Max d x y k q some = plain_line r plain.Max d x y k q (λ b. refl)

  -- the same with the place of the operator, in the types that the registers have
  pub operate_at : (r : Rate) (o : BinOp) (t : Elem) (d x y k q : ℕ) (a : Mask) (sp : Span) → any gang a ≡ true → c.masks k ≡ a
      → elem_of h (register r d) ≡ t → AreAt code.places q (operate_places o sp)
      → act code h c (operate r o d x y k q) ≡ moved_by (offender gang (is_zero o t) a (held_at r c.scalars c.vectors a y)) Divide sp
      (set_at r c d (joined (op_bits o t) a (held_at r c.scalars c.vectors a x) (held_at r c.scalars c.vectors a y)))
  operate_at r o t d x y k q a sp some em et places =
      operate_line r o d x y k q (ap (any gang) em ∙ some)
      ∙ ap (λ u. moved_by (offender gang (is_zero o u) (c.masks k) (value_at r c k y)) Divide (place_at code q) (set_at r c d (joined (op_bits o u) (c.masks k) (value_at r c k x) (value_at r c k y)))) et
      ∙ ap (λ b. moved_by (offender gang (is_zero o t) b (held_at r c.scalars c.vectors b y)) Divide (place_at code q) (set_at r c d (joined (op_bits o t) b (held_at r c.scalars c.vectors b x) (held_at r c.scalars c.vectors b y)))) em
      ∙ named (divides o) refl places
    where
      there : Conf
      there = set_at r c d (joined (op_bits o t) a (held_at r c.scalars c.vectors a x) (held_at r c.scalars c.vectors a y))

      who : Option ℕ
      who = offender gang (is_zero o t) a (held_at r c.scalars c.vectors a y)

      named : (b : Bool) → divides o ≡ b → AreAt code.places q (if b then sp ∷ [] else []) → moved_by who Divide (place_at code q) there ≡ moved_by who Divide sp there
      named true e has = ap (λ z. moved_by who Divide z there) (get_or_from_slice_get code.places q sp _ has.0)
      named false e has =
          let none : who ≡ None = ap (λ m. offender gang (is_zero o t) m (held_at r c.scalars c.vectors m y)) (sym em) ∙ never_fails r o t y k (λ z. ap (λ b. b && (z % 2 ^ width t) == 0) e) in
          ap (λ z. moved_by z Divide (place_at code q) there) none ∙ sym (ap (λ z. moved_by z Divide sp there) none)

  -- an access, whose place is known
  pub place_named : (q : ℕ) (sp : Span) → slice_get code.places q ≡ Some sp → place_at code q ≡ sp
  place_named q sp has = get_or_from_slice_get code.places q sp _ has
