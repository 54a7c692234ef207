-- Each kind of instruction has its operands, where its registers are there and of their types.
use Rattle.std.proofs.Common.{◌≡◌, ◌≢◌, ℕ, ◌+◌, ◌<◌, ◌≤◌, List, [], ◌∷◌, ◌++◌, length, Bool, true, false, refl, sym, ap, ◌∙◌, subst, arith}
use Rattle.isp_base.specs.Values.{number}
use Rattle.isp_base.specs.declared.operators.BinOp.{BinOp}
use Rattle.isp_base.specs.declared.operators.BinOp.TheVariants as op
use Rattle.isp_base.specs.declared.operators.Compare.{Compare}
use Rattle.isp_base.specs.declared.operators.UnaryOp.{UnaryOp}
use Rattle.isp_base.specs.declared.operators.UnaryOp.TheVariants.{Negate, Invert, Absolute, Not}
use Rattle.isp_base.specs.declared.types.Elem.{Elem}
use Rattle.isp_base.specs.declared.types.Elem.TheVariants.{Bool as Truth, I8, U8, I16, U16, I32, U32, I64, U64}
use Rattle.isp_base.specs.declared.types.Rate.{Rate}
use Rattle.isp_base.specs.declared.types.Rate.TheVariants.{Uniform, Varying}
use Rattle.isp_base.specs.declared.types.Span.{Span}
use Rattle.isp_code.specs.Fine.{has_value, is_word32, IsThere, IsWanted}
use Rattle.isp_code.specs.Listing.{Listing, Routine}
use Rattle.isp_code.specs.Operands.{unary_want}
use Rattle.isp_code.specs.Registers.{elem_of, is_per_lane}
use Rattle.isp_code.specs.declared.instr.Division.{Division}
use Rattle.isp_code.specs.declared.instr.Division.TheVariants as division
use Rattle.isp_code.specs.declared.instr.Instr.{Instr}
use Rattle.isp_code.specs.declared.instr.Instr.TheVariants as instr
use Rattle.isp_code.specs.declared.instr.Plain.{Plain}
use Rattle.isp_code.specs.declared.instr.Plain.TheVariants as plain
use Rattle.isp_code.specs.declared.instr.VectorInstr.TheVariants as vector
use Rattle.isp_code.specs.declared.register.Class.TheVariants as class
use Rattle.isp_typed.specs.Fine.{WorksIn}
use Rattle.isp_typed.specs.declared.variable.Logic.{Logic}
use Rattle.isp_typed.specs.declared.variable.Logic.TheVariants.{And, Or}
use Rattle.isp_lower_code.specs.Layout.{register, mask_register, array_register}
use Rattle.isp_lower_code.specs.Instructions.{copy, convert, unary, compare, compute, operate, operate_places, packed_store, packed_load, read, write, constant, splat, select, where_so, the_others, jump_off, jump_on, read_by, write_by}
use Rattle.isp_lower_code.specs.Pieces.{decided, needing, move, move_code}
use Rattle.isp_lower_code.specs.Sound.{IsSound, AreSound, IsRegister, IsShared}
use Rattle.isp_lower_code.proofs.Numbers.{number_fits}
use Rattle.isp_lower_code.proofs.Parts.{IsNumber}
use Rattle.isp_lower_code.proofs.Trees.{IsWord}
use Rattle.isp_lower_code.specs.Rated.{Reaches}

-- ---- types

pub no_truth : (t : Elem) → IsNumber t → t ≢ Truth
no_truth Truth is e = is
no_truth I8 is e = cc
no_truth U8 is e = cc
no_truth I16 is e = cc
no_truth U16 is e = cc
no_truth I32 is e = cc
no_truth U32 is e = cc
no_truth I64 is e = cc
no_truth U64 is e = cc

module _ (code : Listing) (h : Routine) where
  -- what an operator of one operand wants
  wanted : (o : UnaryOp) (t u : Elem) → WorksIn o t → u ≡ t → IsWanted h (unary_want o) u
  wanted Negate t u is e = λ z. let f : WorksIn Negate Truth = subst (WorksIn Negate) (sym e ∙ z) is in cc
  wanted Invert t u is e = λ z. let f : WorksIn Invert Truth = subst (WorksIn Invert) (sym e ∙ z) is in cc
  wanted Absolute t u is e = λ z. let f : WorksIn Absolute Truth = subst (WorksIn Absolute) (sym e ∙ z) is in cc
  wanted Not t u is e = e ∙ is

  pub copy_sound : (r : Rate) (t : Elem) (d x k : ℕ) → IsRegister h r d t → IsRegister h r x t → k < h.masks → IsSound code h (copy r d x k)
  copy_sound Uniform t d x k hd hx lk = (((hd.0, tt), ((hx.0, hx.1 ∙ sym hd.1), tt)), tt)
  copy_sound Varying t d x k hd hx lk = (((hd.0, tt), ((hx.0, hx.1 ∙ sym hd.1), ((refl, lk), tt))), tt)

  pub convert_sound : (r : Rate) (t u : Elem) (d x k : ℕ) → IsRegister h r d t → IsRegister h r x u → k < h.masks → IsSound code h (convert r d x k)
  convert_sound Uniform t u d x k hd hx lk = (((hd.0, tt), ((hx.0, tt), tt)), tt)
  convert_sound Varying t u d x k hd hx lk = (((hd.0, tt), ((hx.0, tt), ((refl, lk), tt))), tt)

  pub unary_sound : (r : Rate) (o : UnaryOp) (t : Elem) (d x k : ℕ) → WorksIn o t → IsRegister h r d t → IsRegister h r x t → k < h.masks → IsSound code h (unary r o d x k)
  unary_sound Uniform o t d x k is hd hx lk = (((hd.0, wanted o t _ is hd.1), ((hx.0, hx.1 ∙ sym hd.1), tt)), tt)
  unary_sound Varying o t d x k is hd hx lk = (((hd.0, wanted o t _ is hd.1), ((hx.0, hx.1 ∙ sym hd.1), ((refl, lk), tt))), tt)

  pub compare_sound : (r : Rate) (o : Compare) (t : Elem) (d x y k : ℕ) → IsRegister h r d Truth → IsRegister h r x t → IsRegister h r y t → k < h.masks → IsSound code h (compare r o d x y k)
  compare_sound Uniform o t d x y k hd hx hy lk = (((hd.0, hd.1), ((hx.0, tt), ((hy.0, hy.1 ∙ sym hx.1), tt))), tt)
  compare_sound Varying o t d x y k hd hx hy lk = (((hd.0, hd.1), ((hx.0, tt), ((hy.0, hy.1 ∙ sym hx.1), ((refl, lk), tt)))), tt)

  pub compute_sound : (r : Rate) (o : Plain) (t : Elem) (d x y k : ℕ) → IsNumber t → IsRegister h r d t → IsRegister h r x t → IsRegister h r y t → k < h.masks → IsSound code h (compute r o d x y k)
  compute_sound Uniform o t d x y k is hd hx hy lk =
      (((hd.0, λ e. no_truth t is (sym hd.1 ∙ e)), ((hx.0, hx.1 ∙ sym hd.1), ((hy.0, hy.1 ∙ sym hd.1), tt))), tt)
  compute_sound Varying o t d x y k is hd hx hy lk =
      (((hd.0, λ e. no_truth t is (sym hd.1 ∙ e)), ((hx.0, hx.1 ∙ sym hd.1), ((hy.0, hy.1 ∙ sym hd.1), ((refl, lk), tt)))), tt)

  divide_sound : (r : Rate) (o : Division) (t : Elem) (d x y k p : ℕ) → IsNumber t → IsRegister h r d t → IsRegister h r x t → IsRegister h r y t
      → k < h.masks → p < length code.places → IsSound code h (instr.Divide o (register r d) (register r x) (register r y) (mask_register k) p)
  divide_sound Uniform o t d x y k p is hd hx hy lk lp =
      (((hd.0, λ e. no_truth t is (sym hd.1 ∙ e)), ((hx.0, hx.1 ∙ sym hd.1), ((hy.0, hy.1 ∙ sym hd.1), ((refl, lk), (lp, tt))))), tt)
  divide_sound Varying o t d x y k p is hd hx hy lk lp =
      (((hd.0, λ e. no_truth t is (sym hd.1 ∙ e)), ((hx.0, hx.1 ∙ sym hd.1), ((hy.0, hy.1 ∙ sym hd.1), ((refl, lk), (lp, tt))))), tt)

  -- a division names a place
  pub operate_sound : (r : Rate) (o : BinOp) (t : Elem) (d x y k p : ℕ) (sp : Span) → IsNumber t → IsRegister h r d t → IsRegister h r x t
      → IsRegister h r y t → k < h.masks → p + length (operate_places o sp) ≤ length code.places → IsSound code h (operate r o d x y k p)
  operate_sound r op.Add t d x y k p sp is hd hx hy lk lp = compute_sound r plain.Add t d x y k is hd hx hy lk
  operate_sound r op.Sub t d x y k p sp is hd hx hy lk lp = compute_sound r plain.Sub t d x y k is hd hx hy lk
  operate_sound r op.Mul t d x y k p sp is hd hx hy lk lp = compute_sound r plain.Mul t d x y k is hd hx hy lk
  operate_sound r op.Div t d x y k p sp is hd hx hy lk lp = divide_sound r division.Div t d x y k p is hd hx hy lk (omega (arith, lp))
  operate_sound r op.Rem t d x y k p sp is hd hx hy lk lp = divide_sound r division.Rem t d x y k p is hd hx hy lk (omega (arith, lp))
  operate_sound r op.And t d x y k p sp is hd hx hy lk lp = compute_sound r plain.And t d x y k is hd hx hy lk
  operate_sound r op.Or t d x y k p sp is hd hx hy lk lp = compute_sound r plain.Or t d x y k is hd hx hy lk
  operate_sound r op.Xor t d x y k p sp is hd hx hy lk lp = compute_sound r plain.Xor t d x y k is hd hx hy lk
  operate_sound r op.Shl t d x y k p sp is hd hx hy lk lp = compute_sound r plain.Shl t d x y k is hd hx hy lk
  operate_sound r op.Shr t d x y k p sp is hd hx hy lk lp = compute_sound r plain.Shr t d x y k is hd hx hy lk
  operate_sound r op.Min t d x y k p sp is hd hx hy lk lp = compute_sound r plain.Min t d x y k is hd hx hy lk
  operate_sound r op.Max t d x y k p sp is hd hx hy lk lp = compute_sound r plain.Max t d x y k is hd hx hy lk

  -- ---- elements of array b, whose type is t

  pub IsArray : Rate → ℕ → Elem → Type 0
  IsArray r b t = IsThere h class.Array (array_register b) × (elem_of h (array_register b) ≡ t) × IsShared h r b

  pub array_is : (g r : Rate) (u t : Elem) (b : ℕ) → IsThere h class.Array (array_register b) × (elem_of h (array_register b) ≡ u) × IsShared h g b → Reaches g r → u ≡ t → IsArray r b t
  unfolding IsArray
  array_is Uniform Uniform u t b f re e = (f.0, f.1 ∙ e, f.2)
  array_is Uniform Varying u t b f re e = (f.0, f.1 ∙ e, tt)
  array_is Varying Uniform u t b f re e = absurd re
  array_is Varying Varying u t b f re e = (f.0, f.1 ∙ e, tt)

  pub read_sound : (r : Rate) (t : Elem) (d b i k p : ℕ) → IsRegister h r d t → IsArray r b t → IsRegister h r i I64 → k < h.masks → p < length code.places → IsSound code h (read r d b i k p)
  unfolding IsArray
  read_sound Uniform t d b i k p hd hb hi lk lp = (((hd.0, tt), ((hb.0, hb.2, hb.1 ∙ sym hd.1), ((hi.0, hi.1), ((refl, lk), (lp, tt))))), tt)
  read_sound Varying t d b i k p hd hb hi lk lp = (((hd.0, tt), ((hb.0, tt, hb.1 ∙ sym hd.1), ((hi.0, hi.1), ((refl, lk), (lp, tt))))), tt)

  pub write_sound : (r : Rate) (t : Elem) (b i x k p : ℕ) → IsArray r b t → IsRegister h r i I64 → IsRegister h r x t → k < h.masks → p < length code.places → IsSound code h (write r b i x k p)
  unfolding IsArray
  write_sound Uniform t b i x k p hb hi hx lk lp = (((hb.0, hb.2, tt), ((hi.0, hi.1), ((hx.0, hx.1 ∙ sym hb.1), ((refl, lk), (lp, tt))))), tt)
  write_sound Varying t b i x k p hb hi hx lk lp = (((hb.0, tt, tt), ((hi.0, hi.1), ((hx.0, hx.1 ∙ sym hb.1), ((refl, lk), (lp, tt))))), tt)

  -- the index of elements of an array: one of its rate, or, where all share the array, that of the first in a scalar
  abbrev pub IndexThere : Bool → Rate → ℕ → ℕ → Type 0
  IndexThere true r b i = (r ≡ Varying) × (is_per_lane h (array_register b) ≡ false) × IsRegister h Uniform i I64
  IndexThere false r b i = IsRegister h r i I64

  pub read_by_sound : (z : Bool) (r : Rate) (t : Elem) (d b i k p : ℕ) → IsRegister h r d t → IsArray r b t → IndexThere z r b i → k < h.masks → p < length code.places → IsSound code h (read_by z r d b i k p)
  unfolding IsArray
  read_by_sound false r t d b i k p hd hb hi lk lp = read_sound r t d b i k p hd hb hi lk lp
  read_by_sound true Uniform t d b i k p hd hb hi lk lp = let no = hi.0 in absurd (cc)
  read_by_sound true Varying t d b i k p hd hb hi lk lp = (((hd.0, tt), ((hb.0, hi.1, hb.1 ∙ sym hd.1), ((hi.2.0, hi.2.1), ((refl, lk), (lp, tt))))), tt)

  pub write_by_sound : (z : Bool) (r : Rate) (t : Elem) (b i x k p : ℕ) → IsArray r b t → IndexThere z r b i → IsRegister h r x t → k < h.masks → p < length code.places → IsSound code h (write_by z r b i x k p)
  unfolding IsArray
  write_by_sound false r t b i x k p hb hi hx lk lp = write_sound r t b i x k p hb hi hx lk lp
  write_by_sound true Uniform t b i x k p hb hi hx lk lp = let no = hi.0 in absurd (cc)
  write_by_sound true Varying t b i x k p hb hi hx lk lp = (((hb.0, hi.1, tt), ((hi.2.0, hi.2.1), ((hx.0, hx.1 ∙ sym hb.1), ((refl, lk), (lp, tt))))), tt)

  -- ---- constants, splats, choices

  pub constant_sound : (t : Elem) (d bits : ℕ) → IsRegister h Uniform d t → IsSound code h (constant d t bits)
  constant_sound t d bits hd = (((hd.0, tt), (subst (λ u. has_value u (number t bits) ≡ true) (sym hd.1) (number_fits t bits), tt)), tt)

  pub index_sound : (d k : ℕ) → IsRegister h Varying d I32 → k < h.masks → IsSound code h (instr.Vector (register Varying d) (vector.Index (mask_register k)))
  index_sound d k hd lk = (((hd.0, hd.1), ((refl, lk), tt)), tt)

  pub splat_sound : (t : Elem) (d x k : ℕ) → IsRegister h Varying d t → IsRegister h Uniform x t → k < h.masks → IsSound code h (splat d x k)
  splat_sound t d x k hd hx lk = (((hd.0, tt), ((hx.0, hx.1 ∙ sym hd.1), ((refl, lk), tt))), tt)

  pub select_sound : (r : Rate) (t : Elem) (d c x y k : ℕ) → IsRegister h r d t → IsRegister h r c Truth → IsRegister h r x t → IsRegister h r y t → k < h.masks → IsSound code h (select r d c x y k)
  select_sound Uniform t d c x y k hd hc hx hy lk =
      (((hd.0, tt), ((hc.0, hc.1), ((hx.0, hx.1 ∙ sym hd.1), ((hy.0, hy.1 ∙ sym hd.1), tt)))), tt)
  select_sound Varying t d c x y k hd hc hx hy lk =
      (((hd.0, tt), ((hc.0, hc.1), ((hx.0, hx.1 ∙ sym hd.1), ((hy.0, hy.1 ∙ sym hd.1), ((refl, lk), tt))))), tt)

  -- ---- packed calls, on an array of one for the gang whose elements have 32 bits

  word_is : (t u : Elem) → IsWord t → u ≡ t → is_word32 u ≡ true
  word_is Truth u is e = absurd (cc)
  word_is I8 u is e = absurd (cc)
  word_is U8 u is e = absurd (cc)
  word_is I16 u is e = absurd (cc)
  word_is U16 u is e = absurd (cc)
  word_is I32 u is e = ap is_word32 e
  word_is U32 u is e = ap is_word32 e
  word_is I64 u is e = absurd (cc)
  word_is U64 u is e = absurd (cc)

  pub packed_store_sound : (t : Elem) (d b i x k p : ℕ) → IsWord t → IsRegister h Uniform d I32 → IsArray Uniform b t → IsRegister h Uniform i I64
      → IsRegister h Varying x t → k < h.masks → p < length code.places → IsSound code h (packed_store d b i x k p)
  unfolding IsArray
  packed_store_sound t d b i x k p is hd hb hi hx lk lp = (((hd.0, hd.1), ((hb.0, hb.2, word_is t _ is hb.1), ((hi.0, hi.1), ((hx.0, hx.1 ∙ sym hb.1), ((refl, lk), (lp, tt)))))), tt)

  pub packed_load_sound : (t : Elem) (d b i x k p : ℕ) → IsWord t → IsRegister h Uniform d I32 → IsArray Uniform b t → IsRegister h Uniform i I64
      → IsRegister h Varying x t → k < h.masks → p < length code.places → IsSound code h (packed_load d b i x k p)
  unfolding IsArray
  packed_load_sound t d b i x k p is hd hb hi hx lk lp = (((hd.0, hd.1), ((hb.0, hb.2, word_is t _ is hb.1), ((hi.0, hi.1), ((hx.0, hx.1 ∙ sym hb.1), ((refl, lk), (lp, tt)))))), tt)

  -- ---- masks and jumps

  pub where_sound : (m x k : ℕ) → m < h.masks → IsRegister h Varying x Truth → k < h.masks → IsSound code h (where_so m x k)
  where_sound m x k lm hx lk = (((refl, lm), ((hx.0, hx.1), ((refl, lk), tt))), tt)

  pub others_sound : (m k x : ℕ) → m < h.masks → k < h.masks → x < h.masks → IsSound code h (the_others m k x)
  others_sound m k x lm lk lx = (((refl, lm), ((refl, lk), ((refl, lx), tt))), tt)

  pub off_sound : (k to : ℕ) → k < h.masks → to < length h.code → IsSound code h (jump_off k to)
  off_sound k to lk lt = (((refl, lk), (lt, tt)), tt)

  pub decided_sound : (g : Logic) (x to : ℕ) → IsRegister h Uniform x Truth → to < length h.code → IsSound code h (jump_on (decided g) x to)
  decided_sound And x to hx lt = (((hx.0, hx.1), (lt, tt)), tt)
  decided_sound Or x to hx lt = (((hx.0, hx.1), (lt, tt)), tt)

  pub jump_sound : (to : ℕ) → to < length h.code → IsSound code h (instr.Jump to)
  jump_sound to lt = ((lt, tt), tt)

  pub sound_both : (a b : List Instr) → AreSound code h a → AreSound code h b → AreSound code h (a ++ b)
  sound_both [] b x y = y
  sound_both (i ∷ a) b x y = (x.0, sound_both a b x.1 y)

  move_by : (same : Bool) (r : Rate) (t : Elem) (d x k : ℕ) → IsRegister h r d t → IsRegister h r x t → k < h.masks → AreSound code h (move same r d x k)
  move_by true r t d x k hd hx lk = tt
  move_by false r t d x k hd hx lk = (copy_sound r t d x k hd hx lk, tt)

  pub move_sound : (r : Rate) (t : Elem) (d x k : ℕ) → IsRegister h r d t → IsRegister h r x t → k < h.masks → AreSound code h (move_code r d x k)
  move_sound r t d x k hd hx lk = move_by _ r t d x k hd hx lk

  pub needing_sound : (g : Logic) (m x k : ℕ) → m < h.masks → IsRegister h Varying x Truth → k < h.masks → AreSound code h (needing g m x k)
  needing_sound And m x k lm hx lk = (where_sound m x k lm hx lk, tt)
  needing_sound Or m x k lm hx lk = (where_sound m x k lm hx lk, (others_sound m k m lm lk lm, tt))
