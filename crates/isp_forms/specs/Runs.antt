-- A run by forms: where an instruction is free, the lanes of its vector that are off become anything; where it is useless,
-- nothing is done; where its right operand is known, that number is taken in each lane. Each step may also be the machine's own.
use Rattle.std.specs.Prelude.{◌≡◌, ◌⊎◌, ℕ, zero, suc, map, Some, true, if◌then◌else◌, slice_get}
use Rattle.isp_base.specs.Maps.{Lanes, Map, map2, on, put}
use Rattle.isp_base.specs.Sets.{Mask}
use Rattle.isp_base.specs.Values.{op_bits}
use Rattle.isp_code.specs.Conf.{Conf, Frame, Go, State, Runs, Trapped, Ended}
use Rattle.isp_code.specs.Lines.{act, next, plain_of, set_vector}
use Rattle.isp_code.specs.Listing.{Listing, Routine}
use Rattle.isp_code.specs.Machine.{advance, after, arrive}
use Rattle.isp_code.specs.Registers.{elem_of}
use Rattle.isp_code.specs.declared.instr.Instr.TheVariants as instr
use Rattle.isp_code.specs.declared.instr.Plain.{Plain}
use Rattle.isp_code.specs.declared.instr.VectorInstr.{VectorInstr}
use Rattle.isp_code.specs.declared.instr.VectorInstr.TheVariants.{Binary}
use Rattle.isp_code.specs.declared.register.Register.{Register}
use Rattle.isp_forms.specs.Writes.{mask_under, is_pure}
use Rattle.isp_forms.specs.declared.form.Form.{Form}
use Rattle.isp_forms.specs.declared.form.Form.TheVariants.{Kept, Free, Useless, KeptBy, FreeBy}

-- the form of instruction pc of function f
abbrev pub Forms : Type 0
Forms = ℕ → ℕ → Form

abbrev pub all_kept : Forms
all_kept f pc = Kept

-- the lanes of a vector that are not in a set have become anything
abbrev pub forgotten : Conf → ℕ → Mask → Lanes → Conf
forgotten c v set old = record c { vectors = put c.vectors v (λ p. if set p then c.vectors v p else old p) }

-- what an operator gives where its right operand is a number in each lane
abbrev pub computed_by : Routine → Conf → Register → Plain → Register → Register → ℕ → Map
computed_by h c d o x k b = map2 (op_bits (plain_of o) (elem_of h d)) (on (c.masks k.number) (c.vectors x.number)) (on (c.masks k.number) (λ p. b))

module _ (code : Listing) (forms : Forms) where
  -- an instruction on vectors in some form, before which a configuration stands
  pub record IsBefore (form : Form) (c : Conf) (h : Routine) (d : Register) (i : VectorInstr) : Type 0 where
    pub found : slice_get code.routines c.home.fn ≡ Some h
    pub here : slice_get h.code c.pc ≡ Some (instr.Vector d i)
    pub form_is : forms c.home.fn c.pc ≡ form

  -- a free one: it is done, and the lanes of its vector that are off become anything
  pub record Forgets (c : Conf) (t : State) : Type 0 where
    pub routine : Routine
    pub vector : Register
    pub what : VectorInstr
    pub before : IsBefore Free c routine vector what
    pub done : Conf
    pub goes : act code routine c (instr.Vector vector what) ≡ Go done
    pub old : Lanes
    pub is : arrive code (Go (forgotten done vector.number (c.masks (mask_under what).number) old)) c ≡ t

  -- a useless one: nothing is done
  pub record Skips (c : Conf) (t : State) : Type 0 where
    pub routine : Routine
    pub vector : Register
    pub what : VectorInstr
    pub before : IsBefore Useless c routine vector what
    pub pure : is_pure what ≡ true
    pub is : Runs (next c) ≡ t

  -- an operator whose right operand is a number in each lane, in some form, before which a configuration stands
  pub record IsKnown (form : ℕ → Form) (c : Conf) : Type 0 where
    pub routine : Routine
    pub vector : Register
    pub operator : Plain
    pub left : Register
    pub right : Register
    pub mask : Register
    pub amount : ℕ
    pub before : IsBefore (form amount) c routine vector (Binary operator left right mask)

  -- the number is taken
  pub record Takes (c : Conf) (t : State) : Type 0 where
    pub at : IsKnown KeptBy c
    pub is : arrive code (Go (set_vector c at.vector (computed_by at.routine c at.vector at.operator at.left at.mask at.amount))) c ≡ t

  -- so it is where it is free, and the lanes of its vector that are off become anything
  pub record TakesFree (c : Conf) (t : State) : Type 0 where
    pub at : IsKnown FreeBy c
    pub old : Lanes
    pub is : arrive code (Go (forgotten (set_vector c at.vector (computed_by at.routine c at.vector at.operator at.left at.mask at.amount)) at.vector.number (c.masks at.mask.number) old)) c ≡ t

  -- what a step by forms may lead to, besides the machine's own
  abbrev pub Departs : State → State → Type 0
  Departs (Runs c) t = Forgets c t ⊎ (Skips c t ⊎ (Takes c t ⊎ TakesFree c t))
  Departs s t = ⊥

  abbrev pub IsStep : State → State → Type 0
  IsStep s t = (advance code s ≡ t) ⊎ Departs s t

  -- m steps
  abbrev pub IsRun : ℕ → State → State → Type 0
  IsRun zero s t = s ≡ t
  IsRun (suc m) s t = (u : State) × IsRun m s u × IsStep u t

-- ---- what is seen of a run

-- The same function runs and the same ones wait, with the same arrays and output.
pub record LooksLike (c d : Conf) : Type 0 where
  pub home_is : d.home ≡ c.home
  pub waiting_is : map (λ (fr : Frame). fr.home) d.waiting ≡ map (λ (fr : Frame). fr.home) c.waiting
  pub arrays_are : d.arrays ≡ c.arrays
  pub out_is : d.out ≡ c.out

-- so do two states, with the same trap or value
abbrev pub StatesLook : State → State → Type 0
StatesLook (Runs c) (Runs d) = LooksLike c d
StatesLook (Trapped t c) (Trapped u d) = (t ≡ u) × LooksLike c d
StatesLook (Ended x c) (Ended y d) = (x ≡ y) × LooksLike c d
StatesLook s t = ⊥

-- Forms are harmless from a configuration on: after each number of steps, a run by them looks like the machine's.
abbrev pub AreHarmless : Listing → Forms → Conf → Type 0
AreHarmless code forms c = (m : ℕ) (t : State) → IsRun code forms m (Runs c) t → StatesLook (after code m (Runs c)) t
