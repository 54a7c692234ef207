-- What stays of the arrays that all instances share, and of the output, by what stands in the code. A statement that traps or is
-- cut leaves it too.
use Rattle.std.specs.Prelude.{◌≡◌, ℕ, ◌<◌, Some, Bool, true, false, nat_eq, slice_get}
use Rattle.isp_base.specs.Access.{element}
use Rattle.isp_base.specs.Sets.{Mask, any}
use Rattle.isp_base.specs.Types.{gang_width}
use Rattle.isp_base.specs.declared.types.Elem.{Elem}
use Rattle.isp_base.specs.declared.types.Rate.TheVariants.{Uniform}
use Rattle.isp_base.specs.declared.types.Span.{Span}
use Rattle.isp_typed.specs.declared.variable.ArrayVariable.{ArrayVariable}
use Rattle.isp_typed.specs.Typed.{TExpr, t_program_index, type_of, TStmt, TFunction, Program}
use Rattle.isp_meaning.specs.Laws.{Masked, MaskedBlock}
use Rattle.isp_meaning.specs.Outcomes.{Val, Gives, Fails, Stops, Res, Went, Trapped, Cut}
use Rattle.isp_meaning.specs.Payloads.{Payload, spread}
use Rattle.isp_meaning.specs.Runs.{state_of}
use Rattle.isp_meaning.specs.State.{State, Frame}
use Rattle.isp_meaning_laws.specs.Acts.{Act, At, Packed, Whole, Handed, Called, Printed, Each, OfStmt, OfBlock}
use Rattle.isp_meaning_laws.specs.Members.{value_over, run_over}
use Rattle.isp_meaning_laws.specs.Samples.{doubles}
use Rattle.isp_meaning_laws.specs.Words.{program}

-- the state in which a statement ends, traps or is cut
abbrev pub left_by : Res → State
left_by (Went s g b c r) = s
left_by (Trapped t s) = s
left_by (Cut s) = s

abbrev pub Shared : ArrayVariable → Type 0
Shared b = b.ty.rate ≡ Uniform

-- ---- an array in which the code does not store

-- another store than this, if all share the array
abbrev pub Misses : Frame → ℕ → ArrayVariable → Type 0
Misses frame k b = Shared b → frame.named b.number ≡ k → ⊥

-- nothing is stored in this store, and it is handed to no call
abbrev pub Spares : Frame → ℕ → Act → Type 0
Spares frame k (At b i) = Misses frame k b
Spares frame k (Packed b) = frame.named b.number ≡ k → ⊥
Spares frame k (Whole b) = Misses frame k b
Spares frame k (Handed b) = frame.named b.number ≡ k → ⊥
Spares frame k (Called f) = Unit {0}
Spares frame k Printed = Unit {0}

-- ---- an element in which no member of the set may store

-- Each instance has elements of its own: D p e where instance p has element e.
abbrev pub Owners : Type 0
Owners = ℕ → ℕ → Bool

-- the index of each member is an element of its own
abbrev pub Owned : Owners → ℕ → Mask → Elem → Val Payload → Type 0
Owned D gang a t (Gives m s) = (p i : ℕ) → p < gang → a p ≡ true → spread a m p ≡ Some i → D p (element t i) ≡ true
Owned D gang a t (Fails e s) = Unit {0}
Owned D gang a t (Stops s) = Unit {0}

-- an expression whose value is such an index, over each set that is not empty and in each state
abbrev pub KeepsTo : Owners → Program → TExpr → Type 0
KeepsTo D program i =
    (most levels : ℕ) (frame : Frame) (a : Mask) (s : State) → any (gang_width program.gang) a ≡ true
    → Owned D (gang_width program.gang) a (type_of i).elem (value_over program most levels frame i a s)

-- in arrays that all share it stores at such indices alone, and it calls functions of F alone
abbrev pub AtOwn : Program → Owners → (ℕ → Bool) → Act → Type 0
AtOwn program D F (At b i) = Shared b → KeepsTo D program i
AtOwn program D F (Packed b) = ⊥
AtOwn program D F (Whole b) = Shared b → ⊥
AtOwn program D F (Handed b) = Unit {0}
AtOwn program D F (Called f) = F f ≡ true
AtOwn program D F Printed = Unit {0}

-- these functions do so too, and no `foreach` and no `unmasked` stands in them, in which all instances take part
pub record KeepToOwn (program : Program) (D : Owners) (F : ℕ → Bool) : Type 0 where
  pub stores : (j : ℕ) (g : TFunction) → F j ≡ true → slice_get program.functions j ≡ Some g → OfBlock (AtOwn program D F) g.body
  pub masked : (j : ℕ) (g : TFunction) → F j ≡ true → slice_get program.functions j ≡ Some g → MaskedBlock g.body

-- ---- the output

-- it prints nothing, and calls functions of F alone
abbrev pub Silent : (ℕ → Bool) → Act → Type 0
Silent F (Called f) = F f ≡ true
Silent F Printed = ⊥
Silent F x = Unit {0}

abbrev pub AreSilent : Program → (ℕ → Bool) → Type 0
AreSilent program F = (j : ℕ) (g : TFunction) → F j ≡ true → slice_get program.functions j ≡ Some g → OfBlock (Silent F) g.body

-- ---- the law

-- Over a set that is not empty, whether code ends, traps or is cut:
-- An array in which it does not store, and which it hands to no call, stays as it is, whatever functions it calls.
-- Where each instance stores in elements of its own alone, an element that no member of the set owns stays, whatever the code computes,
-- tests, repeats and calls. [programIndex] is such an index: where all stores are at it, the element of an instance that is off stays.
-- `a[programIndex] = a[programIndex] * 2 + 1;` is such code.
-- Where nothing prints, the output stays.
pub record ArraysStay : Type 0 where
  pub expression : (program : Program) (most levels : ℕ) (frame : Frame) (x : TExpr) (a : Mask) (s : State) (k e : ℕ)
      → Each (Spares frame k) x → any (gang_width program.gang) a ≡ true → k < frame.opened
      → (state_of (value_over program most levels frame x a s)).arrays k e ≡ s.arrays k e
  pub statement : (program : Program) (most levels : ℕ) (frame : Frame) (x : TStmt) (a : Mask) (s : State) (k e : ℕ)
      → OfStmt (Spares frame k) x → any (gang_width program.gang) a ≡ true → k < frame.opened
      → (left_by (run_over program most levels frame x a s)).arrays k e ≡ s.arrays k e
  pub element : (program : Program) (D : Owners) (F : ℕ → Bool) (most levels : ℕ) (frame : Frame) (x : TStmt) (a : Mask) (s : State) (k e : ℕ)
      → KeepToOwn program D F → Masked x → OfStmt (AtOwn program D F) x → any (gang_width program.gang) a ≡ true → k < frame.opened
      → ((p : ℕ) → p < gang_width program.gang → a p ≡ true → D p e ≡ false)
      → (left_by (run_over program most levels frame x a s)).arrays k e ≡ s.arrays k e
  pub program_index : (program : Program) (sp : Span) → KeepsTo nat_eq program (t_program_index sp)
  pub off : (program : Program) (F : ℕ → Bool) (most levels : ℕ) (frame : Frame) (x : TStmt) (a : Mask) (s : State) (k p : ℕ)
      → KeepToOwn program nat_eq F → Masked x → OfStmt (AtOwn program nat_eq F) x → any (gang_width program.gang) a ≡ true → k < frame.opened
      → a p ≡ false → (left_by (run_over program most levels frame x a s)).arrays k p ≡ s.arrays k p
  pub doubling : KeepToOwn (program doubles) nat_eq (λ f. true)
  pub output : (program : Program) (F : ℕ → Bool) (most levels : ℕ) (frame : Frame) (x : TStmt) (a : Mask) (s : State)
      → AreSilent program F → OfStmt (Silent F) x → any (gang_width program.gang) a ≡ true
      → (left_by (run_over program most levels frame x a s)).out ≡ s.out
