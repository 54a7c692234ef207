-- Elements at a linear index: where no member passes the greatest value of the index's type they stand in a row, so that
-- one load or store of a row serves. The words of a run of elements are those of isp_base's Cross.
use Rattle.std.specs.Prelude.{◌≡◌, ℕ, ◌-◌, ◌^◌, ◌<◌, ◌≤◌, Bool, true, false, ℤ, pos, ◌-ℤ◌, unsigned_abs}
use Rattle.isp_base.specs.Access.{is_beyond, scatter}
use Rattle.isp_base.specs.Cross.{run_index, run_outside, run_places}
use Rattle.isp_base.specs.Maps.{on, put}
use Rattle.isp_base.specs.Sets.{Mask, lowest}
use Rattle.isp_base.specs.Values.{number, greatest, compare_to}
use Rattle.isp_base.specs.declared.operators.Compare.TheVariants.{LessOrEqual}
use Rattle.isp_base.specs.declared.trap.TrapKind.TheVariants.{Index}
use Rattle.isp_base.specs.declared.types.Elem.{Elem}
use Rattle.isp_base.specs.declared.types.Elem.TheVariants.{Bool as Truth, I64}
use Rattle.isp_base.specs.declared.types.Rate.TheVariants.{Uniform}
use Rattle.isp_base.specs.declared.types.Span.{Span}
use Rattle.isp_base.specs.declared.types.Ty.{Ty}
use Rattle.isp_typed.specs.Typed.{TExpr, t_place, t_element, elem_of, t_assign}
use Rattle.isp_typed.specs.declared.variable.ArrayVariable.{ArrayVariable}
use Rattle.isp_meaning.specs.State.{State, Frame, tick, extent}
use Rattle.isp_meaning.specs.Payloads.{Payload, Each, converted, spread}
use Rattle.isp_meaning.specs.Outcomes.{Gives, bind, checked}
use Rattle.isp_meaning.specs.Expressions.{Calls, value}
use Rattle.isp_meaning.specs.Simple.{simple}
use Rattle.isp_steady.specs.Known.{IsInside, counted_on}

-- One test of a scalar: from u on no instance of the gang passes the type's greatest value.
abbrev pub has_room : ℕ → Elem → ℕ → Bool
has_room gang t u = compare_to LessOrEqual (number t u) (pos (greatest t) -ℤ pos (gang - 1))

-- what the members of a set find in a row of a store, from the whole number z on
abbrev pub row_held : ℕ → ℤ → Mask → State → Payload
row_held b z a s = Each (on a (λ p. s.arrays b (unsigned_abs (run_index z p))))

-- and the state once they have stored a row there
abbrev pub row_kept : ℕ → ℕ → ℤ → Mask → Payload → State → State
row_kept gang b z a x s = record s { arrays = put s.arrays b (scatter gang (run_places z a) (spread a x) (s.arrays b)) }

-- two whole numbers are outside alike, or are one
abbrev pub InStep : ℕ → ℤ → ℤ → Type 0
InStep n y z = (is_beyond n y ≡ is_beyond n z) × (is_beyond n z ≡ false → y ≡ z)

pub record StandInARow : Type 0 where
  -- what is counted on from u counts on as whole numbers too
  pub numbers : (gang : ℕ) (t : Elem) (u p : ℕ) → has_room gang t u ≡ true → p < gang → number t (counted_on t u p) ≡ run_index (number t u) p
  -- and so does each conversion of it to whole numbers, also to more bits
  pub widened : (gang : ℕ) (from to : Elem) (u p : ℕ) → has_room gang from u ≡ true → p < gang → (to ≡ Truth → ⊥)
      → converted from to (counted_on from u p) ≡ counted_on to (converted from to u) p
  -- The machine takes the first index of a row as an int64: in an array of at most 2 ^ 63 elements the same are outside, and the others are
  -- the same elements.
  pub as_int64 : (gang n : ℕ) (t : Elem) (u p : ℕ) → has_room gang t u ≡ true → p < gang → n ≤ 2 ^ 63 → (t ≡ Truth → ⊥)
      → InStep n (run_index (number I64 (converted t I64 u)) p) (run_index (number t u) p)
  -- Where the index counts on from u, an element of a shared array is read in a row, ..
  pub load : (gang : ℕ) (frame : Frame) (calls : Calls) (b : ArrayVariable) (i : TExpr) (t : Ty) (sp : Span) (a : Mask) (s s1 : State) (u : ℕ)
      → b.ty.rate ≡ Uniform → IsInside gang a → has_room gang (elem_of i) u ≡ true
      → value gang frame calls i a (tick s) ≡ Gives (Each (on a (counted_on (elem_of i) u))) s1
      → value gang frame calls (t_place (t_element b i t sp)) a s
      ≡ checked (lowest gang (run_outside (extent frame b) (number (elem_of i) u) a)) Index sp s1 (row_held (frame.named b.number) (number (elem_of i) u) a s1)
  -- .. and assigned in a row.
  pub store : (gang : ℕ) (frame : Frame) (calls : Calls) (b : ArrayVariable) (i x : TExpr) (t : Ty) (sp span : Span) (a : Mask) (s s1 s2 : State) (u : ℕ) (m : Payload)
      → b.ty.rate ≡ Uniform → IsInside gang a → has_room gang (elem_of i) u ≡ true
      → value gang frame calls i a (tick (tick s)) ≡ Gives (Each (on a (counted_on (elem_of i) u))) s1
      → value gang frame calls x a s1 ≡ Gives m s2
      → simple gang frame calls (t_assign (t_element b i t sp) x span) a s
      ≡ bind (checked (lowest gang (run_outside (extent frame b) (number (elem_of i) u) a)) Index sp s2 m)
      (λ n s3. Gives tt (row_kept gang (frame.named b.number) (number (elem_of i) u) a n s3))
