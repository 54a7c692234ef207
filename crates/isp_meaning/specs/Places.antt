-- The places that assignments write: variables and elements of arrays, what is held there, and what is kept there.
use Rattle.std.specs.Prelude.{ℕ, Option, None, nat_eq, if◌then◌else◌}
use Rattle.isp_base.specs.Access.{is_outside, element, scatter}
use Rattle.isp_base.specs.Sets.{Mask}
use Rattle.isp_base.specs.Maps.{Lanes, Map, on, over, or_old, each1, holds, put}
use Rattle.isp_base.specs.declared.types.Elem.{Elem}
use Rattle.isp_base.specs.declared.types.Rate.{Rate}
use Rattle.isp_base.specs.declared.types.Rate.TheVariants.{Uniform, Varying}
use Rattle.isp_base.specs.declared.types.Ty.{Ty}
use Rattle.isp_typed.specs.declared.variable.ArrayVariable.{ArrayVariable}
use Rattle.isp_meaning.specs.State.{State, Frame, extent}
use Rattle.isp_meaning.specs.Payloads.{Payload, One, Each, sole, spread, mapped, offender}

-- a variable, or the element of an array at an index, whose type is said
pub data Place : Type 0 where
  Variable : (number : ℕ) (ty : Ty) → Place
  Element : (array : ArrayVariable) (elem : Elem) (index : Payload) → Place

-- ---- variables: a uniform one holds one value

abbrev pub variable : Rate → ℕ → Mask → State → Payload
variable Uniform v a s = One (s.uniforms v)
variable Varying v a s = Each (on a (s.varying v))

-- A variable is written for the members of a set, a uniform one once.
abbrev pub written : Rate → ℕ → Mask → Payload → State → State
written Uniform v a x s = record s { uniforms = put s.uniforms v (sole x) }
written Varying v a x s = record s { varying = put s.varying v (over (spread a x) (s.varying v)) }

-- ---- elements: of an array that all instances share, or of each instance's own

-- what the members of a set store in a shared array at their places
abbrev pub stored : ℕ → Mask → Payload → Payload → Lanes → Lanes
stored gang a (One i) (One x) f = put f i x
stored gang a (One i) (Each x) f = scatter gang (spread a (One i)) x f
stored gang a (Each i) x f = scatter gang i (spread a x) f

-- what each stores in its own array, by element and instance
abbrev pub own_stored : Map → Map → (ℕ → Lanes) → ℕ → Lanes
own_stored places x f e p = if holds (λ i. nat_eq i e) (places p) then or_old (x p) (f e p) else f e p

module _ (frame : Frame) (b : ArrayVariable) (t : Elem) (i : Payload) (a : Mask) where
  -- the elements that the members find at their indices
  abbrev pub elements : Rate → State → Payload
  elements Uniform s = mapped (λ x. s.arrays (frame.named b.number) (element t x)) i
  elements Varying s = Each (λ p. each1 (λ x. s.own b.number (element t x) p) (spread a i p))

  -- the array in which each member has stored a value at its index
  abbrev pub with_elements : ℕ → Rate → Payload → State → State
  with_elements gang Uniform x s =
      record s { arrays = put s.arrays (frame.named b.number) (stored gang a (mapped (element t) i) x (s.arrays (frame.named b.number))) }
  with_elements gang Varying x s =
      record s { own = put s.own b.number (own_stored (spread a (mapped (element t) i)) (spread a x) (s.own b.number)) }

module _ (gang : ℕ) (frame : Frame) where
  -- the lowest member of the set whose index is outside the array
  abbrev pub outside : Place → Mask → Option ℕ
  outside (Variable v t) a = None
  outside (Element b t i) a = offender gang (is_outside t (extent frame b)) a i

  -- what the members of a set find at a place
  abbrev pub held : Place → Mask → State → Payload
  held (Variable v t) a s = variable t.rate v a s
  held (Element b t i) a s = elements frame b t i a b.ty.rate s

  -- a place once the members of a set have written it
  abbrev pub kept : Place → Mask → Payload → State → State
  kept (Variable v t) a x s = written t.rate v a x s
  kept (Element b t i) a x s = with_elements frame b t i a gang b.ty.rate x s
