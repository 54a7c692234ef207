-- When a register holds a value of the meaning.
use Rattle.std.specs.Prelude.{◌≡◌, ◌%◌, ◌^◌, ℕ, true}
use Rattle.isp_base.specs.Maps.{Lanes, on, over}
use Rattle.isp_base.specs.Sets.{Mask, everyone}
use Rattle.isp_base.specs.Values.{width}
use Rattle.isp_base.specs.declared.types.Elem.{Elem}
use Rattle.isp_base.specs.declared.types.Rate.{Rate}
use Rattle.isp_base.specs.declared.types.Rate.TheVariants.{Uniform, Varying}
use Rattle.isp_code.specs.Conf.{Conf}
use Rattle.isp_meaning.specs.Payloads.{Payload, One, Each, spread}
use Rattle.isp_lower_code.specs.Layout.{Layout}

-- a value as it is held at a rate: one, or one in each member of a set
abbrev pub at_rate : Rate → Mask → Payload → Payload
at_rate Uniform a x = x
at_rate Varying a x = Each (spread a x)

abbrev pub held_at : Rate → (ℕ → ℕ) → (ℕ → Lanes) → Mask → ℕ → Payload
held_at Uniform scalars vectors a d = One (scalars d)
held_at Varying scalars vectors a d = Each (on a (vectors d))

abbrev pub Holds : Rate → Mask → ℕ → Payload → Conf → Type 0
Holds r a d x c = at_rate r a x ≡ held_at r c.scalars c.vectors a d

-- the same bits in each lane of the gang, and 0 elsewhere
abbrev pub everywhere : ℕ → ℕ → Lanes
everywhere gang b = over (on (everyone gang) (λ p. b)) (λ p. 0)

-- a register has some bits, a vector in every lane of the gang
abbrev pub HasBits : Rate → ℕ → (ℕ → ℕ) → (ℕ → Lanes) → ℕ → ℕ → Type 0
HasBits Uniform gang scalars vectors d b = scalars d ≡ b
HasBits Varying gang scalars vectors d b = vectors d ≡ everywhere gang b

-- each constant that is kept stands in its register
abbrev pub ConstantsHold : Layout → ℕ → (ℕ → ℕ) → (ℕ → Lanes) → Type 0
ConstantsHold l gang scalars vectors =
    (r : Rate) (t : Elem) (b : ℕ) → l.kept r t b ≡ true → HasBits r gang scalars vectors (l.constant r t b) (b % 2 ^ width t)
