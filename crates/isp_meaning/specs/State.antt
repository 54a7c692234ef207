-- The state of a call over a gang, and what stays as it is during a call.
use Rattle.std.specs.Prelude.{ℕ, ◌+◌, List, Option, if◌then◌else◌, nat_lt}
use Rattle.isp_base.specs.declared.types.Rate.{Rate}
use Rattle.isp_base.specs.declared.types.Rate.TheVariants.{Uniform, Varying}
use Rattle.isp_base.specs.declared.types.Ty.{Ty}
use Rattle.isp_base.specs.Maps.{Lanes}
use Rattle.isp_typed.specs.declared.variable.ArrayVariable.{ArrayVariable}

-- The variables of the call by their numbers: one value for the gang, or one in each instance. The local arrays of
-- which each instance has its own, by variable and element. What the last `return` gave: one value, or one in each
-- instance. The elements of each array that all instances share, by the number of its store, and the output: these two
-- belong to all calls. The work counts what is reached.
pub record State : Type 0 where
  pub uniforms : ℕ → ℕ
  pub varying : ℕ → Lanes
  pub own : ℕ → ℕ → Lanes
  pub result : ℕ
  pub results : Lanes
  pub arrays : ℕ → ℕ → ℕ
  pub out : List ℕ
  pub work : ℕ

-- What stays during a call: the store that each of its shared arrays is, how many elements each store has, how many
-- stores are open, how many elements each array has of which each instance has its own, and the type of its result.
pub record Frame : Type 0 where
  pub named : ℕ → ℕ
  pub sizes : ℕ → ℕ
  pub opened : ℕ
  pub own_sizes : ℕ → ℕ
  pub answer : Option Ty

-- one more node is reached
abbrev pub tick : State → State
tick s = record s { work = s.work + 1 }

-- how many elements an array has
abbrev pub extent_at : Rate → Frame → ℕ → ℕ
extent_at Uniform f v = f.sizes (f.named v)
extent_at Varying f v = f.own_sizes v

abbrev pub extent : Frame → ArrayVariable → ℕ
extent f b = extent_at b.ty.rate f b.number

-- the stores below a number; there is 0 in those that are not open
abbrev pub below : ℕ → (ℕ → ℕ → ℕ) → ℕ → ℕ → ℕ
below n arrays b = if nat_lt b n then arrays b else (λ e. 0)
