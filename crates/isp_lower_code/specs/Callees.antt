-- What code has to know of functions that it calls: the rates of their parameters, by the numbers of the functions. An
-- array that is handed over is one for the gang.
use Rattle.std.specs.Prelude.{ℕ, List, [], ◌∷◌, Option, Some, None, slice_get}
use Rattle.isp_base.specs.declared.types.Rate.{Rate}
use Rattle.isp_base.specs.declared.types.Rate.TheVariants.{Uniform, Varying}
use Rattle.isp_typed.specs.Fine.{params_of}
use Rattle.isp_typed.specs.Typed.{TFunction}
use Rattle.isp_typed.specs.declared.variable.Holds.{Holds}
use Rattle.isp_typed.specs.declared.variable.Holds.TheVariants as holds
use Rattle.isp_typed.specs.declared.variable.Variable.{Variable}

abbrev pub rate_held : Holds → Rate
rate_held (holds.Value t) = t.rate
rate_held (holds.Given t) = Uniform
rate_held (holds.Local t n) = t.rate

abbrev pub rates_held : List Variable → List Rate
rates_held [] = []
rates_held (v ∷ vs) = rate_held v.holds ∷ rates_held vs

-- of the parameters of a function
abbrev pub rates_of : Option TFunction → List Rate
rates_of None = []
rates_of (Some g) = rates_held (params_of g)

abbrev pub rates_in : List TFunction → ℕ → List Rate
rates_in fs f = rates_of (slice_get fs f)

-- each argument goes to the next parameter; past the last one any rate will do
abbrev pub next_rate : List Rate → Rate
next_rate [] = Varying
next_rate (r ∷ rs) = r

abbrev pub later : List Rate → List Rate
later [] = []
later (r ∷ rs) = rs
