-- Where a statement stands, as the rules have it.
use Rattle.isp_rates.specs.declared.exits.Around as rates_around
use Rattle.isp_rates.specs.declared.exits.Around.TheVariants as around
use Rattle.isp_rates.specs.declared.exits.Within as rates_within
use Rattle.isp_breaches.specs.declared.within.Around as code_around
use Rattle.isp_breaches.specs.declared.within.Around.TheVariants.{Body, Loop, Foreach, Turns, Unmasked}
use Rattle.isp_breaches.specs.declared.within.Within as code_within

abbrev pub around_of : code_around.Around → rates_around.Around
around_of Body = around.Body
around_of Loop = around.Loop
around_of Foreach = around.Foreach
around_of Turns = around.Turns
around_of Unmasked = around.Unmasked

abbrev pub within_of : code_within.Within → rates_within.Within
within_of w = record { nearest = around_of w.nearest; returns = w.returns; in_foreach = w.in_foreach }
