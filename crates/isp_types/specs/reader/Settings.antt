-- Definitions in a setting of the code. No part of the promise.
use Rattle.std.specs.Prelude.{List}
use Rattle.isp_base.specs.declared.types.Gang.{Gang}
use Rattle.isp_exprs.specs.declared.expressions.Setting.{Setting}
use Rattle.isp_exprs.specs.Callees.{Heading}

-- a definition at the gang's size of the setting, and with its functions as callers see them
abbrev pub within {ℓ} : {A : Type ℓ} → Setting → (Gang → List Heading → A) → A
within s definition = definition s.gang s.headers.now
