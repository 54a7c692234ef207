-- Where a statement stands: which instances may be missing there, and since which declarations. Variables are numbered in the
-- order of the text, so that those below a number are the ones declared outside.
--     incomplete   not the whole gang may have come to the body, so that each `foreach` is a breach
--     together     the function gives one value for the gang
--     varying      under varying control: the instances here depend on varying values
--     outside      the variables before the innermost varying branch, `foreach` or loop in which instances part
--     turned       the variables before the body of the innermost loop with a varying `continue`
use Rattle.std.specs.Prelude.{ℕ, Bool, true, false, if◌then◌else◌, Option, Some, None}
use Rattle.isp_base.specs.declared.types.Rate.{Rate}
use Rattle.isp_base.specs.declared.types.Ty.{Ty}
use Rattle.isp_tree.specs.declared.stmt.Jump.TheVariants.{Continue}
use Rattle.isp_typed.specs.Typed.{TStmt, TFunction}
use Rattle.isp_independence.specs.declared.control.Control.{Control}
use Rattle.isp_independence.specs.Exits.{by_rate, has_varying, parts}

abbrev pub is_together : Option Ty → Bool
is_together None = false
is_together (Some t) = by_rate t.rate false true

-- at the start of a body
abbrev pub start : Bool → TFunction → Control
start incomplete g =
    record { incomplete = incomplete; together = is_together g.answer; varying = false; outside = 0; turned = 0 }

-- some of the instances that declared the first n variables may be missing
abbrev pub parted : ℕ → Control → Control
parted n w = record { incomplete = w.incomplete; together = w.together; varying = true; outside = n; turned = w.turned }

-- a branch of an `if`, before which there are n variables
abbrev pub branch : Rate → ℕ → Control → Control
branch r n w = by_rate r (parted n w) w

-- a loop: its first part, its test and its step too
abbrev pub loop : Option Rate → ℕ → TStmt → Control → Control
loop test n a w = if parts test a then parted n w else w

-- the body of a loop, before which there are n variables
abbrev pub turn : ℕ → TStmt → Control → Control
turn n a w =
    if has_varying Continue a then record { incomplete = w.incomplete; together = w.together; varying = true; outside = w.outside; turned = n } else w

-- the body of a `foreach`: in the last run some may be missing
abbrev pub round : ℕ → Control → Control
round n w = record { incomplete = w.incomplete; together = w.together; varying = w.varying; outside = n; turned = w.turned }
