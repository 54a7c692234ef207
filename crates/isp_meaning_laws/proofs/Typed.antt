-- The verdict of an expression's typing rule is right.
use Rattle.isp_exprs.proofs.Exprs.{expr_right}
use Rattle.isp_meaning_laws.specs.Typings.{VerdictIsRight}

pub verdict_is_right : VerdictIsRight
verdict_is_right = expr_right
