-- How it is shown that code does not take what is added.
use Rattle.std.specs.Prelude.{ℕ, List, codes}
use Rattle.isp_code.specs.declared.limit.CodeLimit.{CodeLimit}
use Rattle.isp_code.specs.declared.limit.CodeLimit.TheVariants.{Memory, OverLimit}

abbrev pub limit_text : CodeLimit → List ℕ
limit_text Memory = codes "memory"
limit_text OverLimit = codes "46 OverLimit"
