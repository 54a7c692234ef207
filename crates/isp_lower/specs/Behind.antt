-- Which register and which mask are given next.
use Rattle.std.specs.Prelude.{◌≡◌, length}
use Rattle.isp_base.specs.declared.types.Rate.{Rate}
use Rattle.isp_lower.specs.Drafts.{Draft, HasAllNamed, next_mask, next_register}
use Rattle.isp_lower_code.specs.Rows.{rows_at}

-- where the function at work has all that its code names, the one after those that are there
pub record NextIsBehind : Type 0 where
  pub registers : (d : Draft) (r : Rate) → HasAllNamed d → next_register r d ≡ length (rows_at d.rows r)
  pub masks : (d : Draft) → HasAllNamed d → next_mask d ≡ d.masks
