use Rattle.std.proofs.Common.{◌≡◌, ℕ, Option, Some, None, refl, ap, ◌∙◌, unwrap_or}
use Rattle.std.specs.List.{position}
use Rattle.isp_base.specs.Sets.{lowest, flag_of}
use Rattle.isp_base.specs.Cross.{or_zero}
use Rattle.isp_cells.proofs.Indices.{lowest_is}
use Rattle.isp_store.proofs.index.trap_under.Goals as goal

or_zero_is : (x : Option ℕ) → unwrap_or x 0 ≡ or_zero x
or_zero_is None = refl
or_zero_is (Some p) = refl

pub returns : goal.returns
returns g c = c.first.ensures ∙ or_zero_is (position (λ b. b) c.args.mask.now) ∙ ap or_zero (lowest_is c.args.mask.now ∙ ap (λ n. lowest n (flag_of c.args.mask.now)) c.told.ensures.long)
