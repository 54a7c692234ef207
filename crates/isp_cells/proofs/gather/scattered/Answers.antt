use Rattle.std.proofs.Common.{sym, ◌∙◌, subst, List, ℕ, length, rules}
use Rattle.isp_base.specs.Rows.{Fit}
use Rattle.isp_base.specs.declared.types.Elem.{Elem}
use Rattle.isp_base.specs.declared.types.Elem.TheVariants.{I64}
use Rattle.isp_cells.proofs.Found.{below_inside}
use Rattle.isp_cells.proofs.gather.scattered.Goals as goal

pub leave-requires : goal.leave-requires
leave-requires g c =
    let a = c.args in
    let places = c.wide_words-places.result.now in
    let fits : Fit I64 places = subst (λ (xs : List ℕ). Fit I64 xs) (sym c.wide_words-places.ensures) (subst (λ (t : Elem). Fit t a.index.now.bits) c.requires.index c.told.ensures.fits) in
    (search rules, (search rules, (λ p h is. (below_inside (length a.cells.now) a.mask.now places fits g.row.N (sym c.first_outside.ensures ∙ c.in-None.is) p h is).0, c.requires.fits)))
