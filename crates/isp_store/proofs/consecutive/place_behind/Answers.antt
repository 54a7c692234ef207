use Rattle.std.proofs.Common.{sym, ap₂, ◌∙◌, subst, ◌+ℤ◌, FitsSigned}
use Rattle.std.specs.Int.{w128}
use Rattle.std.proofs.lemmas.Int.{to_z-of_z}
use Rattle.isp_store.proofs.PlacesInOrder.{sum_fits}
use Rattle.isp_store.proofs.consecutive.place_behind.Goals as goal

pub overflow_add-place : goal.overflow_add-place
overflow_add-place c =
    let index = to_z-of_z w128 c.number.result (record { sfits = c.number.type_inv }) ∙ c.number.ensures in
    let offset = to_z-of_z w128 c.from.result (record { sfits = c.from.type_inv }) ∙ c.from.ensures in
    subst (FitsSigned w128) (sym (ap₂ (λ a b. a +ℤ b) index offset)) (sum_fits c.args.index c.args.offset c.ranges.index.fits c.requires)
