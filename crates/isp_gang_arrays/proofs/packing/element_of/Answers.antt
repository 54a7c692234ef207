use Rattle.std.proofs.Common.{◌≡◌, ℕ, List, length, sym, ap, ap₂, ◌∙◌, unsigned_abs, arith}
use Rattle.std.specs.Int.{w128}
use Rattle.std.proofs.lemmas.Int.{to_z-of_z}
use Rattle.isp_gang_values.specs.Growing.{values_of}
use Rattle.isp_gang_values.proofs.Vectors.{at_past, at_there}
use Rattle.isp_gang_arrays.proofs.packing.element_of.Goals as goal

pub returns-then-store-stores : goal.returns-then-store-stores
returns-then-store-stores c =
    ap (λ (f : ℕ → ℕ). f (unsigned_abs c.args.index)) (sym (at_past (λ v. values_of v.items) (λ e. 0) c.args.stores.now c.args.store (omega (arith, c.if-store-stores.true))))

pub returns-then-place-values : goal.returns-then-place-values
returns-then-place-values c =
    c.at.ensures
    ∙ ap₂ (λ (xs : List ℕ) (k : ℕ). values_of xs k) c.as_slice-values.ensures.value (c.unsigned_abs-place.ensures.value ∙ ap unsigned_abs (to_z-of_z w128 c.args.index c.ranges.index))
    ∙ ap (λ v. values_of v.items (unsigned_abs c.args.index)) c.index-stores-store.is
    ∙ ap (λ (f : ℕ → ℕ). f (unsigned_abs c.args.index)) (sym (at_there (λ v. values_of v.items) (λ e. 0) c.args.stores.now c.args.store c.index-stores-store.result (omega (arith, c.if-store-stores.false))))

pub returns-else-place-values : goal.returns-else-place-values
returns-else-place-values c =
    let place : c.unsigned_abs-place.result ≡ unsigned_abs c.args.index = c.unsigned_abs-place.ensures.value ∙ ap unsigned_abs (to_z-of_z w128 c.args.index c.ranges.index) in
    let e : length c.as_slice-values.result.now ≡ length c.index-stores-store.result.items = ap length c.as_slice-values.ensures.value in
    sym (at_past (λ x. x) 0 c.index-stores-store.result.items (unsigned_abs c.args.index) (omega (arith, e, c.if-place-values.false, place)))
    ∙ ap (λ v. values_of v.items (unsigned_abs c.args.index)) c.index-stores-store.is
    ∙ ap (λ (f : ℕ → ℕ). f (unsigned_abs c.args.index)) (sym (at_there (λ v. values_of v.items) (λ e. 0) c.args.stores.now c.args.store c.index-stores-store.result (omega (arith, c.if-store-stores.false))))
