use Rattle.std.proofs.Common.{◌≡◌, ℕ, List, sym, ap, ◌∙◌, subst, rules}
use Rattle.std.specs.Prelude.{IfOk}
use Rattle.isp_base.specs.Access.{element}
use Rattle.isp_base.specs.Held.{held}
use Rattle.isp_base.specs.Maps.{lane_of, each1, on, over}
use Rattle.isp_base.specs.Rows.{Fit}
use Rattle.isp_base.specs.Sets.{flag_of}
use Rattle.isp_base.specs.declared.array.Cells.{Cells}
use Rattle.isp_base.specs.declared.types.Elem.{Elem}
use Rattle.isp_base.specs.declared.types.Elem.TheVariants.{I64}
use Rattle.isp_store.proofs.Picked.{found_in, found_fits}
use Rattle.isp_store.proofs.moves.gather.Goals as goal

pub gathered-requires : goal.gathered-requires
gathered-requires g c =
    let bits = c.args.array.now.bits in
    let same : c.as_slice.result.now ≡ bits = c.as_slice.ensures.value ∙ sym (ap (λ (y : Cells). held y) c.in-Bits8.is) ∙ c.cells.ensures.words in
    let fits : Fit c.args.into.now.elem bits = subst (λ (t : Elem). Fit t bits) (sym c.requires) (subst (λ (xs : List ℕ). Fit c.args.array.now.elem xs) c.cells.ensures.words c.cells.ensures.fits) in
    (search rules, (search rules, (search rules, found_fits c.as_slice.result.now bits c.args.into.now.elem same fits)))

pub returns-in-Bits8-clause-lanes : goal.returns-in-Bits8-clause-lanes
returns-in-Bits8-clause-lanes g c =
    let a = c.args in
    subst (λ (f : ℕ → ℕ → ℕ). IfOk c.gathered.result
    (λ _. lane_of c.gathered.new.into.bits ≡ over (λ p. each1 (λ y. f (element I64 y) p) (on (flag_of a.mask.now) (lane_of a.places.now) p))
    (lane_of a.into.now.bits))) (found_in c.as_slice.result.now a.array.now.bits
    (c.as_slice.ensures.value ∙ sym (ap (λ (y : Cells). held y) c.in-Bits8.is) ∙ c.cells.ensures.words)) c.gathered.ensures.lanes

pub gathered-requires-in-Bits16 : goal.gathered-requires-in-Bits16
gathered-requires-in-Bits16 g c =
    let bits = c.args.array.now.bits in
    let same : c.as_slice-in-Bits16.result.now ≡ bits = c.as_slice-in-Bits16.ensures.value ∙ sym (ap (λ (y : Cells). held y) c.in-Bits16.is) ∙ c.cells.ensures.words in
    let fits : Fit c.args.into.now.elem bits = subst (λ (t : Elem). Fit t bits) (sym c.requires) (subst (λ (xs : List ℕ). Fit c.args.array.now.elem xs) c.cells.ensures.words c.cells.ensures.fits) in
    (search rules, (search rules, (search rules, found_fits c.as_slice-in-Bits16.result.now bits c.args.into.now.elem same fits)))

pub returns-in-Bits16-clause-lanes : goal.returns-in-Bits16-clause-lanes
returns-in-Bits16-clause-lanes g c =
    let a = c.args in
    subst (λ (f : ℕ → ℕ → ℕ). IfOk c.gathered-in-Bits16.result
    (λ _. lane_of c.gathered-in-Bits16.new.into.bits
    ≡ over (λ p. each1 (λ y. f (element I64 y) p) (on (flag_of a.mask.now) (lane_of a.places.now) p)) (lane_of a.into.now.bits)))
    (found_in c.as_slice-in-Bits16.result.now a.array.now.bits
    (c.as_slice-in-Bits16.ensures.value ∙ sym (ap (λ (y : Cells). held y) c.in-Bits16.is) ∙ c.cells.ensures.words))
    c.gathered-in-Bits16.ensures.lanes

pub gathered-requires-in-Bits32 : goal.gathered-requires-in-Bits32
gathered-requires-in-Bits32 g c =
    let bits = c.args.array.now.bits in
    let same : c.as_slice-in-Bits32.result.now ≡ bits = c.as_slice-in-Bits32.ensures.value ∙ sym (ap (λ (y : Cells). held y) c.in-Bits32.is) ∙ c.cells.ensures.words in
    let fits : Fit c.args.into.now.elem bits = subst (λ (t : Elem). Fit t bits) (sym c.requires) (subst (λ (xs : List ℕ). Fit c.args.array.now.elem xs) c.cells.ensures.words c.cells.ensures.fits) in
    (search rules, (search rules, (search rules, found_fits c.as_slice-in-Bits32.result.now bits c.args.into.now.elem same fits)))

pub returns-in-Bits32-clause-lanes : goal.returns-in-Bits32-clause-lanes
returns-in-Bits32-clause-lanes g c =
    let a = c.args in
    subst (λ (f : ℕ → ℕ → ℕ). IfOk c.gathered-in-Bits32.result
    (λ _. lane_of c.gathered-in-Bits32.new.into.bits
    ≡ over (λ p. each1 (λ y. f (element I64 y) p) (on (flag_of a.mask.now) (lane_of a.places.now) p)) (lane_of a.into.now.bits)))
    (found_in c.as_slice-in-Bits32.result.now a.array.now.bits
    (c.as_slice-in-Bits32.ensures.value ∙ sym (ap (λ (y : Cells). held y) c.in-Bits32.is) ∙ c.cells.ensures.words))
    c.gathered-in-Bits32.ensures.lanes

pub gathered-requires-in-Bits64 : goal.gathered-requires-in-Bits64
gathered-requires-in-Bits64 g c =
    let bits = c.args.array.now.bits in
    let same : c.as_slice-in-Bits64.result.now ≡ bits = c.as_slice-in-Bits64.ensures.value ∙ sym (ap (λ (y : Cells). held y) c.in-Bits64.is) ∙ c.cells.ensures.words in
    let fits : Fit c.args.into.now.elem bits = subst (λ (t : Elem). Fit t bits) (sym c.requires) (subst (λ (xs : List ℕ). Fit c.args.array.now.elem xs) c.cells.ensures.words c.cells.ensures.fits) in
    (search rules, (search rules, (search rules, found_fits c.as_slice-in-Bits64.result.now bits c.args.into.now.elem same fits)))

pub returns-in-Bits64-clause-lanes : goal.returns-in-Bits64-clause-lanes
returns-in-Bits64-clause-lanes g c =
    let a = c.args in
    subst (λ (f : ℕ → ℕ → ℕ). IfOk c.gathered-in-Bits64.result
    (λ _. lane_of c.gathered-in-Bits64.new.into.bits
    ≡ over (λ p. each1 (λ y. f (element I64 y) p) (on (flag_of a.mask.now) (lane_of a.places.now) p)) (lane_of a.into.now.bits)))
    (found_in c.as_slice-in-Bits64.result.now a.array.now.bits
    (c.as_slice-in-Bits64.ensures.value ∙ sym (ap (λ (y : Cells). held y) c.in-Bits64.is) ∙ c.cells.ensures.words))
    c.gathered-in-Bits64.ensures.lanes
