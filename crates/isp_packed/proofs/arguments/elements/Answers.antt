use Rattle.std.proofs.Common.{◌≡◌, ℕ, ◌*◌, ◌^◌, ◌<◌, List, length, take, Result, Ok, sym, ap, subst, ◌∙◌, arith}
use Rattle.isp_base.specs.Held.{held}
use Rattle.isp_base.specs.Rows.{Row, Fit}
use Rattle.isp_base.specs.declared.types.Elem.{Elem}
use Rattle.isp_packed.specs.Packing.{size}
use Rattle.isp_packed.specs.declared.fault.PackedFault.{PackedFault}
use Rattle.isp_packed.proofs.Elements.{elements_short}
use Rattle.isp_packed.proofs.Fits.{elements_fit, elements_held}
use Rattle.isp_packed.proofs.Sizes.{fewer}
use Rattle.isp_packed.proofs.arguments.elements.Goals as goal

pub returns-in_default-checked_mul-clause-err : goal.returns-in_default-checked_mul-clause-err
returns-in_default-checked_mul-clause-err c = λ other.
    let a = c.args in
    let end : c.size.result * a.count ≡ size a.elem * a.count = ap (λ (n : ℕ). n * a.count) c.size.ensures in
    let few : length a.bytes.now < 2 ^ 64 = omega arith in
    let less = fewer (length a.bytes.now) (size a.elem * a.count) few (subst (λ (n : ℕ). n < 2 ^ 64 → ⊥) end c.in_default-checked_mul.ensures) in
    elements_short a.number 0 a.count (size a.elem) a.elem a.bytes.now c.in_default.ensures.none less

pub returns-then-bytes-end-clause-err : goal.returns-then-bytes-end-clause-err
returns-then-bytes-end-clause-err c = λ other.
    let a = c.args in
    let end : c.in-Some-checked_mul.end ≡ size a.elem * a.count = c.in-Some-checked_mul.ensures.1 ∙ ap (λ (n : ℕ). n * a.count) c.size.ensures in
    elements_short a.number 0 a.count (size a.elem) a.elem a.bytes.now c.in_default.ensures.none (omega (arith, end, c.if-bytes-end.true))

pub put_cells-requires-clause-fits : goal.put_cells-requires-clause-fits
put_cells-requires-clause-fits c =
    let a = c.args in
    let end : c.in-Some-checked_mul.end ≡ size a.elem * a.count = c.in-Some-checked_mul.ensures.1 ∙ ap (λ (n : ℕ). n * a.count) c.size.ensures in
    let part = c.split_at.ensures.front ∙ ap (λ (i : ℕ). take i a.bytes.now) end in
    let found = elements_held a.number a.count a.elem a.bytes.now c.split_at.result.0.now (held c.in_ok-cells.cells) c.in_default.ensures.none (omega (arith, end, c.if-bytes-end.false)) part c.in_ok-cells.ensures.words in
    let fits = (elements_fit a.number 0 a.count (size a.elem) a.elem a.bytes.now (held c.in_ok-cells.cells) found).0 in
    subst (λ (u : Elem). Fit u (held c.in_ok-cells.cells)) (sym (ap (λ (r : Row). r.elem) c.empty-array.ensures)) fits

pub returns-clause-ok : goal.returns-clause-ok
returns-clause-ok c =
    let a = c.args in
    let end : c.in-Some-checked_mul.end ≡ size a.elem * a.count = c.in-Some-checked_mul.ensures.1 ∙ ap (λ (n : ℕ). n * a.count) c.size.ensures in
    let part = c.split_at.ensures.front ∙ ap (λ (i : ℕ). take i a.bytes.now) end in
    let found = elements_held a.number a.count a.elem a.bytes.now c.split_at.result.0.now (held c.in_ok-cells.cells) c.in_default.ensures.none (omega (arith, end, c.if-bytes-end.false)) part c.in_ok-cells.ensures.words in
    found ∙ ap (λ (r : Row). let x : Result (List ℕ) PackedFault = Ok r.bits in x) (sym c.put_cells.ensures)

pub returns-clause-within : goal.returns-clause-within
returns-clause-within c =
    let a = c.args in
    let end : c.in-Some-checked_mul.end ≡ size a.elem * a.count = c.in-Some-checked_mul.ensures.1 ∙ ap (λ (n : ℕ). n * a.count) c.size.ensures in
    let part = c.split_at.ensures.front ∙ ap (λ (i : ℕ). take i a.bytes.now) end in
    let found = elements_held a.number a.count a.elem a.bytes.now c.split_at.result.0.now (held c.in_ok-cells.cells) c.in_default.ensures.none (omega (arith, end, c.if-bytes-end.false)) part c.in_ok-cells.ensures.words in
    let long : length c.put_cells.new.self.bits ≡ a.count =
    ap (λ (r : Row). length r.bits) c.put_cells.ensures ∙ (elements_fit a.number 0 a.count (size a.elem) a.elem a.bytes.now (held c.in_ok-cells.cells) found).1 in
    let same : size a.elem * length c.put_cells.new.self.bits ≡ size a.elem * a.count = ap (λ (n : ℕ). size a.elem * n) long in
    omega (arith, same, end, c.if-bytes-end.false)
