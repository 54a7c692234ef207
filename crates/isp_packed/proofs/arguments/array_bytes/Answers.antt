use Rattle.std.proofs.Common.{◌≡◌, ◌+◌, ◌*◌, length, ap, ap₂, sym, ◌∙◌, arith, ℕ}
use Rattle.isp_packed.specs.Packing.{size}
use Rattle.isp_packed.proofs.Sizes.{length_array}
use Rattle.isp_packed.proofs.arguments.array_bytes.Goals as goal

pub overflow_mul-elements : goal.overflow_mul-elements
overflow_mul-elements c =
    let a = c.args.array.now in
    let whole = length_array a in
    let elements : c.size.result * c.len.result ≡ size a.elem * length a.bits = ap₂ (λ (x y : ℕ). x * y) (c.size.ensures ∙ ap size c.elem.ensures) c.len.ensures in
    omega (arith, whole, elements, c.requires)

pub overflow_add-result : goal.overflow_add-result
overflow_add-result c =
    let a = c.args.array.now in
    let whole = length_array a in
    let elements : c.size.result * c.len.result ≡ size a.elem * length a.bits = ap₂ (λ (x y : ℕ). x * y) (c.size.ensures ∙ ap size c.elem.ensures) c.len.ensures in
    omega (arith, whole, elements, c.requires)

pub returns-clause-whole : goal.returns-clause-whole
returns-clause-whole c =
    let a = c.args.array.now in
    let elements : c.size.result * c.len.result ≡ size a.elem * length a.bits = ap₂ (λ (x y : ℕ). x * y) (c.size.ensures ∙ ap size c.elem.ensures) c.len.ensures in
    ap (λ (n : ℕ). 8 + n) elements ∙ sym (length_array a)

pub returns-clause-parts : goal.returns-clause-parts
returns-clause-parts c =
    let a = c.args.array.now in
    let elements : c.size.result * c.len.result ≡ size a.elem * length a.bits = ap₂ (λ (x y : ℕ). x * y) (c.size.ensures ∙ ap size c.elem.ensures) c.len.ensures in
    ap (λ (n : ℕ). 8 + n) elements
