use Rattle.std.proofs.Common.{◌≡◌, ℕ, ◌≤◌, length, drop, sym, ap, subst, ◌∙◌, arith}
use Rattle.isp_base.specs.declared.signature.Argument.{Argument}
use Rattle.isp_base.specs.declared.signature.Argument.TheVariants.{Array as AnArray}
use Rattle.isp_packed.specs.Packing.{packed_argument, packed_array}
use Rattle.isp_packed.proofs.arguments.behind.Goals as goal

pub array_bytes-requires : goal.array_bytes-requires
array_bytes-requires c =
    let is : c.args.argument.now ≡ AnArray c.in-Array.array = cc in
    let room : length (packed_array c.in-Array.array) ≤ length c.args.bytes.now = subst (λ (x : Argument). length (packed_argument x) ≤ length c.args.bytes.now) is c.requires in
    omega (arith, room)

pub split_at-requires-in-Array : goal.split_at-requires-in-Array
split_at-requires-in-Array c =
    let is : c.args.argument.now ≡ AnArray c.in-Array.array = cc in
    let room : length (packed_array c.in-Array.array) ≤ length c.args.bytes.now = subst (λ (x : Argument). length (packed_argument x) ≤ length c.args.bytes.now) is c.requires in
    omega (arith, room, c.array_bytes.ensures.whole)

pub returns-in-Array : goal.returns-in-Array
returns-in-Array c =
    let is : c.args.argument.now ≡ AnArray c.in-Array.array = cc in
    c.split_at-in-Array.ensures.back ∙ ap (λ (i : ℕ). drop i c.args.bytes.now) (c.array_bytes.ensures.whole ∙ ap (λ (x : Argument). length (packed_argument x)) (sym is))
