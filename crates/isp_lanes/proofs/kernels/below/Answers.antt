use Rattle.std.proofs.Common.{ap, ◌∙◌, ℕ, ◌-◌, ◌^◌, cond, nat_lt, map, replicate, List}
use Rattle.std.specs.Simd.Lanes.{zip2, sel_l, top}
use Rattle.std.specs.List.{range_with_len}
use Rattle.std.proofs.lemmas.List.FromFn.{length-range_with_len}
use Rattle.isp_lanes.proofs.Flags.{flags_of_splat}
use Rattle.isp_lanes.proofs.kernels.below.Goals as goal

pub returns : goal.returns
returns g c =
    let n = g.row.N in
    ap (λ (xs : List ℕ). sel_l {A = ℕ} (map (top 63) (zip2 (λ a b. cond (nat_lt a b) (2 ^ 64 - 1) 0) xs (replicate n c.args.bound))) (replicate n 1) (replicate n 0)) c.numbers.ensures
    ∙ flags_of_splat nat_lt n c.args.bound (range_with_len 0 n) (length-range_with_len 0 n)
