use Rattle.std.proofs.Common.{◌++◌, ◌-◌, ◌+◌, ◌∙◌, sym, ap, append_assoc, arith}
use Rattle.std.specs.List.{flat_map}
use Rattle.isp_wasm_meaning.specs.Ladder.{counting}
use Rattle.isp_wasm_binary.specs.Numbers.{u32}
use Rattle.isp_wasm_binary.proofs.Steps.{counted}
use Rattle.isp_wasm_binary.proofs.bytes.Bytes.labels.Goals as goal

pub loop-label-preserved : goal.loop-label-preserved
loop-label-preserved c =
    let k = c.loop-label.label in
    let rest = flat_map u32 (counting (c.args.count - (k + 1)) (k + 1)) in
    ap (λ l. l ++ rest) c.in_ok-unsigned.ensures ∙ append_assoc c.loop-label.self (u32 k) rest
    ∙ ap (λ ks. c.loop-label.self ++ flat_map u32 ks) (sym (counted c.args.count k (omega arith))) ∙ c.loop-label.invariant
