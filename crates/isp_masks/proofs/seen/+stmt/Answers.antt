use Rattle.std.proofs.Common.{◌≡◌, ◌+◌, ◌-◌, [], ◌∷◌, ◌++◌, ap, arith, length, length-append, suc, sym, ◌∙◌}
use Rattle.std.specs.Prelude.{slice_set}
use Rattle.isp_typed.specs.Nodes.{block_nodes, stmts_nodes}
use Rattle.isp_typed.specs.Typed.{t_stmts}
use Rattle.isp_typed.specs.Views.{block_of, stmt_of, stmts_of}
use Rattle.isp_masks_code.specs.Exits.{exits_of}
use Rattle.isp_masks.specs.declared.seen.Seen.{Seen}
use Rattle.isp_masks.specs.reader.Seen.{parts_seen}
use Rattle.isp_masks.proofs.Splits.{filled}
use Rattle.isp_masks_code.proofs.Lemmas.{block_view, nodes_low}
use Rattle.isp_masks.proofs.seen.+stmt.Goals as goal

pub block-stmt-requires : goal.block-stmt-requires
block-stmt-requires t c =
    let items = c.deref-x-items.result.now in
    let low = nodes_low items c.loop-x.x-index c.x-item.result c.loop-x-test.true c.x-item.is in
    let all : block_nodes (block_of c.args.b.now) ≡ suc (stmts_nodes (t_stmts (stmts_of items))) =
    ap block_nodes (block_view c.args.b.now) ∙ ap (λ zs. suc (stmts_nodes (t_stmts (stmts_of zs)))) (sym c.deref-x-items.ensures.value) in
    omega (arith, low, all, c.decreases)

pub stmt-returns-clause-seen : goal.stmt-returns-clause-seen
stmt-returns-clause-seen t c =
    let old = c.args.seen.now.items in
    let parts = parts_seen (stmt_of c.args.x.now) in
    let at = c.len-at.result in
    let now = c.parts.new.seen.items in
    let room : Seen = record { exits = c.none-exits.result; size = 1 } in
    let same : now ≡ (old ++ room ∷ []) ++ parts = c.in_ok-exits.ensures.seen ∙ ap (λ z. z ++ parts) c.in_ok-push.ensures.items in
    let end : at ≡ length old = c.len-at.ensures ∙ c.args.seen.now.ok.0 in
    let size : c.len.result - at ≡ 1 + length parts =
    omega (arith, c.len.ensures ∙ c.parts.new.seen.ok.0, end, ap length same, length-append (old ++ room ∷ []) parts, length-append old (room ∷ [])) in
    let whole : Seen = record { exits = exits_of (stmt_of c.args.x.now); size = 1 + length parts } in
    ap (λ n. slice_set now at (record { exits = c.in_ok-exits.exits; size = n })) size
    ∙ ap (λ e. slice_set now at (record { exits = e; size = 1 + length parts })) c.in_ok-exits.ensures.exits
    ∙ ap (λ i. slice_set now i whole) end
    ∙ ap (λ z. slice_set z (length old) whole) same
    ∙ filled old parts room whole
