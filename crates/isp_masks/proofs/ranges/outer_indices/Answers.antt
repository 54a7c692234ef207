use Rattle.std.proofs.Common.{[], ◌∷◌, refl, sym, subst, append-nil}
use Rattle.std.proofs.lemmas.List.{drop_all}
use Rattle.isp_code.specs.declared.instr.Instr.{Instr}
use Rattle.isp_lower.specs.Emitted.{Appends}
use Rattle.isp_masks.specs.Written.{index_codes}
use Rattle.isp_masks.proofs.RangesWritten.{indices_more}
use Rattle.isp_masks.proofs.ranges.outer_indices.Goals as goal

pub loop-x-preserved : goal.loop-x-preserved
loop-x-preserved c = λ z g.
    let one = subst (λ (x : Instr). Appends c.loop-x.b c.push.new.self (λ pc p. x ∷ []) []) c.spread.ensures c.in_ok-push.ensures in
    c.loop-x.invariant z (indices_more c.args.k.number c.loop-x.b c.push.new.self z c.args.set.now c.loop-x.x-index _ c.loop-x-test.true one g)

pub returns : goal.returns
returns c =
    let b = c.loop-x.b in
    c.loop-x.invariant b
    (subst (λ zs. Appends b b (λ pc p. index_codes c.args.k.number zs) []) (sym (drop_all c.loop-x.x-index c.args.set.now c.loop-x-test.false))
    (record { code = sym (append-nil b.code.items); places = sym (append-nil b.places.items); texts = refl }))
