use Rattle.std.proofs.Common.{◌≡◌, ◌+◌, ◌-◌, ap, arith, drop, length, length-drop, refl, take, take_all}
use Rattle.isp_masks.proofs.Telling.{told_done, told_first, told_more}
use Rattle.isp_masks.proofs.printing.tell.Goals as goal

pub loop-end-init : goal.loop-end-init
loop-end-init c =
    let a = c.args in
    (c.word_end-first.ensures.end, omega arith, λ h g. told_first a.b.now c.say.new.b h a.text.now _ c.word_end-first.result a.shown.now a.k.number c.word_end-first.ensures.end refl c.in_ok-say.ensures g)

pub loop-end-preserved : goal.loop-end-preserved
loop-end-preserved c =
    let l = c.loop-end in
    let bs = l.rest.now in
    let n = l.end in
    let more = take (length bs - (n + 1)) (drop (n + 1) bs) in
    let same : more ≡ drop (n + 1) bs = take_all (length bs - (n + 1)) (drop (n + 1) bs) (omega (arith, length-drop (n + 1) bs)) in (
      c.word_end-end.ensures.end,
      omega (arith, ap length same, length-drop (n + 1) bs, l.invariant.1),
      λ h w.
          l.invariant.2 h
          (told_more l.b c.show_first.new.b c.say-in-loop-end.new.b h bs more _ n c.word_end-end.result l.left.now _ c.args.k.number l.invariant.0 c.loop-end-test.true same c.word_end-end.ensures.end refl
          c.in_ok-left.ensures.others c.in_ok-left.ensures.code c.in_ok-say-2.ensures w),
    )

pub returns : goal.returns
returns c = c.loop-end.invariant.2 c.loop-end.b (told_done c.loop-end.b c.loop-end.rest.now c.loop-end.end c.loop-end.left.now c.args.k.number c.loop-end-test.false)
