use Rattle.std.proofs.Common.{◌≡◌, sym, ap, ◌∙◌, subst, ℕ, List, ◌<◌, length, get_or, arith}
use Rattle.std.specs.Prelude.{IfOk}
use Rattle.isp_base.specs.Access.{element}
use Rattle.isp_base.specs.Maps.{lane_of, map1, on, over}
use Rattle.isp_base.specs.Rows.{Row}
use Rattle.isp_base.specs.Sets.{flag_of}
use Rattle.isp_base.specs.declared.types.Elem.TheVariants.{I64}
use Rattle.isp_lanes.specs.Lanes.{vector}
use Rattle.isp_store.specs.Held.{Held, bits_of}
use Rattle.isp_store.proofs.Apart.{left_is, left_new, left_set, right_is, right_new, right_set}
use Rattle.isp_store.proofs.arrays.Arrays.gather_at.Goals as goal

pub returns-then-out-index-clause-lanes : goal.returns-then-out-index-clause-lanes
returns-then-out-index-clause-lanes g c =
    let a = c.args in
    let two = c.split_at_mut-front in
    let front = two.result.0.now in
    let back = two.result.1.now in
    let low : a.out < length front = omega (arith, two.ensures.front_len, c.if-out-index.true) in
    let some : 0 < length back = omega (arith, two.ensures.back_len, c.requires.index) in
    let old = left_is a.vectors.now front back two.ensures.value a.out c.index-front-out.result low in
    let new = left_new a.vectors.now front back two.ensures.value a.out c.gather.new.into low in
    let places = right_is a.vectors.now front back two.ensures.value a.index c.index-back-0.result two.ensures.front_len some in
    let Lanes : List Row → Row → List ℕ → Row → Type 0 = λ rs r xs o. IfOk c.gather.result (λ _. lane_of r.bits ≡ over (map1 (λ x. bits_of rs a.array (element I64 x)) (on (flag_of a.mask.now) (lane_of xs))) (lane_of o.bits)) in
    subst (λ r. Lanes a.self.now.rows r (vector a.vectors.now a.index).bits (vector a.vectors.now a.out)) (sym new)
    (subst (λ o. Lanes a.self.now.rows c.gather.new.into (vector a.vectors.now a.index).bits o) (sym old)
    (subst (λ xs. Lanes a.self.now.rows c.gather.new.into xs (get_or front a.out c.index-front-out.result))
    (c.wide_words.ensures ∙ sym (ap (λ (r : Row). r.bits) places))
    (subst (λ rs. Lanes rs c.gather.new.into c.wide_words.result.now (get_or front a.out c.index-front-out.result))
    (c.deref.ensures.value ∙ ap (λ (h : Held). h.rows) c.self.view_is) c.gather.ensures.lanes)))

pub returns-then-out-index-clause-others : goal.returns-then-out-index-clause-others
returns-then-out-index-clause-others g c =
    let a = c.args in
    let two = c.split_at_mut-front in
    let low : a.out < length two.result.0.now = omega (arith, two.ensures.front_len, c.if-out-index.true) in
    left_set a.vectors.now two.result.0.now two.result.1.now two.ensures.value a.out c.gather.new.into low

pub returns-then-index-out-clause-lanes : goal.returns-then-index-out-clause-lanes
returns-then-index-out-clause-lanes g c =
    let a = c.args in
    let two = c.split_at_mut-front-then-index-out in
    let front = two.result.0.now in
    let back = two.result.1.now in
    let low : a.index < length front = omega (arith, two.ensures.front_len, c.if-index-out.true) in
    let some : 0 < length back = omega (arith, two.ensures.back_len, c.requires.out) in
    let into = c.gather-then-index-out.new.into in
    let old = right_is a.vectors.now front back two.ensures.value a.out c.index-back-0-then-index-out.result two.ensures.front_len some in
    let new = right_new a.vectors.now front back two.ensures.value a.out into two.ensures.front_len some in
    let places = left_is a.vectors.now front back two.ensures.value a.index c.index-front-index.result low in
    let Lanes : List Row → Row → List ℕ → Row → Type 0 = λ rs r xs o. IfOk c.gather-then-index-out.result (λ _. lane_of r.bits ≡ over (map1 (λ x. bits_of rs a.array (element I64 x)) (on (flag_of a.mask.now) (lane_of xs))) (lane_of o.bits)) in
    subst (λ r. Lanes a.self.now.rows r (vector a.vectors.now a.index).bits (vector a.vectors.now a.out)) (sym new)
    (subst (λ o. Lanes a.self.now.rows into (vector a.vectors.now a.index).bits o) (sym old)
    (subst (λ xs. Lanes a.self.now.rows into xs (get_or back 0 c.index-back-0-then-index-out.result))
    (c.wide_words-then-index-out.ensures ∙ sym (ap (λ (r : Row). r.bits) places))
    (subst (λ rs. Lanes rs into c.wide_words-then-index-out.result.now (get_or back 0 c.index-back-0-then-index-out.result))
    (c.deref-then-index-out.ensures.value ∙ ap (λ (h : Held). h.rows) c.self.view_is) c.gather-then-index-out.ensures.lanes)))

pub returns-then-index-out-clause-others : goal.returns-then-index-out-clause-others
returns-then-index-out-clause-others g c =
    let a = c.args in
    let two = c.split_at_mut-front-then-index-out in
    let some : 0 < length two.result.1.now = omega (arith, two.ensures.back_len, c.requires.out) in
    right_set a.vectors.now two.result.0.now two.result.1.now two.ensures.value a.out c.gather-then-index-out.new.into two.ensures.front_len some
