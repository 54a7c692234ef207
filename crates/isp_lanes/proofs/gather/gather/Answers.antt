use Rattle.std.proofs.Common.{◌≡◌, sym, ap, ◌∙◌, arith, map}
use Rattle.std.specs.Prelude.{slice_set}
use Rattle.std.specs.List.{range_with_len}
use Rattle.std.specs.Simd.Lanes.{zip2}
use Rattle.isp_base.specs.Maps.{lane_of}
use Rattle.isp_base.specs.Sets.{flag_of}
use Rattle.isp_lanes.proofs.Failing.{none_fails}
use Rattle.isp_lanes.proofs.MaskLanes.{bit_is}
use Rattle.isp_lanes.proofs.Gathered.{so_far, far_on, far_off, far_all, word_found, words_long}
use Rattle.isp_lanes.proofs.gather.gather.Goals as goal
use Rattle.isp_lanes.proofs.gather.gather.Goals.{then-get, else-get}

pub find-requires-clause-inside : goal.find-requires-clause-inside
find-requires-clause-inside g c =
    let a = c.args in
    let is = sym (bit_is a.mask.now c.bits-lanes.result.bits c.loop-lane.lane c.bits-lanes.ensures) ∙ sym c.get.ensures ∙ c.if-get.true in
    none_fails (g.S.Source.outside a.source.now) (flag_of a.mask.now) (lane_of a.places.now) g.row.N (sym c.first_outside.ensures ∙ c.in-None.is) c.loop-lane.lane c.loop-lane-test.true is

pub loop-lane-preserved : goal.loop-lane-preserved
loop-lane-preserved g c =
    let a = c.args in
    let l = c.loop-lane in
    let n = g.row.N in
    let with = g.W.Word.with_bits in
    let word = g.S.Source.word a.source.now in
    let new = map with (zip2 word (range_with_len 0 n) a.places.now) in
    elim c.if-get.branch [
      | then-get w ↦
          let is = sym (bit_is a.mask.now c.bits-lanes.result.bits l.lane c.bits-lanes.ensures) ∙ sym c.get.ensures ∙ w.if-get.true in
          w.words-is ∙ ap (λ ws. slice_set ws l.lane w.of.result) l.invariant
          ∙ far_on l.lane n a.mask.now new a.words.now w.of.result w.of.result c.told.ensures.long (words_long with word n a.places.now c.told-places) c.told-words c.loop-lane-test.true is
          (w.of.ensures ∙ ap with w.find.ensures ∙ sym (word_found with word n l.lane a.places.now w.of.result c.told-places c.loop-lane-test.true))
      | else-get w ↦
          let off = sym (bit_is a.mask.now c.bits-lanes.result.bits l.lane c.bits-lanes.ensures) ∙ sym c.get.ensures ∙ w.if-get.false in
          w.words-is ∙ l.invariant ∙ far_off l.lane a.mask.now new a.words.now off
    ]

pub returns-clause-words : goal.returns-clause-words
returns-clause-words g c =
    let a = c.args in
    let l = c.loop-lane in
    let n = g.row.N in
    let with = g.W.Word.with_bits in
    let word = g.S.Source.word a.source.now in
    let new = map with (zip2 word (range_with_len 0 n) a.places.now) in
    let all : l.lane ≡ n = omega (arith, c.loop-lane-test.false, l.auto.lane-end) in
    l.invariant ∙ ap (λ k. so_far k a.mask.now new a.words.now) all ∙ far_all n a.mask.now new a.words.now c.told.ensures.long (words_long with word n a.places.now c.told-places) c.told-words
