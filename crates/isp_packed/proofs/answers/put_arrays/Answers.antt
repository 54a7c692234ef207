use Rattle.std.proofs.Common.{ℕ, ◌-◌, List, ◌++◌, length, take, drop, sym, ap, ◌∙◌, arith, length-drop, length-take}
use Rattle.std.proofs.lemmas.List.{take_rest}
use Rattle.std.specs.List.{flat_map}
use borrow.Rule.Slice.PartMut.{put_mid}
use Rattle.isp_packed.specs.Packing.{packed_array}
use Rattle.isp_packed.proofs.Writes.{appended, one_more, one_more_bytes, room_for_one}
use Rattle.isp_packed.proofs.answers.put_arrays.Goals as goal

pub put_array-end-requires : goal.put_array-end-requires
put_array-end-requires c =
    let l = c.loop-array in
    let room = room_for_one c.args.arrays.now l.array-index c.array-item.result l.end (length l.into) (length c.args.into.now) c.loop-array-test.true c.array-item.is l.invariant.0 l.auto.into c.requires in
    omega (arith, room, length-take {A = ℕ}, length-drop {A = ℕ})

pub loop-array-preserved : goal.loop-array-preserved
loop-array-preserved c =
    let rs = c.args.arrays.now in
    let l = c.loop-array in
    let a = c.array-item.result in
    let f = flat_map packed_array (take l.array-index rs) in
    let more = one_more_bytes rs l.array-index a c.loop-array-test.true c.array-item.is in (
      omega (arith, more, l.invariant.0, c.put_array-end.ensures.end),
      ap (put_mid l.end (length l.into - l.end) l.into) c.put_array-end.ensures.bytes
          ∙ appended f (packed_array a) c.args.into.now l.into _ l.end (length l.into - l.end) l.invariant.0 l.invariant.1 (take_rest l.into l.end) (omega arith)
          ∙ ap (λ (g : List ℕ). g ++ drop (length g) c.args.into.now) (sym (one_more rs l.array-index a c.loop-array-test.true c.array-item.is)),
    )
