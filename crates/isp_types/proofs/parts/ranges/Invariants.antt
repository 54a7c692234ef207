use Rattle.std.proofs.Common.{◌≡◌, length, map}
use Rattle.std.specs.Iterator.Adapters.{zip_first, zip_second}
use Rattle.std.specs.Slice.Iter.{iter_rest}
use Rattle.std.specs.Vec.Iter.{into_iter_items, into_iter_len}
use Rattle.isp_tree.specs.Views.{range_of as read_range}
use Rattle.isp_typed.specs.Verdicts.{made}
use Rattle.isp_types.specs.Numbering.{range_names, range_variables}
use Rattle.isp_types.specs.Statements.{ranges_typing}
use Rattle.isp_types.specs.reader.Boxes.{boxed_pair, listed_ranges}
use Rattle.isp_types.specs.reader.Lists.{bounds_verdict}
use Rattle.isp_types.proofs.Joined.{joined}
use Rattle.isp_types.proofs.parts.ranges.Given as goal

abbrev pub invariant-loop-r : goal.invariant-loop-r
invariant-loop-r l = record {
  long : into_iter_len (zip_second l.r-iterator) ≡ length (into_iter_items (zip_second l.r-iterator));
  bounds : map (made boxed_pair) (into_iter_items (zip_second l.r-iterator))
      ≡ map (bounds_verdict l.setting.gang l.setting.headers.now l.initial.scope) (map read_range (iter_rest (zip_first l.r-iterator)));
  value : joined (made listed_ranges l.done) (ranges_typing l.setting.gang l.setting.headers.now l.initial.scope (length l.initial.scope) l.scope l.variables.items (map read_range (iter_rest (zip_first l.r-iterator)))).verdict
      ≡ (ranges_typing l.setting.gang l.setting.headers.now l.initial.scope (length l.initial.scope) l.initial.scope l.initial.variables.items (map read_range l.all)).verdict;
  names : range_names l.scope l.variables.items (map read_range (iter_rest (zip_first l.r-iterator))) ≡ range_names l.initial.scope l.initial.variables.items (map read_range l.all);
  variables : range_variables l.variables.items (map read_range (iter_rest (zip_first l.r-iterator))) ≡ range_variables l.initial.variables.items (map read_range l.all);
}
