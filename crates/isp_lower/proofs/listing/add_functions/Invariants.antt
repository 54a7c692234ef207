use Rattle.std.proofs.Common.{◌≡◌, ◌++◌, map, true}
use Rattle.std.specs.List.{list_all}
use Rattle.isp_code.specs.Writable.{parts_fit}
use Rattle.isp_lower_code.specs.Lines.{has_small_numbers}
use Rattle.isp_lower.specs.Drafts.{routine_in}
use Rattle.isp_lower.proofs.listing.add_functions.Given as goal

abbrev pub invariant-loop-f : goal.invariant-loop-f
invariant-loop-f l =
    (l.code.routines ++ map routine_in l.f-iterator.rest.items ≡ l.initial.code.routines ++ map routine_in l.fn.functions.items)
    × (l.code.gang ≡ l.initial.code.gang)
    × (l.code.places ≡ l.initial.code.places)
    × (l.code.texts ≡ l.initial.code.texts)
    × (list_all parts_fit (map routine_in l.f-iterator.rest.items) ≡ true)
    × (list_all has_small_numbers (map routine_in l.f-iterator.rest.items) ≡ true)
