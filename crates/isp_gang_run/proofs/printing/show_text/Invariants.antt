use Rattle.std.proofs.Common.{◌≡◌, ◌≤◌, map}
use Rattle.isp_base.specs.Sets.{flag_of}
use Rattle.isp_base.specs.Types.{gang_width}
use Rattle.isp_typed.specs.Views.{exprs_of}
use Rattle.isp_meaning.specs.Printing.{shown_all}
use Rattle.isp_gang_values.specs.Seen.{payload_of}
use Rattle.isp_gang_run.proofs.Printed.{so_far}
use Rattle.isp_gang_run.proofs.printing.show_text.Given as goal

abbrev pub invariant-loop-place : goal.invariant-loop-place
invariant-loop-place l =
    record {
      written : so_far l.output.items l.place l.next l.text
          (shown_all (gang_width l.gang) (flag_of l.set) (exprs_of l.shown) (map payload_of l.values))
          ≡ so_far l.initial.output.items 0 0 l.text (shown_all (gang_width l.gang) (flag_of l.set) (exprs_of l.shown) (map payload_of l.values));
      low : l.next ≤ l.place;
    }
