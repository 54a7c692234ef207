use Rattle.std.proofs.Common.{◌≡◌, length}
use Rattle.std.specs.Prelude.{is_some}
use Rattle.isp_solo_run.specs.Arrays.{read_in, wrote_in}
use Rattle.isp_solo_run.specs.Touches.{touched}
use Rattle.isp_solo_run.proofs.Touching.{Joined}
use Rattle.isp_solo_run.proofs.touches.join.Given as goal

abbrev pub invariant-loop-place : goal.invariant-loop-place
invariant-loop-place l =
    record {
      joined : Joined (λ t e. touched t l.instance (read_in l.array e) (is_some (wrote_in l.array e))) l.initial.touches l.touches l.place;
      long : length l.touches ≡ length l.initial.touches;
    }
