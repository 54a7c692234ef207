use Rattle.std.proofs.Common.{◌≡◌, drop, map}
use Rattle.isp_alike.specs.Renamed.{kinds, renamed_kind}
use Rattle.isp_alike.proofs.token.are_renamed.Given as goal

abbrev pub invariant-loop-after : goal.invariant-loop-after
invariant-loop-after l =
    kinds (drop l.after-index l.new) ≡ map (renamed_kind l.starts l.name) l.rest → kinds l.new ≡ map (renamed_kind l.starts l.name) l.old
