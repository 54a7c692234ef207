use Rattle.std.proofs.Common.{sym, ap, ap₂, ◌∙◌, ℕ}
use Rattle.isp_base.specs.Maps.{Map}
use Rattle.isp_base.specs.Sets.{flag_of}
use Rattle.isp_meaning.specs.Library.{chosen_by, chosen_one}
use Rattle.isp_meaning.specs.Payloads.{Each}
use Rattle.isp_gang_values.specs.Seen.{map_of, payload_of}
use Rattle.isp_gang_values.proofs.library.chosen.Goals as goal

pub returns-in-Each : goal.returns-in-Each
returns-in-Each c =
    ap Each (c.chosen_row.ensures ∙ ap₂ {C = Map} (λ (f g : Map) (p : ℕ). chosen_one (map_of c.in-Each.row p) (f p) (g p)) c.spread.ensures c.spread-in-Each.ensures)
    ∙ sym (ap (λ v. chosen_by (flag_of c.args.set.now) (payload_of v) (payload_of c.args.first.now) (payload_of c.args.second.now)) c.in-Each.is)
