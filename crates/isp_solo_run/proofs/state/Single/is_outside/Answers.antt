use Rattle.std.proofs.Common.{◌∙◌, ap, sym}
use Rattle.isp_solo_meaning.specs.Places.{outside}
use Rattle.isp_base.specs.Access as Access
use Rattle.isp_solo_run.specs.Seen.{frame_seen, spot_seen}
use Rattle.isp_solo_run.specs.declared.places.Place.{Place}
use Rattle.isp_solo_run.proofs.state.Single.is_outside.Goals as goal

pub returns-in-Variable : goal.returns-in-Variable
returns-in-Variable c =
    sym (ap (λ (k : Place). outside (frame_seen c.args.self.now.here) (spot_seen k)) c.in-Variable.is)

pub returns-in-Element : goal.returns-in-Element
returns-in-Element c =
    c.is_outside.ensures ∙ ap (λ n. Access.is_outside c.in-Element.elem n c.in-Element.index) c.extent.ensures ∙ sym (ap (λ (k : Place). outside (frame_seen c.args.self.now.here) (spot_seen k)) c.in-Element.is)
