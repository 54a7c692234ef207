use Rattle.std.proofs.Common.{◌∙◌, ap, sym, refl}
use Rattle.isp_solo_meaning.specs.Answers.{Has}
use Rattle.isp_solo_meaning.specs.Values.{held}
use Rattle.isp_solo_run.specs.Seen.{frame_seen, spot_seen}
use Rattle.isp_solo_run.specs.Tasks.{bound_in, state_seen}
use Rattle.isp_solo_run.specs.declared.places.Place.{Place}
use Rattle.isp_solo_run.proofs.Writes.{found_finds, held_outside}
use Rattle.isp_solo_run.proofs.state.Single.hold.Goals as goal

pub returns-in-Variable : goal.returns-in-Variable
returns-in-Variable c =
    let old = c.args.self.now in
    (ap (λ (k : Place). held (bound_in old.setting) old.setting.instance (frame_seen old.here) c.args.span (spot_seen k) (state_seen old)) c.in-Variable.is ∙ ap (λ x. Has x (state_seen old)) (sym c.variable.ensures), refl)

pub returns-then-is_outside : goal.returns-then-is_outside
returns-then-is_outside c =
    let old = c.args.self.now in
    held_outside old c.args.place.now c.args.span c.in-Element.array c.in-Element.elem c.in-Element.index c.trap.result c.in-Element.is c.trap.ensures (sym c.is_outside.ensures ∙ c.if-is_outside.true)

pub returns-else-is_outside : goal.returns-else-is_outside
returns-else-is_outside c =
    let old = c.args.self.now in
    found_finds old c.args.place.now c.args.span c.in-Element.array c.in-Element.elem c.in-Element.index c.found.new.self c.element.result
    c.found.result c.in-Element.is c.element.ensures (sym c.is_outside.ensures ∙ c.if-is_outside.false) c.found.ensures
