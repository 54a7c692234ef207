use Rattle.std.proofs.Common.{◌∙◌, ap, List, ◌++◌, ◌∷◌, [], map}
use Rattle.std.proofs.lemmas.List.{map_push}
use Rattle.isp_base.specs.Rows.{Row}
use Rattle.isp_frames.specs.Begun.{Seen, seen}
use Rattle.isp_frames.proofs.passed.push_zero.Goals as goal

pub returns : goal.returns
returns g c =
    let vs = c.args.vectors.now.items in
    let items = c.in_ok-extend_from_slice.ensures.items ∙ ap (λ (xs : List Row). vs ++ xs) c.from_ref.ensures.value in
    ap (map seen) items ∙ map_push seen vs _ ∙ ap (λ (s : Seen). map seen vs ++ s ∷ []) c.of.ensures
