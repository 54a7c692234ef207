use Rattle.std.proofs.Common.{rules, ◌%◌, ◌≡◌, ap, ◌∙◌, ℕ, ◌+◌, ◌-◌, arith, List, length, get_or, take, drop}
use Rattle.std.proofs.lemmas.List.{get_or-take, get_or-drop}
use Rattle.isp_cross.proofs.Places.{get_or-twice}
use Rattle.isp_cross.proofs.moves.turned.Goals as goal

pub shared_whole_as_slice-as_flattened : goal.shared_whole_as_slice-as_flattened
shared_whole_as_slice-as_flattened g c = omega (arith, c.requires.few)

pub returns : goal.returns
returns g c p h =
    let n = g.row.N in
    let k = c.args.from in
    let two : List ℕ = c.as_flattened.result.now in
    get_or-take n (take (length two - k) (drop k two)) p 0 h
    ∙ get_or-take (length two - k) (drop k two) p 0 (omega (arith, h, c.requires.within, c.as_flattened.ensures.len))
    ∙ get_or-drop k two p 0
    ∙ ap (λ r. get_or r (k + p) 0) c.as_flattened.ensures.value
    ∙ get_or-twice c.args.x n (k + p) (search rules) (omega (arith, h, c.requires.within))
    ∙ ap (λ q. get_or c.args.x (q % n) 0) (let e : k + p ≡ p + k = omega arith in e)
