use Rattle.std.proofs.Common.{◌≡◌, ◌++◌, map, take}
use Rattle.isp_lower.proofs.listing.add_texts.Given as goal

abbrev pub invariant-loop-text : goal.invariant-loop-text
invariant-loop-text l = l.code ≡ record l.initial.code { texts = l.initial.code.texts ++ map (λ t. t.items) (take l.text-index l.texts) }
