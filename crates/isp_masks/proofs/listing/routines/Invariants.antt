use Rattle.std.proofs.Common.{◌≡◌, take}
use Rattle.isp_lower.specs.Drafts.{all_routines, draft_of}
use Rattle.isp_typed.specs.Views.{functions_of}
use Rattle.isp_masks.specs.Added.{AreLowered}
use Rattle.isp_masks.proofs.Listings.{AreFew}
use Rattle.isp_masks.proofs.listing.routines.Given as goal

abbrev pub invariant-loop-f : goal.invariant-loop-f
invariant-loop-f l =
    AreLowered (draft_of l.initial.e).callees (functions_of (take l.f-index l.functions)) (all_routines (draft_of l.e)) (draft_of l.e).places
    (draft_of l.e).texts × ((draft_of l.e).gang ≡ (draft_of l.initial.e).gang) × ((draft_of l.e).callees ≡ (draft_of l.initial.e).callees)
    × AreFew (functions_of (take l.f-index l.functions)) (draft_of l.e)
