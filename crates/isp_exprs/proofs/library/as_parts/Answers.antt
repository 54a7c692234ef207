use Rattle.std.proofs.Common.{◌≡◌, map}
use Rattle.std.specs.List.{zip}
use Rattle.std.proofs.lemmas.Iterator.{YieldsList-from_slice, YieldsList-from_zip}
use Rattle.std.proofs.lemmas.Iterator.Adapters.{YieldsList-from_vec}
use Rattle.std.proofs.lemmas.Iterator.Consumers.{YieldsList-end}
use Rattle.isp_typed.specs.Views.{exprs_of}
use Rattle.isp_exprs.proofs.LibraryParts.{pair_seen, parts_end}
use Rattle.isp_exprs.proofs.library.as_parts.Goals as goal

pub returns : goal.returns
returns c =
    let all : map pair_seen c.loop-part.yielded ≡ zip c.args.parts.now c.args.values.items =
    (YieldsList-end (YieldsList-from_zip (YieldsList-from_slice c.args.parts.now (cc)) (YieldsList-from_vec c.args.values.items (cc) (cc)))
    c.loop-part.yielded c.loop-part.part-iterator c.loop-part.yielded_by c.next.result c.next.new.self c.in-None.is c.next.ensures.steps).0 in
    parts_end c.args.worked c.args.parts.now c.args.values.items c.loop-part.yielded (exprs_of c.loop-part.all.items) all c.loop-part.invariant
