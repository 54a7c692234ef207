use Rattle.std.proofs.Common.{◌<◌, length, map, sym, arith}
use Rattle.std.proofs.lemmas.Option.{slice_get_within}
use Rattle.serde_json.specs.View.{view}
use Rattle.isp_server.specs.Completions.{library_item}
use Rattle.isp_server.specs.Library.{signatures}
use Rattle.isp_server.specs.reader.Signatures.{signature_view}
use Rattle.isp_server.proofs.Libraries.{all_done, few, one_more}
use Rattle.isp_server.proofs.completion.push_library.Goals as goal

pub overflow_add-number : goal.overflow_add-number
overflow_add-number c =
    let within : c.loop-found.number < length signatures = slice_get_within signatures c.loop-found.number (signature_view c.in-Some.found) (sym c.in-Some.ensures) in
    omega (arith, few)

pub loop-found-smaller : goal.loop-found-smaller
loop-found-smaller c =
    let within : c.loop-found.number < length signatures = slice_get_within signatures c.loop-found.number (signature_view c.in-Some.found) (sym c.in-Some.ensures) in
    omega arith

pub loop-found-preserved : goal.loop-found-preserved
loop-found-preserved c =
    let within : c.loop-found.number < length signatures = slice_get_within signatures c.loop-found.number (signature_view c.in-Some.found) (sym c.in-Some.ensures) in (
      omega arith,
      one_more library_item signatures (map view c.args.items.now.items) c.loop-found.number (signature_view c.in-Some.found) (map view c.loop-found.items.items) (map view c.push_item.new.items.items) c.in-Some.ensures c.in_ok-push_item.ensures c.loop-found.invariant.1,
    )

pub returns : goal.returns
returns c = all_done library_item signatures (map view c.args.items.now.items) c.loop-found.number (map view c.loop-found.items.items) (sym c.in_default.ensures) c.loop-found.invariant.1
