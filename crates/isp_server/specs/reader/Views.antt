-- What the code's deeds stand for.
use Rattle.std.specs.Prelude.{ℕ, List, Option, Some, None}
use Rattle.serde_json.specs.Data.{Data, null}
use Rattle.serde_json.specs.View.{view}
use Rattle.serde_json.specs.declared.value.Value.{Value}
use Rattle.isp_server.specs.Deeds.{Deed, Place, refuse, introduce, shut_down, tell, complete, rename, hold, release, leave, ignore}
use Rattle.isp_server.specs.declared.deed.Deed as rust
use Rattle.isp_server.specs.declared.deed.Deed.TheVariants as the
use Rattle.isp_server.specs.declared.deed.Document.{Document}
use Rattle.isp_server.specs.declared.deed.Place as rust_place
use denote.Ref.{Bor}

-- the data of an id, where there is one
abbrev pub id_view : Option (Bor Value) → Data
id_view None = null
id_view (Some id) = view id.now

abbrev pub document_view : Document → List ℕ × List ℕ
document_view d = (d.uri.now, d.text.now)

abbrev pub place_view : rust_place.Place → Place
place_view p = record { uri = p.uri.now; line = p.line; character = p.character }

abbrev pub deed_view : rust.Deed → Deed
deed_view (the.Refuse id why) = refuse (id_view id) why
deed_view (the.Introduce id) = introduce (view id.now)
deed_view (the.ShutDown id) = shut_down (view id.now)
deed_view (the.Tell id question at) = tell (view id.now) question (place_view at)
deed_view (the.Complete id at) = complete (view id.now) (place_view at)
deed_view (the.Rename id at name) = rename (view id.now) (place_view at) name.now
deed_view (the.Hold d) = hold d.uri.now d.text.now
deed_view (the.Release uri) = release uri.now
deed_view the.Leave = leave
deed_view the.Ignore = ignore
