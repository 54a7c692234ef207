-- What one message does to a connection, and what is sent after it.
--     Does deed old new sent next       so a deed does
--     Goes old content new sent next    so the content of a message does
use Rattle.std.specs.Prelude.{◌≡◌, ℕ, List, [], ◌∷◌, bytes_eq, Bool, Option, Some, None, is_some, if◌then◌else◌}
use Rattle.serde_json.specs.Data.{Data, null, Items, no_items}
use Rattle.isp_base.specs.declared.types.Gang.{Gang}
use Rattle.isp_server.specs.declared.phase.Phase.{Phase}
use Rattle.isp_server.specs.declared.phase.Phase.TheVariants.{Fresh, Running, ShutDown}
use Rattle.isp_server.specs.declared.server.Next.{Next}
use Rattle.isp_server.specs.declared.server.Next.TheVariants.{End, GoOn}
use Rattle.isp_server.specs.declared.server.Server.{Server}
use Rattle.isp_server.specs.Deeds.{Deed, refuse, introduce, shut_down, tell, complete, rename, hold, release, leave, ignore, AsksFor}
use Rattle.isp_server.specs.Completions.{Completes}
use Rattle.isp_server.specs.Renaming.{Renames}
use Rattle.isp_server.specs.Told.{Told}
use Rattle.isp_server.specs.Texts.{text_in}
use Rattle.isp_server.specs.Sent.{answer, introduction, published, refused, Judges}

-- `text_of uri` is the text of a document, if it is open
pub record Connection : Type 0 where
  pub gang : Gang
  pub version : List ℕ
  pub phase : Phase
  pub text_of : List ℕ → Option (List ℕ)

abbrev pub connection_of : Server → Connection
connection_of s = record { gang = s.gang; version = s.version.now; phase = s.phase; text_of = text_in s.documents }

-- ---- what a deed does

abbrev pub phase_after : Deed → Phase → Phase
phase_after (refuse id why) phase = phase
phase_after (introduce id) phase = Running
phase_after (shut_down id) phase = ShutDown
phase_after (tell id question at) phase = phase
phase_after (complete id at) phase = phase
phase_after (rename id at name) phase = phase
phase_after (hold uri text) phase = phase
phase_after (release uri) phase = phase
phase_after leave phase = phase
phase_after ignore phase = phase

-- one document has a new text, or none; the others have theirs
abbrev pub text_after : Deed → (List ℕ → Option (List ℕ)) → List ℕ → Option (List ℕ)
text_after (refuse id why) text_of name = text_of name
text_after (introduce id) text_of name = text_of name
text_after (shut_down id) text_of name = text_of name
text_after (tell id question at) text_of name = text_of name
text_after (complete id at) text_of name = text_of name
text_after (rename id at new) text_of name = text_of name
text_after (hold uri text) text_of name = if bytes_eq uri name then Some text else text_of name
text_after (release uri) text_of name = if bytes_eq uri name then None else text_of name
text_after leave text_of name = text_of name
text_after ignore text_of name = text_of name

-- the exit status: 0 after `shutdown`, else 1
abbrev pub status_of : Phase → ℕ
status_of Fresh = 1
status_of Running = 1
status_of ShutDown = 0

abbrev pub next_after : Deed → Phase → Next
next_after (refuse id why) phase = GoOn
next_after (introduce id) phase = GoOn
next_after (shut_down id) phase = GoOn
next_after (tell id question at) phase = GoOn
next_after (complete id at) phase = GoOn
next_after (rename id at name) phase = GoOn
next_after (hold uri text) phase = GoOn
next_after (release uri) phase = GoOn
next_after leave phase = End (status_of phase)
next_after ignore phase = GoOn

-- a request is answered, once; the text of a document that is held is judged
abbrev pub Sends : Gang → List ℕ → (List ℕ → Option (List ℕ)) → Deed → List Data → Type 0
Sends gang version text_of (refuse id why) sent = sent ≡ refused id why ∷ []
Sends gang version text_of (introduce id) sent = sent ≡ answer id (introduction version) ∷ []
Sends gang version text_of (shut_down id) sent = sent ≡ answer id null ∷ []
Sends gang version text_of (tell id question at) sent = (d : Data) × Told gang (text_of at.uri) at question d × (sent ≡ answer id d ∷ [])
Sends gang version text_of (complete id at) sent = (d : Data) × Completes (text_of at.uri) at d × (sent ≡ answer id d ∷ [])
Sends gang version text_of (rename id at name) sent = (d : Data) × Renames gang (text_of at.uri) at name id d × (sent ≡ d ∷ [])
Sends gang version text_of (hold uri text) sent = (diagnostics : Items) × Judges gang text diagnostics × (sent ≡ published uri diagnostics ∷ [])
Sends gang version text_of (release uri) sent = sent ≡ published uri no_items ∷ []
Sends gang version text_of leave sent = sent ≡ []
Sends gang version text_of ignore sent = sent ≡ []

pub record Does (deed : Deed) (old new : Connection) (sent : List Data) (next : Next) : Type 0 where
  pub same_gang : new.gang ≡ old.gang
  pub same_version : new.version ≡ old.version
  pub phase_is : new.phase ≡ phase_after deed old.phase
  pub texts_are : (uri : List ℕ) → new.text_of uri ≡ text_after deed old.text_of uri
  pub sends : Sends old.gang old.version old.text_of deed sent
  pub next_is : next ≡ next_after deed old.phase

-- ---- what a message does

abbrev pub is_open : Connection → List ℕ → Bool
is_open c uri = is_some (c.text_of uri)

pub record Goes (old : Connection) (content : List ℕ) (new : Connection) (sent : List Data) (next : Next) : Type 0 where
  pub deed : Deed
  pub asks : AsksFor old.phase (is_open old) content deed
  pub does : Does deed old new sent next

-- all is as it was
pub record Stays (old new : Connection) : Type 0 where
  pub same_gang : new.gang ≡ old.gang
  pub same_version : new.version ≡ old.version
  pub same_phase : new.phase ≡ old.phase
  pub same_texts : (uri : List ℕ) → new.text_of uri ≡ old.text_of uri

-- `initialize` has not come, and no document is open
pub record IsFresh (gang : Gang) (version : List ℕ) (c : Connection) : Type 0 where
  pub gang_is : c.gang ≡ gang
  pub version_is : c.version ≡ version
  pub is_fresh : c.phase ≡ Fresh
  pub none_open : (uri : List ℕ) → c.text_of uri ≡ None
