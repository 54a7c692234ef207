-- What a message asks of the server, by JSON-RPC 2.0 and the language server protocol 3.17.
--     Deed                    what the server has to do
--     asked s id method ps    the deed that a call asks for, of a request where there is an id, else of a notification
--     AsksFor s content deed  the deed that the content of a message asks for
-- A server is asked in a phase: before `initialize`, after it, or after `shutdown`. `is_open uri` says whether a document is open.
use Rattle.std.specs.Prelude.{◌≡◌, ℕ, List, codes, bytes_eq, Bool, true, false, Option, Some, None, is_some, option_and_then, option_map, unwrap_or, if◌then◌else◌, IsUtf8}
use Rattle.serde_json.specs.Data.{Data, null, boolean, number, string, array, object, Items, no_items, item}
use Rattle.serde_json.specs.Find.{get, as_array, as_bool, as_number, as_object, as_str, as_u64}
use Rattle.serde_json.specs.Read.{read}
use Rattle.isp_rpc.specs.Calls.{IsCall, IsNoCall}
use Rattle.isp_server.specs.declared.phase.Phase.{Phase}
use Rattle.isp_server.specs.declared.phase.Phase.TheVariants.{Fresh, Running, ShutDown}
use Rattle.isp_server.specs.declared.question.Question.{Question}
use Rattle.isp_server.specs.declared.question.Question.TheVariants.{Hover, Definition, References}
use Rattle.isp_server.specs.declared.refusal.Refusal.{Refusal}
use Rattle.isp_server.specs.declared.refusal.Refusal.TheVariants.{ParseError, InvalidRequest, MethodNotFound, InvalidParams, ServerNotInitialized}

-- a place of a document, by line and character
pub record Place : Type 0 where
  pub uri : List ℕ
  pub line : ℕ
  pub character : ℕ

pub data Deed : Type 0 where
  -- the request of this id is refused
  refuse : Data → Refusal → Deed
  -- the requests `initialize` and `shutdown` of this id are answered
  introduce : Data → Deed
  shut_down : Data → Deed
  -- the request of this id, which asks something of a place, is answered
  tell : Data → Question → Place → Deed
  -- the request of this id, for what may be written at a place, is answered
  complete : Data → Place → Deed
  -- the request of this id, to give what stands at a place another name, is answered
  rename : Data → Place → List ℕ → Deed
  -- the document of this URI has this text from now on; it is closed
  hold : List ℕ → List ℕ → Deed
  release : List ℕ → Deed
  -- the server ends
  leave : Deed
  -- a notification is ignored
  ignore : Deed

-- ---- ids, and what `initialize` wants

-- an id is a number, a string or null
abbrev pub is_id : Data → Bool
is_id null = true
is_id (boolean b) = false
is_id (number n) = true
is_id (string s) = true
is_id (array ds) = false
is_id (object ms) = false

-- `initialize` has an object of parameters
abbrev pub introduced : Data → Option Data → Deed
introduced id params = if is_some (option_and_then as_object params) then introduce id else refuse id InvalidParams

-- ---- documents

-- the text that a member has
abbrev pub text_at : List ℕ → Option Data → Option (List ℕ)
text_at name d = option_and_then as_str (option_and_then (get name) d)

abbrev pub document : Option Data → Option Data
document params = option_and_then (get (codes "textDocument")) params

abbrev pub uri_of : Option Data → Option (List ℕ)
uri_of params = text_at (codes "uri") (document params)

-- the last of a list
abbrev pub last_behind : Option Data → Items → Option Data
last_behind found no_items = found
last_behind found (item d ds) = last_behind (Some d) ds

abbrev pub last_item : Items → Option Data
last_item ds = last_behind None ds

-- a change that gives the whole text has no range
abbrev pub whole_text : Option Data → Option (List ℕ)
whole_text change = if is_some (option_and_then (get (codes "range")) change) then None else text_at (codes "text") change

-- the last change counts
abbrev pub changed_text : Option Data → Option (List ℕ)
changed_text params = whole_text (option_and_then last_item (option_and_then as_array (option_and_then (get (codes "contentChanges")) params)))

abbrev pub both : Option (List ℕ) → Option (List ℕ) → Option (List ℕ × List ℕ)
both (Some uri) (Some text) = Some (uri, text)
both (Some uri) None = None
both None text = None

abbrev pub opened : Option Data → Option (List ℕ × List ℕ)
opened params = both (uri_of params) (text_at (codes "text") (document params))

abbrev pub changed : Option Data → Option (List ℕ × List ℕ)
changed params = both (uri_of params) (changed_text params)

-- ---- requests on a place of a document

abbrev pub count_at : List ℕ → Data → Option ℕ
count_at name d = option_and_then as_u64 (option_and_then as_number (get name d))

abbrev pub position : Option Data → Option Data
position params = option_and_then (get (codes "position")) params

abbrev pub placed : List ℕ → Data → Option Place
placed uri at =
    option_and_then (λ line. option_map (λ character. record { uri = uri; line = line; character = character }) (count_at (codes "character") at)) (count_at (codes "line") at)

abbrev pub place : Option Data → Option Place
place params = option_and_then (λ uri. option_and_then (placed uri) (position params)) (uri_of params)

-- the declaration is among the references where that is asked for
abbrev pub declaration_said : Option Data → Option Bool
declaration_said params = option_and_then as_bool (option_and_then (get (codes "includeDeclaration")) (option_and_then (get (codes "context")) params))

abbrev pub with_declaration : Option Data → Bool
with_declaration params = unwrap_or (declaration_said params) false

abbrev pub told : Data → Question → Option Place → Deed
told id question None = refuse id InvalidParams
told id question (Some at) = tell id question at

abbrev pub completing : Data → Option Place → Deed
completing id None = refuse id InvalidParams
completing id (Some at) = complete id at

abbrev pub new_name : Option Data → Option (List ℕ)
new_name params = text_at (codes "newName") params

abbrev pub renaming : Data → Option Place → Option (List ℕ) → Deed
renaming id None name = refuse id InvalidParams
renaming id (Some at) None = refuse id InvalidParams
renaming id (Some at) (Some name) = rename id at name

-- ---- requests

abbrev pub running : Data → List ℕ → Option Data → Deed
running id method params =
    if bytes_eq method (codes "shutdown") then shut_down id
    else (if bytes_eq method (codes "initialize") then refuse id InvalidRequest
    else (if bytes_eq method (codes "textDocument/hover") then told id Hover (place params)
    else (if bytes_eq method (codes "textDocument/definition") then told id Definition (place params)
    else (if bytes_eq method (codes "textDocument/references") then told id (References (with_declaration params)) (place params)
    else (if bytes_eq method (codes "textDocument/completion") then completing id (place params)
    else (if bytes_eq method (codes "textDocument/rename") then renaming id (place params) (new_name params)
    else refuse id MethodNotFound))))))

abbrev pub request : Phase → Data → List ℕ → Option Data → Deed
request Fresh id method params = if bytes_eq method (codes "initialize") then introduced id params else refuse id ServerNotInitialized
request Running id method params = running id method params
request ShutDown id method params = refuse id InvalidRequest

-- ---- notifications

-- parameters of another form are ignored, and so is what is said of a document that is not open
abbrev pub held : Option (List ℕ × List ℕ) → Deed
held None = ignore
held (Some (uri, text)) = hold uri text

abbrev pub held_open : (List ℕ → Bool) → Option (List ℕ × List ℕ) → Deed
held_open is_open None = ignore
held_open is_open (Some (uri, text)) = if is_open uri then hold uri text else ignore

abbrev pub released_open : (List ℕ → Bool) → Option (List ℕ) → Deed
released_open is_open None = ignore
released_open is_open (Some uri) = if is_open uri then release uri else ignore

abbrev pub edit : (List ℕ → Bool) → List ℕ → Option Data → Deed
edit is_open method params =
    if bytes_eq method (codes "textDocument/didOpen") then held (opened params)
    else (if bytes_eq method (codes "textDocument/didChange") then held_open is_open (changed params)
    else (if bytes_eq method (codes "textDocument/didClose") then released_open is_open (uri_of params) else ignore))

abbrev pub while_running : Phase → Deed → Deed
while_running Fresh deed = ignore
while_running Running deed = deed
while_running ShutDown deed = ignore

abbrev pub notification : Phase → (List ℕ → Bool) → List ℕ → Option Data → Deed
notification phase is_open method params = if bytes_eq method (codes "exit") then leave else while_running phase (edit is_open method params)

-- ---- messages

abbrev pub asked : Phase → (List ℕ → Bool) → Option Data → List ℕ → Option Data → Deed
asked phase is_open None method params = notification phase is_open method params
asked phase is_open (Some id) method params = if is_id id then request phase id method params else refuse null InvalidRequest

pub data Asks (phase : Phase) (is_open : List ℕ → Bool) (message : Data) (deed : Deed) : Type 0 where
  call : (id : Option Data) (method : List ℕ) (params : Option Data) → IsCall message id method params → deed ≡ asked phase is_open id method params → Asks phase is_open message deed
  no_call : IsNoCall message → deed ≡ refuse null InvalidRequest → Asks phase is_open message deed

pub data AsksFor (phase : Phase) (is_open : List ℕ → Bool) (content : List ℕ) (deed : Deed) : Type 0 where
  value : (message : Data) → IsUtf8 content → read content ≡ Some message → Asks phase is_open message deed → AsksFor phase is_open content deed
  no_value : (IsUtf8 content → read content ≡ None) → deed ≡ refuse null ParseError → AsksFor phase is_open content deed
