-- What the server sends, as values of JSON.
--     answer, refused          of a request
--     introduction             what `initialize` is answered: what the server can do, and its name
--     published, diagnostic    `textDocument/publishDiagnostics`
use Rattle.std.specs.Prelude.{◌≡◌, ℕ, ◌++◌, ◌≤◌, List, codes, length, min, ℤ, negsuc, true, Some}
use Rattle.std.specs.Fmt.{decimal}
use Rattle.serde_json.specs.Data.{Data, boolean, number, unsigned, string, array, object, Items, no_items, item, no_members, member, depth}
use Rattle.serde_json.specs.Find.{of_integer}
use Rattle.serde_json.specs.Read.{read, max_depth}
use Rattle.isp_base.specs.declared.types.Gang.{Gang}
use Rattle.isp_base.specs.declared.types.Span.{Span}
use Rattle.isp_lex.specs.Faults.{rule_text}
use Rattle.isp_lex.specs.declared.fault.Fault.{Fault}
use Rattle.isp_typed.specs.Typed.{Program}
use Rattle.isp_front.specs.Front.{IsFaulty, IsSource}
use Rattle.isp_positions.specs.Positions.{character_of, line_of}
use Rattle.isp_server.specs.declared.refusal.Refusal.{Refusal}
use Rattle.isp_server.specs.declared.refusal.Refusal.TheVariants.{ParseError, InvalidRequest, MethodNotFound, InvalidParams, ServerNotInitialized, NoProgram, NoName, NotAName, OfLibrary, Clash, Captured}

-- ---- answers

-- the errors of JSON-RPC 2.0 and of the protocol: -32700, -32600, -32601, -32602, -32002; -32803 where a request failed
abbrev pub code_of : Refusal → ℤ
code_of ParseError = negsuc 32699
code_of InvalidRequest = negsuc 32599
code_of MethodNotFound = negsuc 32600
code_of InvalidParams = negsuc 32601
code_of ServerNotInitialized = negsuc 32001
code_of NoProgram = negsuc 32802
code_of NoName = negsuc 32802
code_of NotAName = negsuc 32802
code_of OfLibrary = negsuc 32802
code_of Clash = negsuc 32802
code_of Captured = negsuc 32802

abbrev pub name_of : Refusal → List ℕ
name_of ParseError = codes "ParseError"
name_of InvalidRequest = codes "InvalidRequest"
name_of MethodNotFound = codes "MethodNotFound"
name_of InvalidParams = codes "InvalidParams"
name_of ServerNotInitialized = codes "ServerNotInitialized"
name_of NoProgram = codes "NoProgram"
name_of NoName = codes "NoName"
name_of NotAName = codes "NotAName"
name_of OfLibrary = codes "OfLibrary"
name_of Clash = codes "Clash"
name_of Captured = codes "Captured"

abbrev pub answer : Data → Data → Data
answer id value = object (member (codes "id") id (member (codes "jsonrpc") (string (codes "2.0")) (member (codes "result") value no_members)))

abbrev pub refused : Data → Refusal → Data
refused id why =
    let error = object (member (codes "code") (number (of_integer (code_of why))) (member (codes "message") (string (name_of why)) no_members)) in
    object (member (codes "error") error (member (codes "id") id (member (codes "jsonrpc") (string (codes "2.0")) no_members)))

-- the whole text of a document is sent with each change, places count units of UTF-16, and five requests on them are answered
abbrev pub capabilities : Data
capabilities =
    let sync = object (member (codes "change") (number (unsigned 1)) (member (codes "openClose") (boolean true) no_members)) in
    object (member (codes "completionProvider") (object no_members) (member (codes "definitionProvider") (boolean true) (member (codes "hoverProvider") (boolean true)
    (member (codes "positionEncoding") (string (codes "utf-16")) (member (codes "referencesProvider") (boolean true) (member (codes "renameProvider") (boolean true)
    (member (codes "textDocumentSync") sync no_members)))))))

abbrev pub introduction : List ℕ → Data
introduction version =
    let server = object (member (codes "name") (string (codes "isp")) (member (codes "version") (string version) no_members)) in
    object (member (codes "capabilities") capabilities (member (codes "serverInfo") server no_members))

-- ---- diagnostics

-- the place of a byte; one past the text is its end
abbrev pub position : List ℕ → ℕ → Data
position source at =
    let place = min at (length source) in
    object (member (codes "character") (number (unsigned (character_of source place))) (member (codes "line") (number (unsigned (line_of source place))) no_members))

abbrev pub range : List ℕ → Span → Data
range source span = object (member (codes "end") (position source span.end) (member (codes "start") (position source span.start) no_members))

-- an error, severity 1, with what is said of it
abbrev pub diagnostic : List ℕ → Fault → List ℕ → Data
diagnostic source fault said =
    object (member (codes "code") (string (rule_text fault.rule)) (member (codes "message") (string said) (member (codes "range") (range source fault.span)
    (member (codes "severity") (number (unsigned 1)) (member (codes "source") (string (codes "isp")) no_members)))))

-- none where the text is the source of a program, else the fault for which it is refused
pub data Judges (gang : Gang) (source : List ℕ) (diagnostics : Items) : Type 0 where
  sound : (program : Program) → IsSource gang source program → diagnostics ≡ no_items → Judges gang source diagnostics
  faulty : (fault : Fault) (said : List ℕ) → IsFaulty gang source fault → diagnostics ≡ item (diagnostic source fault said) no_items → Judges gang source diagnostics

abbrev pub published : List ℕ → Items → Data
published uri diagnostics =
    let params = object (member (codes "diagnostics") (array diagnostics) (member (codes "uri") (string uri) no_members)) in
    object (member (codes "jsonrpc") (string (codes "2.0")) (member (codes "method") (string (codes "textDocument/publishDiagnostics")) (member (codes "params") params no_members)))

-- ---- bytes

-- a header with the length of the text, and a text that reads as the message, where it nests as deep as is read
pub record Frames (message : Data) (bytes : List ℕ) : Type 0 where
  pub content : List ℕ
  pub whole : bytes ≡ codes "Content-Length: " ++ decimal (length content) ++ codes "\r\n\r\n" ++ content
  pub reads : depth message ≤ max_depth → read content ≡ Some message
