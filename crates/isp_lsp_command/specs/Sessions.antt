-- A connection over a stream of bytes.
--     Begins input contents rest    the input begins with messages of these contents, and goes on with the rest
--     Takes c contents new sent     the connection takes messages of these contents in their order, and sends these bytes after them
use Rattle.std.specs.Prelude.{◌≡◌, ℕ, List, [], ◌∷◌, ◌++◌, drop, slice_range}
use Rattle.serde_json.specs.Data.{Data}
use Rattle.isp_rpc_frames.specs.Messages.{IsMessage}
use Rattle.isp_server.specs.Connections.{Connection, Goes}
use Rattle.isp_server.specs.declared.server.Next.{Next}
use Rattle.isp_server.specs.declared.server.Next.TheVariants.{GoOn}
use Rattle.isp_server.specs.Sent.{Frames}

abbrev pub Begins : List ℕ → List (List ℕ) → List ℕ → Type 0
Begins input [] rest = rest ≡ input
Begins input (content ∷ more) rest =
    (start : ℕ) × (end : ℕ) × IsMessage input start end × (content ≡ slice_range input start end) × Begins (drop end input) more rest

-- messages with their headers, one after the other
abbrev pub AllFramed : List Data → List ℕ → Type 0
AllFramed [] bytes = bytes ≡ []
AllFramed (message ∷ more) bytes = (first : List ℕ) × (rest : List ℕ) × Frames message first × AllFramed more rest × (bytes ≡ first ++ rest)

-- what a message does to a connection, the bytes that are sent after it, and whether the server goes on
abbrev pub TakesOne : Connection → List ℕ → Connection → List ℕ → Next → Type 0
TakesOne old content new sent next = (messages : List Data) × Goes old content new messages next × AllFramed messages sent

-- the server goes on after each of them
abbrev pub Takes : Connection → List (List ℕ) → Connection → List ℕ → Type 0
Takes old [] new sent = (new ≡ old) × (sent ≡ [])
Takes old (content ∷ more) new sent =
    (mid : Connection) × (first : List ℕ) × (rest : List ℕ) × TakesOne old content mid first GoOn × Takes mid more new rest × (sent ≡ first ++ rest)
