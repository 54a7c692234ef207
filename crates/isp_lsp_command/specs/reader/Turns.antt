-- What one turn of the loop does.
use Rattle.std.specs.Prelude.{◌≡◌, ℕ, List, [], ◌++◌, Bool, Option, Result, Ok, Err, ⊤}
use Rattle.std.specs.Io.KnownBytes.{Consumes, IsAtEnd}
use Rattle.isp_output.specs.Sinks.{TookAll, TookSome}
use Rattle.isp_server.specs.Connections.{Connection}
use Rattle.isp_server.specs.declared.server.Next.{Next}
use Rattle.isp_lsp_command.specs.declared.end.LspEnd.{LspEnd}
use Rattle.isp_lsp_command.specs.declared.end.LspEnd.TheVariants.{Exit, InputEnd, Broken, CannotRead, CannotWrite, Memory}
use Rattle.isp_lsp_command.specs.Sessions.{Begins, Takes, TakesOne}
use Rattle.isp_lsp_command.specs.Ends.{Ends}

-- a message was answered
abbrev pub Answers : Connection → List ℕ → Connection → Option (List ℕ) → Option (List ℕ) → Bool → Next → Type 0
Answers old content new held written failed next = (sent : List ℕ) × TakesOne old content new sent next × TookAll sent held written failed

-- or it was not
abbrev pub Fails : Connection → List ℕ → Option (List ℕ) → Option (List ℕ) → Bool → LspEnd → Type 0
Fails old content held written failed Memory = TookAll [] held written failed
Fails old content held written failed CannotWrite = (new : Connection) × (next : Next) × (sent : List ℕ) × TakesOne old content new sent next × TookSome sent held written failed
Fails old content held written failed (Exit status) = ⊥
Fails old content held written failed InputEnd = ⊥
Fails old content held written failed (Broken fault) = ⊥
Fails old content held written failed CannotRead = ⊥

-- why a read gives nothing
abbrev pub Dries : Option (List ℕ) → LspEnd → Type 0
Dries left InputEnd = IsAtEnd left
Dries left CannotRead = ⊤
Dries left Memory = ⊤
Dries left (Exit status) = ⊥
Dries left (Broken fault) = ⊥
Dries left CannotWrite = ⊥

-- a read: what the input had and has left, and the bytes that wait, before and after
abbrev pub Gives : Option (List ℕ) → Option (List ℕ) → List ℕ → List ℕ → Result ⊤ LspEnd → Type 0
Gives had left old new (Ok u) = (more : List ℕ) × Consumes had left more × (new ≡ old ++ more)
Gives had left old new (Err end) = (more : List ℕ) × Consumes had left more × (end ≡ InputEnd → more ≡ []) × Dries left end

-- the connection as it stands: what the input and the output had first, and now
pub record Stands (first : Connection) (had held : Option (List ℕ)) (c : Connection) (rest : List ℕ) (left written : Option (List ℕ)) (failed : Bool) : Type 0 where
  pub read : List ℕ
  pub contents : List (List ℕ)
  pub sent : List ℕ
  pub is_read : Consumes had left read
  pub begins : Begins read contents rest
  pub takes : Takes first contents c sent
  pub took : TookAll sent held written failed

-- and how it has ended
pub record Ended (first : Connection) (had held left written : Option (List ℕ)) (failed : Bool) (end : LspEnd) : Type 0 where
  pub read : List ℕ
  pub contents : List (List ℕ)
  pub last : Connection
  pub rest : List ℕ
  pub sent : List ℕ
  pub is_read : Consumes had left read
  pub begins : Begins read contents rest
  pub takes : Takes first contents last sent
  pub ends : Ends last rest sent (IsAtEnd left) held written failed end

-- it goes on, or has ended
abbrev pub Turned : Connection → Option (List ℕ) → Option (List ℕ) → Connection → List ℕ → Option (List ℕ) → Option (List ℕ) → Bool → Result ⊤ LspEnd → Type 0
Turned first had held c rest left written failed (Ok u) = Stands first had held c rest left written failed
Turned first had held c rest left written failed (Err end) = Ended first had held left written failed end
