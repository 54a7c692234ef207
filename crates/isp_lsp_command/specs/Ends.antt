-- How a connection ends, and what was read and written until then.
use Rattle.std.specs.Prelude.{◌≡◌, ◌⊎◌, ℕ, List, [], ◌++◌, Bool, Option, codes, slice_range}
use Rattle.isp_base.specs.declared.types.Gang.{Gang}
use Rattle.isp_output.specs.Sinks.{TookAll, TookSome}
use Rattle.isp_rpc_frames.specs.Messages.{IsBroken, IsMessage, IsPart}
use Rattle.isp_rpc_frames.specs.declared.frame.FrameFault.TheVariants.{Header, Length, LongHeader}
use Rattle.isp_server.specs.Connections.{Connection, IsFresh}
use Rattle.isp_server.specs.declared.server.Next.{Next}
use Rattle.isp_server.specs.declared.server.Next.TheVariants as next
use Rattle.isp_lsp_command.specs.declared.end.LspEnd.{LspEnd}
use Rattle.isp_lsp_command.specs.declared.end.LspEnd.TheVariants.{Exit, InputEnd, Broken, CannotRead, CannotWrite, Memory}
use Rattle.isp_lsp_command.specs.Sessions.{Begins, Takes, TakesOne}

-- ---- the end

-- the first message of the bytes is taken
abbrev pub TakesFirst : Connection → List ℕ → List ℕ → Next → Type 0
TakesFirst c bytes sent next =
    (start : ℕ) × (end : ℕ) × (new : Connection) × IsMessage bytes start end × TakesOne c (slice_range bytes start end) new sent next

-- The input was read up to `rest`, which is left of it, and `sent` is what was sent for the messages before that. `old` and
-- `written` are what the output held and holds, `at_end` says that the input has ended.
abbrev pub Ends : Connection → List ℕ → List ℕ → Type 0 → Option (List ℕ) → Option (List ℕ) → Bool → LspEnd → Type 0
-- the next message ends the server with this status
Ends c rest sent at_end old written failed (Exit status) = (last : List ℕ) × TakesFirst c rest last (next.End status) × TookAll (sent ++ last) old written failed
Ends c rest sent at_end old written failed InputEnd = IsPart rest × at_end × TookAll sent old written failed
Ends c rest sent at_end old written failed (Broken fault) = IsBroken rest fault × TookAll sent old written failed
Ends c rest sent at_end old written failed CannotRead = TookAll sent old written failed
-- of what is sent after the next message, maybe not all went out
Ends c rest sent at_end old written failed CannotWrite = (next : Next) × (last : List ℕ) × TakesFirst c rest last next × TookSome (sent ++ last) old written failed
Ends c rest sent at_end old written failed Memory = TookAll sent old written failed

-- a connection that begins anew takes the messages of what is read, one after the other, until it ends
pub record Serves (gang : Gang) (version read : List ℕ) (at_end : Type 0) (old written : Option (List ℕ)) (failed : Bool) (end : LspEnd) : Type 0 where
  pub first : Connection
  pub last : Connection
  pub contents : List (List ℕ)
  pub rest : List ℕ
  pub sent : List ℕ
  pub is_fresh : IsFresh gang version first
  pub begins : Begins read contents rest
  pub takes : Takes first contents last sent
  pub ends : Ends last rest sent at_end old written failed end

-- ---- what is said of it

-- the exit status: that of `exit`; 1, no message came that ends the server; 6, the input or the output failed; 7, memory was refused
abbrev pub status_of : LspEnd → ℕ
status_of (Exit status) = status
status_of InputEnd = 1
status_of (Broken fault) = 1
status_of CannotRead = 6
status_of CannotWrite = 6
status_of Memory = 7

-- the line on standard error
abbrev pub line_of : LspEnd → List ℕ
line_of (Exit status) = []
line_of InputEnd = codes "isp: the input ended before exit\n"
line_of (Broken Header) = codes "isp: no message: its header\n"
line_of (Broken LongHeader) = codes "isp: no message: its header is too long\n"
line_of (Broken Length) = codes "isp: no message: its length\n"
line_of CannotRead = codes "isp: cannot read standard input\n"
line_of CannotWrite = codes "isp: cannot write\n"
line_of Memory = codes "isp: memory\n"

-- it went out, or the first of it where the sink has failed
abbrev pub Told : List ℕ → Option (List ℕ) → Option (List ℕ) → Bool → Type 0
Told line old new failed = TookAll line old new failed ⊎ TookSome line old new failed

-- a connection, the line on standard error and the exit status: `reads` says what was read, `tells` what was said
abbrev pub LspAnswered : Gang → List ℕ → (List ℕ → Type 0) → Type 0 → Option (List ℕ) → Option (List ℕ) → Bool → (List ℕ → Type 0) → ℕ → Type 0
LspAnswered gang version reads at_end old written failed tells status =
    (read : List ℕ) × (end : LspEnd) × reads read × Serves gang version read at_end old written failed end × tells (line_of end) × (status ≡ status_of end)
