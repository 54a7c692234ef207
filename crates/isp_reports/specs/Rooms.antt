-- Bytes in a room.
use Rattle.std.specs.Prelude.{◌≡◌, ℕ, ◌<◌, ◌≤◌, List, ◌++◌, drop, length, Result, Ok, Err}
use Rattle.isp_reports.specs.Reports.{Done, Refuses}
use Rattle.isp_reports.specs.declared.refusal.Refusal.{Refusal}
use Rattle.isp_reports.specs.declared.refusal.Refusal.TheVariants.{Short}
use Rattle.isp_reports.specs.declared.report.Report.{Report}

-- the bytes, and after them what the room held there
abbrev pub fronted : List ℕ → List ℕ → List ℕ
fronted bytes room = bytes ++ drop (length bytes) room

-- the bytes are given where there is room for them, and else nothing is
pub record Gives (bytes old new : List ℕ) (r : Report) (status : ℕ) : Type 0 where
  pub whole : length bytes ≤ length old → (new ≡ fronted bytes old) × Done (length bytes) 0 r status
  pub short : length old < length bytes → (new ≡ old) × Refuses Short (length bytes) r status

-- bytes are given, or nothing is written and the report says why
abbrev pub Answers : List ℕ → List ℕ → Report → ℕ → Result (List ℕ) Refusal → Type 0
Answers old new r status (Ok bytes) = Gives bytes old new r status
Answers old new r status (Err f) = (new ≡ old) × Refuses f 0 r status
