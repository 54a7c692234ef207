-- Why a run does not end well.
--     status_of       the exit status
--     IsSlip q w s    what is wrong with a word
--     IsBadWord q     a word is none of a run
use Rattle.std.specs.Prelude.{◌≡◌, ◌⊎◌, ℕ, ◌<◌, List, length, Bool, true, false, Option, Some, None, Result, Ok, Err, ⊤}
use Rattle.isp_run_stops.specs.declared.stop.RunStop.{RunStop}
use Rattle.isp_run_stops.specs.declared.stop.RunStop.TheVariants.{BadWord, CannotRead, Source, NoEntry, NotGiven, NotPlanned, Trapped, BudgetUsed, CannotWrite, NoOutput, Memory}
use Rattle.isp_run_stops.specs.declared.stop.Slip.{Slip}
use Rattle.isp_run_stops.specs.declared.stop.Slip.TheVariants.{NoName, NotAlone, NoObject, NoFormat, NoLength, NoEquals, SameFile}
use Rattle.isp_run_words.specs.Saying.{IsOutput, IsWord}
use Rattle.isp_run_words.specs.declared.words.Format.{Format}
use Rattle.isp_run_words.specs.declared.words.Format.TheVariants.{Json}
use Rattle.isp_run_words.specs.declared.words.Value.{Value}
use Rattle.isp_run_words.specs.declared.words.Value.TheVariants.{File, Input, Zeros}
use Rattle.isp_run_words.specs.declared.request.RunWords.{RunWords}
use denote.Ref.{Bor}

-- ---- the exit status

abbrev pub status_of : RunStop → ℕ
status_of (Source f) = 1
status_of (BadWord w s) = 2
status_of (Trapped t e) = 3
status_of BudgetUsed = 4
status_of NoEntry = 5
status_of (NotGiven w e) = 5
status_of (NotPlanned w e) = 5
status_of (CannotRead name) = 6
status_of (CannotWrite name) = 6
status_of NoOutput = 6
status_of Memory = 7

-- 0 of a run that ends well
abbrev pub end_status : Result ⊤ RunStop → ℕ
end_status (Ok u) = 0
end_status (Err s) = status_of s

-- ---- words

-- a value that may hold all arguments: a file of JSON, or the standard input
abbrev pub is_object : Value → Bool
is_object (File name (Some Json)) = true
is_object Input = true
is_object v = false

-- a word without a name stands alone, and holds all arguments
abbrev pub IsUnfit : RunWords → Value → Slip → Type 0
IsUnfit q v NotAlone = 1 < length q.values.items
IsUnfit q v NoObject = is_object v ≡ false
IsUnfit q v s = ⊥

-- a file whose format is not known, of a value or of an output
abbrev pub HasNoFormat : List ℕ → Type 0
HasNoFormat w =
    ((n : Option (Bor (List ℕ))) × (file : Bor (List ℕ)) × IsWord w (Some (n, File file None))) ⊎ ((n file : Bor (List ℕ)) × IsOutput w (Some (n, file, None)))

abbrev pub HasNoName : List ℕ → Type 0
HasNoName w = IsWord w None ⊎ ((v : Value) × IsWord w (Some (None, v)))

abbrev pub IsSlip : RunWords → List ℕ → Slip → Type 0
IsSlip q w NoName = HasNoName w
IsSlip q w NotAlone = (v : Value) × IsWord w (Some (None, v)) × IsUnfit q v NotAlone
IsSlip q w NoObject = (v : Value) × IsWord w (Some (None, v)) × IsUnfit q v NoObject
IsSlip q w NoFormat = HasNoFormat w
IsSlip q w NoLength = (n : Option (Bor (List ℕ))) × IsWord w (Some (n, Zeros None))
IsSlip q w NoEquals = IsOutput w None
IsSlip q w SameFile = (n file : Bor (List ℕ)) × (f : Option Format) × IsOutput w (Some (n, file, f))

abbrev pub IsBadWord : RunWords → RunStop → Type 0
IsBadWord q (BadWord w s) = IsSlip q w.now s
IsBadWord q stop = ⊥
