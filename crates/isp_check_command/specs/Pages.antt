-- What `ispx check` says of a source: its messages, one after the other.
--     PageOf            one piece for each of a list, in its order
--     FaultMessage      of a fault
--     ExportMessage     of an exported function: whether it is an independent entry, or the first rule that it breaks
--     HintMessage       of what is slow
-- For people a message begins with its place, as `s.ispc:7:13: 30 VaryingToUniform`; for tools it is a line of JSON.
use Rattle.std.specs.Prelude.{◌≡◌, ℕ, List, [], ◌∷◌, ◌++◌, Bool, true, false, Option, filter}
use Rattle.isp_hints.specs.declared.hint.Hint.{Hint}
use Rattle.isp_independence.specs.declared.dependence.Dependence.{Dependence}
use Rattle.isp_lex.specs.Faults.{rule_text}
use Rattle.isp_lex.specs.declared.fault.Fault.{Fault}
use Rattle.isp_messages.specs.Messages.{IsLine, IsText, json_line}
use Rattle.isp_messages.specs.Sayings.{Says, export_words, slow_words}
use Rattle.isp_messages.specs.declared.message.Message.{Message}
use Rattle.isp_typed.specs.Typed.{Program, TFunction}
use Rattle.isp_verdicts.specs.Verdicts.{IsVerdict}
use Rattle.ispx_command_line.specs.declared.words.CheckRequest.{CheckRequest}

-- a piece for each of a list, in its order
abbrev pub PageOf : {A : Type 0} → (A → List ℕ → Type 0) → List A → List ℕ → Type 0
PageOf B [] page = page ≡ []
PageOf B (x ∷ xs) page = (piece : List ℕ) × (rest : List ℕ) × B x piece × PageOf B xs rest × (page ≡ piece ++ rest)

-- a message for people, or with the exit status for tools
abbrev pub IsShown : Bool → ℕ → Message → List ℕ → Type 0
IsShown false status m piece = IsText m piece
IsShown true status m piece = piece ≡ json_line status m

-- the same, for people in one line
abbrev pub IsNoted : Bool → Message → List ℕ → Type 0
IsNoted false m piece = IsLine m piece
IsNoted true m piece = piece ≡ json_line 0 m

-- ---- of a text

abbrev pub FaultMessage : CheckRequest → List ℕ → Fault → List ℕ → Type 0
FaultMessage q text f piece = (m : Message) × Says q.source.now text f.span (rule_text f.rule) m × IsShown q.is_json 1 m piece

abbrev pub HintMessage : CheckRequest → List ℕ → Hint → List ℕ → Type 0
HintMessage q text h piece = (m : Message) × Says q.source.now text h.place (slow_words h.slow) m × IsShown q.is_json 0 m piece

-- at the name of the function, with its verdict
abbrev pub ExportMessage : CheckRequest → List ℕ → Program → TFunction → List ℕ → Type 0
ExportMessage q text p g piece =
    (o : Option Dependence) × IsVerdict p g.name o × ((m : Message) × Says q.source.now text g.span (export_words text g.name o) m × IsNoted q.is_json m piece)

-- ---- of a program

-- in the order of the text
abbrev pub exported : Program → List TFunction
exported p = filter (λ (g : TFunction). g.exported) p.functions
