-- Renaming what stands at a byte of a source text.
--     replaced text name 0 spans             the text in which spans are replaced by a name
--     IsRenaming gang text at name spans     these are the spans, and the text after that means the same
--     Refuses gang text at name why          why there is no such text
use Rattle.std.specs.Prelude.{◌≡◌, ◌≢◌, ℕ, ◌++◌, ◌≤◌, List, [], ◌∷◌, drop, length, map, min, slice_range, true, Some, None}
use Rattle.isp_base.specs.declared.types.Gang.{Gang}
use Rattle.isp_base.specs.declared.types.Span.{Span}
use Rattle.isp_lex.specs.Lexing.{IsText, limit}
use Rattle.isp_lex.specs.Tokens.{TokenList}
use Rattle.isp_lex.specs.declared.fault.Fault.{Fault}
use Rattle.isp_lex.specs.declared.token.TokenKind.TheVariants as kind
use Rattle.isp_typed.specs.Typed.{Program}
use Rattle.isp_exprs.specs.Callees.{library_named}
use Rattle.isp_front.specs.Front.{IsFaulty}
use Rattle.isp_known.specs.declared.note.Note.{Note}
use Rattle.isp_known.specs.declared.note.Subject.{Subject}
use Rattle.isp_known.specs.Places.{places_of, subject_at, word_of}
use Rattle.isp_alike.specs.Bare.{bare_program}
use Rattle.isp_alike.specs.Renamed.{kinds, program_renamed, renamed_kind}
use Rattle.isp_names.specs.declared.fault.RenameFault.{RenameFault}
use Rattle.isp_names.specs.declared.fault.RenameFault.TheVariants.{Memory, NoProgram, NoName, NotAName, OfLibrary, Clash, Captured}
use Rattle.isp_names.specs.Known.{IsKnown}

-- ---- texts

-- the word that begins at a byte; one past the text is its end
abbrev pub word_at : List ℕ → ℕ → Span
word_at text start = word_of text (min start (length text))

-- the text from a byte on, in which spans, in their order, are replaced by a name
abbrev pub replaced : List ℕ → List ℕ → ℕ → List Span → List ℕ
replaced text name from [] = drop from text
replaced text name from (s ∷ ss) = slice_range text from s.start ++ (name ++ replaced text name s.end ss)

-- ---- names

-- a word that is not reserved
pub record IsName (name : List ℕ) : Type 0 where
  pub word : IsText (kind.Word name) name
  pub short : length name ≤ limit

-- one that may be given: no function of the library has it
pub record MayBeGiven (name : List ℕ) : Type 0 where
  pub named : IsName name
  pub own : library_named name ≡ None

-- ---- renaming

-- all names of x, as spans
abbrev pub spans_of : List ℕ → List Note → Subject → List Span
spans_of text notes x = map (word_at text) (places_of true x notes)

-- A text is that of a program whose typed tree is another one but for the name of x, and has the same tokens but for those names,
-- which begin at some bytes.
pub record IsAlike (gang : Gang) (text : List ℕ) (program : Program) (tokens : TokenList) (starts : List ℕ) (x : Subject) (name : List ℕ) : Type 0 where
  pub other : Program
  pub others : TokenList
  pub noted : List Note
  pub known : IsKnown gang text other others noted
  pub same : bare_program other ≡ bare_program (program_renamed x name program)
  pub alike : kinds others.items ≡ map (renamed_kind starts name) tokens.items

-- the name may be given, the spans name what stands at the byte, and with the name there the text means the same
pub record IsRenaming (gang : Gang) (text : List ℕ) (at : ℕ) (name : List ℕ) (spans : List Span) : Type 0 where
  pub given : MayBeGiven name
  pub program : Program
  pub tokens : TokenList
  pub notes : List Note
  pub known : IsKnown gang text program tokens notes
  pub subject : Subject
  pub stands : subject_at (word_of text at).start notes ≡ Some subject
  pub spans_are : spans ≡ spans_of text notes subject
  pub alike : IsAlike gang (replaced text name 0 spans) program tokens (places_of true subject notes) subject name

-- ---- refusals

-- no name of the program stands at the byte
pub record IsNowhere (gang : Gang) (text : List ℕ) (at : ℕ) : Type 0 where
  pub program : Program
  pub tokens : TokenList
  pub notes : List Note
  pub known : IsKnown gang text program tokens notes
  pub none : subject_at (word_of text at).start notes ≡ None

-- the text after it has a fault
pub record Clashes (gang : Gang) (text : List ℕ) (at : ℕ) (name : List ℕ) (f : Fault) : Type 0 where
  pub program : Program
  pub tokens : TokenList
  pub notes : List Note
  pub known : IsKnown gang text program tokens notes
  pub subject : Subject
  pub stands : subject_at (word_of text at).start notes ≡ Some subject
  pub faulty : IsFaulty gang (replaced text name 0 (spans_of text notes subject)) f

-- `Captured` says nothing: it is answered where the text after it was not found to mean the same
abbrev pub Refuses : Gang → List ℕ → ℕ → List ℕ → RenameFault → Type 0
Refuses gang text at name Memory = Unit {0}
Refuses gang text at name (NoProgram f) = IsFaulty gang text f
Refuses gang text at name NoName = IsNowhere gang text at
Refuses gang text at name NotAName = ¬ (IsName name)
Refuses gang text at name OfLibrary = library_named name ≢ None
Refuses gang text at name (Clash f) = Clashes gang text at name f
Refuses gang text at name Captured = Unit {0}
