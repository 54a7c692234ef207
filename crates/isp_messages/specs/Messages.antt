-- How a message begins, for people, and what its line is for tools.
--     place_text     `7:13`, the line and the column of a byte
--     head_of        `s.ispc:7:13: 30 VaryingToUniform`
--     IsText         the message for people, by its first line
--     IsLine         the same in one line
--     json_line      the line for tools: an object with the status, the file, its place, and the texts
use Rattle.std.specs.Prelude.{◌≡◌, ℕ, List, [], ◌++◌, Option, Some, None, codes, length, min, string_bytes}
use Rattle.std.specs.Fmt.{decimal}
use Rattle.serde_json.specs.Data.{string as text_data}
use Rattle.serde_json.specs.Written.{compact_text}
use Rattle.isp_base.specs.declared.types.Span.{Span}
use Rattle.isp_places.specs.Lines.{column_of, line_of}
use Rattle.isp_messages.specs.declared.message.Message.{Message}
use Rattle.isp_messages.specs.declared.page.Source.{Source}

-- ---- places

-- a byte of the text, or its end where there is none
abbrev pub within : List ℕ → ℕ → ℕ
within text at = min at (length text)

-- `7:13`
abbrev pub place_text : List ℕ → ℕ → List ℕ
place_text text at = decimal (line_of text (within text at)) ++ (codes ":" ++ decimal (column_of text (within text at)))

-- where a message is: `s.ispc:7:13`, the file alone where it has no place, `isp` where it is in none
abbrev pub site : Option Source → Option Span → List ℕ
site (Some source) (Some span) = source.name.now ++ (codes ":" ++ place_text source.text.now span.start)
site (Some source) None = source.name.now
site None span = codes "isp"

-- ---- for people

-- `s.ispc:7:13: 30 VaryingToUniform`
abbrev pub head_of : Message → List ℕ
head_of m = site m.source m.span ++ (codes ": " ++ string_bytes m.what)

-- the first line says where it is, and what
pub record IsText (m : Message) (text : List ℕ) : Type 0 where
  pub rest : List ℕ
  pub begins : text ≡ head_of m ++ (codes "\n" ++ rest)

-- so does the one line, before what it means
pub record IsLine (m : Message) (text : List ℕ) : Type 0 where
  pub meaning : List ℕ
  pub begins : text ≡ head_of m ++ (meaning ++ codes "\n")

-- ---- for tools

-- `,"line":7`
abbrev pub member : List ℕ → List ℕ → List ℕ
member name value = codes ",\"" ++ (name ++ (codes "\":" ++ value))

abbrev pub text_member : List ℕ → List ℕ → List ℕ
text_member name text = member name (compact_text (text_data text))

-- the place of a span, and its bytes
abbrev pub span_text : List ℕ → Span → List ℕ
span_text text span =
    member (codes "line") (decimal (line_of text (within text span.start)))
    ++ (member (codes "column") (decimal (column_of text (within text span.start))) ++ (member (codes "start") (decimal span.start) ++ member (codes "end") (decimal span.end)))

abbrev pub source_text : Option Source → Option Span → List ℕ
source_text (Some source) (Some span) = text_member (codes "file") source.name.now ++ span_text source.text.now span
source_text (Some source) None = text_member (codes "file") source.name.now
source_text None span = []

abbrev pub json_line : ℕ → Message → List ℕ
json_line status m =
    (codes "{\"status\":" ++ (decimal status ++ source_text m.source m.span))
    ++ (text_member (codes "fault") (string_bytes m.what) ++ (text_member (codes "sentence") (string_bytes m.sentence) ++ (text_member (codes "fix") (string_bytes m.fix) ++ codes "}\n")))
