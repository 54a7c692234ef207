-- What is said of a fault, of an exported function and of a hint: at which place, and in which words.
use Rattle.std.specs.Prelude.{◌≡◌, ℕ, List, ◌++◌, Option, Some, None, codes, string_bytes}
use Rattle.std.specs.Fmt.{decimal}
use Rattle.isp_base.specs.declared.types.Span.{Span}
use Rattle.isp_hints.specs.declared.hint.Slow.{Slow}
use Rattle.isp_hints.specs.declared.hint.Slow.TheVariants.{Gathered, Scattered, Parted, LeftOff}
use Rattle.isp_independence.specs.Dependences.{number_of}
use Rattle.isp_independence.specs.declared.dependence.Dependence.{Dependence}
use Rattle.isp_messages.specs.Messages.{place_text}
use Rattle.isp_messages.specs.declared.message.Message.{Message}
use Rattle.isp_messages.specs.declared.page.Source.{Source}

-- the message says these words of a place of the text that a file of this name has
pub record Says (name text : List ℕ) (span : Span) (words : List ℕ) (m : Message) : Type 0 where
  pub source : Source
  pub source_is : m.source ≡ Some source
  pub name_is : source.name.now ≡ name
  pub text_is : source.text.now ≡ text
  pub span_is : m.span ≡ Some span
  pub what_is : string_bytes m.what ≡ words

abbrev pub slow_words : Slow → List ℕ
slow_words Gathered = codes "note: gathered"
slow_words Scattered = codes "note: scattered"
slow_words Parted = codes "note: instances part"
slow_words LeftOff = codes "note: lanes left off"

-- of an exported function: `note: sum: not independent: rule 4 at 8:10`
abbrev pub verdict_words : List ℕ → Option Dependence → List ℕ
verdict_words text None = codes "independent by the rules; `isp solo` looks for clashes of its instances"
verdict_words text (Some d) = codes "not independent: rule " ++ (decimal (number_of d.rule) ++ (codes " at " ++ place_text text d.span.start))

abbrev pub export_words : List ℕ → List ℕ → Option Dependence → List ℕ
export_words text name o = codes "note: " ++ (name ++ (codes ": " ++ verdict_words text o))
