-- What is answered to a request on a place of a document: what is shown of it, where the name there is declared, where it is named.
-- Of a document that is not open, and of a text that is no program, nothing is known.
--     {"contents": {"kind": "plaintext", "value": "varying int32"}, "range": ..}     of `textDocument/hover`
--     {"uri": .., "range": ..}                                                       a location
use Rattle.std.specs.Prelude.{◌≡◌, ℕ, List, [], ◌∷◌, codes, length, map, min, Option, Some, None, option_and_then, option_map}
use Rattle.serde_json.specs.Data.{Data, null, string, array, object, Items, no_items, item, no_members, member}
use Rattle.isp_base.specs.declared.types.Gang.{Gang}
use Rattle.isp_base.specs.declared.types.Span.{Span}
use Rattle.isp_lex.specs.Tokens.{TokenList}
use Rattle.isp_lex.specs.declared.fault.Fault.{Fault}
use Rattle.isp_typed.specs.Typed.{Program}
use Rattle.isp_front.specs.Front.{IsFaulty}
use Rattle.isp_positions.specs.Positions.{offset_of}
use Rattle.isp_known.specs.declared.note.Note.{Note}
use Rattle.isp_known.specs.declared.note.Subject.{Subject}
use Rattle.isp_known.specs.Places.{declaration_of, places_of, subject_at, word_of}
use Rattle.isp_known.specs.Shown.{Shows}
use Rattle.isp_names.specs.Known.{IsKnown}
use Rattle.isp_server.specs.declared.question.Question.{Question}
use Rattle.isp_server.specs.declared.question.Question.TheVariants.{Hover, Definition, References}
use Rattle.isp_server.specs.Deeds.{Place}
use Rattle.isp_server.specs.Sent.{range}

abbrev pub hover : List ℕ → Option (Span × List ℕ) → Data
hover text None = null
hover text (Some (s, shown)) =
    let contents = object (member (codes "kind") (string (codes "plaintext")) (member (codes "value") (string shown) no_members)) in
    object (member (codes "contents") contents (member (codes "range") (range text s) no_members))

-- the name that begins at a byte; one past the text is its end
abbrev pub location : List ℕ → List ℕ → ℕ → Data
location uri text k = object (member (codes "range") (range text (word_of text (min k (length text)))) (member (codes "uri") (string uri) no_members))

abbrev pub definition : List ℕ → List ℕ → Option ℕ → Data
definition uri text None = null
definition uri text (Some k) = location uri text k

abbrev pub items_of : List Data → Items
items_of [] = no_items
items_of (d ∷ ds) = item d (items_of ds)

abbrev pub references : List ℕ → List ℕ → Option (List ℕ) → Data
references uri text None = null
references uri text (Some ks) = array (items_of (map (location uri text) ks))

-- what the name around a byte stands for
abbrev pub subject_of : List Note → List ℕ → ℕ → Option Subject
subject_of notes text at = subject_at (word_of text at).start notes

-- of a program with these notes
abbrev pub Tells : Program → List Note → List ℕ → List ℕ → ℕ → Question → Data → Type 0
Tells p notes uri text at Hover d = (o : Option (Span × List ℕ)) × Shows p notes text at o × (d ≡ hover text o)
Tells p notes uri text at Definition d = d ≡ definition uri text (option_and_then (λ x. declaration_of x notes) (subject_of notes text at))
Tells p notes uri text at (References declared) d = d ≡ references uri text (option_map (λ x. places_of declared x notes) (subject_of notes text at))

pub data TextTells (gang : Gang) (text : List ℕ) (at : Place) (question : Question) (d : Data) : Type 0 where
  of_program : (p : Program) (tokens : TokenList) (notes : List Note) → IsKnown gang text p tokens notes → Tells p notes at.uri text (offset_of text at.line at.character) question d → TextTells gang text at question d
  of_none : (fault : Fault) → IsFaulty gang text fault → d ≡ null → TextTells gang text at question d

abbrev pub Told : Gang → Option (List ℕ) → Place → Question → Data → Type 0
Told gang None at question d = d ≡ null
Told gang (Some text) at question d = TextTells gang text at question d
