-- What is answered to a request to give what stands at a place of a document another name: what has to be put in which ranges, or why not.
--     {"changes": {uri: [{"newText": "y", "range": ..}, ..]}}
use Rattle.std.specs.Prelude.{◌≡◌, ℕ, List, codes, map, Option, Some, None}
use Rattle.serde_json.specs.Data.{Data, string, array, object, no_members, member}
use Rattle.isp_base.specs.declared.types.Gang.{Gang}
use Rattle.isp_base.specs.declared.types.Span.{Span}
use Rattle.isp_positions.specs.Positions.{offset_of}
use Rattle.isp_names.specs.declared.fault.RenameFault.{RenameFault}
use Rattle.isp_names.specs.declared.fault.RenameFault.TheVariants as fault
use Rattle.isp_names.specs.Renames.{IsRenaming, Refuses}
use Rattle.isp_server.specs.declared.refusal.Refusal.{Refusal}
use Rattle.isp_server.specs.declared.refusal.Refusal.TheVariants.{NoProgram, NoName, NotAName, OfLibrary, Clash, Captured}
use Rattle.isp_server.specs.Deeds.{Place}
use Rattle.isp_server.specs.Sent.{answer, range, refused}
use Rattle.isp_server.specs.Told.{items_of}

abbrev pub text_edit : List ℕ → List ℕ → Span → Data
text_edit text name span = object (member (codes "newText") (string name) (member (codes "range") (range text span) no_members))

abbrev pub workspace_edit : List ℕ → List ℕ → List ℕ → List Span → Data
workspace_edit uri text name spans = object (member (codes "changes") (object (member uri (array (items_of (map (text_edit text name) spans))) no_members)) no_members)

-- where memory was refused nothing is answered
abbrev pub refusal_of : RenameFault → Option Refusal
refusal_of fault.Memory = None
refusal_of (fault.NoProgram f) = Some NoProgram
refusal_of fault.NoName = Some NoName
refusal_of fault.NotAName = Some NotAName
refusal_of fault.OfLibrary = Some OfLibrary
refusal_of (fault.Clash f) = Some Clash
refusal_of fault.Captured = Some Captured

pub data TextRenames (gang : Gang) (text : List ℕ) (at : Place) (name : List ℕ) (id d : Data) : Type 0 where
  edited : (spans : List Span) → IsRenaming gang text (offset_of text at.line at.character) name spans → d ≡ answer id (workspace_edit at.uri text name spans) → TextRenames gang text at name id d
  not_renamed : (why : RenameFault) (refusal : Refusal) → Refuses gang text (offset_of text at.line at.character) name why → refusal_of why ≡ Some refusal → d ≡ refused id refusal → TextRenames gang text at name id d

-- of a document that is not open there is no program
abbrev pub Renames : Gang → Option (List ℕ) → Place → List ℕ → Data → Data → Type 0
Renames gang None at name id d = d ≡ refused id NoProgram
Renames gang (Some text) at name id d = TextRenames gang text at name id d
