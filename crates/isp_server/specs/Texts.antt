-- The texts of documents, by their URIs.
use Rattle.std.specs.Prelude.{ℕ, List, Option, String, option_map, string_bytes}
use Rattle.std.specs.BTreeMap.{BTreeMap, get_by_text}
use Rattle.std.specs.declared.alloc.Global.{Global}

-- the text of a document, if there is one
abbrev pub text_in : BTreeMap (String Global) (String Global) → List ℕ → Option (List ℕ)
text_in documents uri = option_map string_bytes (get_by_text documents uri)
