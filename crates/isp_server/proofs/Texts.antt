-- The texts of documents after a change.
use Rattle.std.proofs.Common.{◌≡◌, ℕ, List, Bool, true, false, cond, ap}
use Rattle.std.specs.Prelude.{Option, Some, None, String, bytes_eq, option_map, string_bytes}
use Rattle.std.specs.BTreeMap.{BTreeMap, UpdatesBy}
use Rattle.std.specs.Cmp.Lexicographic.{slice_cmp}
use Rattle.std.specs.Ordering.{nat_cmp}
use Rattle.std.specs.String.{string_cmp}
use Rattle.std.specs.declared.alloc.Global.{Global}
use Rattle.std.proofs.lemmas.Map.Text.{btree_map_updates_text}
use Rattle.isp_server.specs.Texts.{text_in}

abbrev Documents : Type 0
Documents = BTreeMap (String Global) (String Global)

seen_after : {A B : Type 0} (f : A → B) (here : Bool) (w old new : Option A) → new ≡ cond here w old → option_map f new ≡ cond here (option_map f w) (option_map f old)
seen_after f true w old new e = ap (option_map f) e
seen_after f false w old new e = ap (option_map f) e

-- after `insert`
pub kept : (old new : Documents) (key text : String Global) (uri body : List ℕ) → string_bytes key ≡ uri → string_bytes text ≡ body
    → UpdatesBy string_cmp (λ k. slice_cmp nat_cmp (string_bytes key) (string_bytes k)) old new (Some text) → (name : List ℕ) → text_in new name ≡ cond (bytes_eq uri name) (Some body) (text_in old name)
kept old new key text uri body e f h name =
    rw (← e, ← f) (seen_after string_bytes (bytes_eq (string_bytes key) name) (Some text) _ _ (btree_map_updates_text (string_bytes key) old new (Some text) h name))

-- after `remove`
pub gone : (old new : Documents) (uri : List ℕ) → UpdatesBy string_cmp (λ k. slice_cmp nat_cmp uri (string_bytes k)) old new None → (name : List ℕ) → text_in new name ≡ cond (bytes_eq uri name) None (text_in old name)
gone old new uri h name = seen_after string_bytes (bytes_eq uri name) None _ _ (btree_map_updates_text uri old new None h name)
