-- For private clauses: the members for which the entries of a map from names to arrays stand.
use Rattle.std.specs.Prelude.{ℕ, List, [], ◌∷◌}
use Rattle.std.specs.Borrow.{Bor}
use Rattle.serde_json.specs.Data.{Members, no_members, member}
use Rattle.isp_base.specs.Rows.{Row}
use Rattle.isp_bind.specs.Answering.{shown_array}

abbrev pub entries_members : List (Bor (List ℕ) × Bor Row) → Members
entries_members [] = no_members
entries_members (e ∷ es) = member e.0.now (shown_array e.1.now) (entries_members es)
