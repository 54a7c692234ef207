-- What executed instructions come to.
use Rattle.std.specs.Prelude.{◌≡◌, ℕ, ◌*◌, List, [], ◌∷◌, length, map, filter, count_by, sum_by, is_some, unwrap_or, Bool, false, Option, Some, None, nat_eq}
use Rattle.std.specs.List.{range_with_len}
use Rattle.isp_code.specs.Conf.{State}
use Rattle.isp_code.specs.Listing.{Listing}
use Rattle.isp_traces.specs.Executed.{executed}
use Rattle.isp_traces.specs.Kinds.{number_of}
use Rattle.isp_traces.specs.Named.{group_of}
use Rattle.isp_traces.specs.declared.counting.Executed.{Executed}
use Rattle.isp_traces.specs.declared.kinds.Kind.{Kind}
use Rattle.isp_traces.specs.declared.kinds.Kind.TheVariants.{Scalars, Vectors, Memory, Masks, Jumps, Calls, Output, Asserts}
use Rattle.isp_traces.specs.declared.tallies.Counts.{Counts}
use Rattle.isp_traces.specs.declared.tallies.Grouping.{Grouping}
use Rattle.isp_traces.specs.declared.tallies.Groups.{Groups}
use Rattle.isp_traces.specs.declared.tallies.Tally.{Tally}

abbrev pub is_masked : Executed → Bool
is_masked e = is_some e.on

abbrev pub lanes_used : Executed → ℕ
lanes_used e = unwrap_or e.on 0

-- how many there are, how many of them stand under a mask, and how many lanes are on in these masks, all together
abbrev pub tally_of : List Executed → Tally
tally_of es = record { instructions = length es; masked = count_by is_masked es; lanes_on = sum_by lanes_used es }

abbrev pub in_function : ℕ → Executed → Bool
in_function f e = nat_eq e.function f

abbrev pub is_kind : Kind → Executed → Bool
is_kind k e = nat_eq (number_of e.kind) (number_of k)

abbrev pub is_number : ℕ → Option ℕ → Bool
is_number p None = false
is_number p (Some q) = nat_eq q p

-- it names a place of group g, where each place has this group
abbrev pub in_group : List ℕ → ℕ → Executed → Bool
in_group groups g e = is_number g (group_of groups e.place)

abbrev pub all_kinds : List Kind
all_kinds = Scalars ∷ Vectors ∷ Memory ∷ Masks ∷ Jumps ∷ Calls ∷ Output ∷ Asserts ∷ []

-- the counts of the first m steps from a state: in all, of each function, of each kind and of each group of places
pub record AreCounts (code : Listing) (s : State) (m : ℕ) (counts : Counts) : Type 0 where
  pub total_is : counts.total ≡ tally_of (executed code s m)
  pub functions_are : counts.functions.items ≡ map (λ f. tally_of (filter (in_function f) (executed code s m))) (range_with_len 0 (length code.routines))
  pub kinds_are : counts.kinds.items ≡ map (λ k. tally_of (filter (is_kind k) (executed code s m))) all_kinds
  pub groups_are : counts.groups.tallies.items
      ≡ map (λ g. tally_of (filter (in_group counts.groups.of_places.items g) (executed code s m))) (range_with_len 0 (length counts.groups.tallies.items))

-- they are the groups that were asked for
pub record IsGrouped (q : Grouping) (g : Groups) : Type 0 where
  pub places : g.of_places.items ≡ q.of_places.items
  pub count : length g.tallies.items ≡ q.count

abbrev pub nothing : Tally
nothing = record { instructions = 0; masked = 0; lanes_on = 0 }

-- the lanes that the masks have, of a gang of n
abbrev pub lanes_of : ℕ → Tally → ℕ
lanes_of n t = t.masked * n
