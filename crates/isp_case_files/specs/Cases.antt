-- What a text of cases is: a list of objects. Each has the members
--     entry, arguments    what is run
--     answer, or trap     what is wanted of it
--     name                what the case is called, where it has a name
-- Cases are counted from 1, and the first fault is told.
use Rattle.std.specs.Prelude.{◌≡◌, ◌≢◌, ◌⊎◌, ℕ, suc, List, [], ◌∷◌, map, codes, bytes_eq, string_bytes, Option, Some, None, option_map, is_some, Result, Ok, Err, if◌then◌else◌}
use Rattle.serde_json.specs.Data.{Data, Items, no_items, item, Members}
use Rattle.serde_json.specs.Find.{as_array, as_object, as_str, get}
use Rattle.serde_json.specs.Read.{read}
use Rattle.serde_json.specs.View.{members_view, view}
use Rattle.isp_base.specs.declared.trap.TrapKind.{TrapKind}
use Rattle.isp_base.specs.declared.trap.TrapKind.TheVariants.{Divide, Index, Assert, Depth}
use Rattle.isp_case_files.specs.declared.case.Case.{Case}
use Rattle.isp_case_files.specs.declared.case.Wanted.{Wanted}
use Rattle.isp_case_files.specs.declared.case.Wanted.TheVariants as wanted
use Rattle.isp_case_files.specs.declared.fault.CaseFault.{CaseFault}
use Rattle.isp_case_files.specs.declared.fault.CaseFault.TheVariants.{Memory, NotJson, NotList, NotObject, Missing, WrongKind, NothingWanted, TwoWanted}
use Rattle.isp_case_files.specs.declared.fault.Member.{Member}
use Rattle.isp_case_files.specs.declared.fault.Member.TheVariants as member

-- what is wanted: an end with these arrays by name, and this result; or a trap of this kind
pub data Wish : Type 0 where
  Ends : (arrays : Members) (result : Option Data) → Wish
  Traps : (kind : TrapKind) → Wish

pub record Listed : Type 0 where
  pub number : ℕ
  pub name : Option (List ℕ)
  pub entry : List ℕ
  pub arguments : Option Data
  pub wish : Wish

-- f of what was found, or the fault
abbrev pub then_of : {A B : Type 0} → (A → Result B CaseFault) → Result A CaseFault → Result B CaseFault
then_of f (Ok a) = f a
then_of f (Err e) = Err e

-- ---- members

abbrev pub text_from : ℕ → Member → Option (List ℕ) → Result (List ℕ) CaseFault
text_from n m None = Err (WrongKind n m)
text_from n m (Some s) = Ok s

abbrev pub name_in : ℕ → Option Data → Result (Option (List ℕ)) CaseFault
name_in n None = Ok None
name_in n (Some d) = then_of (λ s. Ok (Some s)) (text_from n member.Name (as_str d))

abbrev pub entry_in : ℕ → Option Data → Result (List ℕ) CaseFault
entry_in n None = Err (Missing n member.Entry)
entry_in n (Some d) = text_from n member.Entry (as_str d)

abbrev pub arguments_in : ℕ → Option Data → Result (Option Data) CaseFault
arguments_in n None = Err (Missing n member.Arguments)
arguments_in n (Some d) = Ok (Some d)

-- ---- what is wanted

abbrev pub object_from : ℕ → Option Members → Result Members CaseFault
object_from n None = Err (WrongKind n member.Arrays)
object_from n (Some ms) = Ok ms

abbrev pub arrays_in : ℕ → Option Data → Result Members CaseFault
arrays_in n None = Err (Missing n member.Arrays)
arrays_in n (Some d) = object_from n (as_object d)

abbrev pub answer_in : ℕ → Data → Result Wish CaseFault
answer_in n d = then_of (λ ms. Ok (Ends ms (get (codes "result") d))) (arrays_in n (get (codes "arrays") d))

-- the kind of trap that `isp run` shows so
abbrev pub kind_named : List ℕ → Option TrapKind
kind_named s =
    if bytes_eq s (codes "divide") then Some Divide else (if bytes_eq s (codes "index") then Some Index else (if bytes_eq s (codes "assert") then Some Assert else (if bytes_eq s (codes "depth") then Some Depth else None)))

abbrev pub kind_wish : ℕ → Option TrapKind → Result Wish CaseFault
kind_wish n None = Err (WrongKind n member.Trap)
kind_wish n (Some k) = Ok (Traps k)

abbrev pub trap_in : ℕ → Data → Result Wish CaseFault
trap_in n d = then_of (λ s. kind_wish n (kind_named s)) (text_from n member.Trap (as_str d))

abbrev pub wish_from : ℕ → Option Data → Option Data → Result Wish CaseFault
wish_from n None None = Err (NothingWanted n)
wish_from n None (Some t) = trap_in n t
wish_from n (Some a) None = answer_in n a
wish_from n (Some a) (Some t) = Err (TwoWanted n)

abbrev pub wish_of : ℕ → Data → Result Wish CaseFault
wish_of n d = wish_from n (get (codes "answer") d) (get (codes "trap") d)

-- ---- cases

abbrev pub case_in : ℕ → Data → Result Listed CaseFault
case_in n d =
    then_of (λ name. then_of (λ entry. then_of (λ arguments. then_of (λ wish. Ok (record { number = n; name = name; entry = entry; arguments = arguments; wish = wish }))
    (wish_of n d)) (arguments_in n (get (codes "arguments") d))) (entry_in n (get (codes "entry") d))) (name_in n (get (codes "name") d))

abbrev pub case_of : ℕ → Data → Result Listed CaseFault
case_of n d = if is_some (as_object d) then case_in n d else Err (NotObject n)

abbrev pub cases_from : ℕ → Items → Result (List Listed) CaseFault
cases_from n no_items = Ok []
cases_from n (item d ds) = then_of (λ c. then_of (λ cs. Ok (c ∷ cs)) (cases_from (suc n) ds)) (case_of n d)

abbrev pub cases_in : Option Items → Result (List Listed) CaseFault
cases_in None = Err NotList
cases_in (Some ds) = cases_from 1 ds

abbrev pub cases_of : Data → Result (List Listed) CaseFault
cases_of d = cases_in (as_array d)

-- ---- what was read

abbrev pub as_wish : Wanted → Wish
as_wish (wanted.Answer a) = Ends (members_view a.arrays.now.entries) (option_map (λ d. view d.now) a.result)
as_wish (wanted.Trap k) = Traps k

-- the arguments are what their text reads as
abbrev pub as_listed : Case → Listed
as_listed c =
    record { number = c.number; name = option_map (λ s. string_bytes s) c.name; entry = string_bytes c.entry; arguments = read (string_bytes c.arguments); wish = as_wish c.wanted }

-- the text is a list of these cases
abbrev pub IsList : List ℕ → List Case → Type 0
IsList text cs = (d : Data) × (read text ≡ Some d) × (cases_of d ≡ Ok (map as_listed cs))

abbrev pub IsNotJson : CaseFault → Type 0
IsNotJson (NotJson line column) = Unit {0}
IsNotJson f = ⊥

-- it is none for this reason, unless memory was refused
abbrev pub IsNoList : List ℕ → CaseFault → Type 0
IsNoList text f = f ≢ Memory → ((read text ≡ None) × IsNotJson f) ⊎ ((d : Data) × (read text ≡ Some d) × (cases_of d ≡ Err f))
