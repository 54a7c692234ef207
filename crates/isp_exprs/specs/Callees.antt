-- What a call's name calls, and what it asks of each argument.
--     hs   the functions of the program in the order of the text, as callers see them       n   how many arguments there are
use Rattle.std.specs.Prelude.{ℕ, suc, List, [], ◌∷◌, length, map, find, codes, bytes_eq, Bool, true, false, if◌then◌else◌, ◌==◌, Option, Some, None, option_map, Result, Ok, Err}
use Rattle.std.specs.Option.{option_or}
use Rattle.isp_base.specs.declared.types.Ty.{Ty}
use Rattle.isp_lex.specs.declared.fault.Fault.{Fault}
use Rattle.isp_lex.specs.declared.fault.Rule.TheVariants.{UnknownName}
use Rattle.isp_lex.specs.Faults.{fault}
use Rattle.isp_tree.specs.declared.types.Word.{Word}
use Rattle.isp_typed.specs.declared.library.Library.TheVariants as the
use Rattle.isp_typed.specs.Library.{parts}
use Rattle.isp_exprs.specs.declared.callee.Callee.{Callee}
use Rattle.isp_exprs.specs.declared.callee.Callee.TheVariants.{Unknown, Miscounted, Function, Library as OfLibrary, PackedStore, PackedLoad}
use Rattle.isp_exprs.specs.declared.callee.Want.{Want}
use Rattle.isp_exprs.specs.declared.callee.Want.TheVariants.{AnyValue, NoReference, Anything}
use Rattle.isp_exprs.specs.PackedCalls.{store_wants, load_wants}

-- what callers see of a function: its name, the type of its result (a fault where the words of it contradict each
-- other), and what each parameter asks
pub record Heading : Type 0 where
  pub name : List ℕ
  pub answer : Result (Option Ty) Fault
  pub wants : List Want

-- ---- the library

-- its functions by their names: those that look at the whole gang, and those by instance
abbrev pub cross_library : List (List ℕ × Callee)
cross_library =
    (codes "reduce_add", OfLibrary the.ReduceAdd) ∷ (codes "reduce_min", OfLibrary the.ReduceMin) ∷ (codes "reduce_max", OfLibrary the.ReduceMax)
    ∷ (codes "reduce_equal", OfLibrary the.ReduceEqual) ∷ (codes "any", OfLibrary the.Any) ∷ (codes "all", OfLibrary the.All) ∷ (codes "none", OfLibrary the.None)
    ∷ (codes "exclusive_scan_add", OfLibrary the.ScanAdd) ∷ (codes "exclusive_scan_and", OfLibrary the.ScanAnd) ∷ (codes "exclusive_scan_or", OfLibrary the.ScanOr) ∷ []

abbrev pub move_library : List (List ℕ × Callee)
move_library =
    (codes "broadcast", OfLibrary the.Broadcast) ∷ (codes "rotate", OfLibrary the.Rotate) ∷ (codes "shift", OfLibrary the.Shift)
    ∷ (codes "shuffle", OfLibrary the.Shuffle) ∷ (codes "extract", OfLibrary the.Extract) ∷ (codes "insert", OfLibrary the.Insert)
    ∷ (codes "packed_store_active", PackedStore) ∷ (codes "packed_load_active", PackedLoad) ∷ []

abbrev pub instance_library : List (List ℕ × Callee)
instance_library =
    (codes "min", OfLibrary the.Min) ∷ (codes "max", OfLibrary the.Max) ∷ (codes "clamp", OfLibrary the.Clamp) ∷ (codes "abs", OfLibrary the.Abs)
    ∷ (codes "select", OfLibrary the.Select) ∷ []

abbrev pub named_in : List (List ℕ × Callee) → List ℕ → Option Callee
named_in entries w = option_map (λ e. e.1) (find (λ e. bytes_eq e.0 w) entries)

abbrev pub library_named : List ℕ → Option Callee
library_named w = option_or (named_in cross_library w) (option_or (named_in move_library w) (named_in instance_library w))

-- `shuffle` of three arguments is of two values
abbrev pub by_count : ℕ → Callee → Callee
by_count n (OfLibrary the.Shuffle) = if n == 3 then OfLibrary the.ShuffleTwo else OfLibrary the.Shuffle
by_count n c = c

-- what it asks of its arguments: a value for each part, but where a call is packed
abbrev pub library_wants : Callee → List Want
library_wants (OfLibrary f) = map (λ p. AnyValue) (parts f)
library_wants PackedStore = store_wants
library_wants PackedLoad = load_wants
library_wants c = []

abbrev pub is_packed : Callee → Bool
is_packed PackedStore = true
is_packed PackedLoad = true
is_packed c = false

-- ---- a wrong number of arguments, which is 23 at the call: of each is asked only what it is by itself

abbrev pub counted : ℕ → Callee → List Want → Callee × List Want
counted n c ws = if length ws == n then (c, ws) else (Miscounted (is_packed c), [])

-- `&` stands in packed calls alone, in one with a wrong number of arguments too
abbrev pub asked_past : Callee → Want
asked_past (Miscounted true) = Anything
asked_past c = NoReference

-- ---- a name: of the library it means the library, another the first function of the program that has it

-- the first function of a name, with its number, from k on
abbrev pub function_from : List ℕ → ℕ → List Heading → Option (ℕ × Heading)
function_from w k [] = None
function_from w k (h ∷ hs) = if bytes_eq h.name w then Some (k, h) else function_from w (suc k) hs

abbrev pub of_function : ℕ → Option (ℕ × Heading) → Callee × List Want
of_function n None = (Unknown, [])
of_function n (Some f) = counted n (Function f.0 f.1.answer) f.1.wants

abbrev pub of_library : ℕ → Callee → Callee × List Want
of_library n c = counted n (by_count n c) (library_wants (by_count n c))

abbrev pub callee : List Heading → List ℕ → ℕ → Callee × List Want
callee hs w n = callee_of (library_named w)
  where
    callee_of : Option Callee → Callee × List Want
    callee_of (Some c) = of_library n c
    callee_of None = of_function n (function_from w 0 hs)

-- 20 at a name that neither has
abbrev pub unless_unknown : Word → Callee → Result Callee Fault
unless_unknown w Unknown = Err (fault UnknownName w.span)
unless_unknown w c = Ok c
