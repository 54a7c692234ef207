-- A call of isp_run: the run of code, entry and bytes, and that its arrays have room where the arguments stood.
use Rattle.std.proofs.Common.{arith, ◌≡◌, ◌<◌, ◌≤◌, ◌+◌, ◌++◌, [], ℕ, List, length, length-append, slice_index, append-nil, Option, None, Some, Result, Ok, Err, IfOk, sym, ap, subst}
use Rattle.std.specs.List.{flat_map}
use Rattle.isp_base.specs.Arguments.{rows, rows_now}
use Rattle.isp_base.specs.Maps.{Lanes}
use Rattle.isp_base.specs.declared.signature.Argument.{Argument}
use Rattle.isp_base.specs.declared.signature.Parameter.{Parameter}
use Rattle.isp_base.specs.declared.types.Elem.TheVariants.{U8}
use Rattle.isp_base.specs.declared.types.Gang.{Gang}
use Rattle.isp_base.specs.declared.types.Value.{Value}
use Rattle.isp_code.specs.Entries.{parameters_of}
use Rattle.isp_code.specs.Listing.{Listing}
use Rattle.isp_runs.specs.BoundReports.{MeansBound, RunsBound}
use Rattle.isp_runs.specs.Compilation.{IsCompilation}
use Rattle.isp_runs.specs.Loading.{IsLoaded}
use Rattle.isp_runs.specs.declared.report.BoundReport.{BoundReport}
use Rattle.isp_packed.specs.Packing.{packed_answer, packed_array, packed_of, packed_value}
use Rattle.isp_packed.specs.Unpacking.{unpacked_of}
use Rattle.isp_c_laws.specs.Running.{Binds, RunOf}
use Rattle.isp_reports.specs.declared.refusal.Refusal.{Refusal}

-- ---- room

abbrev pub InPlace : Type 0
InPlace = (xs : List Argument) (f : ℕ → Lanes) (returned : Option Value) → length (packed_answer (rows_now (rows xs) f) returned) ≤ length (packed_of xs) + 8

abbrev pub Only : Type 0
Only = (ps : List Parameter) (bytes : List ℕ) (xs : List Argument) → ((k : ℕ) → slice_index bytes k < 256) → unpacked_of ps bytes ≡ Ok xs → packed_of xs ≡ bytes

abbrev some_value : Value
some_value = record { elem = U8; bits = 0 }

-- the arrays without a result
arrays_fit : InPlace → (xs : List Argument) (f : ℕ → Lanes) → length (packed_answer (rows_now (rows xs) f) None) ≤ length (packed_of xs)
arrays_fit law xs f =
    let flat = flat_map packed_array (rows_now (rows xs) f) in
    let with_result : length (flat ++ packed_value some_value) ≡ length flat + 8 = length-append flat (packed_value some_value) in
    let without : length (flat ++ []) ≡ length flat = ap length (append-nil flat) in
    let h : length (flat ++ packed_value some_value) ≤ length (packed_of xs) + 8 = law xs f (Some some_value) in
    subst (λ n. n ≤ length (packed_of xs)) (sym without) (omega arith)

-- the arrays of a run stand where its arguments stood
pub has_room : InPlace → Only → (c : Listing) (entry : List ℕ) (xs : List Argument) (budget : ℕ) (r : BoundReport) → RunsBound c entry xs budget r
    → (ps : List Parameter) (bytes : List ℕ) → ((k : ℕ) → slice_index bytes k < 256) → unpacked_of ps bytes ≡ Ok xs
    → length (packed_answer r.arrays.items None) ≤ length bytes
has_room law only c entry xs budget r b ps bytes small is =
    subst (λ z. length (packed_answer r.arrays.items None) ≤ length z) (only ps bytes xs small is)
    (subst (λ z. length (packed_answer z None) ≤ length (packed_of xs)) (sym b.leaves.arrays) (arrays_fit law xs _))

-- a run from the arguments that the bytes hold for an entry of code that was loaded
module _ (img : Listing) (name bytes : List ℕ) (xs : List Argument) (budget : ℕ) (b : Binds img name bytes xs) where
  abbrev Means : BoundReport → Type 0
  Means r = (gang : Gang) (source : List ℕ) (compiled : IsCompilation gang source img) → MeansBound compiled.program name xs budget r

  ran : (text : List ℕ) → IsLoaded text img → (a : Result BoundReport Refusal) → IfOk a (RunsBound img name xs budget) → IfOk a Means → IfOk a (RunOf text name bytes budget)
  ran text l (Ok r) m q = record {
    arguments = xs;
    takes = record { listing = img; loaded = l; function = b.0; routine = b.1; export = b.2.export; unpacked = b.3 };
    machine = m;
    means = q;
  }
  ran text l (Err f) m q = tt

  pub run_of : (code entry text : List ℕ) → text ≡ code → name ≡ entry → IsLoaded text img → (a : Result BoundReport Refusal) → IfOk a (RunsBound img name xs budget)
      → IfOk a Means → IfOk a (RunOf code entry bytes budget)
  run_of code entry text e n l a m q =
      subst (λ z. IfOk a (RunOf z entry bytes budget)) e (subst (λ z. IfOk a (RunOf text z bytes budget)) n (ran text l a m q))

  pub fits_of : InPlace → Only → ((k : ℕ) → slice_index bytes k < 256) → (a : Result BoundReport Refusal) → IfOk a (RunsBound img name xs budget)
      → IfOk a (λ r. length (packed_answer r.arrays.items None) ≤ length bytes)
  fits_of law only small (Ok r) m = has_room law only img name xs budget r m (parameters_of b.1) bytes small b.3
  fits_of law only small (Err f) m = tt
