-- A program, from its functions.
use Rattle.std.proofs.Common.{◌≡◌, ℕ, zero, suc, ◌<◌, List, [], ◌∷◌, length, Some, true, refl, sym, ◌∙◌, arith}
use Rattle.std.specs.Prelude.{slice_get}
use Rattle.std.proofs.lemmas.Option.{slice_get_within}
use Rattle.isp_code.specs.Entries as machine
use Rattle.isp_code.specs.Listing.{Listing, Routine}
use Rattle.isp_meaning.specs.Entries as meaning
use Rattle.isp_typed.specs.Typed.{Program, TFunction}
use Rattle.isp_masks_code.specs.Agreement.{EntryAgrees, Agrees}
use Rattle.isp_masks_code.specs.Compiled.{IsProgramCode}
use Rattle.isp_masks_code.proofs.Agree.{agrees}

is_there : {A : Type 0} (xs : List A) (k : ℕ) → k < length xs → (x : A) × (slice_get xs k ≡ Some x)
is_there [] k lt = absurd (omega arith)
is_there (x ∷ xs) zero lt = (x, refl)
is_there (x ∷ xs) (suc k) lt = is_there xs k (omega arith)

module _ (program : Program) (code : Listing) (is : IsProgramCode program code) where
  entry_agrees : (f : ℕ) (h : TFunction) (g : Routine) → slice_get program.functions f ≡ Some h → slice_get code.routines f ≡ Some g → h.exported ≡ true → EntryAgrees program code f h g
  entry_agrees f h g eh eg ex =
      let own = is.compiled.each f h g eh eg in
      let e = is.entries f h g eh eg ex in
      record { parameters = e.parameters; result = e.result; runs = λ xs sig short. agrees program code is.compiled f h g own.layout own.numbers own.compiled e xs sig short }

  exports : (name : List ℕ) (f : ℕ) (h : TFunction) → meaning.IsExport program name f h → (g : Routine) × machine.IsExport code name f g × EntryAgrees program code f h g
  exports name f h x =
      let lt : f < length code.routines = omega (arith, slice_get_within program.functions f h x.found, is.compiled.count) in
      let g = is_there code.routines f lt in
      let n = is.named f h g.0 x.found g.1 in
      (g.0, record { found = g.1; named = n.0 ∙ x.named; exported = n.1 ∙ x.exported }, entry_agrees f h g.0 x.found g.1 x.exported)

  exports_only : (name : List ℕ) (f : ℕ) (g : Routine) → machine.IsExport code name f g → (h : TFunction) × meaning.IsExport program name f h × EntryAgrees program code f h g
  exports_only name f g x =
      let lt : f < length program.functions = omega (arith, slice_get_within code.routines f g x.found, is.compiled.count) in
      let h = is_there program.functions f lt in
      let n = is.named f h.0 g h.1 x.found in
      let ex : h.0.exported ≡ true = sym n.1 ∙ x.exported in
      (h.0, record { found = h.1; named = sym n.0 ∙ x.named; exported = ex }, entry_agrees f h.0 g h.1 x.found ex)

  pub program_agrees : Agrees program code
  program_agrees = record { gang = is.gang; exports = exports; exports_only = exports_only }
