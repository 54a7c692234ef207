-- What a run of a text answers: a report, or why there is none.
use Rattle.std.proofs.Common.{◌≡◌, ◌⊎◌, inl, inr, ℕ, zero, suc, Bool, true, false, List, [], ◌∷◌, Some, Result, Ok, Err, refl, sym, ap, ◌∙◌, ⊎_elim}
use Rattle.std.specs.Prelude.{bytes_eq, slice_get}
use Rattle.std.proofs.lemmas.Bool.{false≢true}
use Rattle.std.proofs.lemmas.Slice.Eq.{bytes_eq-Decides}
use Rattle.isp_base.specs.declared.signature.Argument.{Argument}
use Rattle.isp_base.specs.declared.types.Gang.{Gang}
use Rattle.isp_bind.specs.declared.fault.BindFault.{BindFault}
use Rattle.isp_bind.specs.declared.fault.BindFault.TheVariants as bind
use Rattle.isp_code.specs.Listing.{Listing}
use Rattle.isp_code.specs.Machine.{outcome_after}
use Rattle.isp_lex.specs.declared.fault.Fault.{Fault}
use Rattle.isp_lex.specs.declared.fault.SourceFault.{SourceFault}
use Rattle.isp_lex.specs.declared.fault.SourceFault.TheVariants.{Memory as NoMemory, Refused}
use Rattle.isp_typed.specs.Typed.{Program, TFunction}
use Rattle.isp_meaning.specs.Entries.{IsExport}
use Rattle.isp_runs.specs.declared.fault.RunFault.{RunFault}
use Rattle.isp_runs.specs.declared.fault.RunFault.TheVariants.{Memory, NoEntry, Arguments, WriteFailed}
use Rattle.isp_runs.specs.declared.report.Report.{Report}
use Rattle.isp_runs.specs.Compilation.{IsCompilation}
use Rattle.isp_front.specs.Front.{IsFaulty}
use Rattle.isp_runs.specs.Meaning.{Means}
use Rattle.isp_runs.specs.Reports.{Executes}
use Rattle.isp_runs.specs.RunFaults.{run_fault}
use Rattle.isp_headline.specs.declared.calls.Refusal.TheVariants.{Run, Source}
use Rattle.isp_headline.specs.Answers.{Answers, Entered, IsReport}
use Rattle.isp_headline.specs.Headline.{DoesAsMeant}
use Rattle.isp_headline.proofs.Whole.{headline}

-- ---- whether a function is exported under a name

abbrev Stands : List TFunction → List ℕ → ℕ → TFunction → Type 0
Stands fs name f h = (slice_get fs f ≡ Some h) × (h.name ≡ name) × (h.exported ≡ true)

abbrev Found : List TFunction → List ℕ → Type 0
Found fs name = (f : ℕ) × (h : TFunction) × Stands fs name f h

abbrev Lost : List TFunction → List ℕ → Type 0
Lost fs name = (f : ℕ) (h : TFunction) → Stands fs name f h → ⊥

module _ (g : TFunction) (gs : List TFunction) (name : List ℕ) where
  same_some : (h : TFunction) → Some g ≡ Some h → g ≡ h
  same_some h e = cc

  not_here : (g.name ≡ name → g.exported ≡ true → ⊥) → Lost gs name → Lost (g ∷ gs) name
  not_here unlike n zero h e =
      let same : g ≡ h = same_some h e.0 in
      unlike (ap (λ (k : TFunction). k.name) same ∙ e.1) (ap (λ (k : TFunction). k.exported) same ∙ e.2)
  not_here unlike n (suc f) h e = n f h e

  behind : (g.name ≡ name → g.exported ≡ true → ⊥) → Found gs name ⊎ Lost gs name → Found (g ∷ gs) name ⊎ Lost (g ∷ gs) name
  behind unlike (inl k) = inl (suc k.0, k.1, k.2)
  behind unlike (inr n) = inr (not_here unlike n)

  here : (b x : Bool) → bytes_eq g.name name ≡ b → g.exported ≡ x → Found gs name ⊎ Lost gs name → Found (g ∷ gs) name ⊎ Lost (g ∷ gs) name
  here true true e x rest = inl (0, g, (refl, (bytes_eq-Decides g.name name).0 e, x))
  here true false e x rest = behind (λ named exported. false≢true (sym x ∙ exported)) rest
  here false x e same rest = behind (λ named exported. false≢true (sym e ∙ (bytes_eq-Decides g.name name).1 named)) rest

found : (fs : List TFunction) (name : List ℕ) → Found fs name ⊎ Lost fs name
found [] name = inr (λ f h e. let some : slice_get [] f ≡ Some h = e.0 in let no : ⊥ = cc in no)
found (g ∷ gs) name = here g gs name (bytes_eq g.name name) g.exported refl refl (found gs name)

-- ---- the refusal of arguments

same_fault : (b c : BindFault) → Arguments b ≡ run_fault c → b ≡ c
same_fault b bind.Memory e = absurd (let no : ⊥ = cc in no)
same_fault b bind.NotJson e = cc
same_fault b bind.NotObject e = cc
same_fault b bind.Missing e = cc
same_fault b bind.Extra e = cc
same_fault b bind.WrongKind e = cc
same_fault b bind.OutOfRange e = cc
same_fault b bind.TooLong e = cc

no_entry : (c : BindFault) → NoEntry ≡ run_fault c → ⊥
no_entry bind.Memory e = let no : ⊥ = cc in no
no_entry bind.NotJson e = let no : ⊥ = cc in no
no_entry bind.NotObject e = let no : ⊥ = cc in no
no_entry bind.Missing e = let no : ⊥ = cc in no
no_entry bind.Extra e = let no : ⊥ = cc in no
no_entry bind.WrongKind e = let no : ⊥ = cc in no
no_entry bind.OutOfRange e = let no : ⊥ = cc in no
no_entry bind.TooLong e = let no : ⊥ = cc in no

no_write : (c : BindFault) → WriteFailed ≡ run_fault c → ⊥
no_write bind.Memory e = let no : ⊥ = cc in no
no_write bind.NotJson e = let no : ⊥ = cc in no
no_write bind.NotObject e = let no : ⊥ = cc in no
no_write bind.Missing e = let no : ⊥ = cc in no
no_write bind.Extra e = let no : ⊥ = cc in no
no_write bind.WrongKind e = let no : ⊥ = cc in no
no_write bind.OutOfRange e = let no : ⊥ = cc in no
no_write bind.TooLong e = let no : ⊥ = cc in no

-- ---- what is answered

module _ (gang : Gang) (text : List ℕ) (image : Listing) (compiled : IsCompilation gang text image) (entry json : List ℕ) (budget : ℕ) where
  abbrev program : Program
  program = compiled.program

  export_of : (k : Found program.functions entry) → IsExport program entry k.0 k.1
  export_of k = record { found = k.2.0; named = k.2.1; exported = k.2.2 }

  not_export : Lost program.functions entry → (f : ℕ) (h : TFunction) → IsExport program entry f h → ⊥
  not_export n f h e = n f h (e.found, e.named, e.exported)

  pub report_of : (r : Report) → Executes image entry json budget (Ok r) → Means program entry json budget (Ok r) → IsReport gang text entry json budget r
  report_of r x m =
      ⊎_elim
      (λ k.
      let export = export_of k in
      let told = m.runs k.0 k.1 export in
      let does : DoesAsMeant program image entry json k.0 k.1 told.0 = headline gang text image compiled program compiled.source entry json k.0 k.1 told.0 export told.1 in
      record {
        arguments = told.0;
        entered = record { program = program; source = compiled.source; number = k.0; function = k.1; export = export; binds = told.1 };
        machine = outcome_after image k.0 does.routine told.0;
        runs = does.runs;
        reports = does.reported budget (Ok r) x;
      })
      (λ n. let none : ◌≡◌ {A = Result Report RunFault} (Ok r) (Err NoEntry) = m.none (not_export n) in absurd (let no : ⊥ = cc in no))
      (found program.functions entry)

  pub refusal_of : (e : RunFault) → Means program entry json budget (Err e) → Answers gang text entry json budget (Err (Run e))
  refusal_of Memory m = tt
  refusal_of NoEntry m =
      ⊎_elim
      (λ k. let told = m.runs k.0 k.1 (export_of k) (λ e. let no : ⊥ = cc in no) in absurd (no_entry told.0 told.2))
      (λ n. (program, compiled.source, not_export n))
      (found program.functions entry)
  refusal_of (Arguments b) m =
      ⊎_elim
      (λ k.
      let told = m.runs k.0 k.1 (export_of k) (λ e. let no : ⊥ = cc in no) in
      record { program = program; source = compiled.source; number = k.0; function = k.1; export = export_of k; binds = told.1 ∙ ap Err (sym (same_fault b told.0 told.2)) })
      (λ n. let none : ◌≡◌ {A = Result Report RunFault} (Err (Arguments b)) (Err NoEntry) = m.none (not_export n) in absurd (let no : ⊥ = cc in no))
      (found program.functions entry)
  refusal_of WriteFailed m =
      ⊎_elim
      (λ k. let told = m.runs k.0 k.1 (export_of k) (λ e. let no : ⊥ = cc in no) in absurd (no_write told.0 told.2))
      (λ n. let none : ◌≡◌ {A = Result Report RunFault} (Err WriteFailed) (Err NoEntry) = m.none (not_export n) in absurd (let no : ⊥ = cc in no))
      (found program.functions entry)

  -- what is accepted is refused for want of memory alone
  pub memory_of : (e : RunFault) → Executes image entry json budget (Err e) → (xs : List Argument) → Entered gang text entry json (Ok xs) → e ≡ Memory
  memory_of e x xs k =
      let does = headline gang text image compiled k.program k.source entry json k.number k.function xs k.export k.binds in
      does.reported budget (Err e) x

-- the refusal of a text
pub source_refusal : (gang : Gang) (text entry json : List ℕ) (budget : ℕ) (e : SourceFault) → ((f : Fault) → e ≡ Refused f → IsFaulty gang text f)
    → Answers gang text entry json budget (Err (Source e))
source_refusal gang text entry json budget NoMemory h = tt
source_refusal gang text entry json budget (Refused f) h = h f refl
