-- Whatever stands before a page: why nothing is shown.
use Rattle.std.proofs.Common.{◌≡◌, ◌≢◌, ℕ, List, None, Contains, sym, subst}
use Rattle.isp_base.specs.declared.types.Gang.{Gang}
use Rattle.isp_case_files.specs.Cases.{IsNoList}
use Rattle.isp_case_files.specs.declared.fault.CaseFault.{CaseFault}
use Rattle.isp_case_files.specs.declared.fault.CaseFault.TheVariants as fault
use Rattle.isp_case_command.specs.Stopping.{case_stop}
use Rattle.isp_case_command.specs.Testing.{IsRefused, IsUncompiled, IsUnread, NotTested, cases_file, gangs_of}
use Rattle.isp_case_command.specs.declared.stop.TestStop.{TestStop}
use Rattle.isp_case_command.specs.declared.stop.TestStop.TheVariants.{Differs, Source, NoList, NoSource, NoCases, NoOutput, Memory}
use Rattle.isp_engine.specs.Stories.{Holds}
use Rattle.ispx_command_line.specs.declared.words.TestRequest.{TestRequest}

-- a source that is refused at one of the gangs
pub uncompiled : (gangs : List Gang) (gang : Gang) (text : List ℕ) → Contains gangs gang → (s : TestStop) → IsRefused gang text s → IsUncompiled gangs text s
uncompiled gangs gang text here Differs h = absurd h
uncompiled gangs gang text here (Source f) h = (gang, here, h)
uncompiled gangs gang text here (NoList f) h = absurd h
uncompiled gangs gang text here NoSource h = absurd h
uncompiled gangs gang text here NoCases h = absurd h
uncompiled gangs gang text here NoOutput h = absurd h
uncompiled gangs gang text here Memory h = tt

-- the same gangs
pub uncompiled_same : (gangs others : List Gang) (text : List ℕ) → gangs ≡ others → (s : TestStop) → IsUncompiled gangs text s → IsUncompiled others text s
uncompiled_same gangs others text same s h = subst (λ (l : List Gang). IsUncompiled l text s) same h

module _ (q : TestRequest) (text json : List ℕ) where
  pub untested : (s : TestStop) → IsUncompiled (gangs_of q.gang) text s → NotTested q text json s
  untested Differs h = absurd h
  untested (Source f) h = h
  untested (NoList f) h = absurd h
  untested NoSource h = absurd h
  untested NoCases h = absurd h
  untested NoOutput h = absurd h
  untested Memory h = tt

  pub unlisted : (f : CaseFault) → IsNoList json f → NotTested q text json (case_stop f)
  unlisted fault.Memory h = tt
  unlisted (fault.NotJson l c) h = ((λ e. let none : ⊥ = cc in none), h)
  unlisted fault.NotList h = ((λ e. let none : ⊥ = cc in none), h)
  unlisted (fault.NotObject n) h = ((λ e. let none : ⊥ = cc in none), h)
  unlisted (fault.Missing n m) h = ((λ e. let none : ⊥ = cc in none), h)
  unlisted (fault.WrongKind n m) h = ((λ e. let none : ⊥ = cc in none), h)
  unlisted (fault.NothingWanted n) h = ((λ e. let none : ⊥ = cc in none), h)
  unlisted (fault.TwoWanted n) h = ((λ e. let none : ⊥ = cc in none), h)

-- ---- files

module _ (has : Holds) (source : List ℕ) where
  pub no_source : (s : TestStop) → (s ≢ Memory → (s ≡ NoSource) × has source None) → IsUnread has source s
  no_source Differs h = let k = h (λ e. let none : ⊥ = cc in none) in subst (IsUnread has source) (sym k.0) k.1
  no_source (Source f) h = let k = h (λ e. let none : ⊥ = cc in none) in subst (IsUnread has source) (sym k.0) k.1
  no_source (NoList f) h = let k = h (λ e. let none : ⊥ = cc in none) in subst (IsUnread has source) (sym k.0) k.1
  no_source NoSource h = let k = h (λ e. let none : ⊥ = cc in none) in subst (IsUnread has source) (sym k.0) k.1
  no_source NoCases h = let k = h (λ e. let none : ⊥ = cc in none) in subst (IsUnread has source) (sym k.0) k.1
  no_source NoOutput h = let k = h (λ e. let none : ⊥ = cc in none) in subst (IsUnread has source) (sym k.0) k.1
  no_source Memory h = tt

  no_cases_there : (s : TestStop) → (s ≢ Memory → (s ≡ NoCases) × has (cases_file source) None) → IsUnread has source s
  no_cases_there Differs h = let k = h (λ e. let none : ⊥ = cc in none) in subst (IsUnread has source) (sym k.0) k.1
  no_cases_there (Source f) h = let k = h (λ e. let none : ⊥ = cc in none) in subst (IsUnread has source) (sym k.0) k.1
  no_cases_there (NoList f) h = let k = h (λ e. let none : ⊥ = cc in none) in subst (IsUnread has source) (sym k.0) k.1
  no_cases_there NoSource h = let k = h (λ e. let none : ⊥ = cc in none) in subst (IsUnread has source) (sym k.0) k.1
  no_cases_there NoCases h = let k = h (λ e. let none : ⊥ = cc in none) in subst (IsUnread has source) (sym k.0) k.1
  no_cases_there NoOutput h = let k = h (λ e. let none : ⊥ = cc in none) in subst (IsUnread has source) (sym k.0) k.1
  no_cases_there Memory h = tt

  pub no_cases : (name : List ℕ) → name ≡ cases_file source → (s : TestStop) → (s ≢ Memory → (s ≡ NoCases) × has name None) → IsUnread has source s
  no_cases name is s h = no_cases_there s (λ n. let k = h n in (k.0, subst (λ (m : List ℕ). has m None) is k.1))
