-- What files, an entry and a report mean for `solo`.
use Rattle.std.proofs.Common.{◌≡◌, ◌≢◌, ℕ, zero, suc, List, [], ◌∷◌, map, Bool, true, false, cond, Option, Some, None, Result, Ok, Err, refl, sym, ap, ◌∙◌, subst, inl, inr}
use Rattle.std.specs.Prelude.{◌&&◌, bytes_eq, find, slice_get, String, string_bytes, IfOk, IfErr}
use Rattle.std.specs.declared.alloc.Global.{Global}
use Rattle.std.specs.Option.{option_map}
use Rattle.std.proofs.lemmas.Slice.Eq.{bytes_eq-Decides}
use Rattle.isp_base.specs.declared.signature.Argument.{Argument}
use Rattle.isp_base.specs.declared.signature.Parameter.{Parameter}
use Rattle.isp_base.specs.declared.signature.Signature.{Signature}
use Rattle.isp_bind.specs.Binding.{bound_of}
use Rattle.isp_bind.specs.declared.fault.BindFault.{BindFault}
use Rattle.isp_bind.specs.declared.fault.BindFault.TheVariants as bind_fault
use Rattle.isp_entry.specs.declared.fault.EvalFault.{EvalFault}
use Rattle.isp_entry.specs.declared.fault.EvalFault.TheVariants as eval_fault
use Rattle.isp_lex.specs.declared.fault.Fault.{Fault}
use Rattle.isp_lex.specs.declared.fault.SourceFault.{SourceFault}
use Rattle.isp_lex.specs.declared.fault.SourceFault.TheVariants.{Memory as NoMemory, Refused}
use Rattle.isp_meaning.specs.Entries.{IsExport}
use Rattle.isp_solo.specs.Report.{IsRefused, IsSoloReport}
use Rattle.isp_solo.specs.declared.report.SoloReport.{SoloReport}
use Rattle.isp_solo.specs.declared.report.SoloReport.TheVariants as report
use Rattle.isp_typed.specs.Typed.{Program, TFunction}
use Rattle.isp_typed.specs.Views.{function_of, program_of}
use Rattle.isp_typed.specs.declared.function.Program as rust_program
use Rattle.isp_typed.specs.declared.function.TypedFunction.{TypedFunction}
use Rattle.isp_command_line.specs.declared.words.SoloRequest.{SoloRequest}
use Rattle.isp_engine.specs.declared.failure.Failure.{Failure}
use Rattle.isp_engine.specs.declared.failure.Failure.TheVariants.{Source, Trapped, BudgetUsed, TurnsUsed, Run, CannotRead, CannotWrite, Memory, Code, NotIndependent, NotApart}
use Rattle.isp_runs.specs.declared.fault.RunFault.TheVariants as run_fault
use Rattle.isp_engine.specs.Failures.{bind_failure, eval_failure, source_failure}
use Rattle.isp_front.specs.Front.{IsFaulty}
use Rattle.isp_commands.specs.Solos.{Binds, IsTold, IsUnanswered, Soloed, SoloFails, Sourced, Tells}
use Rattle.isp_engine.specs.Stories.{Holds, Reads, Unread}
use Rattle.isp_runs.proofs.Binds.{fits}

-- ---- the exported function of a name

get_map : {A B : Type 0} (f : A → B) (xs : List A) (k : ℕ) → slice_get (map f xs) k ≡ option_map f (slice_get xs k)
get_map f [] k = refl
get_map f (x ∷ xs) zero = refl
get_map f (x ∷ xs) (suc k) = get_map f xs k

-- a function of a list that passes a test stands somewhere, and passes it
pub record Stands (test : TypedFunction → Bool) (fs : List TypedFunction) (f : TypedFunction) : Type 0 where
  pub place : ℕ
  pub at : slice_get fs place ≡ Some f
  pub passes : test f ≡ true

found_stands : (test : TypedFunction → Bool) (fs : List TypedFunction) (f : TypedFunction) → find test fs ≡ Some f → Stands test fs f
found_stands test [] f e = absurd (let z : ⊥ = cc in z)
found_stands test (g ∷ fs) f e = at (found_stands test fs f) (test g) refl e
  where
    at : (find test fs ≡ Some f → Stands test fs f) → (t : Bool) → test g ≡ t → cond t (Some g) (find test fs) ≡ Some f → Stands test (g ∷ fs) f
    at later true x e =
        let same : g ≡ f = cc in
        record { place = 0; at = ap Some same; passes = subst (λ z. test z ≡ true) same x }
    at later false x e =
        let s = later e in
        record { place = suc s.place; at = s.at; passes = s.passes }

none_stands : (test : TypedFunction → Bool) (fs : List TypedFunction) → find test fs ≡ None → (k : ℕ) (f : TypedFunction) → slice_get fs k ≡ Some f → test f ≡ true → ⊥
none_stands test [] e k f h p = absurd (let z : ⊥ = cc in z)
none_stands test (g ∷ fs) e k f h p = at (none_stands test fs) (test g) refl e k h
  where
    at : (find test fs ≡ None → (k : ℕ) (f : TypedFunction) → slice_get fs k ≡ Some f → test f ≡ true → ⊥) → (t : Bool) → test g ≡ t → cond t (Some g) (find test fs) ≡ None → (k : ℕ) → slice_get (g ∷ fs) k ≡ Some f → ⊥
    at later true x e k h = absurd (let z : ⊥ = cc in z)
    at later false x e zero h =
        let same : g ≡ f = cc in
        absurd (let z : ⊥ = (let y : false ≡ true = sym x ∙ ap test same ∙ p in cc) in z)
    at later false x e (suc k) h = later e k f h p

and_left : (a b : Bool) → (a && b) ≡ true → a ≡ true
and_left true b h = refl
and_left false b h = h

and_right : (a b : Bool) → (a && b) ≡ true → b ≡ true
and_right true b h = h
and_right false b h = absurd (let z : ⊥ = cc in z)

module _ (p : rust_program.Program) (name : List ℕ) where
  abbrev pub test : TypedFunction → Bool
  test f = f.exported && bytes_eq f.name name

  -- whose signature is given
  pub record Signed (s : Signature) : Type 0 where
    pub function : TypedFunction
    pub number : ℕ
    pub export : IsExport (program_of p) name number (function_of function)
    pub signature : function.signature ≡ s

  signed_in : (s : Signature) (o : Option TypedFunction) → find test p.functions.items ≡ o → Some s ≡ option_map (λ (f : TypedFunction). f.signature) o → Signed s
  signed_in s None e h = absurd (let z : ⊥ = cc in z)
  signed_in s (Some f) e h =
      let t = found_stands test p.functions.items f e in
      record {
        function = f;
        number = t.place;
        export = record {
          found = get_map function_of p.functions.items t.place ∙ ap (option_map function_of) t.at;
          named = (bytes_eq-Decides f.name name).0 (and_right f.exported (bytes_eq f.name name) t.passes);
          exported = and_left f.exported (bytes_eq f.name name) t.passes;
        };
        signature = let z : f.signature ≡ s = cc in z;
      }

  pub signed : (s : Signature) → Some s ≡ option_map (λ (f : TypedFunction). f.signature) (find test p.functions.items) → Signed s
  signed s h = signed_in s (find test p.functions.items) refl h

  none_in : (o : Option TypedFunction) → find test p.functions.items ≡ o → None ≡ option_map (λ (f : TypedFunction). f.signature) o → find test p.functions.items ≡ None
  none_in None e h = e
  none_in (Some f) e h = absurd (let z : ⊥ = cc in z)

  -- there is none
  pub unsigned : None ≡ option_map (λ (f : TypedFunction). f.signature) (find test p.functions.items) → (k : ℕ) (h : TFunction) → IsExport (program_of p) name k h → ⊥
  unsigned n k h x = at (slice_get p.functions.items k) refl (sym (get_map function_of p.functions.items k) ∙ x.found)
    where
      at : (o : Option TypedFunction) → slice_get p.functions.items k ≡ o → option_map function_of o ≡ Some h → ⊥
      at None e m = absurd (let z : ⊥ = cc in z)
      at (Some f) e m =
          let same : function_of f ≡ h = cc in
          let exported : f.exported ≡ true = ap (λ (g : TFunction). g.exported) same ∙ x.exported in
          let named : f.name ≡ name = ap (λ (g : TFunction). g.name) same ∙ x.named in
          none_stands test p.functions.items (none_in (find test p.functions.items) refl n) k f e
          (ap (λ t. t && bytes_eq f.name name) exported ∙ (bytes_eq-Decides f.name name).1 named)

-- ---- what it binds, and what is told of the report

-- nothing is told that no report says
not_told : (program : Program) (entry json : List ℕ) (turns : ℕ) (f : Failure) → ((ps : List Parameter) (r : SoloReport) → Tells ps r (Err f) → ⊥) → IsTold program entry json turns (Err f) → ⊥
not_told program entry json turns f none t = none t.function.parameters t.report t.tells

never_run : (e : _) (ps : List Parameter) (r : SoloReport) → Tells ps r (Err (Run e)) → ⊥
never_run e ps (report.Trapped t) h = absurd (let z : ⊥ = cc in z)
never_run e ps (report.Cut p) h = absurd (let z : ⊥ = cc in z)
never_run e ps (report.Clash k i) h = h
never_run e ps (report.Ended arrays result) h = h

never_dependent : (d : _) (ps : List Parameter) (r : SoloReport) → Tells ps r (Err (NotIndependent d)) → ⊥
never_dependent d ps (report.Trapped t) h = absurd (let z : ⊥ = cc in z)
never_dependent d ps (report.Cut p) h = absurd (let z : ⊥ = cc in z)
never_dependent d ps (report.Clash k i) h = h
never_dependent d ps (report.Ended arrays result) h = h

never_source : (e : _) (ps : List Parameter) (r : SoloReport) → Tells ps r (Err (Source e)) → ⊥
never_source e ps (report.Trapped t) h = absurd (let z : ⊥ = cc in z)
never_source e ps (report.Cut p) h = absurd (let z : ⊥ = cc in z)
never_source e ps (report.Clash k i) h = h
never_source e ps (report.Ended arrays result) h = h

never_unread : (n : _) (ps : List Parameter) (r : SoloReport) → Tells ps r (Err (CannotRead n)) → ⊥
never_unread n ps (report.Trapped t) h = absurd (let z : ⊥ = cc in z)
never_unread n ps (report.Cut p) h = absurd (let z : ⊥ = cc in z)
never_unread n ps (report.Clash k i) h = h
never_unread n ps (report.Ended arrays result) h = h

module _ (p : rust_program.Program) (entry json : List ℕ) (turns : ℕ) where
  abbrev pub program : Program
  program = program_of p

  -- the entry and what it binds
  pub entered : (s : Signature) (x : Result (List Argument) BindFault) (g : Signed p entry s) → bound_of s.params.items json ≡ x → Binds program entry json (function_of g.function) x
  entered s x g e = record { number = g.number; export = g.export; binds = ap (λ (z : Signature). bound_of z.params.items json) g.signature ∙ e }

  pub unbound : (s : Signature) → Signed p entry s → (f : BindFault) → (f ≢ bind_fault.Memory → bound_of s.params.items json ≡ Err f) → IsUnanswered program entry json turns (bind_failure f)
  unbound s g bind_fault.Memory h = tt
  unbound s g bind_fault.NotJson h = (function_of g.function, entered s _ g (h (λ e. let z : ⊥ = cc in z)))
  unbound s g bind_fault.NotObject h = (function_of g.function, entered s _ g (h (λ e. let z : ⊥ = cc in z)))
  unbound s g bind_fault.Missing h = (function_of g.function, entered s _ g (h (λ e. let z : ⊥ = cc in z)))
  unbound s g bind_fault.Extra h = (function_of g.function, entered s _ g (h (λ e. let z : ⊥ = cc in z)))
  unbound s g bind_fault.WrongKind h = (function_of g.function, entered s _ g (h (λ e. let z : ⊥ = cc in z)))
  unbound s g bind_fault.OutOfRange h = (function_of g.function, entered s _ g (h (λ e. let z : ⊥ = cc in z)))
  unbound s g bind_fault.TooLong h = (function_of g.function, entered s _ g (h (λ e. let z : ⊥ = cc in z)))

  pub unreported : (s : Signature) (g : Signed p entry s) (xs : List Argument) → bound_of s.params.items json ≡ Ok xs → (f : EvalFault) → IsRefused f program entry xs → IsUnanswered program entry json turns (eval_failure f)
  unreported s g xs e eval_fault.Memory h = tt
  unreported s g xs e eval_fault.NoEntry h =
      let b = entered s (Ok xs) g e in
      absurd (h g.number (function_of g.function, record { export = g.export; fits = fits (function_of g.function).parameters json xs b.binds }))
  unreported s g xs e (eval_fault.NotIndependent d) h = (function_of g.function, xs, entered s (Ok xs) g e, h)

  pub told : (s : Signature) (g : Signed p entry s) (xs : List Argument) → bound_of s.params.items json ≡ Ok xs → (r : SoloReport)
      → IsSoloReport program entry xs turns r → (x : Result (List ℕ) Failure) → Tells s.params.items r x → IsTold program entry json turns x
  told s g xs e r is x t = record {
    function = function_of g.function;
    bound = xs;
    entered = entered s (Ok xs) g e;
    report = r;
    reports = is;
    tells = subst (λ (z : Signature). Tells z.params.items r x) (sym g.signature) t;
  }

  pub not_answered : (f : Failure) → (f ≢ Memory → IsTold program entry json turns (Err f)) → IsUnanswered program entry json turns f
  not_answered Memory h = tt
  not_answered (Run run_fault.NoEntry) h = absurd (not_told program entry json turns (Run run_fault.NoEntry) (never_run run_fault.NoEntry) (h (λ e. let z : ⊥ = cc in z)))
  not_answered (Run (run_fault.Arguments b)) h = absurd (not_told program entry json turns (Run (run_fault.Arguments b)) (never_run (run_fault.Arguments b)) (h (λ e. let z : ⊥ = cc in z)))
  not_answered (Run run_fault.Memory) h = h (λ e. let z : ⊥ = cc in z)
  not_answered (Run run_fault.WriteFailed) h = h (λ e. let z : ⊥ = cc in z)
  not_answered (NotIndependent d) h = absurd (not_told program entry json turns (NotIndependent d) (never_dependent d) (h (λ e. let z : ⊥ = cc in z)))
  not_answered (Source f) h = h (λ e. let z : ⊥ = cc in z)
  not_answered (Trapped t) h = h (λ e. let z : ⊥ = cc in z)
  not_answered BudgetUsed h = h (λ e. let z : ⊥ = cc in z)
  not_answered (TurnsUsed i) h = h (λ e. let z : ⊥ = cc in z)
  not_answered (CannotRead n) h = h (λ e. let z : ⊥ = cc in z)
  not_answered CannotWrite h = h (λ e. let z : ⊥ = cc in z)
  not_answered (Code f) h = h (λ e. let z : ⊥ = cc in z)
  not_answered (NotApart n i) h = h (λ e. let z : ⊥ = cc in z)

  -- what is told of the report is told of the entry
  pub ok_told : (s : Signature) (g : Signed p entry s) (xs : List Argument) → bound_of s.params.items json ≡ Ok xs → (r : SoloReport)
      → IsSoloReport program entry xs turns r → (x : Result (String Global) Failure) → IfOk x (λ t. Tells s.params.items r (Ok (string_bytes t)))
      → IfOk x (λ t. IsTold program entry json turns (Ok (string_bytes t)))
  ok_told s g xs e r is (Ok t) h = told s g xs e r is (Ok (string_bytes t)) h
  ok_told s g xs e r is (Err f) h = tt

  pub err_told : (s : Signature) (g : Signed p entry s) (xs : List Argument) → bound_of s.params.items json ≡ Ok xs → (r : SoloReport)
      → IsSoloReport program entry xs turns r → (x : Result (String Global) Failure) → IfErr x (λ f. f ≢ Memory → Tells s.params.items r (Err f))
      → IfErr x (IsUnanswered program entry json turns)
  err_told s g xs e r is (Ok t) h = tt
  err_told s g xs e r is (Err f) h = not_answered f (λ n. told s g xs e r is (Err f) (h n))

-- ---- the files

module _ (holds : Holds) (q : SoloRequest) where
  pub unread_source : (f : Failure) → Unread holds q.source.now f → SoloFails holds q f
  unread_source (CannotRead name) h = inl h
  unread_source Memory h = tt
  unread_source (Source f) h = absurd h
  unread_source (Trapped t) h = absurd h
  unread_source BudgetUsed h = absurd h
  unread_source (TurnsUsed p) h = absurd h
  unread_source (Run f) h = absurd h
  unread_source CannotWrite h = absurd h
  unread_source (Code f) h = absurd h
  unread_source (NotIndependent d) h = absurd h
  unread_source (NotApart n i) h = absurd h

  pub unread_arguments : (text : List ℕ) → holds q.source.now (Some text) → (f : Failure) → Unread holds q.arguments.now f → SoloFails holds q f
  unread_arguments text has (CannotRead name) h = inr ((text, has), h)
  unread_arguments text has Memory h = tt
  unread_arguments text has (Source f) h = absurd h
  unread_arguments text has (Trapped t) h = absurd h
  unread_arguments text has BudgetUsed h = absurd h
  unread_arguments text has (TurnsUsed p) h = absurd h
  unread_arguments text has (Run f) h = absurd h
  unread_arguments text has CannotWrite h = absurd h
  unread_arguments text has (Code f) h = absurd h
  unread_arguments text has (NotIndependent d) h = absurd h
  unread_arguments text has (NotApart n i) h = absurd h

  pub refused : (files : Reads holds q.source.now q.arguments.now) (f : SourceFault) → ((g : Fault) → f ≡ Refused g → IsFaulty q.gang files.text g) → SoloFails holds q (source_failure f)
  refused files NoMemory h = tt
  refused files (Refused f) h = (files, h f refl)

  pub unanswered : (p : Program) (json : List ℕ) → Sourced holds q json p → (f : Failure) → IsUnanswered p q.entry.now json q.turns f → SoloFails holds q f
  unanswered p json s (CannotRead n) h = absurd (not_told p q.entry.now json q.turns (CannotRead n) (never_unread n) h)
  unanswered p json s (Source f) h = absurd (not_told p q.entry.now json q.turns (Source f) (never_source f) h)
  unanswered p json s Memory h = tt
  unanswered p json s (Run f) h = (p, json, s, h)
  unanswered p json s (Trapped t) h = (p, json, s, h)
  unanswered p json s BudgetUsed h = (p, json, s, h)
  unanswered p json s (TurnsUsed i) h = (p, json, s, h)
  unanswered p json s CannotWrite h = (p, json, s, h)
  unanswered p json s (Code f) h = (p, json, s, h)
  unanswered p json s (NotIndependent d) h = (p, json, s, h)
  unanswered p json s (NotApart n i) h = (p, json, s, h)

  pub all_told : (p : Program) (json : List ℕ) → Sourced holds q json p → (x : Result (String Global) Failure) → IfOk x (λ t. IsTold p q.entry.now json q.turns (Ok (string_bytes t))) → IfOk x (λ t. Soloed holds q (string_bytes t))
  all_told p json s (Ok t) h = record { program = p; json = json; given = s; told = h }
  all_told p json s (Err f) h = tt

  pub none_told : (p : Program) (json : List ℕ) → Sourced holds q json p → (x : Result (String Global) Failure) → IfErr x (IsUnanswered p q.entry.now json q.turns) → IfErr x (SoloFails holds q)
  none_told p json s (Ok t) h = tt
  none_told p json s (Err f) h = unanswered p json s f h
