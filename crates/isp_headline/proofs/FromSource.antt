-- How the commands end that run an entry of a source.
use Rattle.std.proofs.Common.{◌≡◌, inl, inr, ℕ, List, Bool, Option, None, Some, Result, Ok, Err, refl, sym, ap, ◌∙◌, subst, ⊎_elim}
use Rattle.std.specs.Prelude.{⊤}
use Rattle.isp_base.specs.declared.signature.Argument.{Argument}
use Rattle.isp_base.specs.declared.types.Gang.{Gang}
use Rattle.isp_asm.specs.Faults.{fault_of}
use Rattle.isp_asm.specs.Laws.{Faultless, OneText}
use Rattle.isp_code.specs.Listing.{Listing}
use Rattle.isp_code.specs.Machine.{outcome_after}
use Rattle.isp_lex.specs.declared.fault.Fault.{Fault}
use Rattle.isp_typed.specs.Typed.{Program, TFunction}
use Rattle.isp_verify.specs.Faults.{code_fault}
use Rattle.isp_command_line.specs.declared.words.RunRequest.{RunRequest}
use Rattle.isp_command_line.specs.declared.words.ExecRequest.{ExecRequest}
use Rattle.isp_engine.specs.declared.failure.Failure.{Failure}
use Rattle.isp_engine.specs.declared.failure.Failure.TheVariants.{Source, Trapped, BudgetUsed, TurnsUsed, Run, CannotRead, CannotWrite, Memory, Code, NotIndependent, NotApart}
use Rattle.isp_runs.specs.declared.fault.CodeFault.{CodeFault}
use Rattle.isp_runs.specs.declared.fault.CodeFault.TheVariants as code_fault_of
use Rattle.isp_engine.specs.Commands.{NotGiven, Ran, RunEnds, job_of_exec, job_of_run}
use Rattle.isp_runs.specs.Compilation.{IsCompilation}
use Rattle.isp_front.specs.Front.{IsFaulty}
use Rattle.isp_runs.specs.Loading.{IsLoaded, IsNotLoaded}
use Rattle.isp_engine.specs.Stories.{Holds, Reads, UnreadOf}
use Rattle.isp_headline.specs.FromSource.{ByExec, ByRun, EndsAsMeant, IsCall, IsFile}
use Rattle.isp_headline.proofs.Accepted.{none_refused}
use Rattle.isp_headline.proofs.Whole.{headline}

same_some : (a b : List ℕ) → Some a ≡ Some b → a ≡ b
same_some a b e = cc

-- ---- code text

-- a text is that of one code
pub one_code : OneText → (text : List ℕ) (c d : Listing) → IsLoaded text c → IsLoaded text d → c ≡ d
one_code law text c d a b = law c d a.of.writable b.of.writable (a.of.is ∙ sym b.of.is)

-- and the text of code without a fault is loaded
pub not_refused : OneText → Faultless → (text : List ℕ) (c : Listing) → IsLoaded text c → (f : CodeFault) → IsNotLoaded text f → ⊥
not_refused one none text c h code_fault_of.Memory r = r
not_refused one none text c h (code_fault_of.Text f) r =
    let fine : fault_of text ≡ None = ap fault_of (sym h.of.is) ∙ none c h.of.writable in
    let no : ⊥ = cc in
    no
not_refused one none text c h (code_fault_of.Code f) r =
    let same : r.0 ≡ c = one r.0 c r.1.writable h.of.writable (r.1.is ∙ sym h.of.is) in
    let fine : code_fault r.0 ≡ None = ap code_fault same ∙ h.fine in
    let found : code_fault r.0 ≡ Some f = r.2 in
    let no : ⊥ = cc in
    no

-- ---- the files

module _ (holds : Holds) (first second text json : List ℕ) (is_text : IsFile holds first text) (is_json : IsFile holds second json) where
  first_same : (files : Reads holds first second) → files.text ≡ text
  first_same files = same_some files.text text (is_text (Some files.text) files.has_text)

  second_same : (files : Reads holds first second) → files.json ≡ json
  second_same files = same_some files.json json (is_json (Some files.json) files.has_json)

  -- both can be read
  is_read : (name : _) → UnreadOf holds first second (CannotRead name) → ⊥
  is_read name u =
      ⊎_elim
      (λ k. let e : None ≡ Some text = is_text None k.1 in let no : ⊥ = cc in no)
      (λ k. let e : None ≡ Some json = is_json None k.1.1 in let no : ⊥ = cc in no)
      u

-- ---- code of the source, whose entry is run

module _ (gang : Gang) (source entry json : List ℕ) (program : Program) (f : ℕ) (h : TFunction) (xs : List Argument) (call : IsCall gang source entry json program f h xs) (budget : ℕ)
    (old new : Option (List ℕ)) (failed : Bool) (end : Result ⊤ Failure) where
  ran : (code : Listing) → IsCompilation gang source code → Ran code entry json budget old new failed end → EndsAsMeant program f h xs budget old new failed end
  ran code compiled r =
      let does = headline gang source code compiled program call.source entry json f h xs call.export call.binds in
      inr (outcome_after code f does.routine xs, does.runs, (r.answer, does.sent budget old new failed r.answer r.runs.machine r.runs.sends, r.ends))

-- ---- `run`

module _ (holds : Holds) (q : RunRequest) (text json : List ℕ) (is_text : IsFile holds q.source.now text) (is_json : IsFile holds q.arguments.now json)
    (program : Program) (f : ℕ) (h : TFunction) (xs : List Argument) (call : IsCall q.gang text q.entry.now json program f h xs) where
  abbrev Files : Type 0
  Files = Reads holds q.source.now q.arguments.now

  faulty : (files : Files) (e : Fault) → IsFaulty q.gang files.text e → ⊥
  faulty files e k =
      none_refused q.gang text program e call.source (subst (λ z. IsFaulty q.gang z e) (first_same holds q.source.now q.arguments.now text json is_text is_json files) k)

  -- where it was not run, memory was refused
  not_run : (e : Failure) → NotGiven holds (job_of_run q) e → e ≡ Memory
  not_run (CannotRead name) k = absurd (is_read holds q.source.now q.arguments.now text json is_text is_json name k)
  not_run Memory k = refl
  not_run (Source e) k = absurd (faulty k.0 e k.1)
  not_run (Trapped t) k = absurd k.1
  not_run BudgetUsed k = absurd k.1
  not_run (TurnsUsed p) k = absurd k.1
  not_run (Run e) k = absurd k.1
  not_run CannotWrite k = absurd k.1
  not_run (Code e) k = absurd k.1
  not_run (NotIndependent d) k = absurd k.1
  not_run (NotApart n e) k = absurd k.1

  run_ends : (old new : Option (List ℕ)) (failed : Bool) (end : Result ⊤ Failure) → RunEnds holds (job_of_run q) old new failed end
      → EndsAsMeant program f h xs q.budget old new failed end
  run_ends old new failed end (inl r) =
      let files = r.given.files in
      let same : r.json ≡ json = sym r.given.json_is ∙ second_same holds q.source.now q.arguments.now text json is_text is_json files in
      let image = subst (λ z. IsCompilation q.gang z r.code) (first_same holds q.source.now q.arguments.now text json is_text is_json files) r.given.image in
      ran q.gang text q.entry.now json program f h xs call q.budget old new failed end r.code image (subst (λ z. Ran r.code q.entry.now z q.budget old new failed end) same r.ran)
  run_ends old new failed (Ok u) (inr s) = absurd s
  run_ends old new failed (Err e) (inr s) = inl (ap Err (not_run e s.0), s.1)

pub by_run : (holds : Holds) → ByRun holds
by_run holds q text json is_text is_json program f h xs call old new failed end x = run_ends holds q text json is_text is_json program f h xs call old new failed end x

-- ---- `asm`, and then `exec`

module _ (one : OneText) (none : Faultless) (gang : Gang) (text written : List ℕ) (image : Listing) (compiled : IsCompilation gang text image) (loads : IsLoaded written image)
    (later : Holds) (q : ExecRequest) (json : List ℕ) (is_code : IsFile later q.code.now written) (is_json : IsFile later q.arguments.now json)
    (program : Program) (f : ℕ) (h : TFunction) (xs : List Argument) (call : IsCall gang text q.entry.now json program f h xs) where
  refused : (files : Reads later q.code.now q.arguments.now) (e : CodeFault) → IsNotLoaded files.text e → ⊥
  refused files e k =
      not_refused one none written image loads e (subst (λ z. IsNotLoaded z e) (first_same later q.code.now q.arguments.now written json is_code is_json files) k)

  not_exec : (e : Failure) → NotGiven later (job_of_exec q) e → e ≡ Memory
  not_exec (CannotRead name) k = absurd (is_read later q.code.now q.arguments.now written json is_code is_json name k)
  not_exec Memory k = refl
  not_exec (Code e) k = absurd (refused k.0 e k.1)
  not_exec (Source e) k = absurd k.1
  not_exec (Trapped t) k = absurd k.1
  not_exec BudgetUsed k = absurd k.1
  not_exec (TurnsUsed p) k = absurd k.1
  not_exec (Run e) k = absurd k.1
  not_exec CannotWrite k = absurd k.1
  not_exec (NotIndependent d) k = absurd k.1
  not_exec (NotApart n e) k = absurd k.1

  exec_ends : (old new : Option (List ℕ)) (failed : Bool) (end : Result ⊤ Failure) → RunEnds later (job_of_exec q) old new failed end
      → EndsAsMeant program f h xs q.budget old new failed end
  exec_ends old new failed end (inl r) =
      let files = r.given.files in
      let same : r.json ≡ json = sym r.given.json_is ∙ second_same later q.code.now q.arguments.now written json is_code is_json files in
      let loaded : IsLoaded written r.code = subst (λ z. IsLoaded z r.code) (first_same later q.code.now q.arguments.now written json is_code is_json files) r.given.image in
      let here : IsCompilation gang text r.code = subst (IsCompilation gang text) (one_code one written image r.code loads loaded) compiled in
      ran gang text q.entry.now json program f h xs call q.budget old new failed end r.code here (subst (λ z. Ran r.code q.entry.now z q.budget old new failed end) same r.ran)
  exec_ends old new failed (Ok u) (inr s) = absurd s
  exec_ends old new failed (Err e) (inr s) = inl (ap Err (not_exec e s.0), s.1)

pub by_exec : OneText → Faultless → (holds later : Holds) → ByExec holds later
by_exec one none holds later a text written cut is_text (inr s) q json is_code is_json program f h xs call old new failed end x = absurd s
by_exec one none holds later a text written cut is_text (inl w) q json is_code is_json program f h xs call old new failed end x =
    let it = w.1 in
    let same : w.0 ≡ written = sym (same_some written w.0 w.2.0) in
    let compiled = subst (λ z. IsCompilation a.gang z it.code) (same_some it.text text (is_text (Some it.text) it.has_text)) it.compiles in
    exec_ends one none a.gang text written it.code compiled (subst (λ z. IsLoaded z it.code) same it.loads) later q json is_code is_json program f h xs call old new failed end x
