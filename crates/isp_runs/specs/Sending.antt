-- What a run sends to a sink.
--     sent         what an outcome sends
--     SentSome     what went out is the beginning of what some number of instructions up to the budget sends
--     Sends        what went out, by what is answered
use Rattle.std.specs.Prelude.{◌≡◌, ◌⊎◌, ℕ, ◌≤◌, ◌++◌, List, [], ◌∷◌, Bool, true, false, Option, Some, None, Result, Ok, Err, String, string_bytes}
use Rattle.std.specs.declared.alloc.Global.{Global}
use Rattle.isp_base.specs.Outcomes.{Outcome, Ends, Traps, GoesOn}
use Rattle.isp_base.specs.declared.signature.Argument.{Argument}
use Rattle.isp_base.specs.declared.signature.Parameter.{Parameter}
use Rattle.isp_bind.specs.Answering.{answer_text}
use Rattle.isp_bind.specs.Binding.{bound_of}
use Rattle.isp_code.specs.Entries.{IsExport, parameters_of}
use Rattle.isp_code.specs.Listing.{Listing, Routine}
use Rattle.isp_code.specs.Machine.{outcome_after}
use Rattle.isp_runs.specs.declared.fault.RunFault.{RunFault}
use Rattle.isp_runs.specs.declared.fault.RunFault.TheVariants.{Memory, NoEntry, Arguments, WriteFailed}
use Rattle.isp_runs.specs.declared.report.Report.{Report}
use Rattle.isp_output.specs.Sinks.{TookAll, TookFirst}

-- ---- a report: the output, and where there is an answer that and a line feed

abbrev pub answer_bytes : Option (String Global) → List ℕ
answer_bytes None = []
answer_bytes (Some s) = string_bytes s ++ 10 ∷ []

abbrev pub report_bytes : Report → List ℕ
report_bytes r = r.output.items ++ answer_bytes r.answer

-- ---- an outcome: the output, and after an end the answer and a line feed

abbrev pub sent : List Parameter → Outcome → List ℕ
sent ps (Ends arrays answer out) = out ++ (answer_text ps arrays answer ++ 10 ∷ [])
sent ps (Traps t arrays out) = out
sent ps (GoesOn out) = out

-- ---- a run that gives no report

-- the first bytes of what some number of instructions of function f from the arguments xs sends, up to the budget
abbrev pub SendsFirst : Listing → List Parameter → ℕ → Routine → List Argument → ℕ → Option (List ℕ) → Option (List ℕ) → Type 0
SendsFirst code ps f g xs budget old new = (m : ℕ) × (m ≤ budget) × TookFirst (sent ps (outcome_after code f g xs m)) old new

-- the same of the function that is exported under a name, from the arguments that a text binds
pub record SentSome (code : Listing) (entry json : List ℕ) (budget : ℕ) (old new : Option (List ℕ)) : Type 0 where
  pub function : ℕ
  pub routine : Routine
  pub export : IsExport code entry function routine
  pub arguments : List Argument
  pub bound : bound_of (parameters_of routine) json ≡ Ok arguments
  pub first : SendsFirst code (parameters_of routine) function routine arguments budget old new

-- ---- what went out of any run

-- a report whole; nothing where there is no entry, or no arguments; else the beginning of a run's, and after 81 the sink has failed
abbrev pub Sends : Listing → List ℕ → List ℕ → ℕ → Option (List ℕ) → Option (List ℕ) → Bool → Result Report RunFault → Type 0
Sends code entry json budget old new failed (Ok r) = TookAll (report_bytes r) old new failed
Sends code entry json budget old new failed (Err NoEntry) = TookAll [] old new failed
Sends code entry json budget old new failed (Err (Arguments f)) = TookAll [] old new failed
Sends code entry json budget old new failed (Err Memory) = TookAll [] old new failed ⊎ (SentSome code entry json budget old new × (failed ≡ false))
Sends code entry json budget old new failed (Err WriteFailed) = SentSome code entry json budget old new × (failed ≡ true)

-- the same of one function and its arguments, which are there
abbrev pub SendsOf : Listing → List Parameter → ℕ → Routine → List Argument → ℕ → Option (List ℕ) → Option (List ℕ) → Bool → Result Report RunFault → Type 0
SendsOf code ps f g xs budget old new failed (Ok r) = TookAll (report_bytes r) old new failed
SendsOf code ps f g xs budget old new failed (Err Memory) = SendsFirst code ps f g xs budget old new × (failed ≡ false)
SendsOf code ps f g xs budget old new failed (Err WriteFailed) = SendsFirst code ps f g xs budget old new × (failed ≡ true)
SendsOf code ps f g xs budget old new failed (Err e) = ⊥
