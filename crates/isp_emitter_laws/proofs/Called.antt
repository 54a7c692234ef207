-- What was written stands in the finished code, by the law of finished code.
use Rattle.std.proofs.Common.{◌≡◌, List, [], sym, ap, ◌∙◌, append-nil}
use Rattle.std.specs.Prelude.{slice_get}
use Rattle.isp_code.specs.Listing.{Listing}
use Rattle.isp_code.specs.declared.instr.Instr.{Instr}
use Rattle.isp_lower.specs.Adding.{Adds}
use Rattle.isp_lower.specs.Drafts.{all_routines, draft_of}
use Rattle.isp_lower.specs.Written.{Piece}
use Rattle.isp_lower.specs.declared.types.Emitter.{Emitter}
use Rattle.isp_lower_code.specs.Asks.{Ask}
use Rattle.isp_lower_code.specs.Setting.{Setting, IsSettled}
use Rattle.isp_registers.specs.Reserved.{Has}
use Rattle.isp_emitter_laws.specs.Called.{FinishedIsWritten, IsFinished}
use Rattle.isp_emitter_laws.specs.Finished.{FinishedHas, RunsDraft}
use Rattle.isp_emitter_laws.specs.Written.{HasWritten}

module _ (finished_has : FinishedHas) where
  has_written : (w : Setting) → IsSettled w → (old new last : Emitter) (piece : Piece) (asks : Ask) → Adds old new piece → Has new.reserved asks → IsFinished w old new last → HasWritten w old new last piece asks
  has_written w settled old new last piece asks adds has it =
      let d = draft_of last in
      let runs : RunsDraft w d = record {
        heading = it.heading;
        begun = it.begun;
        routines = record { rest = []; is = ap (λ (c : Listing). c.routines) it.given ∙ sym (append-nil (all_routines d)) };
        places = record { rest = []; is = ap (λ (c : Listing). c.places) it.given ∙ sym (append-nil d.places) };
        number = it.number;
        layout = it.layout;
      } in
      let there = finished_has w d settled runs in
      record {
        adds = adds;
        has = has;
        grows = it.grows;
        rows = there.rows;
        callees = it.callees;
        code = λ i from lt. ap (λ (is : List Instr). slice_get is i) there.code ∙ it.code i from lt;
        places = λ i from lt. ap (λ (c : Listing). slice_get c.places i) it.given ∙ it.places i from lt;
      }

  pub finished_is_written : FinishedIsWritten
  finished_is_written = record {
    exprs = λ w settled old new last x at adds has it. has_written w settled old new last _ _ adds has it;
    simples = λ w settled old new last x at adds has it. has_written w settled old new last _ _ adds has it;
  }
