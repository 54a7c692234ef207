-- From what an emitter promises of an expression or an assignment to what its code does.
use Rattle.std.specs.Prelude.{◌≡◌, ◌+◌, ℕ, length}
use Rattle.isp_base.specs.Sets.{Mask}
use Rattle.isp_code.specs.Conf.{Conf}
use Rattle.isp_meaning.specs.Expressions.{value}
use Rattle.isp_meaning.specs.Outcomes.{Stops}
use Rattle.isp_meaning.specs.Simple.{simple}
use Rattle.isp_meaning.specs.State.{State}
use Rattle.isp_typed.specs.Fine.{FineExpr, FineSimple}
use Rattle.isp_typed.specs.Typed.{TExpr, TSimple, type_of}
use Rattle.isp_lower.specs.Adding.{Adds, expr_in, layout_in, simple_in}
use Rattle.isp_lower_code.specs.Asks.{Ask, expr_asks, simple_asks}
use Rattle.isp_lower_code.specs.Found.{found}
use Rattle.isp_lower.specs.Drafts.{draft_of}
use Rattle.isp_registers.specs.Growth.{Grows}
use Rattle.isp_lower_code.specs.Rated.{IsRated, SimpleRated}
use Rattle.isp_registers.specs.Reserved.{Has}
use Rattle.isp_lower_code.specs.Runs.{DoneRuns, Enters, Runs}
use Rattle.isp_lower_code.specs.Setting.{Setting, IsSettled, calls_of, gang_of, with_turns, Holds}
use Rattle.isp_lower_code.specs.Steps.{GoesOn}
use Rattle.isp_lower.specs.Written.{Piece}
use Rattle.isp_lower.specs.declared.sites.Site.{Site}
use Rattle.isp_lower.specs.declared.types.Emitter.{Emitter}
use Rattle.isp_emitter_laws.specs.OfRows.{IsOfRows}
use Rattle.isp_emitter_laws.specs.Parts.{SamePart}

-- A call of `expr` or `store` added a piece and took an emitter from old to new, which has what the code asks for. Later calls took it to last, whose
-- registers the routine has, and the instructions and places that were added stand where they stood.
pub record HasWritten (w : Setting) (old new last : Emitter) (piece : Piece) (asks : Ask) : Type 0 where
  pub adds : Adds old new piece
  pub has : Has new.reserved asks
  pub grows : Grows new.reserved.registers last.reserved.registers
  pub rows : IsOfRows w (draft_of last).rows
  pub callees : (draft_of new).callees ≡ w.program.functions
  pub code : SamePart (length (draft_of old).code) (length (draft_of new).code) (draft_of new).code w.routine.code
  pub places : SamePart (length (draft_of old).places) (length (draft_of new).places) (draft_of new).places w.code.places

abbrev pub HasExpr : Setting → Emitter → Emitter → Emitter → TExpr → Site → Type 0
HasExpr w old new last x at = HasWritten w old new last (expr_in new x at) (expr_asks x at.slot.number)

abbrev pub HasSimple : Setting → Emitter → Emitter → Emitter → TSimple → Site → Type 0
HasSimple w old new last x at = HasWritten w old new last (simple_in new x at) (simple_asks x at.slot.number)

-- names, types and rates accept a tree in the function of the call
abbrev pub AcceptsExpr : Setting → TExpr → Type 0
AcceptsExpr w x = FineExpr w.program.functions w.function.variables x × IsRated w.program.functions x

abbrev pub AcceptsSimple : Setting → TSimple → Type 0
AcceptsSimple w x = FineSimple w.program.functions w.function.variables x × SimpleRated w.program.functions x

-- The instructions from the old number to the new one give the value in the register that `expr` named, trap as it traps, or go on where it is
-- cut; those of an assignment leave registers that stand for the state after it.
pub record WrittenRuns : Type 0 where
  pub exprs : (w : Setting) → IsSettled w → (old new last : Emitter) (x : TExpr) (at : Site) (q : ℕ) (a : Mask) (s : State) (c : Conf)
      → AcceptsExpr w x → HasExpr w old new last x at → Enters w (length (draft_of old).code) at.mask.number at.slot.number a s c q
      → Runs w c (length (draft_of new).code) at.slot.number (4 + q) (Holds (type_of x).rate a (found (layout_in new) x at.slot.number))
      (value (gang_of w) w.frame (calls_of w) x a s)
  pub simples : (w : Setting) → IsSettled w → (old new last : Emitter) (x : TSimple) (at : Site) (q : ℕ) (a : Mask) (s : State) (c : Conf)
      → AcceptsSimple w x → HasSimple w old new last x at → Enters w (length (draft_of old).code) at.mask.number at.slot.number a s c q
      → DoneRuns w c (length (draft_of new).code) at.slot.number q (simple (gang_of w) w.frame (calls_of w) x a s)

-- where the meaning is cut for each number of turns they go on without end, and the two outputs are beginnings of each other's
pub record WrittenGoesOn : Type 0 where
  pub exprs : (w : Setting) → ((m : ℕ) → IsSettled (with_turns w m))
      → (old new last : Emitter) (x : TExpr) (at : Site) (q : ℕ) (a : Mask) (s : State) (c : Conf) (cuts : ℕ → State) → AcceptsExpr w x
      → HasExpr w old new last x at → Enters w (length (draft_of old).code) at.mask.number at.slot.number a s c q
      → ((m : ℕ) → value (gang_of w) w.frame (calls_of (with_turns w m)) x a s ≡ Stops (cuts m)) → GoesOn w.code c cuts
  pub simples : (w : Setting) → ((m : ℕ) → IsSettled (with_turns w m))
      → (old new last : Emitter) (x : TSimple) (at : Site) (q : ℕ) (a : Mask) (s : State) (c : Conf) (cuts : ℕ → State) → AcceptsSimple w x
      → HasSimple w old new last x at → Enters w (length (draft_of old).code) at.mask.number at.slot.number a s c q
      → ((m : ℕ) → simple (gang_of w) w.frame (calls_of (with_turns w m)) x a s ≡ Stops (cuts m)) → GoesOn w.code c cuts
