-- What one expression or assignment asks of what an emitter has, and what it adds to it: its code and its places, and the registers
-- and masks that it asks for.
use Rattle.std.specs.Prelude.{◌≡◌, ◌<◌, ◌≤◌, ℕ, List}
use Rattle.isp_base.specs.declared.types.Span.{Span}
use Rattle.isp_code.specs.declared.instr.Instr.{Instr}
use Rattle.isp_typed.specs.Views.{functions_of}
use Rattle.isp_lower_code.specs.Callees.{rates_in}
use Rattle.isp_typed.specs.Typed.{TExpr, TSimple}
use Rattle.isp_lower_code.specs.Code.{expr_code}
use Rattle.isp_lower_code.specs.Spans.{expr_places}
use Rattle.isp_lower.specs.Drafts.{Draft, IsBegun, draft_of}
use Rattle.isp_registers.specs.Growth.{Grows, rows_of}
use Rattle.isp_lower.specs.Emitted.{Appends}
use Rattle.isp_lower_code.specs.Asks.{Ask}
use Rattle.isp_lower_code.specs.Layout.{Layout}
use Rattle.isp_lower_code.specs.Own.{HasOwn}
use Rattle.isp_lower_code.specs.Room.{GrowsBy, HasNumbers, HasRoom, masks_with, registers_asked}
use Rattle.isp_lower_code.specs.Rows.{layout_of}
use Rattle.isp_lower_code.specs.Simple.{simple_code, simple_places}
use Rattle.isp_lower.specs.Written.{Piece}
use Rattle.isp_lower.specs.declared.sites.Site.{Site}
use Rattle.isp_lower.specs.declared.types.Emitter.{Emitter}

-- where the registers of the function at work lie
abbrev pub layout_in : Emitter → Layout
layout_in e = layout_of (rates_in (functions_of e.callees.now)) (rows_of e.reserved.registers)

-- A function is at work, and takes at a site what is asked for: its own variables and arrays of that are there, and so is the mask of the
-- site; no number is too great, and there is room for the registers.
pub record Takes (d : Draft) (a : Ask) (at : Site) : Type 0 where
  pub begun : IsBegun d
  pub own : HasOwn d.rows a
  pub mask : at.mask.number < d.masks
  pub numbers : HasNumbers a
  pub room : HasRoom d.rows a

pub record AddsCode (old new : Emitter) (c : ℕ → ℕ → List Instr) (s : List Span) : Type 0 where
  pub appends : Appends old.body new.body c s
  pub rows : Grows old.reserved.registers new.reserved.registers
  pub masks : old.reserved.masks ≤ new.reserved.masks
  pub kept : draft_of new ≡ record (draft_of old) { places = (draft_of new).places; rows = (draft_of new).rows; masks = (draft_of new).masks; code = (draft_of new).code }

-- No more registers are added than are asked for, and no arrays; and there are as many masks as there were and are asked for.
pub record FewMore (old new : Draft) (a : Ask) : Type 0 where
  pub rows : GrowsBy (registers_asked a) old.rows new.rows
  pub masks : new.masks ≡ masks_with old.masks a

-- the code of an expression, and of what stands before a semicolon, where the registers of the function at work lie

abbrev pub expr_in : Emitter → TExpr → Site → Piece
expr_in e x at =
    record { code = λ pc p. expr_code (layout_in e) x pc p at.mask.number at.slot.number; places = expr_places (layout_in e) x }

abbrev pub simple_in : Emitter → TSimple → Site → Piece
simple_in e x at =
    record { code = λ pc p. simple_code (layout_in e) x pc p at.mask.number at.slot.number; places = simple_places (layout_in e) x }

abbrev pub Adds : Emitter → Emitter → Piece → Type 0
Adds old new x = AddsCode old new x.code x.places
