-- What writers are given and what they append to a body: of code the first instruction has number pc, of its places in the
-- source the first has number p.
use Rattle.std.specs.Prelude.{◌≡◌, ◌<◌, ◌+◌, ℕ, List, [], ◌∷◌, ◌++◌, length, map}
use Rattle.isp_base.specs.declared.types.Span.{Span}
use Rattle.isp_code.specs.declared.instr.Instr.{Instr}
use Rattle.isp_lower_code.specs.Asks.{Ask, All}
use Rattle.isp_lower_code.specs.Layout.{Layout}
use Rattle.isp_lower_code.specs.Rows.{layout_of}
use Rattle.isp_registers.specs.Growth.{HasArray, HasLoaded, HasRow, rows_of}
use Rattle.isp_typed.specs.Views.{functions_of}
use Rattle.isp_lower_code.specs.Callees.{rates_in}
use Rattle.isp_lower.specs.declared.types.Body.{Body}
use Rattle.isp_lower.specs.declared.types.Scope.{Scope}

-- ---- what code is written with, and what is appended

-- where registers lie is fixed, and at which rates functions take what is handed over
abbrev pub layout : Scope → Layout
layout on = record (layout_of (rates_in (functions_of on.callees.now)) (rows_of on.registers.now)) { run = on.run; in_run = on.in_run }

-- all that code asks for is there
abbrev pub Present : Scope → Ask → Type 0
Present on a = All (HasRow on.registers.now) (HasArray on.registers.now) (HasArray on.registers.now) (λ k. k < on.masks) (HasLoaded on.registers.now) a

-- the bytes of the texts
abbrev pub texts_of : Body → List (List ℕ)
texts_of b = map (λ t. t.items) b.texts.items

-- code that names no text
pub record Appends (old new : Body) (c : ℕ → ℕ → List Instr) (s : List Span) : Type 0 where
  pub code : new.code.items ≡ old.code.items ++ c (length old.code.items) (length old.places.items)
  pub places : new.places.items ≡ old.places.items ++ s
  pub texts : new.texts ≡ old.texts

-- one text, and nothing else
pub record AppendsText (old new : Body) (text : List ℕ) : Type 0 where
  pub code : new.code.items ≡ old.code.items
  pub places : new.places.items ≡ old.places.items
  pub texts : texts_of new ≡ texts_of old ++ text ∷ []

pub record Unchanged (old new : Body) : Type 0 where
  pub code : new.code.items ≡ old.code.items
  pub places : new.places.items ≡ old.places.items
  pub texts : texts_of new ≡ texts_of old
