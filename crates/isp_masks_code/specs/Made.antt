-- A routine that is made from a function, with registers numbered by rows: what its maker keeps, so that the verifier accepts
-- it and it agrees with the function.
use Rattle.std.specs.Prelude.{List, ◌≡◌, ◌≤◌, length, Option, Some, None}
use Rattle.isp_base.specs.declared.types.Rate.{Rate}
use Rattle.isp_base.specs.declared.types.Rate.TheVariants.{Uniform}
use Rattle.isp_base.specs.declared.types.Ty.{Ty}
use Rattle.isp_code.specs.Entries.{parameters_of}
use Rattle.isp_code.specs.Listing.{Listing, Routine}
use Rattle.isp_code.specs.Registers.{table_of, types_in}
use Rattle.isp_typed.specs.Fine.{params_of}
use Rattle.isp_typed.specs.Typed.{TFunction}
use Rattle.isp_lower_code.specs.Asks.{All}
use Rattle.isp_lower_code.specs.Callees.{rates_in}
use Rattle.isp_lower_code.specs.Layout.{class_at}
use Rattle.isp_lower_code.specs.Rows.{Rows, Result, rows_at, HasRow, IsLoaded, layout_of}
use Rattle.isp_lower_code.specs.Sound.{HasMask}
use Rattle.isp_lower_code.specs.Tables.{AnyArray}
use Rattle.isp_lower_code.specs.declared.constant.Constant.{Constant}
use Rattle.isp_masks_code.specs.Arrays.{ArraysStand}
use Rattle.isp_masks_code.specs.Compiled.{AreOne}
use Rattle.isp_lower_code.specs.Header.{returns_of, types_of}
use Rattle.isp_masks_code.specs.Asks.{block_asks}
use Rattle.isp_masks_code.specs.Keeping.{KeepsThem, constants_asks}
use Rattle.isp_masks_code.specs.Named.{AreNamed}
use Rattle.isp_masks_code.specs.Spots.{Numbers}
use Rattle.isp_masks_code.specs.Statements.{block_places, block_texts, function_code}

abbrev pub ResultRow : Rows → Option Ty → Type 0
ResultRow rows None = Unit {0}
ResultRow rows (Some t) = HasRow rows t.rate Result t.elem

-- what it names begins at these numbers; it hands over as the parameters of some functions ask
pub record IsMade (fs : List TFunction) (code : Listing) (h : TFunction) (g : Routine) (rows : Rows) (z : Numbers) : Type 0 where
  pub types : (r : Rate) → types_in (table_of g) (class_at r) ≡ types_of (rows_at rows r)
  pub parameters : parameters_of g ≡ h.parameters
  pub returns : g.returns ≡ returns_of h.answer
  pub arrays : ArraysStand h g (layout_of (rates_in fs) rows)
  pub rows_are : All (HasRow rows) AnyArray AnyArray (HasMask g) (IsLoaded rows) (block_asks h.answer h.body 3)
  pub result : ResultRow rows h.answer
  pub masks : 3 ≤ g.masks
  pub constants : List Constant
  pub keeps : KeepsThem (layout_of (rates_in fs) rows) constants
  pub spares : All (HasRow rows) AnyArray AnyArray (HasMask g) (IsLoaded rows) (constants_asks 3 constants)
  pub code_is : g.code ≡ function_code (layout_of (rates_in fs) rows) h.answer constants h.body 0 z
  pub low : z.place ≤ length code.places
  pub low_texts : z.text ≤ length code.texts
  pub names : AreNamed code z (block_places (layout_of (rates_in fs) rows) h.body) (block_texts h.body)

-- what is exported gives one value for the gang
abbrev pub GivesUniform : Option Ty → Type 0
GivesUniform None = Unit {0}
GivesUniform (Some t) = t.rate ≡ Uniform

-- what an entry is to be is one value for the gang where it is a value
pub record IsUniform (h : TFunction) : Type 0 where
  pub takes : AreOne (params_of h)
  pub gives : GivesUniform h.answer
