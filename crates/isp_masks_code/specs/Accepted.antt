-- Code that the verifier accepts: each routine is the code of a body whose registers are there, in a program
-- whose functions have their headers, and each header fits.
use Rattle.std.specs.Prelude.{◌≡◌, ◌≤◌, ◌+◌, List, length, Option, true}
use Rattle.isp_base.specs.declared.types.Ty.{Ty}
use Rattle.isp_code.specs.Fine.{IsGiven}
use Rattle.isp_code.specs.Listing.{Listing, Routine}
use Rattle.isp_typed.specs.Fine.{FineBlock}
use Rattle.isp_typed.specs.Typed.{TBlock, TFunction}
use Rattle.isp_typed.specs.declared.variable.Variable.{Variable}
use Rattle.isp_lower_code.specs.Sound.{Granted, HasMask, HasRegister, Links}
use Rattle.isp_lower_code.specs.Asks.{All}
use Rattle.isp_lower_code.specs.Layout.{Layout}
use Rattle.isp_lower_code.specs.Tables.{AnyArray, IsLoadedIn}
use Rattle.isp_lower_code.specs.declared.constant.Constant.{Constant}
use Rattle.isp_masks_code.specs.Rated.{BlockRated}
use Rattle.isp_masks_code.specs.Asks.{block_asks}
use Rattle.isp_masks_code.specs.Keeping.{Each, constants_asks}
use Rattle.isp_masks_code.specs.Spots.{Numbers}
use Rattle.isp_masks_code.specs.Statements.{block_places, block_texts, returned, function_code}

-- what it names begins at these numbers
pub record IsBodyCode (code : Listing) (h : Routine) : Type 0 where
  pub layout : Layout
  pub answer : Option Ty
  pub body : TBlock
  pub numbers : Numbers
  pub constants : List Constant
  pub code_is : h.code ≡ function_code layout answer constants body 0 numbers
  pub functions : List TFunction
  pub variables : List Variable
  pub fine : FineBlock functions variables answer body
  pub rated : BlockRated functions answer body
  pub links : Links functions code h layout
  pub present : Granted h layout (block_asks answer body 3)
  pub masks : 3 ≤ h.masks
  -- the constants are kept, and what the code asks for that makes them is there
  pub kept : Each (λ x. layout.kept x.rate x.elem x.bits ≡ true) constants
  pub spares : All (HasRegister h layout) AnyArray AnyArray (HasMask h) (IsLoadedIn layout) (constants_asks 3 constants)
  pub places : numbers.place + length (block_places layout body) ≤ length code.places
  pub texts : numbers.text + length (block_texts body) ≤ length code.texts
  pub given : IsGiven h h.returns (returned layout answer)
