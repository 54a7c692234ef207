-- What is kept beside a function that is written.
use Rattle.std.specs.Prelude.{◌≡◌, ℕ, ◌^◌, ◌<◌, ◌++◌, List, length, map}
use Rattle.isp_base.specs.Types.{gang_width}
use Rattle.isp_code.specs.Registers.{Table, table_of}
use Rattle.isp_wasm.specs.Locals.{name_of, own_places}
use Rattle.isp_wasm.specs.Module.{heads_of}
use Rattle.isp_wasm_write.specs.Places.{place_of}
use Rattle.isp_wasm_write.specs.Settings.{Written, given_places}
use Rattle.isp_wasm_write.specs.declared.kernel.Place.{Place}

pub record AreTables (k : Written) (registers : Table) (given own : List Place) (names heads : List ℕ) : Type 0 where
  pub registers_are : registers ≡ table_of k.routine
  pub given_are : map place_of given ≡ given_places k.caller (gang_width k.code.gang) k.routine
  pub own_are : map place_of own ≡ own_places (gang_width k.code.gang) k.routine
  pub names_are : names ≡ map name_of (given_places k.caller (gang_width k.code.gang) k.routine ++ own_places (gang_width k.code.gang) k.routine)
  pub names_fit : length names < 2 ^ 32
  pub heads_are : heads ≡ heads_of k.routine.code
  pub heads_fit : length heads < 2 ^ 32
