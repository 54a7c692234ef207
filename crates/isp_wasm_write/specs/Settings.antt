-- A function that is written, for a host that calls it or for other functions, as isp_wasm numbers it.
use Rattle.std.specs.Prelude.{ℕ, List, ◌++◌, slice_index_or}
use Rattle.isp_base.specs.Types.{gang_width}
use Rattle.isp_code.specs.Listing.{Listing, Routine}
use Rattle.isp_forms.specs.declared.form.Form.{Form}
use Rattle.isp_forms.specs.declared.form.Form.TheVariants.{Kept}
use Rattle.isp_wasm.specs.Locals.{param_places, taken_places, own_places, local_at}
use Rattle.isp_wasm.specs.Places.{Setting, Place}
use Rattle.isp_wasm.specs.Module.{numbered}
use Rattle.isp_wasm_write.specs.declared.kernel.Caller.{Caller}
use Rattle.isp_wasm_write.specs.declared.kernel.Caller.TheVariants.{Host, Function}

pub record Written : Type 0 where
  pub code : Listing
  pub routine : Routine
  pub caller : Caller
  -- of its instructions in order, each past the last of them kept
  pub forms : List Form

-- what its caller passes
abbrev pub given_places : Caller → ℕ → Routine → List Place
given_places Host lanes h = param_places h
given_places Function lanes h = taken_places lanes h

-- isp_wasm's `numbered` for a host, and `inner` for other functions. The function's number is of no use to its code.
abbrev pub setting : Written → Setting
setting k =
    record (numbered k.code (λ f pc. slice_index_or k.forms pc Kept) 0 k.routine) {
      local = local_at (given_places k.caller (gang_width k.code.gang) k.routine ++ own_places (gang_width k.code.gang) k.routine);
    }
