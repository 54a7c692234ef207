use Rattle.std.proofs.Common.{◌≡◌, ◌++◌, ◌-◌, map}
use Rattle.isp_wasm.specs.Locals.{mask_places}
use Rattle.isp_wasm_write.specs.Places.{place_of}
use Rattle.isp_wasm_write.proofs.locals.push_masks.Given as goal

-- the places so far, and those of the other masks
abbrev pub invariant-loop-mask : goal.invariant-loop-mask
invariant-loop-mask l = map place_of l.out.items ++ mask_places (l.masks - l.mask) l.mask ≡ map place_of l.initial.out.items ++ mask_places l.masks 0
