-- Why writing stops, of a function that fits.
use Rattle.isp_wasm_write.specs.declared.refusal.Refusal.{Refusal}
use Rattle.isp_wasm_write.specs.declared.refusal.Refusal.TheVariants as refusals
use Rattle.isp_wasm_module.specs.declared.refusal.Stopped.{Stopped}
use Rattle.isp_wasm_module.specs.declared.refusal.Stopped.TheVariants.{Memory, NoLocal, TooLong}

abbrev pub stopped : Refusal → Stopped
stopped refusals.Memory = Memory
stopped refusals.NoLocal = NoLocal
stopped r = TooLong
