use Rattle.std.proofs.Common.{inl, rules}
use Rattle.isp_code_commands.proofs.wasm.write_module.Goals as goal

pub returns-in-Ok : goal.returns-in-Ok
returns-in-Ok g c = inl (c.in-Ok.ensures.fits, (c.in-Ok.bytes.items, c.in-Ok.ensures.bytes, search rules))
