use Rattle.std.proofs.Common.{inl, string_bytes}
use Rattle.isp_code_commands.proofs.runs.trace.Goals as goal

pub returns : goal.returns
returns g c = inl (record { code = c.in_ok-image.image; json = c.as_str.result.now; source = string_bytes c.in_ok-image._source; given = rw c.as_str.ensures.value c.in_ok-image.ensures.ok; shown = c.trace_image.ensures })
