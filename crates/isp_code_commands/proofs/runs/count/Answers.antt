use Rattle.std.proofs.Common.{inl}
use Rattle.isp_code_commands.proofs.runs.count.Goals as goal

pub returns : goal.returns
returns g c = inl (record { code = c.in_ok-image.image; json = c.as_str-2.result.now; source = c.as_str.result.now; given = rw (c.as_str.ensures.value, c.as_str-2.ensures.value) c.in_ok-image.ensures.ok; shown = c.count_image.ensures })
