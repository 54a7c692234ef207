use Rattle.std.proofs.Common.{◌++◌, ap, ◌∙◌}
use Rattle.isp_code.specs.Listing.{Listing}
use Rattle.isp_wasm_file.specs.File.{text_section}
use Rattle.isp_wasm_file.proofs.section.file.Goals as goal

pub returns-in-Ok-clause-bytes : goal.returns-in-Ok-clause-bytes
returns-in-Ok-clause-bytes c =
    let made = c.in_ok-module.module.items in
    record {
      made = made;
      is_module = c.in_ok-module.ensures.bytes;
      bytes_are = c.in-Ok.ensures ∙ ap (λ (l : Listing). made ++ text_section l) c.code.ensures.same;
    }
