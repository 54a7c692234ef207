use Rattle.std.proofs.Common.{◌∙◌, rules}
use Rattle.isp_asm.proofs.Pages.{listing_written}
use Rattle.isp_asm.proofs.writer.write.Goals as goal

pub returns : goal.returns
returns c =
    c.into_text.ensures
    ∙ listing_written c.args.code.now c.header.new.self c.places-2.new.self c.texts.new.self c.functions-2.new.self (search rules) (search rules) (search rules) (search rules)
