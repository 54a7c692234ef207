use Rattle.std.proofs.Common.{◌∙◌, rules}
use Rattle.isp_native.specs.reader.Forms.{forms_by}
use Rattle.isp_native.proofs.Pieces.{listing_written}
use Rattle.isp_native.proofs.writer.written.Goals as goal

pub returns : goal.returns
returns c =
    c.into_text.ensures
    ∙ listing_written c.args.code.now (forms_by c.args.tables) c.width.result c.first.new.self c.places-2.new.self c.texts.new.self c.all_declared.new.self
    c.all_defined.new.self c.entries.new.self (search rules) (search rules) (search rules) (search rules) (search rules) (search rules)
    (search rules)
