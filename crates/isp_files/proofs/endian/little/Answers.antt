use Rattle.std.proofs.Common.{◌≡◌, length, ◌∙◌}
use Rattle.std.proofs.lemmas.List.{length-take-le}
use Rattle.isp_files.proofs.Bytes.{little_taken, little_word}
use Rattle.isp_files.proofs.endian.little.Goals as goal

pub returns : goal.returns
returns c =
    let size = c.args.size in
    let front = c.copy_from_slice.ensures.after in
    let many : length c.copy_from_slice.new.self ≡ size = rw front (length-take-le size c.args.bytes.now c.requires.there) in
    c.from_le_bytes.ensures ∙ little_word size c.copy_from_slice.new.self c.requires.few many ∙ rw front (little_taken size c.args.bytes.now)
