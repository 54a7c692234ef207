use Rattle.std.proofs.Common.{◌≡◌, length, ◌∙◌}
use Rattle.std.proofs.lemmas.List.{length-take-le}
use Rattle.isp_files.proofs.Bytes.{big_taken, big_word}
use Rattle.isp_files.proofs.endian.big.Goals as goal

pub returns : goal.returns
returns c =
    let size = c.args.size in
    let front = c.copy_from_slice.ensures.after in
    let many : length c.copy_from_slice.new.self ≡ size = rw front (length-take-le size c.args.bytes.now c.requires.there) in
    c.from_be_bytes.ensures ∙ big_word size c.copy_from_slice.new.self c.requires.few many ∙ rw front (big_taken size c.args.bytes.now)
