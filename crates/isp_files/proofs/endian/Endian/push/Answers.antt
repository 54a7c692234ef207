use Rattle.isp_files.proofs.Bytes.{big_end, little_low, pushed}
use Rattle.isp_files.proofs.endian.Endian.push.Goals as goal

pub returns-in-Little : goal.returns-in-Little
returns-in-Little c =
    let after = rw c.to_le_bytes.ensures at c.extend_from_slice.ensures.items in
    rw c.in-Little.is (pushed c.extend_from_slice.result _ _ _ _ after (little_low 0 8 c.args.size c.args.number c.requires))

pub returns-in-Big : goal.returns-in-Big
returns-in-Big c =
    let after = rw c.to_be_bytes.ensures at c.extend_from_slice-in-Big.ensures.items in
    rw c.in-Big.is (pushed c.extend_from_slice-in-Big.result _ _ _ _ after (big_end c.args.size c.args.number c.requires))
