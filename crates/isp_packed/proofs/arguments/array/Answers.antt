use Rattle.std.proofs.Common.{length}
use Rattle.isp_packed.proofs.Sizes.{array_within}
use Rattle.isp_packed.proofs.arguments.array.Goals as goal

pub returns-clause-within : goal.returns-clause-within
returns-clause-within c =
    array_within c.in_ok-array.array c.args.parameter.now.elem (length c.split_at.result.1.now) (length c.args.bytes.now)
    c.in_ok-array.ensures.elem c.in_ok-array.ensures.within c.split_at.ensures.back_len
