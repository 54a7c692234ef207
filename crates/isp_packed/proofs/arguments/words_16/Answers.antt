use Rattle.std.proofs.Common.{◌≡◌, length, arith}
use Rattle.isp_packed.proofs.Numbers.{words_read}
use Rattle.isp_packed.proofs.arguments.words_16.Goals as goal

pub returns : goal.returns
returns c =
    let long : length c.read_u16_into.new.dst ≡ c.resize.new.self.len = omega (arith, c.read_u16_into.auto.dst, c.deref_mut.ensures.len) in
    let count : c.resize.new.self.len ≡ c.args.count = omega (arith, c.in_ok-resize.ensures.len) in
    words_read 2 c.args.count c.args.bytes.now c.read_u16_into.new.dst c.resize.new.self.items c.resize.new.self.len long count c.read_u16_into.ensures
