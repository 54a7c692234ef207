use Rattle.isp_base.specs.Values.{width}
use Rattle.isp_base.proofs.Wraps.{wrap_to-lt}
use Rattle.isp_tests_front.proofs.base.arguments.push_number.Goals as goal

pub push-requires : goal.push-requires
push-requires c = rw (c.wrap.ensures, c.elem-elem.ensures) (wrap_to-lt (width c.args.array.now.elem) _)
