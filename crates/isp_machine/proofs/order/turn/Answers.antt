use Rattle.std.proofs.Common.{ap₂, ◌∙◌, ℕ, ◌+◌, ◌%◌, ◌^◌}
use Rattle.std.specs.Prelude.{bit_and}
use Rattle.isp_base.proofs.Words.{word_turned}
use Rattle.isp_machine.proofs.order.turn.Goals as goal

pub returns : goal.returns
returns c = ap₂ (λ (h m : ℕ). bit_and ((c.args.x + h) % 2 ^ 64) m) c.half.ensures c.low_mask.ensures ∙ word_turned c.args.elem c.args.x
