use Rattle.isp_lower_code.proofs.AskMasks.{expr_masks, simple_masks}
use Rattle.isp_lower_code.proofs.AskNumbers.{expr_numbers, expr_registers, simple_numbers, simple_registers}
use Rattle.isp_lower_code.proofs.laws.asks_are_few.Goals as goal

pub returns : goal.returns
returns c = record {
  expr_numbers = λ fs vars x n few fine low. expr_numbers fs vars few x n fine low;
  simple_numbers = λ fs vars x n few fine low. simple_numbers fs vars few x n fine low;
  expr_registers = expr_registers;
  simple_registers = simple_registers;
  expr_masks = λ x n m most h low. expr_masks most x n m h low;
  simple_masks = λ x n m most h low. simple_masks most x n m h low;
}
