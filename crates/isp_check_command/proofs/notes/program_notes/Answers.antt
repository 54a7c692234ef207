use Rattle.std.proofs.Common.{ℕ, List, ◌++◌, ◌∙◌, ap, string_bytes}
use Rattle.isp_typed.specs.Views.{program_of}
use Rattle.isp_check_command.proofs.notes.program_notes.Goals as goal

pub returns : goal.returns
returns c = record {
  program = program_of c.args.checked.now;
  source = c.requires.source;
  code = c.args.image.now;
  compiled = c.requires.compiled;
  hints = c.in_ok-slow.slow.items;
  are_hints = rw (c.code.ensures.same, c.program.ensures.same) at c.in_ok-slow.ensures;
  lines = string_bytes c.in_ok-page.page;
  are_lines = c.in_ok-page.ensures;
  slow = string_bytes c.in_ok-rest.rest;
  is_slow = rw c.as_slice.ensures.value at c.in_ok-rest.ensures;
  page_is = c.in_ok-push_str.ensures.bytes ∙ ap (λ (z : List ℕ). string_bytes c.in_ok-page.page ++ z) c.as_str.ensures.value;
}
