use Rattle.isp_case_command.proofs.command.tested_at.Goals as goal

pub returns-clause-ok : goal.returns-clause-ok
returns-clause-ok c = record {
  runs = c.in_ok-tried.tried.items;
  tried = c.in_ok-tried.ensures.ok;
  page_is = rw (← c.as_slice.ensures.value) c.in_ok-page.ensures.text;
  ends = rw (← c.as_slice.ensures.value) c.in_ok-page.ensures.end;
}
