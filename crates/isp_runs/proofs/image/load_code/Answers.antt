use Rattle.isp_runs.proofs.Loads.{loads, loads_first, loads_only, no_memory, refuses, unread}
use Rattle.isp_runs.proofs.image.load_code.Goals as goal

pub returns-in-Ok-clause-loaded : goal.returns-in-Ok-clause-loaded
returns-in-Ok-clause-loaded c =
    loads c.args.text.now c.in-Ok.code c.functions-functions.ensures.writable c.in-Ok.ensures.found c.verified.result c.verified.ensures.accepted

pub returns-in-Ok-clause-only : goal.returns-in-Ok-clause-only
returns-in-Ok-clause-only c = λ l k.
    loads_only c.args.text.now c.in-Ok.code c.functions-functions.ensures.writable c.in-Ok.ensures.found c.verified.result c.verified.ensures.accepted c.verified.ensures.refused
    c.verified.ensures.other l (c.in-Ok.ensures.only l k.of.writable k.of.is) k.fine

pub returns-in-Ok-clause-first : goal.returns-in-Ok-clause-first
returns-in-Ok-clause-first c = λ l f k s.
    loads_first c.args.text.now c.in-Ok.code c.functions-functions.ensures.writable c.in-Ok.ensures.found c.verified.result c.verified.ensures.accepted c.verified.ensures.refused
    c.verified.ensures.other l f (c.in-Ok.ensures.only l k.writable k.is) s

pub returns-in-Ok-clause-refused : goal.returns-in-Ok-clause-refused
returns-in-Ok-clause-refused c =
    refuses c.args.text.now c.in-Ok.code c.functions-functions.ensures.writable c.in-Ok.ensures.found c.verified.result c.verified.ensures.refused c.verified.ensures.other

pub returns-in-Err-clause-only : goal.returns-in-Err-clause-only
returns-in-Err-clause-only c = λ l k. no_memory c.in-Err.fault c.from.result c.from.ensures (c.in-Err.ensures.only l k.of.writable k.of.is)

pub returns-in-Err-clause-first : goal.returns-in-Err-clause-first
returns-in-Err-clause-first c = λ l f k s n. absurd (n (no_memory c.in-Err.fault c.from.result c.from.ensures (c.in-Err.ensures.only l k.writable k.is)))

pub returns-in-Err-clause-refused : goal.returns-in-Err-clause-refused
returns-in-Err-clause-refused c = unread c.args.text.now c.in-Err.fault c.from.result c.from.ensures c.in-Err.ensures.refused
