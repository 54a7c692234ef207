use Rattle.isp_breaches.proofs.First.{one_list}
use Rattle.isp_breaches.proofs.InOrder.{before_answered, before_itself, before_then, before_total}
use Rattle.isp_breaches.proofs.laws.order_laws.Goals as goal

pub returns : goal.returns
returns c = record { answered = before_answered; itself = before_itself; chained = before_then; total = before_total; one = one_list }
