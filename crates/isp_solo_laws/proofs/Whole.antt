-- The laws, put together.
use Rattle.isp_independence.specs.Independent.{IsCalled}
use Rattle.isp_meaning.specs.Loops.{turns}
use Rattle.isp_solo_meaning.specs.Calls.{own_calls}
use Rattle.isp_solo_laws.specs.Acts.{closed_in}
use Rattle.isp_solo_laws.specs.Asked.{uniforms_in}
use Rattle.isp_solo_laws.specs.Laws.{TouchedStays, ExpressionsAgree, ActsAgree, LoopsAgree, StatementsAgree, BodiesAgree, EveryCallAgrees}
use Rattle.isp_solo_laws.proofs.Grows.{answer_up, does_up, own_calls_up}
use Rattle.isp_solo_laws.proofs.Asked.{asked_fair}
use Rattle.isp_solo_laws.proofs.Expressions.{value_sim}
use Rattle.isp_solo_laws.proofs.Acts.{simple_sim, items_sim}
use Rattle.isp_solo_laws.proofs.AskedActs.{asked_simple, asked_items}
use Rattle.isp_solo_laws.proofs.Sequences.{then_sim}
use Rattle.isp_solo_laws.proofs.Branches.{varying_sides}
use Rattle.isp_solo_laws.proofs.Stmts.{uniform_sides}
use Rattle.isp_solo_laws.proofs.Loops.{turns_sim, tested_sim}
use Rattle.isp_solo_laws.proofs.Runs.{stmt_sim, block_sim}
use Rattle.isp_solo_laws.proofs.Calls.{calls_agree}
use Rattle.isp_solo_laws.proofs.Entry.{called_fair}
use Rattle.isp_base.specs.Types.{gang_width}

pub touched_stays : TouchedStays
touched_stays = record {
  expression = λ program most left m p frame x s. (answer_up m p frame (own_calls program most m p left) (λ f place xs caller. own_calls_up m p program most left f place xs caller) x).more s;
  statement = λ program most left m p frame x s. (does_up m p frame (own_calls program most m p left) (λ f place xs caller. own_calls_up m p program most left f place xs caller) (gang_width program.gang) most x).more s;
}

pub expressions_agree : ExpressionsAgree
expressions_agree program entry w calls own vars v x a touch agree opens asked some =
    value_sim w touch program.functions (IsCalled program.functions entry) calls own agree (uniforms_in vars v) x (asked_fair w.frame program.functions (IsCalled program.functions entry) vars opens v x asked) a some

pub acts_agree : ActsAgree
acts_agree = record {
  assignment = λ program entry w calls own vars control v x a touch agree opens asked some.
      simple_sim w touch program.functions (IsCalled program.functions entry) calls own agree (closed_in control) a some (uniforms_in vars v) x
      (asked_simple w.frame program.functions (IsCalled program.functions entry) vars opens control v x asked);
  declarations = λ program entry w calls own vars control v n xs a touch agree opens asked some.
      items_sim w touch program.functions (IsCalled program.functions entry) calls own agree (closed_in control) a some vars v n xs
      (asked_items w.frame program.functions (IsCalled program.functions entry) vars opens control v n xs asked);
}

pub loops_agree : LoopsAgree
loops_agree = record {
  turn = λ w l all n. turns_sim w l all n;
  test = λ w l all n. tested_sim w l all (turns w.gang l.test l.body l.step all n) _ (turns_sim w l all n);
}

pub statements_agree : StatementsAgree
statements_agree = record {
  sequence = λ w here v v1 x y a f own next own_next some wider together first up second. then_sim w here v v1 x y a some wider together f own first next own_next up second;
  varying_if = λ w here closed v v1 v2 x y a first second own own2 r m test some shut closed_in sim sim2 h.
      record { go = λ s σ st sa top ends. varying_sides w here closed v v1 v2 x y a some shut closed_in first second own own2 sim sim2 r m test h s σ st sa ends };
  uniform_if = λ w here v v1 v2 x y a first second own own2 c test some wider wider2 sim sim2 h. uniform_sides w here v a v1 v2 x y (first a) (second a) own own2 some wider wider2 sim sim2 c test h;
}

pub bodies_agree : BodiesAgree
bodies_agree = record {
  statement = λ program entry w calls own vars most control around v n x a wide touch agree opens asked some.
      stmt_sim w touch program.functions (IsCalled program.functions entry) calls own agree vars opens most program.gang wide x control around v n asked a some;
  body = λ program entry w calls own vars most control around v n b a wide touch agree opens asked some.
      block_sim w touch program.functions (IsCalled program.functions entry) calls own agree vars opens most program.gang wide b control around v n
      asked.fine asked.rates asked.alone asked.known asked.called asked.stood asked.early asked.quiet a some;
}

pub every_call_agrees : EveryCallAgrees
every_call_agrees program entry w most left accepted independent wide touch = calls_agree program entry most (called_fair program accepted entry independent) left w touch wide
