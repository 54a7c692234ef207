use Rattle.std.proofs.Common.{inl, inr}
use Rattle.std.proofs.lemmas.Bool.{cases_lt}
use Rattle.isp_known.proofs.word.word_around.Goals as goal

pub returns-clause-around : goal.returns-clause-around
returns-clause-around c = record {
  from = c.start_of.ensures.bound;
  to = c.end_of.ensures.low;
  there = c.end_of.ensures.high;
  word = λ k a b. elim (cases_lt k c.args.at) [ inl h ↦ c.start_of.ensures.word k a h | inr h ↦ c.end_of.ensures.word k h b ];
  before = c.start_of.ensures.before;
  behind = c.end_of.ensures.behind;
}
