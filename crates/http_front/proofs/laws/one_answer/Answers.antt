use Rattle.http_front.proofs.AnswerLemmas.{head-one, form-one, head-refused, empty-head, empty-refused, short-head, short-refused}
use Rattle.http_front.proofs.laws.one_answer.Goals as goal

pub returns : goal.returns
returns c = record {
  head = head-one;
  form = form-one;
  refused = head-refused;
  empty_head = empty-head;
  empty_refused = empty-refused;
  short_head = short-head;
  short_refused = short-refused;
  short_empty = λ bytes empty short. short.begun empty.empty;
}
