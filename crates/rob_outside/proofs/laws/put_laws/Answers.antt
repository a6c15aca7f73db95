use Rattle.rob_outside.proofs.TakenLemmas.{IsPrefix-take, IsPrefix-trans, put_answered, took_both, took_is_prefix, took_nothing, took_prefix_of_more, took_then_put}
use Rattle.rob_outside.proofs.laws.put_laws.Goals as goal

pub returns : goal.returns
returns c = record {
  nothing = took_nothing;
  both = took_both;
  then_put = took_then_put;
  all_is_prefix = took_is_prefix;
  longer = took_prefix_of_more;
  prefix_of_prefix = IsPrefix-trans;
  answered = put_answered;
  first_bytes = IsPrefix-take;
}
