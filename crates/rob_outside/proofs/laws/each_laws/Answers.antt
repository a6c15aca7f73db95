use Rattle.rob_outside.proofs.PutsLemmas.{put_none, put_one, put_then, put_until_of_more}
use Rattle.rob_outside.proofs.laws.each_laws.Goals as goal

pub returns : goal.returns
returns c = record {
  nothing = put_none;
  one = put_one;
  behind = put_then;
  longer = put_until_of_more;
}
