use Rattle.rob_top.proofs.Relations.StatusLawLemmas.{one_answer, one_emptiness, same_bytes, same_emptiness}
use Rattle.rob_top.proofs.laws.route_laws.Goals as goal

pub returns : goal.returns
returns c = record {
  one_answer = one_answer;
  one_emptiness = one_emptiness;
  same_bytes = λ a b known again line other bytes first second solves solves_too.
      same_bytes a b known again line other bytes first second solves solves_too;
  same_emptiness = λ a b known again line other bytes first second solves solves_too.
      same_emptiness a b known again line other bytes first second solves solves_too;
}
