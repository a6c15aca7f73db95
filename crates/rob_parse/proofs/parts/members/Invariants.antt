use Rattle.std.proofs.Common.{◌≡◌, ◌++◌, drop, map}
use Rattle.rob_number.specs.Counts.{CountsOnly}
use Rattle.rob_meaning.specs.Places.{Each}
use Rattle.rob_model.specs.View.{member_of}
use Rattle.rob_parse.specs.Building.{FitsMember}
use Rattle.rob_parse.specs.Written.{member}
use Rattle.rob_parse.specs.Models.{member_taken}
use Rattle.rob_syntax.specs.declared.syntax.Member.{Member}
use Rattle.rob_parse.proofs.parts.members.Given as goal

abbrev pub invariant-loop-next : goal.invariant-loop-next
invariant-loop-next g l = record {
  read : map (member_of g.N.Exact.value) l.list ++ map
      (λ (h : Member). member_taken l.place.count l.place.set (member l.sorts h)) (drop l.next-index l.members) ≡ map
      (λ (h : Member). member_taken l.place.count l.place.set (member l.sorts h)) l.members;
  fits : Each (FitsMember g.N.Exact.limit) (drop l.next-index l.members);
  counted : CountsOnly g.L.Ledger.ops g.L.Ledger.wides l.fn.ledger l.ledger;
}
