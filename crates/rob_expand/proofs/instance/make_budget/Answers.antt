use Rattle.std.proofs.Common.{List, [], ◌++◌, map, ap, ◌∙◌}
use Rattle.rob_syntax.specs.declared.syntax.Member.{Member}
use Rattle.rob_syntax.specs.declared.syntax.Statement.TheVariants.{Budget}
use Rattle.rob_syntax.specs.declared.syntax.Ranged.{Ranged}
use Rattle.rob_syntax.specs.declared.syntax.Share.{Share}
use Rattle.rob_syntax.specs.Known.{texts}
use Rattle.rob_syntax.specs.Numbered.{numbered_member}
use Rattle.rob_syntax.specs.Seen.{seen_ranged, seen_share}
use Rattle.rob_expand.specs.Growing.{printed}
use Rattle.rob_expand.specs.Instances.{each_at, member_at}
use Rattle.rob_expand.proofs.instance.make_budget.Goals as goal

pub returns : goal.returns
returns c = record {
  made =
      let own = texts c.args.names.own.now.keys in
      let words = texts c.args.names.words.now.keys in
      let all : List (Ranged Share) → List Member = λ (ms : List (Ranged Share)).
      map (numbered_member words)
      (each_at own printed (member_at own printed) [] (map (seen_ranged seen_share) ms) c.args.values.now) in
      let m = c.in_ok-append_members.ensures.appended
      ∙ ap (λ (l : List Member). l ++ all c.items.result.now) c.new-members.ensures.empty
      ∙ ap all c.items.ensures.list in
      let o = c.in_ok-over.ensures.number in
      λ i. Budget (record { limit = c.args.shares.now.limit; members = m i; over = o i });
}
