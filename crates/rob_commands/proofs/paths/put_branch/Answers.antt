use Rattle.std.proofs.Common.{◌++◌, ap, of_z, rules, SFits, to_z, w64}
use Rattle.std.proofs.lemmas.Int.{to_z-of_z}
use Rattle.std.specs.Fmt.{signed_decimal}
use Rattle.rob_meaning.specs.Names.{column_names}
use Rattle.rob_model.specs.View.{robust}
use Rattle.rob_report.specs.Lines.{line}
use Rattle.rob_commands.specs.Answers.{branch_relation}
use Rattle.rob_commands.proofs.PathTextLemmas.{branch_text}
use Rattle.rob_commands.proofs.paths.put_branch.Goals as goal

pub returns : goal.returns
returns g c =
    let fits : SFits w64 c.args.branch.k = search rules in
    record {
      appended = branch_text c.put_bound.result
          (column_names (robust g.N.Exact.value c.args.model.now)) c.args.branch.column
          (branch_relation c.args.branch.at_most ++ line (signed_decimal (to_z w64 (of_z w64 c.args.branch.k))))
          (branch_relation c.args.branch.at_most ++ line (signed_decimal c.args.branch.k)) c.args.out.now
          c.push.new.self c.put_column_name.new.out
          c.put_bound.new.out
          (ap (λ z. branch_relation c.args.branch.at_most ++ line (signed_decimal z))
          (to_z-of_z w64 c.args.branch.k fits))
          c.in_ok-push.ensures.appended c.in_ok-put_column_name.ensures.appended c.put_bound.ensures.appended;
    }
