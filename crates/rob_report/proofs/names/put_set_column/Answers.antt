use Rattle.std.proofs.Common.{◌+◌, ◌++◌, arith, ap, ◌∙◌}
use Rattle.std.proofs.lemmas.Result.{on_ok_weaker}
use Rattle.rob_meaning.proofs.Naming.NameLemmas.{length-set_column_names}
use Rattle.rob_meaning.specs.Names.{set_column_names, set_condition_names}
use Rattle.rob_model.specs.Naming.{set_place_names}
use Rattle.rob_model.specs.View.{robust}
use Rattle.rob_report.proofs.NameLemmas.{at_back, length-set_place_names, named_at}
use Rattle.rob_report.proofs.names.put_set_column.Goals as goal

pub put_set_place_name-requires-clause-inside : goal.put_set_place_name-requires-clause-inside
put_set_place_name-requires-clause-inside g c =
    let m = robust g.N.Exact.value c.args.model.now in
    omega (
      arith,
      c.condition_count.ensures.count,
      c.requires.inside,
      length-set_column_names m,
      length-set_place_names m,
    )

pub returns : goal.returns
returns g c =
    let m = robust g.N.Exact.value c.args.model.now in
    record {
      appended = on_ok_weaker c.put_set_place_name.result
          (λ h. named_at (set_place_names m) (c.condition_count.result + c.args.index) _ _ h
          ∙ ap (λ n. c.args.out.now ++ n)
          (at_back (set_condition_names m) (set_column_names m) (c.condition_count.result + c.args.index)
          c.args.index (ap (λ n. n + c.args.index) c.condition_count.ensures.count)))
          c.put_set_place_name.ensures.appended;
    }
