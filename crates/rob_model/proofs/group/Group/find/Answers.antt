use Rattle.std.proofs.Common.{sym}
use Rattle.std.specs.Prelude.{◌≢◌}
use Rattle.rob_meaning.specs.Names.{Name}
use Rattle.rob_model.specs.NameGroups.{names_in}
use Rattle.rob_model.specs.Spelling.{name_of}
use Rattle.rob_model.proofs.GroupLemmas.{each_take_more}
use Rattle.rob_model.proofs.group.Group.find.Goals as goal

pub loop-k-preserved : goal.loop-k-preserved
loop-k-preserved g c =
    record {
      before = each_take_more (λ (other : Name). other ≢ c.args.name.now) (names_in g.N.Exact.value c.args.self.now)
          c.loop-k.k (name_of c.name.result) c.name.ensures.name
          (λ e. let found = c.is.ensures.same.1 (sym e) in cc) c.loop-k.invariant.before;
      end = c.loop-k.invariant.end;
    }
