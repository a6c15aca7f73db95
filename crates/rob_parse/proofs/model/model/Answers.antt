use Rattle.std.proofs.Common.{map, ap, ◌∙◌}
use Rattle.std.specs.Prelude.{option_copied}
use Rattle.rob_number.proofs.CountLemmas.{only_later}
use Rattle.rob_model.specs.View.{robust, parameter_of, set_line_of, variable_of, adaptive_of, row_of}
use Rattle.rob_meaning.specs.RobustModel.{joint_parameters}
use Rattle.rob_model.proofs.PartLemmas.{each_at}
use Rattle.rob_parse.specs.Building.{FitsStatement}
use Rattle.rob_syntax.specs.Known.{texts}
use Rattle.rob_parse.specs.Written.{expression}
use Rattle.rob_parse.specs.Models.{taken}
use Rattle.rob_syntax.specs.Trees.{tree_of}
use Rattle.rob_parse.specs.declared.place.Place.{Place}
use Rattle.rob_parse.proofs.Building.BuildLemmas.{goal_fits, grows_start, grows_step, grows_end}
use Rattle.rob_parse.proofs.model.model.Goals as goal

pub expression-requires-clause-fits : goal.expression-requires-clause-fits
expression-requires-clause-fits g c =
    goal_fits g.N.Exact.limit c.args.list.now _ c.in-Some.goal.now c.goal.ensures.goal (ap option_copied c.in-Some.is)
    c.requires.fits

pub loop-statement-init : goal.loop-statement-init
loop-statement-init g c =
    let value = g.N.Exact.value in
    record {
      grows =
          grows_start (texts c.args.words.now.keys) c.args.scope.now c.args.list.now _ _ c.in-Some.goal.now
          c.goal.ensures.goal (ap option_copied c.in-Some.is)
          (record {
            parameters = ap (map (parameter_of value)) c.new.ensures.empty;
            sets = c.new-2.ensures.empty;
            set_lines = ap (map (set_line_of value)) c.new-3.ensures.empty;
            line_sets = c.new-4.ensures.empty;
            variables = ap (map (variable_of value)) c.new-5.ensures.empty;
            adaptives = ap (map (adaptive_of value)) c.new-6.ensures.empty;
            rows = ap (map (row_of value)) c.new-7.ensures.empty;
            row_sets = c.new-8.ensures.empty;
            sense = c.sense.ensures.sense;
            objective =
                c.in_ok-expression.ensures.read
                ∙ (λ i. taken (c.place_of-place.ensures.place i).count (c.place_of-place.ensures.place i).set
                (expression (c.as_slice.ensures.value i) (tree_of c.in-Some.goal.now.objective)));
            objective_set = ap (λ (q : Place). q.set) c.place_of-place.ensures.place;
          });
      fits = c.requires.fits;
      counted = c.expression.ensures.counted;
    }

pub loop-statement-preserved : goal.loop-statement-preserved
loop-statement-preserved g c =
    let value = g.N.Exact.value in
    record {
      grows =
          grows_step (texts c.args.words.now.keys) c.args.scope.now c.args.list.now c.loop-statement.statement-index
          c.statement-item.result (robust value c.loop-statement.model) (robust value c.add.new.model)
          c.loop-statement-test.true c.statement-item.is c.in_ok-add.ensures.added c.loop-statement.invariant.grows;
      fits =
          (each_at (FitsStatement g.N.Exact.limit) c.args.list.now c.loop-statement.statement-index
          c.statement-item.result c.loop-statement-test.true c.statement-item.is c.loop-statement.invariant.fits).1;
      counted = only_later c.loop-statement.invariant.counted c.add.ensures.counted;
    }

pub returns-clause-read : goal.returns-clause-read
returns-clause-read g c =
    grows_end (texts c.args.words.now.keys) c.args.scope.now c.args.list.now c.loop-statement.statement-index
    (robust g.N.Exact.value c.loop-statement.model) _
    c.requires.count c.loop-statement-test.false c.loop-statement.invariant.grows
    (λ i. record (robust g.N.Exact.value c.loop-statement.model) {
      parameters =
          (c.in_ok-join.ensures.joint
          ∙ ap (joint_parameters (map (parameter_of g.N.Exact.value) c.loop-statement.model.params))
          c.items.ensures.list) i;
    })
