use Rattle.std.proofs.Common.{◌≡◌, ap, sym, subst, ◌∙◌, List, length, refl}
use Rattle.std.specs.Prelude.{IsSome}
use Rattle.rob_meaning.specs.Places.{Each}
use Rattle.rob_syntax.specs.declared.syntax.Statement.{Statement}
use Rattle.rob_parse.specs.Building.{FitsStatement}
use Rattle.rob_syntax.specs.Known.{texts}
use Rattle.rob_parse.specs.Written.{goal_in, parameters}
use Rattle.rob_parse.specs.Models.{model_of}
use Rattle.std.specs.List.{flat_map}
use Rattle.rob_rules.specs.Scopes.{earlier_of, start}
use Rattle.rob_parse.proofs.Degrees.FitLemmas.{all_fit, goal_there}
use Rattle.rob_model.specs.View.{robust}
use Rattle.rob_parse.specs.Modelled.{ReadsModel}
use Rattle.rob_parse.proofs.Sizes.LimitLemmas.{within_limits}
use Rattle.rob_parse.proofs.Building.PlacedLemmas.{well_formed}
use Rattle.rob_parse.proofs.Sets.RoomLemmas.{has_room, written_count_is}
use Rattle.rob_parse.proofs.Names.ChainLemmas.{read_within, reads_chain}
use Rattle.rob_parse.proofs.Names.WellNamed.{well_named}
use Rattle.rob_parse.proofs.model.read_model.Goals as goal

pub model-requires-clause-fits : goal.model-requires-clause-fits
model-requires-clause-fits g c =
    let read = read_within (c.LIMIT.ensures ∙ g.met.N.Exact.limit_told) g.met.N.Exact.limit_high c.in-Ok.ensures.read in
    let words = texts c.in-Ok.found.words.keys in
    let known = earlier_of c.in-Ok.found.scope in
    subst (Each (FitsStatement g.N.Exact.limit)) (sym c.items-list.ensures.list)
    (all_fit g.N.Exact.limit g.met.N.Exact.limit_low words (start (length words)) c.in-Ok.found.list known
    (reads_chain g.N.Exact.limit c.args.text.now words c.in-Ok.found.list known read))

pub model-requires-clause-goal : goal.model-requires-clause-goal
model-requires-clause-goal g c =
    let read = read_within (c.LIMIT.ensures ∙ g.met.N.Exact.limit_told) g.met.N.Exact.limit_high c.in-Ok.ensures.read in
    let words = texts c.in-Ok.found.words.keys in
    let known = earlier_of c.in-Ok.found.scope in
    subst (λ (l : List Statement). IsSome (goal_in l)) (sym c.items-list.ensures.list)
    (goal_there g.N.Exact.limit words (start (length words)) c.in-Ok.found.list known
    (reads_chain g.N.Exact.limit c.args.text.now words c.in-Ok.found.list known read) read.lines.goal refl)

pub model-requires-clause-room : goal.model-requires-clause-room
model-requires-clause-room g c =
    let read = read_within (c.LIMIT.ensures ∙ g.met.N.Exact.limit_told) g.met.N.Exact.limit_high c.in-Ok.ensures.read in
    has_room g.N.Exact.limit c.args.text.now (texts c.in-Ok.found.words.keys) c.in-Ok.found.list c.in-Ok.found.scope
    read

pub model-requires-clause-count : goal.model-requires-clause-count
model-requires-clause-count g c =
    let read = read_within (c.LIMIT.ensures ∙ g.met.N.Exact.limit_told) g.met.N.Exact.limit_high c.in-Ok.ensures.read in
    subst (λ (l : List Statement).
    c.in-Ok.found.scope.sizes.parameters ≡ length (flat_map (parameters (texts c.in-Ok.found.words.keys)) l))
    (sym c.items-list.ensures.list)
    (written_count_is g.N.Exact.limit c.args.text.now (texts c.in-Ok.found.words.keys) c.in-Ok.found.list
    c.in-Ok.found.scope read)

pub returns-in-Ok-model-clause-read : goal.returns-in-Ok-model-clause-read
returns-in-Ok-model-clause-read g c =
    let read = read_within (c.LIMIT.ensures ∙ g.met.N.Exact.limit_told) g.met.N.Exact.limit_high c.in-Ok.ensures.read in
    record {
      words = texts c.in-Ok.found.words.keys;
      list = c.in-Ok.found.list;
      known = earlier_of c.in-Ok.found.scope;
      reads = read;
      model_is =
          c.in-Ok-model.ensures.read
          ∙ ap (model_of (texts c.in-Ok.found.words.keys) c.in-Ok.found.scope.sorts.items) c.items-list.ensures.list;
    }

pub returns-in-Ok-model-clause-valid : goal.returns-in-Ok-model-clause-valid
returns-in-Ok-model-clause-valid g c =
    let read : ReadsModel g.N.Exact.limit c.args.text.now (robust g.N.Exact.value c.in-Ok-model.model) =
    returns-in-Ok-model-clause-read g c in
    record {
      well_formed =
          well_formed g.N.Exact.limit c.args.text.now (robust g.N.Exact.value c.in-Ok-model.model) read
          g.met.N.Exact.limit_low;
      limits = within_limits g.N.Exact.limit c.args.text.now (robust g.N.Exact.value c.in-Ok-model.model) read;
    }

pub returns-in-Ok-model-clause-named : goal.returns-in-Ok-model-clause-named
returns-in-Ok-model-clause-named g c =
    well_named g.N.Exact.limit c.args.text.now (robust g.N.Exact.value c.in-Ok-model.model)
    (returns-in-Ok-model-clause-read g c)
