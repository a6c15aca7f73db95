use Rattle.rob_index.specs.Places.{places}
use Rattle.rob_index.specs.Rules.{is_unknown}
use Rattle.rob_syntax.specs.Seen.{seen_statement}
use Rattle.rob_places.specs.Tests.{is_set}
use Rattle.rob_ranges.proofs.NestLemmas.{as_well}
use Rattle.rob_places.proofs.WalkLemmas.{told_any}
use Rattle.rob_places.proofs.fault.some_unknown.Goals as goal

pub returns : goal.returns
returns c =
    record {
      found =
          as_well c.some_place.result
          (told_any (is_unknown (is_set c.args.declared.now)) (places (seen_statement c.args.statement.now)) 0)
          c.some_place.ensures.found;
    }
