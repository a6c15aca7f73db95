use Rattle.rob_index.specs.Places.{places}
use Rattle.rob_index.specs.Rules.{has_great_digits}
use Rattle.rob_index.specs.Search.{search_out}
use Rattle.rob_syntax.specs.Seen.{seen_statement}
use Rattle.rob_ranges.proofs.NestLemmas.{as_well}
use Rattle.rob_places.proofs.WalkLemmas.{found_either}
use Rattle.rob_places.proofs.fault.some_out.Goals as goal

pub returns : goal.returns
returns c =
    record {
      found =
          as_well c.statement.result
          (found_either has_great_digits search_out (places (seen_statement c.args.statement.now)) c.args.effort)
          c.statement.ensures.found;
    }
