use Rattle.rob_round_trip.proofs.Indexed.PlainLines.{plain_statement}
use Rattle.rob_round_trip.proofs.versions.plain_lines.Goals as goal

pub returns : goal.returns
returns c = record {
  statement = λ words symbols s is found.
      let p = plain_statement words symbols s is found in (p.tree, p.is_of, p.numbered_is);
}
