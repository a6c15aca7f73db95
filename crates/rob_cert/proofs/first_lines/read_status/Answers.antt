use Rattle.rob_cert.proofs.Readers.FirstLinesLemmas.{other_status}
use Rattle.rob_cert.proofs.first_lines.read_status.Goals as goal

pub returns-in-None-status_of_line : goal.returns-in-None-status_of_line
returns-in-None-status_of_line c = record {
  status = other_status c.args.text.now c.in-Some.split.front.now c.in-Some.split.back.now c.in-Some.ensures.cut.0
      c.in-Some.ensures.cut.1 c.in-None-status_of_line.ensures.status;
}
