use Rattle.rob_outside.specs.Files.{file_at}
use Rattle.rob_outside.proofs.FilesLemmas.{answered, first_is_found, found_is_first, found_missing, found_too_long, found_whole, none_found, none_named}
use Rattle.rob_outside.proofs.laws.fetch_laws.Goals as goal

pub returns : goal.returns
returns c = record {
  whole = λ name bytes max files. found_whole (file_at name files) bytes max;
  missing = λ name max files. found_missing (file_at name files) max;
  too_long = λ name max files. found_too_long (file_at name files) max;
  first = λ name bytes files. (found_is_first name bytes files, first_is_found name bytes files);
  none = λ name files. (none_named name files, none_found name files);
  answered = answered;
}
