use Rattle.std.proofs.Common.{◌≡◌, ◌+◌, ◌≤◌, length}
use Rattle.rob_lex.specs.Offences.{most_open}
use Rattle.rob_lex.specs.Places.{depth_at}
use Rattle.rob_lex.proofs.PlaceLemmas.{Reached}
use Rattle.rob_lex.proofs.reader.tokens.Given as goal

abbrev pub invariant-loop-rest : goal.invariant-loop-rest
invariant-loop-rest l = record {
  reached : Reached l.text l.rest l.at l.list.items;
  offset : l.at.offset + length l.rest ≡ length l.text;
  line : l.at.line ≤ l.at.offset + 1;
  count : l.at.count ≤ l.at.offset;
  depth : depth_at l.at ≤ most_open;
}

abbrev pub decreases-loop-rest : goal.decreases-loop-rest
decreases-loop-rest l = length l.rest
