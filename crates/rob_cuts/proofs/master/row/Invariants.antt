use Rattle.std.specs.Prelude.{◌≡◌, ◌+◌}
use Rattle.rob_meaning.specs.Places.{tabulate}
use Rattle.rob_rows.specs.PrimitiveParts.{IsWithin}
use Rattle.rob_cuts.specs.Master.{cut_entry}
use Rattle.rob_cuts.specs.Rounds.{cut_of}
use Rattle.rob_cuts.proofs.master.row.Given as goal

-- the pairs so far
abbrev pub invariant-loop-j : goal.invariant-loop-j
invariant-loop-j g l = record {
  row : l.row ≡ tabulate (l.j + l.j) (cut_entry l.forms (cut_of l.round));
  within : IsWithin g.N.Exact.limit l.row;
}
