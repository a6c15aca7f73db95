use Rattle.rob_dualize.specs.SetSolving.{program_of_set}
use Rattle.rob_worst.proofs.FinderLemmas.{same_rows, same_columns}
use Rattle.rob_dualize.proofs.SetLemmas.{solved_scenario}
use Rattle.rob_worst.proofs.finder.Finder.new.Goals as goal

pub returns-clause-finder : goal.returns-clause-finder
returns-clause-finder g c = record {
  solved = c.in_ok-solved.ensures.solved;
  search_rows = same_rows (program_of_set c.args.set.now) _ _ c.in_ok-solved.ensures.solved c.in_ok-search.ensures.made;
  search_columns = same_columns (program_of_set c.args.set.now) _ _ c.in_ok-solved.ensures.solved
      c.in_ok-search.ensures.made;
  search_limit = c.in_ok-search.ensures.limit;
}

pub returns-clause-answer : goal.returns-clause-answer
returns-clause-answer g c = λ m model s.
    (_, (solved_scenario m c.args.set.now s model c.in_ok-solved.solved c.in_ok-solved.ensures.solved).0)
