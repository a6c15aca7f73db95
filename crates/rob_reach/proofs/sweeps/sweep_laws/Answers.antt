use Rattle.rob_reach.proofs.SweepLemmas as sweeps
use Rattle.rob_reach.proofs.sweeps.sweep_laws.Goals as goal

pub returns : goal.returns
returns c = record {
  one_answer = sweeps.one_answer;
  empty = sweeps.empty_exactly;
  one_sweep = sweeps.one_sweep;
  pair = sweeps.harder;
  harder = sweeps.sweep_grows_harder;
}
