use Rattle.rob_top.proofs.Fetching.FilesLemmas.{found_by_result}
use Rattle.rob_outside.specs.Fetches.{found_by}
use Rattle.rob_top.proofs.files.ask.Goals as goal

pub returns-clause-found : goal.returns-clause-found
returns-clause-found g c =
    found_by_result _ (record { place = 0; name = c.args.name.now; most = c.args.most }) _ _ c.fetch.result
    c.fetch.ensures.found c.fetch.ensures.logged

pub returns-clause-asked : goal.returns-clause-asked
returns-clause-asked g c = record { found = found_by c.fetch.result; grown = c.fetch.ensures.logged }
