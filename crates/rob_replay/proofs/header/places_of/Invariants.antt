use Rattle.std.proofs.Common.{◌≡◌, drop, map, []}
use Rattle.csv.specs.Records.{fields_of}
use Rattle.rob_replay.specs.Gathering.{gathered}
use Rattle.rob_replay.proofs.HeaderLemmas.{named_place}
use Rattle.rob_replay.proofs.header.places_of.Given as goal

-- the places so far, and those that are left
abbrev pub invariant-loop-param : goal.invariant-loop-param
invariant-loop-param g l =
    let place = named_place g.N.Exact.value (fields_of l.header) in
    gathered l.places (map place (drop l.param-index l.params)) ≡ gathered [] (map place l.params)
