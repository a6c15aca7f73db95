use Rattle.std.proofs.Common.{◌≡◌, ◌+◌, map, drop}
use Rattle.rob_cert.specs.View.{cover_of}
use Rattle.rob_check.specs.View.{run}
use Rattle.rob_check.proofs.covers.run_of.Given as goal

-- those counted, with those that stand in front of the rest, are all that stand in front
abbrev pub invariant-loop-cover : goal.invariant-loop-cover
invariant-loop-cover g l =
    let value = g.N.Exact.value in
    record {
      rest : l.count + run l.form (map (cover_of value) (drop l.cover-index l.covers))
          ≡ run l.form (map (cover_of value) l.covers);
      number : l.count ≡ l.cover-index;
    }
