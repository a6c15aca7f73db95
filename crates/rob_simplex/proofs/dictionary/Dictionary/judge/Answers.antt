use Rattle.std.proofs.Common.{◌<◌, inl, arith}
use Rattle.rob_simplex.specs.Dictionaries.{positions}
use Rattle.rob_simplex.proofs.dictionary.Dictionary.judge.Goals as goal

pub returns-in-Some : goal.returns-in-Some
returns-in-Some g c =
    let l : c.in-Some.i < positions c.args.self.now = c.in-Some.ensures.first.0 in
    record {
      judged =
          (omega arith, record { wide = inl (l, c.in-Some.ensures.first.1); before = c.in-Some.ensures.first.2 });
    }
