use Rattle.rob_index.specs.Reading.{IsOf}
use Rattle.rob_index.proofs.LinesRead.KeptLemmas.{all_of_lines, total_counted, total_few}
use Rattle.rob_index.proofs.reading.kept.Goals as goal

pub returns : goal.returns
returns g c =
    record {
      counted = λ v limit words order has_later step is_declared.
          total_counted limit words g.row.Known.Denot g.row.Later.Denot order has_later step is_declared (IsOf v);
      few = λ v limit words order has_later step is_declared.
          total_few limit words g.row.Known.Denot g.row.Later.Denot order has_later step is_declared (IsOf v);
      lines = λ v limit words order has_later step is_declared.
          all_of_lines limit words g.row.Known.Denot g.row.Later.Denot order has_later step is_declared (IsOf v);
    }
