use Rattle.rob_model.specs.Spelling.{name_of}
use Rattle.rob_model.proofs.FrontLemmas.{whole_missing}
use Rattle.rob_model.proofs.spelling.Spelling.is.Goals as goal

pub returns-in-None : goal.returns-in-None
returns-in-None c =
    record {
      same = (
        λ e. cc,
        λ e. absurd (whole_missing c.args.text.now (name_of c.args.self.now) c.in-None.ensures.found e),
      );
    }
