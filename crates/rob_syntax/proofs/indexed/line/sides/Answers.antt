use Rattle.rob_syntax.proofs.Fronts.PartLemmas.{refused_up}
use Rattle.rob_syntax.specs.Seen.{seen_rel}
use Rattle.rob_syntax.proofs.Fronts.LineLemmas.{no_sides, no_relation, no_right, sides_read}
use Rattle.rob_syntax.proofs.indexed.line.sides.Goals as goal

pub returns-in_err-left : goal.returns-in_err-left
returns-in_err-left c = record { read = refused_up _ _ _ c.from_residual.ensures.1 no_sides c.in_err-left.ensures.read }

pub returns-in_default : goal.returns-in_default
returns-in_default c = record { read = no_relation c.in_ok-left.ensures.read c.in_default.ensures.read }

pub returns-in_err-right : goal.returns-in_err-right
returns-in_err-right c = record {
  read = refused_up _ _ _ c.from_residual-in_err-right.ensures.1
      (no_right c.in_ok-left.ensures.read (seen_rel c.in-Some.rel) c.in-Some.ensures.read) c.in_err-right.ensures.read;
}

pub returns : goal.returns
returns c =
    record {
      read = sides_read c.in_ok-left.ensures.read (seen_rel c.in-Some.rel) c.in-Some.ensures.read
          c.in_ok-right.ensures.read;
    }
