use Rattle.std.proofs.Common.{subst}
use Rattle.rob_simplex.specs.declared.state.Cause.{Cause}
use Rattle.rob_simplex.specs.Begun.{HasBegunAt}
use Rattle.rob_simplex.specs.Phases.{InSecond}
use Rattle.rob_simplex.proofs.Pivoting.BegunWork.{turn_row}
use Rattle.rob_simplex.proofs.dictionary.Dictionary.follow_on.Goals as goal

pub follow_second-requires : goal.follow_second-requires
follow_second-requires g c =
    let P = c.requires.begun.0 in
    let h = subst (λ (x : Cause). HasBegunAt (InSecond P) x c.args.self.now) c.in-Turn.is c.requires.begun.1 in
    record { row_in = turn_row P c.args.self.now c.in-Turn.row h; begun = (P, h); limit = c.requires.limit }

pub returns-clause-told : goal.returns-clause-told
returns-clause-told g c P h =
    c.follow_second.ensures.told P (subst (λ (x : Cause). HasBegunAt (InSecond P) x c.args.self.now) c.in-Turn.is h)

pub returns-clause-caused : goal.returns-clause-caused
returns-clause-caused g c P h =
    c.follow_second.ensures.caused P (subst (λ (x : Cause). HasBegunAt (InSecond P) x c.args.self.now) c.in-Turn.is h)

pub unreachable-requires : goal.unreachable-requires
unreachable-requires g c =
    subst (λ (x : Cause). HasBegunAt (InSecond c.requires.begun.0) x c.args.self.now) c.in-Told.is c.requires.begun.1

pub unreachable-requires-in-First : goal.unreachable-requires-in-First
unreachable-requires-in-First g c =
    subst (λ (x : Cause). HasBegunAt (InSecond c.requires.begun.0) x c.args.self.now) c.in-First.is c.requires.begun.1

pub unreachable-requires-in-Elsewhere : goal.unreachable-requires-in-Elsewhere
unreachable-requires-in-Elsewhere g c =
    subst (λ (x : Cause). HasBegunAt (InSecond c.requires.begun.0) x c.args.self.now) c.in-Elsewhere.is
    c.requires.begun.1
