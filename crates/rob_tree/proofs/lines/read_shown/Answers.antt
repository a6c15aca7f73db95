use Rattle.std.proofs.Common.{◌<◌, ◌^◌, arith}
use Rattle.std.specs.Prelude.{nat_abs}
use mir.Val.{to_z, of_z}
use Rattle.std.proofs.Common.{w64}
use Rattle.rob_cert.specs.View.{status_of}
use Rattle.rob_number.proofs.CastLemmas.{seen}
use Rattle.rob_tree.proofs.Readers.LineLemmas.{best_cause, best_missing, best_read}
use Rattle.rob_tree.proofs.lines.read_shown.Goals as goal

pub returns-in-None-clause-shown : goal.returns-in-None-clause-shown
returns-in-None-clause-shown g c = record {
  has = c.requires.has;
  cause = best_missing c.args.text.now c.in-None.ensures.cut;
}

pub returns-in-Err-clause-shown : goal.returns-in-Err-clause-shown
returns-in-Err-clause-shown g c = record {
  has = c.requires.has;
  cause = best_cause c.args.text.now c.in-Some.split.front.now c.in-Some.split.back.now c.in-Err.offence
      c.in-Some.ensures.cut.0 c.in-Some.ensures.cut.1 c.in-Err.ensures.best;
}

pub returns-in-Ok-clause-shown : goal.returns-in-Ok-clause-shown
returns-in-Ok-clause-shown g c =
    let small : nat_abs c.in-Ok.best < 2 ^ 62 = omega (arith, c.in-Ok.ensures.best.0) in
    best_read (status_of c.args.status) c.requires.has c.args.text.now c.in-Some.split.front.now
    c.in-Some.split.back.now
    c.in-Ok.best (to_z w64 (of_z w64 c.in-Ok.best)) (seen c.in-Ok.best small) c.in-Some.ensures.cut.0
    c.in-Ok.ensures.best.0 c.in-Ok.ensures.best.1
