use Rattle.std.proofs.Common.{arith, ap, ◌∙◌, map}
use Rattle.csv.specs.Records.{fields_of}
use Rattle.rob_replay.proofs.RowLemmas.{kept_full, kept_room}
use Rattle.rob_replay.proofs.rows.keep.Goals as goal

pub returns-in_ok-push : goal.returns-in_ok-push
returns-in_ok-push c = record {
  kept = λ more h. ap (map fields_of) c.in_ok-push.ensures.items
      ∙ kept_room fields_of 10002 c.args.rows.now.items c.args.row more h
      (omega (arith, c.if-len-lt-ROOM.true, c.len.ensures));
}

pub returns-else-len-lt-ROOM : goal.returns-else-len-lt-ROOM
returns-else-len-lt-ROOM c = record {
  kept = λ more h. kept_full fields_of 10002 c.args.rows.now.items c.args.row more h
      (omega (arith, c.if-len-lt-ROOM.false, c.len.ensures));
}
