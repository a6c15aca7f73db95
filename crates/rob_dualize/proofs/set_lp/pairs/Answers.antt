use Rattle.std.proofs.Common.{◌<◌, ◌^◌, arith, get_or, to_z, of_z, w64}
use lib.IntN.{pos, ◌-ℤ◌, nat_abs}
use Rattle.rob_meaning.proofs.Lists.EachLemmas.{each_at}
use Rattle.rob_number.proofs.CastLemmas.{seen, negated_seen}
use Rattle.rob_dualize.proofs.SetProgramLemmas.{pairs_more}
use Rattle.rob_dualize.proofs.set_lp.pairs.Goals as goal

pub loop-number-preserved : goal.loop-number-preserved
loop-number-preserved c =
    let xs = c.args.numbers.now in
    let i = c.loop-number.number-index in
    let small : nat_abs (get_or xs i (pos 0)) < 2 ^ 62 =
    each_at (λ a. nat_abs a < 2 ^ 62) xs c.requires.fits i (pos 0) (omega arith) in
    pairs_more xs i c.loop-number.list c.push.new.self c.push-in-loop-number.new.self
    (to_z w64 (of_z w64 (get_or xs i (pos 0))))
    (to_z w64 (of_z w64 (pos 0 -ℤ to_z w64 (of_z w64 (get_or xs i (pos 0)))))) (omega arith)
    (seen (get_or xs i (pos 0)) small) (negated_seen (get_or xs i (pos 0)) small)
    c.loop-number.invariant c.in_ok-push.ensures.appended c.in_ok-push-2.ensures.appended
