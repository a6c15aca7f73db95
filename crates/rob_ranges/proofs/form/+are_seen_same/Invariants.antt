use Rattle.std.proofs.Common.{length}
use Rattle.rob_ranges.proofs.form.+are_seen_same.Given as goal

abbrev pub decreases-are_seen_same : goal.decreases-are_seen_same
decreases-are_seen_same l = length l.a.now
