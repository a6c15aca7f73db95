use Rattle.std.proofs.Common.{◌≡◌, ℕ, ◌-◌, ◌≤◌, List, ◌++◌, length, take, drop}
use Rattle.rob_tree.specs.Reading.{IsCertificatePart, line_ends}
use Rattle.rob_tree.proofs.part.certificate_part.Given as goal

-- the lines so far, with those that come, are the certificate's
abbrev pub invariant-loop-split : goal.invariant-loop-split
invariant-loop-split l = record {
  within : l.at ≤ length l.text;
  counted : l.count ≡ line_ends (take l.at l.text);
  goes_on : (more : List ℕ) → IsCertificatePart (drop l.at l.text) more
      → IsCertificatePart l.text (take l.at l.text ++ more);
}

abbrev pub decreases-loop-split : goal.decreases-loop-split
decreases-loop-split l = length l.text - l.at
