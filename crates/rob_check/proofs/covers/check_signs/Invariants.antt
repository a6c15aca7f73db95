use Rattle.std.proofs.Common.{◌≡◌, map, drop}
use Rattle.rob_cert.specs.View.{cover_of}
use Rattle.rob_check.specs.Covers.{sign_test}
use Rattle.rob_check.specs.Verdicts.{verdict}
use Rattle.rob_check.specs.View.{covering_of}
use Rattle.rob_check.proofs.covers.check_signs.Given as goal

-- the signs so far are right, so the verdict is that on the multipliers that are left
abbrev pub invariant-loop-cover : goal.invariant-loop-cover
invariant-loop-cover g l =
    let value = g.N.Exact.value in
    verdict (map (sign_test (covering_of value l.covering) l.index) (map (cover_of value) (drop l.cover-index l.mine)))
    ≡ verdict (map (sign_test (covering_of value l.covering) l.index) (map (cover_of value) l.mine))
