-- So far it is the content of the entries before k.
use Rattle.std.proofs.Common.{◌≡◌, take}
use Rattle.rob_rows.specs.PrimitiveParts.{content, combination}
use Rattle.rob_rows.proofs.general.content_of.Given as goal

abbrev pub invariant-loop-k : goal.invariant-loop-k
invariant-loop-k l = l.common.value ≡ content (take l.k (combination l.fn.factors.p l.fn.top l.fn.factors.q l.fn.low))
