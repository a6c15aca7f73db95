use Rattle.std.proofs.Common.{map, sym, subst}
use Rattle.rob_cert.specs.Entries.{IsZeroVector}
use Rattle.rob_cert.proofs.Readers.SectionLemmas.{zero_start, zero_more}
use Rattle.rob_cert.proofs.entries.zeros.Goals as goal

pub loop-k-init : goal.loop-k-init
loop-k-init g c = subst (λ xs. IsZeroVector 0 (map g.N.Exact.value xs)) (sym c.new-numbers.ensures.items) zero_start

pub loop-k-preserved : goal.loop-k-preserved
loop-k-preserved g c =
    zero_more g.N.Exact.value c.loop-k._k c.loop-k.numbers.items c.push.new.self.items c.zero-nothing.result
    c.in_ok-push.ensures.items c.zero-nothing.ensures.value c.loop-k.invariant
