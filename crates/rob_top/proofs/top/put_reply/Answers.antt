use Rattle.std.proofs.Common.{List, ℕ, subst}
use Rattle.rob_outside.specs.Puts.{PutAll}
use Rattle.rob_outside.specs.Taken.{Took}
use Rattle.rob_top.specs.Lines.{text_lines}
use Rattle.rob_top.proofs.Ending.EndsLemmas.{ends_whole}
use Rattle.rob_top.proofs.top.put_reply.Goals as goal

pub returns-in-Ok-clause-ends : goal.returns-in-Ok-clause-ends
returns-in-Ok-clause-ends g c = λ call means.
    ends_whole call _ _ _ means
    (subst (λ (text : List ℕ). Took (g.K.Sink.taken c.args.out.now) (g.K.Sink.taken c.put_lines.new.out) text)
    c.bytes.ensures.list c.in-Ok.ensures.took)
    (subst (λ (text : List ℕ).
    PutAll (g.K.Sink.puts c.args.out.now) (g.K.Sink.puts c.put_lines.new.out) (text_lines text))
    c.bytes.ensures.list c.in-Ok.ensures.puts)
