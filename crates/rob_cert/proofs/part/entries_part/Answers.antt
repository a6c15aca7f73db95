use Rattle.std.proofs.Common.{map, sym, subst, ◌∙◌}
use Rattle.std.proofs.lemmas.Result.{IfErr-weaker, IfOk-weaker}
use Rattle.std.specs.Prelude.{suc}
use Rattle.rob_cert.specs.Lines.{entry_lines}
use Rattle.rob_cert.specs.NamesView.{naming}
use Rattle.rob_cert.specs.ReadSoFar.{Extends}
use Rattle.rob_cert.specs.Kinds.{entries, rank}
use Rattle.rob_cert.specs.View.{status_of}
use Rattle.rob_cert.proofs.Readers.PartLemmas as part
use Rattle.rob_cert.proofs.Readers.RankLemmas.{low_entries}
use Rattle.rob_cert.proofs.part.entries_part.Goals as goal

pub returns-then-is_used-clause-read : goal.returns-then-is_used-clause-read
returns-then-is_used-clause-read g c =
    IfOk-weaker c.read_entries.result _ _
    (λ r h. part.entries_part (naming c.args.names.now) g.N.Exact.limit (status_of c.args.status) c.args.vector
    c.entry_count-count.result c.args.at.rest.now c.args.at.line
    (map g.N.Exact.value r.numbers.items) r.at.rest.now r.at.line
    (low_entries c.args.vector) c.requires.apart (sym c.is_used.ensures.used ∙ c.if-is_used.true) h)
    c.read_entries.ensures.read

pub returns-then-is_used-clause-fault : goal.returns-then-is_used-clause-fault
returns-then-is_used-clause-fault g c =
    IfErr-weaker c.read_entries.result _ _
    (λ e h. part.entries_fails (naming c.args.names.now) g.N.Exact.limit (status_of c.args.status) c.args.vector
    c.args.at.rest.now c.args.at.line e c.requires.apart (sym c.is_used.ensures.used ∙ c.if-is_used.true) h)
    c.read_entries.ensures.fault

pub returns-else-is_used-clause-read : goal.returns-else-is_used-clause-read
returns-else-is_used-clause-read g c =
    subst (λ xs. Extends (naming c.args.names.now) g.N.Exact.limit (status_of c.args.status)
    (rank (entries c.args.vector)) (suc (rank (entries c.args.vector))) c.args.at.rest.now c.args.at.line
    (entry_lines c.args.vector 0 (map g.N.Exact.value xs)) c.args.at.rest.now c.args.at.line) (sym c.new.ensures.items)
    (part.unused_part (naming c.args.names.now) g.N.Exact.limit (status_of c.args.status) (entries c.args.vector)
    c.args.at.rest.now c.args.at.line (low_entries c.args.vector) c.requires.apart
    (sym c.is_used.ensures.used ∙ c.if-is_used.false))
