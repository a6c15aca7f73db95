use Rattle.std.proofs.Common.{map, sym, subst, ◌∙◌}
use Rattle.std.proofs.lemmas.Result.{IfErr-weaker, IfOk-weaker}
use Rattle.rob_cert.specs.Lines.{item_lines}
use Rattle.rob_cert.specs.NamesView.{naming}
use Rattle.rob_cert.specs.ReadSoFar.{Extends}
use Rattle.rob_cert.specs.View.{item_of, status_of}
use Rattle.rob_cert.proofs.Readers.EndLemmas.{items_part, unused_items}
use Rattle.rob_cert.proofs.Readers.PartLemmas as part
use Rattle.rob_cert.proofs.Readers.RankLemmas.{items_as_entries}
use Rattle.rob_cert.proofs.part.items_part.Goals as goal

pub returns-then-is_used-clause-read : goal.returns-then-is_used-clause-read
returns-then-is_used-clause-read g c =
    IfOk-weaker c.read_items.result _ _
    (λ r h. items_part (naming c.args.names.now) g.N.Exact.limit (status_of c.args.status) c.args.at.rest.now
    c.args.at.line (map (item_of g.N.Exact.value) r.list) r.at.rest.now r.at.line
    (items_as_entries (status_of c.args.status) ∙ sym c.is_used.ensures.used ∙ c.if-is_used.true) h)
    c.read_items.ensures.read

pub returns-then-is_used-clause-fault : goal.returns-then-is_used-clause-fault
returns-then-is_used-clause-fault g c =
    IfErr-weaker c.read_items.result _ _
    (λ e h. part.items_fails (naming c.args.names.now) g.N.Exact.limit (status_of c.args.status) c.args.at.rest.now
    c.args.at.line e (items_as_entries (status_of c.args.status)
    ∙ sym c.is_used.ensures.used ∙ c.if-is_used.true) h)
    c.read_items.ensures.fault

pub returns-else-is_used-clause-read : goal.returns-else-is_used-clause-read
returns-else-is_used-clause-read g c =
    subst (λ xs. Extends (naming c.args.names.now) g.N.Exact.limit (status_of c.args.status) 8 9
    c.args.at.rest.now c.args.at.line
    (item_lines (map (item_of g.N.Exact.value) xs)) c.args.at.rest.now c.args.at.line) (sym c.new.ensures.empty)
    (unused_items (naming c.args.names.now) g.N.Exact.limit (status_of c.args.status) c.args.at.rest.now c.args.at.line
    (items_as_entries (status_of c.args.status) ∙ sym c.is_used.ensures.used ∙ c.if-is_used.false))
