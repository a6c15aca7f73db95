use Rattle.std.proofs.Common.{map, sym, subst, ◌∙◌}
use Rattle.std.proofs.lemmas.Result.{IfErr-weaker, IfOk-weaker}
use Rattle.std.specs.Prelude.{suc}
use Rattle.rob_cert.specs.Lines.{cover_lines}
use Rattle.rob_cert.specs.NamesView.{naming}
use Rattle.rob_cert.specs.ReadSoFar.{Extends}
use Rattle.rob_cert.specs.Kinds.{multipliers, rank}
use Rattle.rob_cert.specs.View.{cover_of, status_of}
use Rattle.rob_cert.proofs.Readers.PartLemmas as part
use Rattle.rob_cert.proofs.Readers.RankLemmas.{low_multipliers, apart_multipliers}
use Rattle.rob_cert.proofs.part.covers_part.Goals as goal

pub returns-then-is_used-clause-read : goal.returns-then-is_used-clause-read
returns-then-is_used-clause-read g c =
    IfOk-weaker c.read_covers.result _ _
    (λ r h. part.covers_part (naming c.args.names.now) g.N.Exact.limit (status_of c.args.status) c.args.which
    c.args.at.rest.now c.args.at.line (map (cover_of g.N.Exact.value) r.list) r.at.rest.now r.at.line
    (low_multipliers c.args.which) (apart_multipliers c.args.which)
    (sym c.is_used.ensures.used ∙ c.if-is_used.true) h)
    c.read_covers.ensures.read

pub returns-then-is_used-clause-fault : goal.returns-then-is_used-clause-fault
returns-then-is_used-clause-fault g c =
    IfErr-weaker c.read_covers.result _ _
    (λ e h. part.covers_fails (naming c.args.names.now) g.N.Exact.limit (status_of c.args.status) c.args.which
    c.args.at.rest.now c.args.at.line e (sym c.is_used.ensures.used ∙ c.if-is_used.true) h)
    c.read_covers.ensures.fault

pub returns-else-is_used-clause-read : goal.returns-else-is_used-clause-read
returns-else-is_used-clause-read g c =
    subst (λ xs. Extends (naming c.args.names.now) g.N.Exact.limit (status_of c.args.status)
    (rank (multipliers c.args.which)) (suc (rank (multipliers c.args.which))) c.args.at.rest.now c.args.at.line
    (cover_lines c.args.which (map (cover_of g.N.Exact.value) xs)) c.args.at.rest.now c.args.at.line)
    (sym c.new.ensures.empty)
    (part.unused_part (naming c.args.names.now) g.N.Exact.limit (status_of c.args.status) (multipliers c.args.which)
    c.args.at.rest.now c.args.at.line (low_multipliers c.args.which) (apart_multipliers c.args.which)
    (sym c.is_used.ensures.used ∙ c.if-is_used.false))
