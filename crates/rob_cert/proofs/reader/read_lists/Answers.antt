use Rattle.std.proofs.Common.{map}
use Rattle.std.proofs.lemmas.Result.{err_from_is_err_and}
use Rattle.rob_cert.specs.declared.kind.Multipliers.TheVariants.{Covers}
use Rattle.rob_cert.specs.Lines.{cover_lines}
use Rattle.rob_cert.specs.NamesView.{naming}
use Rattle.rob_cert.specs.View.{status_of, cover_of, item_of}
use Rattle.rob_cert.proofs.Readers.WholeLemmas.{then_fails, ends_with}
use Rattle.rob_cert.proofs.reader.read_lists.Goals as goal

pub returns-in_err-covers-clause-fault : goal.returns-in_err-covers-clause-fault
returns-in_err-covers-clause-fault g c =
    let p = err_from_is_err_and c.from_residual.result c.from_residual.ensures.1 in
    rw (p.1, p.2) c.in_err-covers.ensures.fault

pub returns-in_err-holds-clause-fault : goal.returns-in_err-holds-clause-fault
returns-in_err-holds-clause-fault g c =
    let p = err_from_is_err_and c.from_residual-in_err-holds.result c.from_residual-in_err-holds.ensures.1 in
    rw (p.1, p.2)
    (then_fails (naming c.args.names.now) g.N.Exact.limit (status_of c.args.status) 6 7 c.args.at.rest.now
    c.args.at.line (cover_lines Covers (map (cover_of g.N.Exact.value) c.in_ok-covers.covers.list))
    c.in_ok-covers.covers.at.rest.now c.in_ok-covers.covers.at.line c.in_err-holds.field-0.0
    c.in_ok-covers.ensures.read c.in_err-holds.ensures.fault)

pub returns-in_err-items-clause-fault : goal.returns-in_err-items-clause-fault
returns-in_err-items-clause-fault g c =
    let p = err_from_is_err_and c.from_residual-in_err-items.result c.from_residual-in_err-items.ensures.1 in
    rw (p.1, p.2) (λ text lines so.
    c.in_err-items.ensures.fault text _ (c.in_ok-holds.ensures.read text _ (c.in_ok-covers.ensures.read text lines so)))

pub returns-in_err-end_part-clause-fault : goal.returns-in_err-end_part-clause-fault
returns-in_err-end_part-clause-fault g c =
    let p = err_from_is_err_and c.from_residual-in_err-end_part.result c.from_residual-in_err-end_part.ensures.1 in
    rw (p.1, p.2) (λ text lines so.
    c.in_err-end_part.ensures.fault g.N.Exact.limit text _
    (c.in_ok-items.ensures.read text _
    (c.in_ok-holds.ensures.read text _ (c.in_ok-covers.ensures.read text lines so))))

pub returns-clause-read : goal.returns-clause-read
returns-clause-read g c =
    let value = g.N.Exact.value in
    ends_with (naming c.args.names.now) g.N.Exact.limit (status_of c.args.status) c.args.at.rest.now c.args.at.line
    (map (cover_of value) c.in_ok-covers.covers.list) c.in_ok-covers.covers.at.rest.now c.in_ok-covers.covers.at.line
    (map (cover_of value) c.in_ok-holds.holds.list) c.in_ok-holds.holds.at.rest.now
    c.in_ok-holds.holds.at.line
    (map (item_of value) c.in_ok-items.items.list) c.in_ok-items.items.at.rest.now
    c.in_ok-items.items.at.line
    c.in_ok-covers.ensures.read c.in_ok-holds.ensures.read c.in_ok-items.ensures.read c.in_ok-end_part.ensures.read
