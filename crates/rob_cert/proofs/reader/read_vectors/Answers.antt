use Rattle.std.proofs.Common.{map, ◌++◌}
use Rattle.std.proofs.lemmas.Result.{err_from_is_err_and}
use Rattle.rob_cert.specs.declared.kind.Vector.TheVariants.{Inside, Plan, Move}
use Rattle.rob_cert.specs.Lines.{entry_lines}
use Rattle.rob_cert.specs.NamesView.{naming}
use Rattle.rob_cert.specs.View.{status_of}
use Rattle.rob_cert.proofs.Readers.WholeLemmas.{then_fails, then_extends}
use Rattle.rob_cert.proofs.reader.read_vectors.Goals as goal

pub returns-in_err-inside-clause-fault : goal.returns-in_err-inside-clause-fault
returns-in_err-inside-clause-fault g c =
    let p = err_from_is_err_and c.from_residual.result c.from_residual.ensures.1 in
    rw (p.1, p.2) c.in_err-inside.ensures.fault

pub returns-in_err-plan-clause-fault : goal.returns-in_err-plan-clause-fault
returns-in_err-plan-clause-fault g c =
    let p = err_from_is_err_and c.from_residual-in_err-plan.result c.from_residual-in_err-plan.ensures.1 in
    rw (p.1, p.2)
    (then_fails (naming c.args.names.now) g.N.Exact.limit (status_of c.args.status) 3 4 c.args.at.rest.now
    c.args.at.line (entry_lines Inside 0 (map g.N.Exact.value c.in_ok-inside.inside.numbers.items))
    c.in_ok-inside.inside.at.rest.now c.in_ok-inside.inside.at.line c.in_err-plan.field-0.0
    c.in_ok-inside.ensures.read c.in_err-plan.ensures.fault)

pub returns-in_err-moved-clause-fault : goal.returns-in_err-moved-clause-fault
returns-in_err-moved-clause-fault g c =
    let names = naming c.args.names.now in
    let s = status_of c.args.status in
    let inside = entry_lines Inside 0 (map g.N.Exact.value c.in_ok-inside.inside.numbers.items) in
    let plan = entry_lines Plan 0 (map g.N.Exact.value c.in_ok-plan.plan.numbers.items) in
    let p = err_from_is_err_and c.from_residual-in_err-moved.result c.from_residual-in_err-moved.ensures.1 in
    rw (p.1, p.2)
    (then_fails names g.N.Exact.limit s 3 5 c.args.at.rest.now c.args.at.line (inside ++ plan)
    c.in_ok-plan.plan.at.rest.now c.in_ok-plan.plan.at.line c.in_err-moved.field-0.0
    (then_extends names g.N.Exact.limit s 3 4 5 c.args.at.rest.now c.args.at.line inside
    c.in_ok-inside.inside.at.rest.now c.in_ok-inside.inside.at.line plan c.in_ok-plan.plan.at.rest.now
    c.in_ok-plan.plan.at.line c.in_ok-inside.ensures.read c.in_ok-plan.ensures.read)
    c.in_err-moved.ensures.fault)

pub returns-clause-read : goal.returns-clause-read
returns-clause-read g c =
    let names = naming c.args.names.now in
    let s = status_of c.args.status in
    let inside = entry_lines Inside 0 (map g.N.Exact.value c.in_ok-inside.inside.numbers.items) in
    let plan = entry_lines Plan 0 (map g.N.Exact.value c.in_ok-plan.plan.numbers.items) in
    let moved = entry_lines Move 0 (map g.N.Exact.value c.in_ok-moved.moved.numbers.items) in
    then_extends names g.N.Exact.limit s 3 4 6 c.args.at.rest.now c.args.at.line inside
    c.in_ok-inside.inside.at.rest.now c.in_ok-inside.inside.at.line (plan ++ moved) c.in_ok-moved.moved.at.rest.now
    c.in_ok-moved.moved.at.line c.in_ok-inside.ensures.read
    (then_extends names g.N.Exact.limit s 4 5 6 c.in_ok-inside.inside.at.rest.now c.in_ok-inside.inside.at.line plan
    c.in_ok-plan.plan.at.rest.now c.in_ok-plan.plan.at.line moved c.in_ok-moved.moved.at.rest.now
    c.in_ok-moved.moved.at.line c.in_ok-plan.ensures.read c.in_ok-moved.ensures.read)
