use Rattle.std.proofs.Common.{◌≡◌, map, sym, subst}
use Rattle.std.proofs.lemmas.Result.{err_from_is_err_and}
use Rattle.rob_cert.specs.Lines.{lines_of}
use Rattle.rob_cert.specs.Spelling.{lines_text}
use Rattle.rob_meaning.specs.Certificates.{Certificate}
use Rattle.rob_cert.specs.NamesView.{naming}
use Rattle.rob_cert.specs.View.{cover_of, item_of, status_of}
use Rattle.rob_cert.proofs.Readers.WholeLemmas.{whole_text}
use Rattle.rob_cert.proofs.reader.read_text.Goals as goal

pub returns-in_err-front-clause-fault : goal.returns-in_err-front-clause-fault
returns-in_err-front-clause-fault g c =
    let p = err_from_is_err_and c.from_residual.result c.from_residual.ensures.1 in
    rw (p.1, p.2) (c.in_err-front.ensures.fault (naming c.args.names.now))

pub returns-in_err-vectors-clause-fault : goal.returns-in_err-vectors-clause-fault
returns-in_err-vectors-clause-fault g c =
    let p = err_from_is_err_and c.from_residual-in_err-vectors.result c.from_residual-in_err-vectors.ensures.1 in
    rw (p.1, p.2)
    (c.in_err-vectors.ensures.fault c.args.text.now _ (c.in_ok-front.ensures.read (naming c.args.names.now)))

pub returns-in_err-lists-clause-fault : goal.returns-in_err-lists-clause-fault
returns-in_err-lists-clause-fault g c =
    let p = err_from_is_err_and c.from_residual-in_err-lists.result c.from_residual-in_err-lists.ensures.1 in
    rw (p.1, p.2)
    (c.in_err-lists.ensures.fault c.args.text.now _
    (c.in_ok-vectors.ensures.read c.args.text.now _ (c.in_ok-front.ensures.read (naming c.args.names.now))))

pub returns-clause-read : goal.returns-clause-read
returns-clause-read g c =
    let names = naming c.args.names.now in
    let value = g.N.Exact.value in
    let d : Certificate = record {
      status = status_of c.in_ok-front.front.status;
      value = value c.in_ok-front.front.value;
      scale = value c.in_ok-front.front.scale;
      inside = map value c.in_ok-vectors.vectors.inside.items;
      plan = map value c.in_ok-vectors.vectors.plan.items;
      step = map value c.split_bound-direction.result.step.items;
      step_bound = value c.split_bound-direction.result.bound;
      covers = map (cover_of value) c.in_ok-lists.lists.covers;
      holds = map (cover_of value) c.in_ok-lists.lists.holds;
      items = map (item_of value) c.in_ok-lists.lists.items;
    } in
    subst (λ (e : Certificate). c.args.text.now ≡ lines_text names (lines_of e)) (sym c.assemble.ensures.parts)
    (whole_text names g.N.Exact.limit c.args.text.now c.in_ok-front.front.at.rest.now c.in_ok-front.front.at.line d
    (map value c.in_ok-vectors.vectors.moved.items) c.in_ok-vectors.vectors.at.rest.now
    c.in_ok-vectors.vectors.at.line
    (c.in_ok-front.ensures.read names) c.in_ok-vectors.ensures.read c.in_ok-lists.ensures.read
    c.split_bound-direction.ensures.moved)
