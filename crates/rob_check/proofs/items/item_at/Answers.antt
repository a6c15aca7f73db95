use Rattle.std.proofs.lemmas.Result.{err_from_is_err_and}
use Rattle.std.proofs.Common.{◌≡◌, ℤ, List, suc, length, get_or, ap, subst, sym, ◌∙◌}
use Rattle.std.proofs.lemmas.List.{length-map}
use Rattle.rob_check.proofs.ItemLemmas.{item_stops, item_goes}
use Rattle.rob_check.proofs.items.item_at.Goals as goal
use Rattle.rob_meaning.proofs.Tables.MatrixLemmas.{matrix_is}

pub cut_at-requires-clause-rows : goal.cut_at-requires-clause-rows
cut_at-requires-clause-rows g c =
    ap length (c.items-2.ensures.list
    ∙ sym (matrix_is c.args.forms.now.matrices c.args.item.now.form c.index-items-item.result c.requires.form.form
    (subst (λ (forms : List (List (List ℤ))). c.index-items-item.result
    ≡ get_or forms c.args.item.now.form c.index-items-item.result) c.items.ensures.list c.index-items-item.is)))
    ∙ c.requires.form.rows
    ∙ ap suc (length-map c.args.item.now.vector g.N.Exact.value ∙ ap length (sym c.items-3.ensures.list))

pub returns-in_err-cut-clause-exact : goal.returns-in_err-cut-clause-exact
returns-in_err-cut-clause-exact g c =
    let value = g.N.Exact.value in
    let p = err_from_is_err_and c.from_residual.result c.from_residual.ensures.1 in
    rw p.1 (item_stops value g.N.Exact.limit c.args.forms.now.matrices c.args.column c.args.item.now
    c.index-items-item.result c.items-2.result.now c.requires.form.form
    (subst (λ (forms : List (List (List ℤ))). c.index-items-item.result
    ≡ get_or forms c.args.item.now.form c.index-items-item.result) c.items.ensures.list c.index-items-item.is)
    c.items-2.ensures.list c.items-3.result.now c.items-3.ensures.list c.in_err-cut.ensures.exact)

pub returns-clause-exact : goal.returns-clause-exact
returns-clause-exact g c =
    let value = g.N.Exact.value in
    item_goes value g.N.Exact.limit c.args.forms.now.matrices c.args.column c.args.item.now c.index-items-item.result
    c.items-2.result.now c.requires.form.form
    (subst (λ (forms : List (List (List ℤ))). c.index-items-item.result
    ≡ get_or forms c.args.item.now.form c.index-items-item.result) c.items.ensures.list c.index-items-item.is)
    c.items-2.ensures.list c.items-3.result.now c.items-3.ensures.list (value c.in_ok-cut.cut) _
    c.in_ok-cut.ensures.exact c.mul.ensures.exact
