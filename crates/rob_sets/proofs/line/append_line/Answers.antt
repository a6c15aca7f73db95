use Rattle.std.proofs.Common.{arith, ap, sym, subst}
use Rattle.std.specs.Prelude.{◌≡◌, suc, length, ◌∷◌, [], map}
use Rattle.rob_meaning.specs.Forms.{difference, sides}
use Rattle.rob_meaning.specs.RobustModel.{Relation}
use Rattle.rob_meaning.specs.SetRows.{expression_row}
use Rattle.rob_model.specs.View.{robust, expression_of, relation_of}
use Rattle.rob_sets.specs.Appending.{Appends}
use Rattle.rob_sets.specs.SetForm.{judged_sides}
use Rattle.rob_sets.proofs.Judging.JudgedLemmas.{stops_left}
use Rattle.rob_sets.proofs.Judging.AppendingLemmas.{appended_length, appends_err, appends_then}
use Rattle.rob_sets.specs.SetForm.{RowFits, cleared_row}
use Rattle.rob_sets.proofs.line.append_line.Goals as goal

pub returns-in_err-append_side-in-Equal-clause-rows : goal.returns-in_err-append_side-in-Equal-clause-rows
returns-in_err-append_side-in-Equal-clause-rows g c =
    let value = g.N.Exact.value in
    let limit = g.N.Exact.limit in
    let m = robust value c.args.model.now in
    let l = expression_of value c.args.line.now.left.now in
    let r = expression_of value c.args.line.now.right.now in
    let second = difference r l ∷ [] in
    let n = length c.args.rows.now in
    let first = g.L.Ledger.wides c.args.ledger.now in
    subst (λ (x : Relation). Appends limit m (map (expression_row m) (sides x l r))
    (judged_sides m c.args.number n (sides x l r)) c.args.rows.now
    c.append_side-in-Equal.new.rows first (g.L.Ledger.wides c.append_side-in-Equal.new.ledger) c.from_residual.result)
    (sym (ap relation_of c.in-Equal.is))
    (appends_err (cleared_row m) (RowFits limit) (map (expression_row m) (difference l r ∷ second)) c.args.rows.now
    c.append_side-in-Equal.new.rows first
    c.from_residual.result
    (stops_left limit m (judged_sides m c.args.number n (difference l r ∷ []))
    (judged_sides m c.args.number (suc n) second)
    c.in_err-append_side-in-Equal.field-0.0 first first
    (g.L.Ledger.wides c.append_side-in-Equal.new.ledger) (omega arith)
    c.in_err-append_side-in-Equal.ensures.row)
    c.from_residual.ensures.1)

pub returns-in_ok-append_side-in-Equal-clause-rows : goal.returns-in_ok-append_side-in-Equal-clause-rows
returns-in_ok-append_side-in-Equal-clause-rows g c =
    let value = g.N.Exact.value in
    let limit = g.N.Exact.limit in
    let m = robust value c.args.model.now in
    let l = expression_of value c.args.line.now.left.now in
    let r = expression_of value c.args.line.now.right.now in
    let second = difference r l ∷ [] in
    let n = length c.args.rows.now in
    let rows = c.append_side-in-Equal.new.rows in
    let first = g.L.Ledger.wides c.args.ledger.now in
    let before = g.L.Ledger.wides c.append_side-in-Equal.new.ledger in
    let now = g.L.Ledger.wides c.append_side-in-Equal-2.new.ledger in
    let more : length rows ≡ suc n = omega (arith, appended_length c.in_ok-append_side-in-Equal.ensures.row) in
    subst (λ (x : Relation). Appends limit m (map (expression_row m) (sides x l r))
    (judged_sides m c.args.number n (sides x l r)) c.args.rows.now
    c.append_side-in-Equal-2.new.rows first now c.append_side-in-Equal-2.result)
    (sym (ap relation_of c.in-Equal.is))
    (appends_then (map (expression_row m) second) (judged_sides m c.args.number (suc n) second)
    c.append_side-in-Equal-2.new.rows first before now
    c.append_side-in-Equal-2.result c.in_ok-append_side-in-Equal.ensures.row
    c.append_side-in-Equal.ensures.counted.wides
    (subst (λ k. Appends limit m (map (expression_row m) second) (judged_sides m c.args.number k second) rows
    c.append_side-in-Equal-2.new.rows
    before now c.append_side-in-Equal-2.result) more c.append_side-in-Equal-2.ensures.row))
