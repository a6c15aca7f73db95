use Rattle.std.proofs.Common.{arith, ap, sym, subst}
use Rattle.std.specs.Prelude.{length, ◌∷◌, []}
use Rattle.rob_meaning.specs.Forms.{difference, sides}
use Rattle.rob_meaning.specs.RobustModel.{Relation}
use Rattle.rob_model.specs.View.{robust, expression_of, relation_of}
use Rattle.rob_sets.proofs.Cells.PartedLemmas.{parted}
use Rattle.rob_sets.proofs.Judging.ProgressLemmas.{begins}
use Rattle.rob_elab.specs.Appending.{Appends}
use Rattle.rob_elab.proofs.AppendLemmas.{FormProgress, forms_end_with, forms_go_on, forms_stop}
use Rattle.rob_elab.proofs.rows.append_sides.Goals as goal

pub returns-in_err-append_difference-in-Equal-clause-forms : goal.returns-in_err-append_difference-in-Equal-clause-forms
returns-in_err-append_difference-in-Equal-clause-forms g c =
    let value = g.N.Exact.value in
    let m = robust value c.args.model.now in
    let l = expression_of value c.args.row.now.left in
    let r = expression_of value c.args.row.now.right in
    let old = c.args.matrices.now in
    let all = difference l r ∷ (difference r l ∷ []) in
    let start : FormProgress g.N.Exact.limit m all all old old = begins old in
    subst (λ (x : Relation). Appends g.N.Exact.limit m (length old) (sides x l r) old
    c.append_difference-in-Equal.new.matrices
    (g.L.Ledger.wides c.args.ledger.now)
    (g.L.Ledger.wides c.append_difference-in-Equal.new.ledger) c.from_residual.result)
    (sym (ap relation_of c.in-Equal.is))
    (forms_stop start c.append_difference-in-Equal.new.matrices (g.L.Ledger.wides c.args.ledger.now)
    c.from_residual.result (parted (difference l r ∷ []) (difference r l ∷ [])) (omega arith)
    c.in_err-append_difference-in-Equal.ensures.form c.from_residual.ensures.1)

pub returns-in_ok-append_difference-in-Equal-clause-forms : goal.returns-in_ok-append_difference-in-Equal-clause-forms
returns-in_ok-append_difference-in-Equal-clause-forms g c =
    let value = g.N.Exact.value in
    let m = robust value c.args.model.now in
    let l = expression_of value c.args.row.now.left in
    let r = expression_of value c.args.row.now.right in
    let old = c.args.matrices.now in
    let all = difference l r ∷ (difference r l ∷ []) in
    let start : FormProgress g.N.Exact.limit m all all old old = begins old in
    subst (λ (x : Relation). Appends g.N.Exact.limit m (length old) (sides x l r) old
    c.append_difference-in-Equal-2.new.matrices
    (g.L.Ledger.wides c.args.ledger.now) (g.L.Ledger.wides c.append_difference-in-Equal-2.new.ledger)
    c.append_difference-in-Equal-2.result)
    (sym (ap relation_of c.in-Equal.is))
    (forms_end_with
    (forms_go_on start (parted (difference l r ∷ []) (difference r l ∷ []))
    c.in_ok-append_difference-in-Equal.ensures.form)
    c.append_difference-in-Equal-2.new.matrices (g.L.Ledger.wides c.args.ledger.now)
    (g.L.Ledger.wides c.append_difference-in-Equal.new.ledger)
    (g.L.Ledger.wides c.append_difference-in-Equal-2.new.ledger) c.append_difference-in-Equal-2.result
    c.append_difference-in-Equal.ensures.counted.wides c.append_difference-in-Equal-2.ensures.form)
