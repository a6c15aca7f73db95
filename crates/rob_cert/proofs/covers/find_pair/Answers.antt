use Rattle.std.proofs.Common.{◌∙◌, sym, ap, length, subst, ◌<◌}
use Rattle.rob_cert.specs.NamesView.{naming}
use Rattle.rob_cert.specs.Spelling.{name_at}
use Rattle.rob_cert.proofs.Readers.CoverLemmas.{pair_missing}
use Rattle.rob_cert.proofs.covers.find_pair.Goals as goal

pub returns-in-None-find_from : goal.returns-in-None-find_from
returns-in-None-find_from c =
    let f = c.in-Some.ensures.found in
    let here = c.items.ensures.list in
    let rows = c.items-in-Some.ensures.list in
    record {
      found = pair_missing (naming c.args.names.now) c.args.form c.args.place c.args.form_name.now c.args.row_name.now
          c.in-Some.i c.least_row.result c.requires.distinct
          (subst (λ xs. c.in-Some.i < length xs) here f.1)
          (ap (λ xs. name_at xs c.in-Some.i) (sym here) ∙ f.2) c.least_row.ensures.row
          (λ r l m e. c.in-None-find_from.ensures.found r l (subst (λ xs. r < length xs) (sym rows) m)
          (ap (λ xs. name_at xs r) rows ∙ e));
    }
