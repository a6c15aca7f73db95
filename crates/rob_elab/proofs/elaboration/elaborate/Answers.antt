use Rattle.std.proofs.Common.{ap, sym, ◌∙◌}
use Rattle.std.proofs.lemmas.List.{length-map}
use Rattle.std.specs.Prelude.{length, refl}
use Rattle.rob_meaning.proofs.Naming.NameLemmas.{length-column_names}
use Rattle.rob_model.specs.View.{parameter_of, robust}
use Rattle.rob_elab.proofs.elaboration.elaborate.Goals as goal

pub returns-clause-forms : goal.returns-clause-forms
returns-clause-forms g c = record {
  columns = c.column_count.ensures.count ∙ length-column_names (robust g.N.Exact.value c.args.model.now);
  params = ap length c.items.ensures.list
      ∙ sym (length-map c.args.model.now.params (parameter_of g.N.Exact.value));
  sense = refl;
  matrices = c.in_ok-append_forms.ensures.forms.appended;
}
