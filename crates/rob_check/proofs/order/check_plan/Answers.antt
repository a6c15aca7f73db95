use Rattle.std.proofs.Common.{ap, sym, subst, length, map, refl, ◌∙◌, List}
use Rattle.rob_cert.specs.View.{certificate_of, cover_of}
use Rattle.rob_cert.specs.declared.certificate.Cover as program
use Rattle.rob_meaning.specs.Places.{1ℚ}
use Rattle.rob_model.specs.View.{robust}
use Rattle.rob_check.specs.Conditions.{plan_covering}
use Rattle.rob_check.specs.View.{AreOrdered}
use Rattle.rob_check.specs.declared.covering.Covered.TheVariants.{Plan}
use Rattle.rob_check.proofs.GivenLemmas.{each_columns, few_columns, few_forms, ordered}
use Rattle.rob_check.proofs.OrderLemmas.{covers_are, same_covering}
use Rattle.rob_check.proofs.order.check_plan.Goals as goal

pub check_covers-requires : goal.check_covers-requires
check_covers-requires g c =
    let value = g.N.Exact.value in
    let m = robust value c.args.given.model.now in
    let given = c.requires.given in
    record {
      fits = given.forms_fit;
      columns = each_columns m c.args.given.forms.now given.are_forms (length c.items.result.now)
          (ap length c.items.ensures.list ∙ c.requires.columns);
      set_fits = given.set_fits;
      covers = subst (λ (cs : List (program.Cover g.row.N.Denot)).
          AreOrdered (length c.args.given.set.now.rows) (map (cover_of value) cs)) (sym c.items-2.ensures.list)
          (ordered m c.args.given.set.now given.is_set (map (cover_of value) c.args.given.cert.now.covers)
          given.shape.covers);
      few = few_columns m c.args.given.set.now given.is_set given.valid.limits;
      few_forms = few_forms m c.args.given.forms.now given.are_forms given.valid.limits;
    }

pub returns-clause-exact : goal.returns-clause-exact
returns-clause-exact g c =
    let value = g.N.Exact.value in
    let m = robust value c.args.given.model.now in
    let given = c.requires.given in
    let cert = c.args.given.cert.now in
    covers_are value g.N.Exact.limit m c.args.given.forms.now given.are_forms c.args.given.set.now given.is_set _
    (plan_covering (certificate_of value cert)) _
    (same_covering value Plan (value cert.scale) (value cert.scale) (value c.one-first.result) 1ℚ (value cert.value)
    c.items.result.now cert.plan c.items-2.result.now cert.covers
    refl c.one-first.ensures.value c.items.ensures.list c.items-2.ensures.list)
    c.check_covers.ensures.exact
