use Rattle.std.proofs.Common.{arith, ap, sym, ◌∙◌, [], ◌∷◌, Some}
use Rattle.rob_meaning.specs.Names.{Name}
use Rattle.rob_meaning.specs.RobustModel.{Parameter}
use Rattle.rob_model.specs.View.{parameter_of}
use Rattle.rob_model.proofs.PlaceLemmas.{mapped, mapped_length}
use Rattle.rob_model.specs.declared.model.Param.{Param}
use Rattle.rob_model.proofs.groups.parameter_group.Goals as goal

pub returns : goal.returns
returns g c =
    let value = g.N.Exact.value in
    let count = mapped_length (parameter_of value) (λ (d : Parameter). d.name ∷ []) _ _ c.items.ensures.list in
    record {
      group = mapped (parameter_of value) (λ (d : Parameter). d.name ∷ []) _ _ c.items.ensures.list c.args.i
          (omega (arith, c.requires.inside, count)) _ c.index-items-i.is
          ∙ ap (λ (name : Name). Some (name ∷ []))
          (ap (λ (x : Param g.row.N.Denot). x.name) c.index-items-i.is ∙ sym c.bytes.ensures.list);
    }
