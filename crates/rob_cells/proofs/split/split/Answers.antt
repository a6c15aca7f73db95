use Rattle.std.proofs.Common.{◌≡◌, ◌+◌, map, ap, ◌∙◌, arith, suc}
use Rattle.rob_cells.proofs.BuildingLemmas.{next_cell}
use Rattle.rob_cells.specs.Building.{split_over, with_cell}
use Rattle.rob_cells.specs.View.{cut_of}
use Rattle.rob_meaning.specs.Places.{tabulate}
use Rattle.rob_model.specs.View.{robust}
use Rattle.rob_cells.proofs.split.split.Goals as goal

pub loop-i-preserved : goal.loop-i-preserved
loop-i-preserved g c =
    let value = g.N.Exact.value in
    let m = robust value c.args.model.now in
    let cuts = map (cut_of value) c.args.cuts.now in
    c.in_ok-add_cell.ensures.added ∙ ap (with_cell m cuts (c.loop-i.i + 1)) c.loop-i.invariant
    ∙ next_cell m cuts c.loop-i.i

pub returns : goal.returns
returns g c =
    let value = g.N.Exact.value in
    let m = robust value c.args.model.now in
    let cuts = map (cut_of value) c.args.cuts.now in
    record {
      split = c.loop-i.invariant
          ∙ ap (λ k. split_over m cuts (tabulate k suc))
          (let e : c.loop-i.i ≡ c.cell_count-i-end.result = omega arith in e ∙ c.cell_count-i-end.ensures.count);
    }
