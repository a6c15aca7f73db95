use Rattle.std.proofs.Common.{◌<◌, map, length, arith}
use Rattle.std.proofs.lemmas.List.{length-map}
use Rattle.rob_cells.proofs.CellLemmas.{sides_more}
use Rattle.rob_cells.specs.View.{cut_of}
use Rattle.rob_model.specs.View.{parameter_of, robust, set_line_of}
use Rattle.rob_pieces.specs.Cuts.{Cut}
use Rattle.rob_cells.proofs.lines.append_sides.Goals as goal
use Rattle.rob_meaning.proofs.Lists.EachLemmas.{each_get}

pub side_line-requires-clause-inside : goal.side_line-requires-clause-inside
side_line-requires-clause-inside g c =
    let value = g.N.Exact.value in
    let inside : c.index-cuts-j.result.param < length (map (parameter_of value) c.args.model.now.params)
    = each_get (λ (cut : Cut). cut.parameter < length (map (parameter_of value) c.args.model.now.params)) (cut_of value)
    c.args.cuts.now c.loop-j.j c.index-cuts-j.result c.loop-j-test.true c.index-cuts-j.is c.requires.cuts in
    omega (arith, inside, length-map c.args.model.now.params (parameter_of value))

pub loop-j-preserved : goal.loop-j-preserved
loop-j-preserved g c =
    let value = g.N.Exact.value in
    sides_more (set_line_of value) (cut_of value) (robust value c.args.model.now) c.args.c c.args.cuts.now _ c.loop-j.j
    c.index-cuts-j.result c.in_ok-next.next c.loop-j.list c.push.new.self c.bit-bit.result
    c.loop-j-test.true c.index-cuts-j.is c.bit-bit.ensures.bit c.in_ok-next.ensures.side
    c.in_ok-push.ensures.appended c.loop-j.invariant
