use Rattle.std.proofs.Common.{◌<◌, ◌^◌, ◌∙◌, ap, sym, subst}
use Rattle.rob_table.proofs.Places.{read_at}
use Rattle.rob_simplex.specs.Dictionaries.{Table, positions, columns_of}
use Rattle.rob_simplex.proofs.Places.ColumnLemmas.{basic_few}
use Rattle.rob_simplex.proofs.dictionary.Dictionary.basic.Goals as goal

pub returns-clause-column : goal.returns-clause-column
returns-clause-column g c =
    let il = subst (λ (t : Table). c.args.i < positions t) (sym c.self.view_is) c.requires.inside in
    read_at c.self.inside.basis.items c.args.i c.index.result.now il c.index.ensures
    ∙ ap (λ (t : Table). columns_of t.basis c.args.i) c.self.view_is

pub returns-clause-few : goal.returns-clause-few
returns-clause-few g c =
    let il = subst (λ (t : Table). c.args.i < positions t) (sym c.self.view_is) c.requires.inside in
    subst (λ k. k < 2 ^ 32) (sym (read_at c.self.inside.basis.items c.args.i c.index.result.now il c.index.ensures))
    (basic_few c.self.invariant c.args.i il)
