use Rattle.std.proofs.Common.{List, ap, sym, ◌∙◌, refl}
use Rattle.std.specs.Cmp.Lexicographic.{other_text, same_text}
use Rattle.std.specs.Prelude.{slice_index_or}
use Rattle.rob_cert.specs.Spelling.{name_at}
use Rattle.rob_meaning.specs.Names.{Name}
use Rattle.rob_tree.proofs.Numbers.NamedLemmas.{none_more, number_in}
use Rattle.rob_tree.proofs.nodes.find_named.Goals as goal

pub returns-then-eq : goal.returns-then-eq
returns-then-eq c =
    let j = slice_index_or c.args.named.now c.loop-column.column-index 0 in
    record {
      found = (
        number_in c.args.names.now.columns c.args.name.now c.args.named.now c.loop-column.column-index j 0
            c.loop-column-test.true refl,
        sym (same_text c.name_in.result.now c.args.name.now c.if-eq.ensures) ∙ c.name_in.ensures.name
            ∙ ap (λ (names : List Name). name_at names j) c.items.ensures.list,
      );
    }

pub loop-column-preserved : goal.loop-column-preserved
loop-column-preserved c =
    let j = slice_index_or c.args.named.now c.loop-column.column-index 0 in
    none_more c.args.names.now.columns c.args.name.now c.args.named.now c.loop-column.column-index j 0
    c.loop-column-test.true refl
    (λ e. other_text c.name_in.result.now c.args.name.now c.if-eq.ensures
    (c.name_in.ensures.name ∙ ap (λ (names : List Name). name_at names j) c.items.ensures.list ∙ e))
    c.loop-column.invariant
