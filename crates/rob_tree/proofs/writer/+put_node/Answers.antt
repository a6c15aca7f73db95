use Rattle.rob_reach.specs.Trees.{Node}
use Rattle.std.proofs.Common.{◌≡◌, ℕ, List, rules, ◌<◌, ◌^◌, [], ◌∷◌, ◌++◌, codes, nat_abs, ap, sym, ◌∙◌, subst, arith}
use Rattle.std.specs.Fmt.{signed_decimal}
use Rattle.std.proofs.lemmas.Result.{on_ok_weaker}
use Rattle.rob_cert.specs.Spelling.{name_at, naming_of, spaced}
use Rattle.rob_cert.specs.View.{certificate_of}
use Rattle.rob_meaning.specs.Names.{column_names}
use Rattle.rob_model.specs.View.{robust}
use Rattle.rob_number.proofs.CastLemmas.{seen}
use Rattle.rob_tree.proofs.Writing.TreeWriterLemmas.{leaf_text, split_text}
use Rattle.rob_tree.specs.TreeText.{IsSpelledWith, pieces, pieces_text}
use Rattle.rob_tree.specs.View.{node_of}
use Rattle.rob_tree.proofs.writer.+put_node.Goals as goal

pub returns-in-Leaf : goal.returns-in-Leaf
returns-in-Leaf g t c =
    let value = g.N.Exact.value in
    let m = robust value c.args.model.now in
    record {
      appended = on_ok_weaker c.put_leaf.result
          (λ last. last ∙ ap (λ l. c.args.out.now ++ l) (leaf_text m (certificate_of value c.in-Leaf.cert)
          ∙ ap (λ n. pieces_text (naming_of m) (pieces (node_of value n))) (sym c.in-Leaf.is)))
          c.put_leaf.ensures.appended;
    }

pub returns-in_ok-put_node-in-Split : goal.returns-in_ok-put_node-in-Split
returns-in_ok-put_node-in-Split g t c =
    let value = g.N.Exact.value in
    let limit = g.N.Exact.limit in
    let m = robust value c.args.model.now in
    let within = (subst (λ n. IsSpelledWith limit m (node_of value n)) c.in-Split.is c.requires.spelled).1 in
    let small : nat_abs c.in-Split.k < 2 ^ 62 = omega (arith, within, g.met.N.Exact.limit_high) in
    let text : Node → List ℕ = λ n. pieces_text (naming_of m) (pieces n) in
    let first : c.deref.result.now ≡ c.in-Split.below.value = search rules in
    let second : c.deref-in-Split.result.now ≡ c.in-Split.above.value = search rules in
    record {
      appended = on_ok_weaker c.put_node-in-Split.result
          (λ last. split_text m c.in-Split.column c.in-Split.k (node_of value c.in-Split.below.value)
          (node_of value c.in-Split.above.value)
          c.args.out.now _ _ _
          (c.in_ok-put_branch-in-Split.ensures.appended
          ∙ ap (λ z. c.args.out.now
          ++ spaced (codes "branch" ∷ (name_at (column_names m) c.in-Split.column ∷ (signed_decimal z ∷ []))))
          (seen c.in-Split.k small))
          (c.in_ok-put_node-in-Split.ensures.appended ∙ ap (λ n. c.put_branch.new.out ++ text (node_of value n)) first)
          (last ∙ ap (λ n. c.put_node.new.out ++ text (node_of value n)) second)
          ∙ ap (λ n. c.args.out.now ++ pieces_text (naming_of m) (pieces (node_of value n))) (sym c.in-Split.is))
          c.put_node-in-Split.ensures.appended;
    }
