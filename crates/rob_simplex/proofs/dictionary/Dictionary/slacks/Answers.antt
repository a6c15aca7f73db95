use Rattle.std.proofs.Common.{◌≡◌, ◌≤◌, ◌+◌, ◌∙◌, ap, sym, subst, arith, nat_abs, length, List}
use lib.IntN.{ℤ}
use Rattle.rob_linear.specs.Vectors.{at}
use Rattle.rob_table.proofs.RowMoves.{set_size}
use Rattle.rob_simplex.specs.Dictionaries.{Table, positions, rows_of}
use Rattle.rob_simplex.proofs.Telling.WeightLemmas.{slack_more}
use Rattle.rob_simplex.proofs.dictionary.Dictionary.slacks.Goals as goal

pub loop-i-preserved : goal.loop-i-preserved
loop-i-preserved g c =
    let en : c.self.inside.columns ≡ c.args.self.now.columns = ap (λ (t : Table). t.columns) c.self.view_is in
    let em : c.len-i-end.result ≡ positions c.args.self.now =
    c.len-i-end.ensures ∙ c.self.inside.basis.ok.0 ∙ ap (λ (t : Table). positions t) c.self.view_is in
    let es : length c.loop-i.weights ≡ length c.args.weights.now = c.loop-i.invariant.size in
    record {
      done = λ j l.
          subst (λ (w : List ℤ). (at w j ≡ rows_of c.args.self.now c.args.row (c.args.self.now.columns + j))
          × (nat_abs (at w j) ≤ c.args.self.now.limit)) (sym c.set.ensures.written)
          (slack_more c.loop-i.weights (λ j. rows_of c.args.self.now c.args.row (c.args.self.now.columns + j))
          c.loop-i.i c.args.self.now.limit (g.E.Entry.value c.entry.result)
          (omega (arith, es, em, c.requires.size, c.loop-i-test.true)) c.loop-i.invariant.done
          (c.entry.ensures.entry ∙ ap (λ k. rows_of c.args.self.now c.args.row (k + c.loop-i.i)) en)
          c.entry.ensures.within j l);
      size =
          set_size c.loop-i.weights c.set.new.self c.loop-i.i (g.E.Entry.value c.entry.result)
          (length c.args.weights.now) c.loop-i.invariant.size c.set.ensures.written;
    }
