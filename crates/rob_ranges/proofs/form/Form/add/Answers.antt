use Rattle.std.proofs.Common.{ap}
use Rattle.std.proofs.lemmas.Result.{on_ok_weaker}
use Rattle.rob_index.specs.Forms.{Form}
use Rattle.rob_ranges.proofs.JoinLemmas.{sum_is}
use Rattle.rob_ranges.proofs.form.Form.add.Goals as goal

pub returns : goal.returns
returns c =
    let own = c.self.inside in
    let other = c.other.inside in
    record {
      sum =
          on_ok_weaker c.add_products.result
          (λ added. sum_is own.constant c.args.factor.now other.constant c.add_times.new.self own.front
          c.factors.result.now own.factors.items c.add_products.new.factors.items c.args.self.now c.args.other.now
          c.self.view_is c.self.invariant c.in_ok-add_times.ensures.sum
          (ap (λ (f : Form). f.constant) c.other.view_is) c.factors.ensures.factors added)
          c.add_products.ensures.added;
    }
