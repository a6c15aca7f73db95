use Rattle.std.proofs.Common.{◌∙◌, ℕ, List, ap}
use Rattle.rob_index.specs.Forms.{length_form}
use Rattle.rob_index.specs.Fast.{ends_of}
use Rattle.rob_syntax.specs.Seen.{seen_range}
use Rattle.rob_ranges.proofs.NestLemmas.{as_well}
use Rattle.rob_places.specs.Around.{Around}
use Rattle.rob_places.proofs.around.Around.length_of.Goals as goal

pub returns : goal.returns
returns c =
    record {
      length =
          as_well c.length.result
          (ap length_form
          (c.in_ok-ends.ensures.ends
          ∙ ap (λ (ns : List ℕ). ends_of ns (seen_range c.args.range.now))
          (c.as_slice.ensures.value ∙ ap (λ (a : Around). a.names) c.self.view_is)))
          c.length.ensures.length;
    }
