use Rattle.std.proofs.Common.{◌≡◌, ◌∙◌, ap, arith}
use Rattle.rob_simplex.specs.Dictionaries.{Table, positions}
use Rattle.rob_simplex.proofs.dictionary.Dictionary.first_below_zero.Goals as goal

pub returns-then-is_below_zero : goal.returns-then-is_below_zero
returns-then-is_below_zero g c =
    let em : c.len-i-end.result ≡ positions c.args.self.now =
    c.len-i-end.ensures ∙ c.self.inside.basis.ok.0 ∙ ap (λ (t : Table). positions t) c.self.view_is in
    record { below = (omega arith, c.is_below_zero.ensures.below.0 c.if-is_below_zero.true) }
