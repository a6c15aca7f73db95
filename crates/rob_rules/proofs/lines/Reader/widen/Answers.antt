use Rattle.std.proofs.Common.{◌≡◌, ℕ, false, length, refl, sym, ap, ◌∙◌}
use Rattle.std.specs.Prelude.{Vec}
use Rattle.std.specs.declared.alloc.Global.{Global}
use Rattle.std.proofs.lemmas.List.{length-map}
use Rattle.rob_syntax.specs.Known.{texts}
use Rattle.rob_rules.specs.Scopes.{earlier_of}
use Rattle.rob_rules.specs.Stages.{padded}
use Rattle.rob_rules.proofs.Joining.PaddedLemmas.{widened_by}
use Rattle.rob_rules.proofs.lines.Reader.widen.Goals as goal

pub returns : goal.returns
returns c =
    let words = texts c.args.self.now.words.keys in
    let count : c.len-words.result ≡ length words =
    c.len-words.ensures.len ∙ sym (length-map c.args.self.now.words.keys (λ (v : Vec ℕ Global). v.items)) in
    record {
      widened = record {
        list = refl;
        own = refl;
        words = refl;
        total = refl;
        scope =
            widened_by words c.len-words.result (earlier_of c.args.self.now.scope) _ count c.in_ok-pad.ensures.padded;
        front =
            widened_by words c.len-words.result (earlier_of c.args.self.now.front) _ count c.in_ok-pad-2.ensures.padded;
        declared =
            c.in_ok-pad-3.ensures.padded ∙ ap (λ (k : ℕ). padded k false c.args.self.now.declared.items) count;
      };
    }
