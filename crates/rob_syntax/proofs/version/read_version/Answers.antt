use Rattle.std.proofs.Common.{Bool, ap, sym, ◌∙◌}
use Rattle.std.specs.Prelude.{if◌then◌else◌}
use Rattle.rob_index.specs.Reading.{one, two}
use Rattle.rob_syntax.specs.Symbols.{token_lines}
use Rattle.rob_syntax.specs.Versions.{names_version}
use Rattle.rob_syntax.proofs.VersionLemmas.{version-first}
use Rattle.rob_syntax.proofs.version.read_version.Goals as goal

pub returns-then-names_version : goal.returns-then-names_version
returns-then-names_version c = record {
  version =
      sym (
      version-first c.args.text.now (token_lines c.args.tokens.now)
      ∙ ap (λ (b : Bool). if b then two else one)
      (ap (names_version c.args.text.now) (sym c.first.ensures.line) ∙ sym c.if-names_version.ensures.named)
      );
}

pub returns-else-names_version : goal.returns-else-names_version
returns-else-names_version c = record {
  version =
      sym (
      version-first c.args.text.now (token_lines c.args.tokens.now)
      ∙ ap (λ (b : Bool). if b then two else one)
      (ap (names_version c.args.text.now) (sym c.first.ensures.line) ∙ sym c.if-names_version.ensures.named)
      );
}
