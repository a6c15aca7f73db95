use Rattle.std.proofs.Common.{◌≡◌, true, false, refl, ap, ◌∙◌, arith}
use Rattle.rob_index.specs.Rules.{is_long_name}
use Rattle.rob_syntax.specs.Known.{texts}
use Rattle.rob_syntax.specs.Symbols.{add_word}
use Rattle.rob_expand.specs.Growing.{named_at}
use Rattle.rob_expand.proofs.Expanding.PrintLemmas.{long_left, long_told, short_added, short_told, is_over, is_within}
use Rattle.rob_expand.proofs.name.add_name_inside.Goals as goal

pub returns-then-is_surely_long : goal.returns-then-is_surely_long
returns-then-is_surely_long c =
    let name = named_at (texts c.args.own.now.keys) c.args.name.now c.args.values.now in
    let long : is_long_name name ≡ true = c.if-is_surely_long.ensures.long refl c.args.values.now in
    record {
      words = long_left (texts c.args.words.now.keys) name long;
      long =
          long_told (texts c.args.words.now.keys) name long;
    }

pub returns-then-len-gt-LONGEST_NAME : goal.returns-then-len-gt-LONGEST_NAME
returns-then-len-gt-LONGEST_NAME c =
    let name = named_at (texts c.args.own.now.keys) c.args.name.now c.args.values.now in
    let long : is_long_name name ≡ true =
    is_over name c.in_ok-bytes.bytes.items c.in_ok-bytes.ensures.bytes c.len.result
    (c.len.ensures ∙ c.in_ok-bytes.bytes.ok.0) (omega (arith, c.if-len-gt-LONGEST_NAME.true)) in
    record {
      words = long_left (texts c.args.words.now.keys) name long;
      long =
          long_told (texts c.args.words.now.keys) name long;
    }

pub returns : goal.returns
returns c =
    let words = texts c.args.words.now.keys in
    let name = named_at (texts c.args.own.now.keys) c.args.name.now c.args.values.now in
    let short : is_long_name name ≡ false =
    is_within name c.in_ok-bytes.bytes.items c.in_ok-bytes.ensures.bytes c.len.result
    (c.len.ensures ∙ c.in_ok-bytes.bytes.ok.0) (omega (arith, c.if-len-gt-LONGEST_NAME.false)) in
    record {
      words =
          short_added words name _ short
          (c.in_ok-insert.ensures.words ∙ ap (add_word words) c.in_ok-bytes.ensures.bytes);
      long = short_told words name short;
    }
