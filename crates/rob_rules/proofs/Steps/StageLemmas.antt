-- Lines of either version that follow one another, as the reader comes by them.
use Rattle.std.proofs.Common.{◌≡◌, ℕ, Bool, false, List, [], ◌++◌, length, None, sym, ap, ◌∙◌, subst, arith, append-nil}
use Rattle.std.specs.Prelude.{is_some, replicate}
use Rattle.std.proofs.lemmas.List.{length-replicate}
use Rattle.rob_index.specs.Symbols.{Symbol}
use Rattle.rob_index.specs.Statements.{Name}
use Rattle.rob_index.specs.Reading.{Version}
use Rattle.rob_places.specs.Tests.{is_set}
use Rattle.rob_syntax.specs.Known.{texts}
use Rattle.rob_rules.specs.declared.lines.Reader.{Reader}
use Rattle.rob_rules.specs.Degrees.{sort_at}
use Rattle.rob_rules.specs.Scopes.{Earlier, earlier_of, start}
use Rattle.rob_rules.specs.Sizes.{IsKept}
use Rattle.rob_rules.specs.Stages.{ReadsOn, StartsAt}
use Rattle.rob_rules.proofs.Joining.PaddedLemmas.{get_or-blank}
use Rattle.rob_rules.proofs.Counts.SizeLemmas.{kept_start}

-- how far the reader has come: some lines are read, and the rest isn't
pub record HasRead (limit : ℕ) (own : List Name) (version : Version) (lines rest : List (List Symbol)) (count : ℕ)
    (old new : Reader) : Type 0 where
  pub before : List (List Symbol)
  pub cut : lines ≡ before ++ rest
  pub count_is : length before ≡ count
  pub read : ReadsOn limit own version before old new

-- in front of the first line, where of as many words none is declared
pub starts : (own : List Name) (r : Reader) → texts r.own.keys ≡ own → texts r.words.keys ≡ own
    → earlier_of r.scope ≡ start (length own) → earlier_of r.front ≡ start (length own)
    → r.declared.items ≡ replicate (length own) false → r.total ≡ 0 → r.list ≡ [] → StartsAt own r
starts own r own_are words_are scope_is front_is declared_are total_is list_is =
    let blank : length r.declared.items ≡ length own =
    ap length declared_are ∙ length-replicate (length own) false in
    record {
      between = record {
        own_are = own_are;
        own_first = ([], words_are ∙ sym (append-nil own));
        front = front_is ∙ sym scope_is;
        declared = λ k.
            ap (λ (table : List Bool). is_set table k) declared_are ∙ get_or-blank false (length own) k
            ∙ sym (ap (λ (e : Earlier). is_some (sort_at e.sorts k)) scope_is
            ∙ ap is_some (get_or-blank None (length own) k));
        level = record {
          scope = ap (λ (e : Earlier). length e.sorts) scope_is ∙ length-replicate (length own) None ∙ sym blank;
          front = ap (λ (e : Earlier). length e.sorts) front_is ∙ length-replicate (length own) None ∙ sym blank;
        };
        wide = blank ∙ sym (ap length words_are);
        tokens = omega (arith, total_is);
        kept = subst IsKept (sym (ap (λ (e : Earlier). e.sizes) scope_is)) kept_start;
      };
      words_are = words_are;
      earlier_is = scope_is;
      total = total_is;
      list_is = list_is;
    }
