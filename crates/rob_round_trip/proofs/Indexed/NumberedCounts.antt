-- What rob_index counts of a plain statement is so of the reader's statement that has numbers for its names.
use Rattle.std.proofs.Common.{◌≡◌, ◌+◌, ◌≤◌, ℕ, List, [], ◌∷◌, length, map, refl, ap, ◌∙◌, arith, length-append}
use Rattle.std.specs.Prelude.{Option, Some, None}
use Rattle.std.specs.Option.{option_map}
use Rattle.rob_index.proofs.Names.RenamingLemmas.{line_depth-renamed, line_tokens-renamed}
use Rattle.rob_index.specs.Counting.{line_tokens, lines_tokens}
use Rattle.rob_index.specs.Depths.{line_depth}
use Rattle.rob_index.specs.Renaming.{renamed, renamed_factors, renamed_member, renamed_parts, renamed_plain}
use Rattle.rob_index.specs.Statements as plain
use Rattle.rob_index.specs.Statements.{Factors, Parts, Plain}
use Rattle.rob_lex.specs.Offences.{most_open}
use Rattle.rob_meaning.specs.Places.{Each}
use Rattle.rob_parse.specs.Building.{FitsStatement}
use Rattle.rob_parse.specs.Modelled.{EndsInSet}
use Rattle.rob_parse.specs.Written.{word_of}
use Rattle.rob_round_trip.proofs.Lengths.CountedLines.{line_counted}
use Rattle.rob_round_trip.proofs.Lengths.LowLines.{line_shallow}
use Rattle.rob_round_trip.specs.Lines.{AreReadable, CountsSetsFromOne, canonical_line}
use Rattle.rob_round_trip.specs.Pages.{IsShallow, ended}
use Rattle.rob_round_trip.specs.Shown.{shown, shown_factors, shown_member, shown_over, shown_parts, shown_tree}
use Rattle.rob_rules.proofs.Trees.WalkLemmas.{part_is}
use Rattle.rob_rules.specs.declared.sort.Sort.{Sort}
use Rattle.rob_syntax.proofs.TreeLemmas.{name_is, number_is, product_is, sum_is}
use Rattle.rob_syntax.specs.Numbered.{numbered, numbered_factors, numbered_member, numbered_over, numbered_parts, numbered_tree, own_bounds, own_numeral, own_rel, own_sense}
use Rattle.rob_syntax.specs.Seen.{seen_bounds, seen_rel, seen_sense}
use Rattle.rob_syntax.specs.Symbols.{number_of}
use Rattle.rob_syntax.specs.Trees.{Part, operands_of, part_of, summand, summands_of, tree_of}
use Rattle.rob_write.specs.Pages.{Written, line_end}
use Rattle.rob_write.specs.ExpressionWords.{Naming}

-- ---- with names for numbers again it is the plain statement, each name renamed
bounds_again : (b : Option plain.Bounds) → option_map seen_bounds (option_map own_bounds b) ≡ b
bounds_again None = refl
bounds_again (Some (plain.between a b)) = refl
bounds_again (Some (plain.at_least a)) = refl
bounds_again (Some (plain.at_most b)) = refl

rel_again : (r : plain.Rel) → seen_rel (own_rel r) ≡ r
rel_again plain.at_most = refl
rel_again plain.at_least = refl
rel_again plain.equal = refl

sense_again : (s : plain.Sense) → seen_sense (own_sense s) ≡ s
sense_again plain.minimise = refl
sense_again plain.maximise = refl

module _ (words : List (List ℕ)) where
  -- the word that is found by the number of a name
  abbrev found : plain.Name → plain.Name
  found n = word_of words (number_of words n)

  over_again : (o : Option plain.Name) → shown_over words (numbered_over words o) ≡ option_map found o
  over_again None = refl
  over_again (Some n) = refl

  mutual
    tree_again : (p : Plain) → shown_tree words (tree_of (numbered_tree words p)) ≡ renamed_plain found p
    tree_again (plain.number n) = ap (shown_tree words) (number_is (own_numeral n))
    tree_again (plain.name n) = ap (shown_tree words) (name_is (number_of words n))
    tree_again (plain.sum ps) =
        ap (shown_tree words) (sum_is (numbered_parts words ps)) ∙ ap plain.sum (parts_again ps)
    tree_again (plain.product ps) =
        ap (shown_tree words) (product_is (numbered_factors words ps)) ∙ ap plain.product (factors_again ps)

    parts_again : (ps : Parts) → shown_parts words (summands_of (map part_of (numbered_parts words ps)))
        ≡ renamed_parts found ps
    parts_again plain.no_parts = refl
    parts_again (plain.part minus p ps) =
        let rest = summands_of (map part_of (numbered_parts words ps)) in
        ap (λ (x : Part). shown_parts words (summand x.minus x.inner rest))
        (part_is (record { minus = minus; inner = numbered_tree words p }))
        ∙ (λ i. plain.part minus (tree_again p i) (parts_again ps i))

    factors_again : (ps : Factors)
        → shown_factors words (operands_of (map tree_of (numbered_factors words ps))) ≡ renamed_factors found ps
    factors_again plain.no_factors = refl
    factors_again (plain.factor p ps) = λ i. plain.factor (tree_again p i) (factors_again ps i)

  members_again : (ms : List plain.Member)
      → map (shown_member words) (map (numbered_member words) ms) ≡ map (renamed_member found) ms
  members_again [] = refl
  members_again (m ∷ ms) = ap (λ (l : List plain.Member). renamed_member found m ∷ l) (members_again ms)

  names_again : (ns : List plain.Name) → map (word_of words) (map (number_of words) ns) ≡ map found ns
  names_again [] = refl
  names_again (n ∷ ns) = ap (λ (l : List plain.Name). found n ∷ l) (names_again ns)

  pub shown-numbered : (p : plain.Statement) → shown words (numbered words p) ≡ renamed found p
  shown-numbered (plain.uncertain n b) = ap (plain.uncertain (found n)) (bounds_again b)
  shown-numbered (plain.over n) = refl
  shown-numbered (plain.set l r p o) = λ i. plain.set (tree_again l i) (rel_again r i) (tree_again p i) (over_again o i)
  shown-numbered (plain.budget n ms o) = λ i. plain.budget n (members_again ms i) (over_again o i)
  shown-numbered (plain.variable n b) = ap (plain.variable (found n)) (bounds_again b)
  shown-numbered (plain.adaptive n on b) = λ i. plain.adaptive (found n) (names_again on i) (bounds_again b i)
  shown-numbered (plain.goal s e o) = λ i. plain.goal (sense_again s i) (tree_again e i) (over_again o i)
  shown-numbered (plain.row n l r p o) =
      λ i. plain.row (found n) (tree_again l i) (rel_again r i) (tree_again p i) (over_again o i)

  -- ---- so the counts are those of the plain statement
  module _ (limit : ℕ) (sorts : List (Option Sort)) (names : Naming) where
    abbrev written : plain.Statement → List Written
    written p = canonical_line words sorts names (numbered words p)

    pub numbered_shallow : (p : plain.Statement) → AreReadable limit sorts names (numbered words p)
        → line_depth p ≤ most_open
        → IsShallow 0 (written p)
    numbered_shallow p r few =
        line_shallow limit words sorts names (numbered words p) r
        (omega (arith, few, ap line_depth (shown-numbered p), line_depth-renamed found p))

    module _ (named_set : CountsSetsFromOne sorts) where
      pub numbered_counted : (p : plain.Statement) → FitsStatement limit (numbered words p)
          → AreReadable limit sorts names (numbered words p) → EndsInSet sorts (numbered words p)
          → length (written p) + 1 ≡ line_tokens limit p
      numbered_counted p h r o =
          line_counted limit words sorts names named_set (numbered words p) h r o
          ∙ ap (line_tokens limit) (shown-numbered p) ∙ line_tokens-renamed found limit p

      pub all_counted : (ps : List plain.Statement) → Each (FitsStatement limit) (map (numbered words) ps)
          → Each (AreReadable limit sorts names) (map (numbered words) ps)
          → Each (EndsInSet sorts) (map (numbered words) ps)
          → length (ended (map (canonical_line words sorts names) (map (numbered words) ps))) ≡ lines_tokens limit ps
      all_counted [] h r o = refl
      all_counted (p ∷ ps) h r o =
          omega (
            arith,
            length-append (written p)
                (line_end ∷ ended (map (canonical_line words sorts names) (map (numbered words) ps))),
            numbered_counted p h.0 r.0 o.0,
            all_counted ps h.1 r.1 o.1,
          )
