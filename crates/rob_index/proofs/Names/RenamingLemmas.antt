-- How many tokens a canonical line has, and how deep it is, doesn't depend on its names.
use Rattle.std.proofs.Common.{◌≡◌, ℕ, Bool, true, false, List, [], ◌∷◌, map, refl, ap, arith}
use Rattle.std.specs.Prelude.{Option, Some, None}
use Rattle.std.specs.Option.{option_map}
use Rattle.rob_index.specs.Statements.{Name, Plain, Parts, Factors, Member, Statement}
use Rattle.rob_index.specs.Statements as stated
use Rattle.rob_index.specs.Counting.{is_sum, is_compound, parens, plain_tokens, parts_tokens, factors_tokens, over_tokens, members_tokens, names_tokens, line_tokens}
use Rattle.rob_index.specs.Depths.{one_if, depth, parts_depth, factors_depth, line_depth}
use Rattle.rob_index.specs.Renaming.{renamed_plain, renamed_parts, renamed_factors, renamed_member, renamed}

module _ (f : Name → Name) where
  sum_same : (limit : ℕ) (p : Plain) → is_sum limit (renamed_plain f p) ≡ is_sum limit p
  sum_same limit (stated.number n) = refl
  sum_same limit (stated.name n) = refl
  sum_same limit (stated.sum ps) = refl
  sum_same limit (stated.product ps) = refl

  compound_same : (limit : ℕ) (p : Plain) → is_compound limit (renamed_plain f p) ≡ is_compound limit p
  compound_same limit (stated.number n) = refl
  compound_same limit (stated.name n) = refl
  compound_same limit (stated.sum ps) = refl
  compound_same limit (stated.product ps) = refl

  -- ---- tokens
  module _ (limit : ℕ) where
    mutual
      plain_same : (p : Plain) → plain_tokens limit (renamed_plain f p) ≡ plain_tokens limit p
      plain_same (stated.number n) = refl
      plain_same (stated.name n) = refl
      plain_same (stated.sum ps) = parts_same true ps
      plain_same (stated.product ps) = factors_same true ps

      parts_same : (first : Bool) (ps : Parts)
          → parts_tokens limit first (renamed_parts f ps) ≡ parts_tokens limit first ps
      parts_same first stated.no_parts = refl
      parts_same first (stated.part minus p ps) =
          omega (arith, ap (parens limit) (sum_same limit p), plain_same p, parts_same false ps)

      factors_same : (first : Bool) (ps : Factors)
          → factors_tokens limit first (renamed_factors f ps) ≡ factors_tokens limit first ps
      factors_same first stated.no_factors = refl
      factors_same first (stated.factor p ps) =
          omega (arith, ap (parens limit) (compound_same limit p), plain_same p, factors_same false ps)

    over_same : (o : Option Name) → over_tokens limit (option_map f o) ≡ over_tokens limit o
    over_same None = refl
    over_same (Some n) = refl

    members_same : (first : Bool) (ms : List Member)
        → members_tokens limit first (map (renamed_member f) ms) ≡ members_tokens limit first ms
    members_same first [] = refl
    members_same first (m ∷ ms) = omega (arith, members_same false ms)

    names_same : (first : Bool) (ns : List Name) → names_tokens limit first (map f ns) ≡ names_tokens limit first ns
    names_same first [] = refl
    names_same first (n ∷ ns) = omega (arith, names_same false ns)

    pub line_tokens-renamed : (s : Statement) → line_tokens limit (renamed f s) ≡ line_tokens limit s
    line_tokens-renamed (stated.uncertain n b) = refl
    line_tokens-renamed (stated.over n) = refl
    line_tokens-renamed (stated.set l r p o) = omega (arith, plain_same l, plain_same p, over_same o)
    line_tokens-renamed (stated.budget n ms o) = omega (arith, members_same true ms, over_same o)
    line_tokens-renamed (stated.variable n b) = refl
    line_tokens-renamed (stated.adaptive n on b) = omega (arith, names_same true on)
    line_tokens-renamed (stated.goal s e o) = omega (arith, plain_same e, over_same o)
    line_tokens-renamed (stated.row n l r p o) = omega (arith, plain_same l, plain_same p, over_same o)

  -- ---- depth
  mutual
    depth_same : (p : Plain) → depth (renamed_plain f p) ≡ depth p
    depth_same (stated.number n) = refl
    depth_same (stated.name n) = refl
    depth_same (stated.sum ps) = parts_level ps
    depth_same (stated.product ps) = factors_level ps

    parts_level : (ps : Parts) → parts_depth (renamed_parts f ps) ≡ parts_depth ps
    parts_level stated.no_parts = refl
    parts_level (stated.part minus p ps) = omega (arith, ap one_if (sum_same 0 p), depth_same p, parts_level ps)

    factors_level : (ps : Factors) → factors_depth (renamed_factors f ps) ≡ factors_depth ps
    factors_level stated.no_factors = refl
    factors_level (stated.factor p ps) = omega (arith, ap one_if (compound_same 0 p), depth_same p, factors_level ps)

  pub line_depth-renamed : (s : Statement) → line_depth (renamed f s) ≡ line_depth s
  line_depth-renamed (stated.uncertain n b) = refl
  line_depth-renamed (stated.over n) = refl
  line_depth-renamed (stated.set l r p o) = omega (arith, depth_same l, depth_same p)
  line_depth-renamed (stated.budget n ms o) = refl
  line_depth-renamed (stated.variable n b) = refl
  line_depth-renamed (stated.adaptive n on b) = refl
  line_depth-renamed (stated.goal s e o) = depth_same e
  line_depth-renamed (stated.row n l r p o) = omega (arith, depth_same l, depth_same p)
