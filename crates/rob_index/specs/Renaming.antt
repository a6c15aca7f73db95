-- A plain statement with other names.
use Rattle.std.specs.Prelude.{map}
use Rattle.std.specs.Option.{option_map}
use Rattle.rob_index.specs.Statements.{Name, Plain, Parts, Factors, Member, Statement}
use Rattle.rob_index.specs.Statements as stated

module _ (rename : Name → Name) where
  abbrev mutual
    -- an expression
    pub renamed_plain : Plain → Plain
    renamed_plain (stated.number n) = stated.number n
    renamed_plain (stated.name n) = stated.name (rename n)
    renamed_plain (stated.sum ps) = stated.sum (renamed_parts ps)
    renamed_plain (stated.product ps) = stated.product (renamed_factors ps)

    pub renamed_parts : Parts → Parts
    renamed_parts stated.no_parts = stated.no_parts
    renamed_parts (stated.part minus p ps) = stated.part minus (renamed_plain p) (renamed_parts ps)

    pub renamed_factors : Factors → Factors
    renamed_factors stated.no_factors = stated.no_factors
    renamed_factors (stated.factor p ps) = stated.factor (renamed_plain p) (renamed_factors ps)

  -- a member of a budget
  abbrev pub renamed_member : Member → Member
  renamed_member m = record { name = rename m.name; centre = m.centre; deviation = m.deviation }

  -- a statement
  abbrev pub renamed : Statement → Statement
  renamed (stated.uncertain n b) = stated.uncertain (rename n) b
  renamed (stated.over n) = stated.over (rename n)
  renamed (stated.set l r p o) = stated.set (renamed_plain l) r (renamed_plain p) (option_map rename o)
  renamed (stated.budget n ms o) = stated.budget n (map renamed_member ms) (option_map rename o)
  renamed (stated.variable n b) = stated.variable (rename n) b
  renamed (stated.adaptive n on b) = stated.adaptive (rename n) (map rename on) b
  renamed (stated.goal s e o) = stated.goal s (renamed_plain e) (option_map rename o)
  renamed (stated.row n l r p o) =
      stated.row (rename n) (renamed_plain l) r (renamed_plain p) (option_map rename o)
