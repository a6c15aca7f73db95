-- A budget as a set condition.
use Rattle.std.proofs.Common.{◌≡◌, ℕ, List, [], ◌∷◌, map, ap, sym, ◌∙◌, subst, Bool}
use Rattle.std.specs.Prelude.{Option, Some, None}
use Rattle.rob_algebra.specs.Fraction.{Fraction, ◌*ℚ◌, ◌<ℚ◌}
use Rattle.rob_algebra.specs.Width.{kept}
use Rattle.rob_meaning.specs.Places.{0ℚ, Each}
use Rattle.rob_meaning.specs.RobustModel.{RobustModel}
use Rattle.rob_meaning.specs.SetConditions.{stated}
use Rattle.rob_meaning.specs.WellFormed.{IsMember, IsSetLine}
use Rattle.rob_model.specs.View.{member_of, set_line_of}
use Rattle.rob_model.specs.Within.{◌>>=◌, total_within, holds_within, is_at_most}
use Rattle.rob_model.proofs.PartLemmas.{stops, goes}
use Rattle.rob_model.specs.declared.model.Member.{Member}
use Rattle.rob_model.specs.declared.model.SetLine.{SetLine}
use Rattle.rob_model.specs.declared.model.SetLine.TheVariants.{Budget}

module _ {N : Type 0} (value : N → Fraction) (m : RobustModel) where
  members_positive : (hs : List (Member N)) → Each (IsMember m) (map (member_of value) hs)
      → Each (λ (h : Member N). 0ℚ <ℚ value h.deviation) hs
  members_positive [] all = tt
  members_positive (h ∷ hs) all = (all.0.1, members_positive hs all.1)

  module _ (line : SetLine N) (most : N) (hs xs : List (Member N)) (is : line ≡ Budget most hs) (same : xs ≡ hs) where
    -- the members of a budget have positive deviations
    pub budget_positive : IsSetLine m (set_line_of value line) → Each (λ (h : Member N). 0ℚ <ℚ value h.deviation) xs
    budget_positive h =
        subst (Each (λ (h : Member N). 0ℚ <ℚ value h.deviation)) (sym same)
        (members_positive hs (subst (λ (l : SetLine N). IsSetLine m (set_line_of value l)) is h))

    module _ (limit : ℕ) (s : Fraction) (p : List Fraction) where
      budget_test : Fraction → Option Bool
      budget_test total = kept limit (s *ℚ value most) >>= (λ scaled. Some (is_at_most total scaled))

      -- a budget is judged by its members' sum, and then s times its limit
      budget_step : holds_within limit m s p (stated (set_line_of value line))
          ≡ (total_within limit m s p (map (member_of value) xs) 0ℚ >>= budget_test)
      unfolding budget_test
      budget_step =
          ap (λ (l : SetLine N). holds_within limit m s p (stated (set_line_of value l))) is
          ∙ ap (λ (ys : List (Member N)). total_within limit m s p (map (member_of value) ys) 0ℚ >>= budget_test)
          (sym same)

      pub budget_stops : None ≡ total_within limit m s p (map (member_of value) xs) 0ℚ
          → None ≡ holds_within limit m s p (stated (set_line_of value line))
      budget_stops none = stops _ budget_test none ∙ sym budget_step

      module _ (total : Fraction) (some : Some total ≡ total_within limit m s p (map (member_of value) xs) 0ℚ) where
        pub budget_is : (scaled : Fraction) (b : Bool) → Some scaled ≡ kept limit (s *ℚ value most)
            → b ≡ is_at_most total scaled
            → Some b ≡ holds_within limit m s p (stated (set_line_of value line))
        unfolding budget_test
        budget_is scaled b is_kept test =
            ap Some test ∙ goes _ (λ scaled. Some (is_at_most total scaled)) scaled is_kept
            ∙ goes _ budget_test total some ∙ sym budget_step
