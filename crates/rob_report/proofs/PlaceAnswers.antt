-- The words of a place of a certificate, piece by piece.
use Rattle.std.proofs.Common.{◌≡◌, ℕ, zero, suc, ◌-◌, List, ◌++◌, ap, refl, sym, ◌∙◌, append_assoc, arith}
use Rattle.std.specs.Fmt.{decimal, signed_decimal}
use Rattle.std.specs.Prelude.{Result, Ok, Err, OnOk, codes, ℤ, pos, [], ◌∷◌}
use Rattle.rob_report.specs.Lines.{line}
use Rattle.rob_report.proofs.TermLemmas.{unless_zero-other}
use Rattle.std.proofs.lemmas.Result.{on_ok_weaker}
use Rattle.rob_cert.proofs.Writing.WriterLemmas.{behind}
use Rattle.rob_model.specs.declared.place.Place.{Place}
use Rattle.rob_model.specs.declared.place.Place.TheVariants as Is
use Rattle.rob_meaning.specs.Names.{column_names_with_tau, set_column_names, set_condition_names}
use Rattle.rob_meaning.specs.RobustModel.{RobustModel}
use Rattle.rob_cert.specs.Spelling.{name_at}
use Rattle.rob_report.specs.Spots.{form_name, place_words, sign_words, sum_words, weight_line}

pub sum_last : {A E : Type 0} (m : RobustModel) (i column : ℕ) (r : Result A E) (old a b new : List ℕ)
    → (column ≡ 0 → ⊥)
    → a ≡ old ++ form_name m i → b ≡ a ++ codes " at " → OnOk r (new ≡ b ++ name_at (set_column_names m) (column - 1))
    → OnOk r (new ≡ old ++ sum_words m i column)
sum_last m i column (Err e) old a b new some ha hb h = tt
sum_last m i zero (Ok x) old a b new some ha hb h = absurd (some (omega arith))
sum_last m i (suc k) (Ok x) old a b new some ha hb h =
    h ∙ ap (λ j. b ++ name_at (set_column_names m) j) (let e : suc k - 1 ≡ k = omega arith in e)
    ∙ ap (λ (xs : List ℕ). xs ++ name_at (set_column_names m) k) (hb ∙ ap (λ (xs : List ℕ). xs ++ codes " at ") ha)
    ∙ append_assoc (old ++ form_name m i) (codes " at ") (name_at (set_column_names m) k)
    ∙ append_assoc old (form_name m i) (codes " at " ++ name_at (set_column_names m) k)

-- the line of a weight that isn't 0
pub weight_last : {A E : Type 0} (r : Result A E) (weight : ℤ) (name old a b d new text : List ℕ) → (weight ≡ pos 0 → ⊥)
    → a ≡ old ++ name → b ≡ a ++ codes " " → d ≡ b ++ text → text ≡ signed_decimal weight → OnOk r (new ≡ d ++ 10 ∷ [])
    → OnOk r (new ≡ old ++ weight_line name weight)
weight_last (Err e) weight name old a b d new text some ha hb hd ht h = tt
weight_last (Ok x) weight name old a b d new text some ha hb hd ht h =
    let end : d ++ 10 ∷ [] ≡ old ++ ((name ++ (codes " " ++ signed_decimal weight)) ++ 10 ∷ []) =
    ap (λ (l : List ℕ). l ++ 10 ∷ []) (hd ∙ ap (λ (l : List ℕ). b ++ l) ht
    ∙ ap (λ (l : List ℕ). l ++ signed_decimal weight) (hb ∙ ap (λ (l : List ℕ). l ++ codes " ") ha)
    ∙ append_assoc (old ++ name) (codes " ") (signed_decimal weight)
    ∙ append_assoc old name (codes " " ++ signed_decimal weight))
    ∙ append_assoc old (name ++ (codes " " ++ signed_decimal weight)) (10 ∷ []) in
    h ∙ end ∙ ap (λ (l : List ℕ). old ++ l)
    (sym (unless_zero-other weight (line (name ++ (codes " " ++ signed_decimal weight))) some))

-- ---- the words of a place, behind others
module _ (m : RobustModel) {A E : Type 0} (r : Result A E) (old new : List ℕ) {place : Place} where
  -- in one piece
  alone : {other : Place} (a : List ℕ) → place ≡ other → place_words m other ≡ a → OnOk r (new ≡ old ++ a)
      → OnOk r (new ≡ old ++ place_words m place)
  alone a is words h = on_ok_weaker r (λ e. e ∙ ap (λ (w : List ℕ). old ++ w) (sym (ap (place_words m) is ∙ words))) h

  -- in two
  both : {other : Place} (a b : List ℕ) {mid : List ℕ} → place ≡ other → place_words m other ≡ a ++ b
      → mid ≡ old ++ a → OnOk r (new ≡ mid ++ b) → OnOk r (new ≡ old ++ place_words m place)
  both a b {mid} is words first h =
      alone (a ++ b) is words (on_ok_weaker r (λ e. behind old mid new a b first e) h)

  pub weight_written : {i : ℕ} → place ≡ Is.Weight i → OnOk r (new ≡ old ++ (codes "weight " ++ decimal (suc i)))
      → OnOk r (new ≡ old ++ place_words m place)
  weight_written {i} is h = alone (codes "weight " ++ decimal (suc i)) is refl h

  pub base_written : {i : ℕ} → place ≡ Is.Base i → OnOk r (new ≡ old ++ (codes "base " ++ decimal (suc i)))
      → OnOk r (new ≡ old ++ place_words m place)
  base_written {i} is h = alone (codes "base " ++ decimal (suc i)) is refl h

  module _ {mid : List ℕ} where
    pub inside_written : {c : ℕ} → place ≡ Is.Inside c → mid ≡ old ++ codes "inside "
        → OnOk r (new ≡ mid ++ name_at (set_condition_names m) c) → OnOk r (new ≡ old ++ place_words m place)
    inside_written {c} is first h = both (codes "inside ") (name_at (set_condition_names m) c) is refl first h

    pub item_written : {i c : ℕ} {last : List ℕ} → place ≡ Is.Item i c → mid ≡ old ++ (codes "item " ++ decimal (suc i))
        → last ≡ mid ++ codes " " → OnOk r (new ≡ last ++ name_at (set_condition_names m) c)
        → OnOk r (new ≡ old ++ place_words m place)
    item_written {i} {c} {last} is first second h =
        both (codes "item " ++ decimal (suc i)) (codes " " ++ name_at (set_condition_names m) c) is
        (sym (append_assoc (codes "item ") (decimal (suc i)) (codes " " ++ name_at (set_condition_names m) c))) first
        (on_ok_weaker r (λ e. behind mid last new (codes " ") (name_at (set_condition_names m) c) second e) h)

    pub sum_written : {j : ℕ} → place ≡ Is.Sum j → mid ≡ old ++ codes "sum "
        → OnOk r (new ≡ mid ++ name_at (codes "constant" ∷ column_names_with_tau m) j)
        → OnOk r (new ≡ old ++ place_words m place)
    sum_written {j} is first h =
        both (codes "sum ") (name_at (codes "constant" ∷ column_names_with_tau m) j) is refl first h

    pub cover_sign_written : {i k : ℕ} → place ≡ Is.CoverSign i k → mid ≡ old ++ codes "cover "
        → OnOk r (new ≡ mid ++ sign_words m i k) → OnOk r (new ≡ old ++ place_words m place)
    cover_sign_written {i} {k} is first h = both (codes "cover ") (sign_words m i k) is refl first h

    pub cover_written : {i k : ℕ} → place ≡ Is.Cover i k → mid ≡ old ++ codes "cover "
        → OnOk r (new ≡ mid ++ sum_words m i k) → OnOk r (new ≡ old ++ place_words m place)
    cover_written {i} {k} is first h = both (codes "cover ") (sum_words m i k) is refl first h

    pub hold_sign_written : {i k : ℕ} → place ≡ Is.HoldSign i k → mid ≡ old ++ codes "hold "
        → OnOk r (new ≡ mid ++ sign_words m i k) → OnOk r (new ≡ old ++ place_words m place)
    hold_sign_written {i} {k} is first h = both (codes "hold ") (sign_words m i k) is refl first h

    pub hold_written : {i k : ℕ} → place ≡ Is.Hold i k → mid ≡ old ++ codes "hold "
        → OnOk r (new ≡ mid ++ sum_words m i k) → OnOk r (new ≡ old ++ place_words m place)
    hold_written {i} {k} is first h = both (codes "hold ") (sum_words m i k) is refl first h
