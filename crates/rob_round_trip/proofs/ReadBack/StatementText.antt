-- The lines of a canonical text are statements, each of which says the part of the model that it was written for.
use Rattle.std.proofs.Common.{◌≡◌, ℕ, zero, suc, arith, ◌^◌, ◌<◌, true, false, List, [], ◌∷◌, ◌++◌, length, map, get_or, refl, ap, ◌∙◌, append-nil, append_assoc}
use Rattle.std.specs.Prelude.{Option, Some, None}
use Rattle.rob_algebra.specs.Fraction.{Fraction}
use Rattle.rob_lex.specs.declared.token.Kind.TheVariants as kind
use Rattle.rob_meaning.specs.Expressions.{Expression}
use Rattle.rob_meaning.specs.Places.{Each}
use Rattle.rob_meaning.specs.RobustModel as model
use Rattle.rob_rules.specs.declared.sort.Sort.{Sort}
use Rattle.rob_syntax.specs.declared.symbol.Symbol.{Symbol}
use Rattle.rob_syntax.specs.declared.symbol.Symbol.TheVariants.{Name, Sign, Reserved}
use Rattle.rob_syntax.specs.declared.symbol.Mark.TheVariants as mark
use Rattle.rob_syntax.specs.declared.symbol.Keyword.TheVariants as word
use Rattle.rob_syntax.specs.declared.syntax.Bounds.{Bounds}
use Rattle.rob_syntax.specs.declared.syntax.Bounds.TheVariants.{Between, AtLeast, AtMost}
use Rattle.rob_syntax.specs.declared.syntax.Rel.{Rel}
use Rattle.rob_syntax.specs.declared.syntax.Rel.TheVariants as rel
use Rattle.rob_syntax.specs.declared.syntax.Sense.{Sense}
use Rattle.rob_syntax.specs.declared.syntax.Sense.TheVariants as sense
use Rattle.rob_syntax.specs.declared.syntax.Member.{Member}
use Rattle.rob_write.specs.Pages.{Written, name, keyword, sign}
use Rattle.rob_write.specs.ExpressionWords.{Naming, number_words, listed, expression_words}
use Rattle.rob_write.specs.StatementWords.{over_words, bound_words, relation_word, comparison_words, member_words, goal_word}
use Rattle.rob_syntax.specs.Lists.{spell_more, spell_list}
use Rattle.rob_parse.specs.Written.{lower_bound, upper_bound, relation_of, sense_of, member, expression, parameter_number, parameter_at}
use Rattle.rob_parse.specs.Models.{set_at, set_number}
use Rattle.rob_round_trip.specs.Pages.{symbols_on}
use Rattle.rob_round_trip.specs.Readable.{IsBound, IsReadable, IsReadableMember, AreKnown}
use Rattle.rob_syntax.specs.Statements.{spell_over, Sides, spell_optional, spell_rel, spell_sense, spell_member, spell_sides, relation_of as parsed_relation}
use Rattle.rob_index.specs.Reading.{one}
use Rattle.rob_syntax.specs.Symbols.{number_of, symbol_at}
use Rattle.rob_syntax.specs.Trees.{tree_of}
use Rattle.rob_round_trip.proofs.ReadBack.ExpressionText.{symbols_append, read_back}
use Rattle.rob_round_trip.proofs.ReadBack.NumberText.{numeral_of, number_back, fraction_back, signed_of, signed_back, signed_fraction_back}

-- ---- bounds
abbrev pub bounds_of : Option Fraction → Option Fraction → Option Bounds
bounds_of None None = None
bounds_of (Some l) None = Some (AtLeast (signed_of l))
bounds_of None (Some u) = Some (AtMost (signed_of u))
bounds_of (Some l) (Some u) = Some (Between (record { lower = signed_of l; upper = signed_of u }))

pub lower_back : (l u : Option Fraction) → lower_bound (bounds_of l u) ≡ l
lower_back None None = refl
lower_back (Some l) None = ap Some (signed_fraction_back l)
lower_back None (Some u) = refl
lower_back (Some l) (Some u) = ap Some (signed_fraction_back l)

pub upper_back : (l u : Option Fraction) → upper_bound (bounds_of l u) ≡ u
upper_back None None = refl
upper_back (Some l) None = refl
upper_back None (Some u) = ap Some (signed_fraction_back u)
upper_back (Some l) (Some u) = ap Some (signed_fraction_back u)

-- ---- relations and senses
abbrev pub rel_of : model.Relation → Rel
rel_of model.at_most = rel.AtMost
rel_of model.at_least = rel.AtLeast
rel_of model.equal = rel.Equal

pub relation_back : (r : model.Relation) → relation_of (rel_of r) ≡ r
relation_back model.at_most = refl
relation_back model.at_least = refl
relation_back model.equal = refl

pub rel_word : (words : List (List ℕ)) (r : model.Relation) (rest : List Written)
    → symbols_on words (relation_word r ∷ rest) ≡ spell_rel (rel_of r) ∷ symbols_on words rest
rel_word words model.at_most rest = refl
rel_word words model.at_least rest = refl
rel_word words model.equal rest = refl

abbrev pub parsed_sense : model.Sense → Sense
parsed_sense model.minimise = sense.Minimise
parsed_sense model.maximise = sense.Maximise

pub sense_back : (s : model.Sense) → sense_of (parsed_sense s) ≡ s
sense_back model.minimise = refl
sense_back model.maximise = refl

pub sense_word : (words : List (List ℕ)) (s : model.Sense) (rest : List Written)
    → symbols_on words (goal_word s ∷ rest) ≡ spell_sense (parsed_sense s) ∷ symbols_on words rest
sense_word words model.minimise rest = refl
sense_word words model.maximise rest = refl

module _ (limit : ℕ) (small : limit < 2 ^ 62) (words : List (List ℕ)) where
  pub bounds_back : (l u : Option Fraction) → IsBound limit l → IsBound limit u
      → symbols_on words (bound_words l u) ≡ spell_optional (bounds_of l u)
  bounds_back None None h k = refl
  bounds_back (Some l) None h k = ap (λ (x : List Symbol). Sign mark.AtLeast ∷ x) (signed_back limit words l small h)
  bounds_back None (Some u) h k = ap (λ (x : List Symbol). Sign mark.AtMost ∷ x) (signed_back limit words u small k)
  bounds_back (Some l) (Some u) h k =
      ap (λ (x : List Symbol). Reserved word.In ∷ Sign mark.OpenBracket ∷ x)
      (symbols_append words (number_words l) (sign mark.Comma ∷ (number_words u ++ sign mark.CloseBracket ∷ []))
      ∙ (λ i. signed_back limit words l small h i ++ Sign mark.Comma
      ∷ (symbols_append words (number_words u) (sign mark.CloseBracket ∷ [])
      ∙ ap (λ (x : List Symbol). x ++ Sign mark.CloseBracket ∷ []) (signed_back limit words u small k)) i))

  module _ (sorts : List (Option Sort)) (names : Naming) (known : AreKnown words sorts names) where
    -- ---- the set that a line answers to
    pub record OverBack (S : ℕ) : Type 0 where
      pub over : Option ℕ
      pub spelled : symbols_on words (over_words names.sets S) ≡ spell_over over
      pub number_is : set_at sorts over ≡ S

    pub over_back : (S : ℕ) → S < suc (length names.sets) → OverBack S
    over_back zero h = record { over = None; spelled = refl; number_is = refl }
    over_back (suc S) h =
        let is = known.sets S (omega arith) in
        record {
          over = Some (number_of words (get_or names.sets S []));
          spelled = ap (λ (l : List Symbol). Reserved word.Over ∷ l)
              (append-nil (symbol_at one words kind.Word (get_or names.sets S [])) ∙ is.is_name);
          number_is = ap set_number is.sort_is;
        }

    -- ---- two sides
    pub record SidesBack (left : Expression) (relation : model.Relation) (right : Expression) (S : ℕ) : Type 0 where
      pub sides : Sides
      pub spelled : symbols_on words (comparison_words names left relation right ++ over_words names.sets S)
          ≡ spell_sides sides
      pub left_is : expression sorts (tree_of (parsed_relation sides).left) ≡ left
      pub relation_is : relation_of (parsed_relation sides).rel ≡ relation
      pub right_is : expression sorts (tree_of (parsed_relation sides).right) ≡ right
      pub over_is : set_at sorts (parsed_relation sides).over ≡ S

    pub sides_back : (left : Expression) (relation : model.Relation) (right : Expression) → IsReadable limit names left
        → IsReadable limit names right → (S : ℕ) → S < suc (length names.sets)
        → SidesBack left relation right S
    sides_back left relation right h k S some =
        let o = over_back S some in
        let end = over_words names.sets S in
        let l = read_back limit small words sorts names known left h in
        let r = read_back limit small words sorts names known right k in
        record {
          sides = record { left = l.item; rel = rel_of relation; right = record { inner = r.item; over = o.over } };
          spelled =
              ap (symbols_on words)
              (append_assoc (expression_words names left)
              (relation_word relation ∷ expression_words names right) end)
              ∙ symbols_append words (expression_words names left)
              (relation_word relation ∷ (expression_words names right ++ end))
              ∙ (λ i. l.spelled i ++ (rel_word words relation (expression_words names right ++ end)
              ∙ ap (λ (x : List Symbol). spell_rel (rel_of relation) ∷ x)
              (symbols_append words (expression_words names right) end ∙ (λ j. r.spelled j ++ o.spelled j))) i);
          left_is = l.tree_is;
          relation_is = relation_back relation;
          right_is = r.tree_is;
          over_is = o.number_is;
        }

    -- ---- names in a list
    abbrev pub parameter_name : ℕ → List ℕ
    parameter_name k = get_or names.parameters k []

    pub name_back : (bytes : List ℕ) (rest : List Written)
        → symbol_at one words kind.Word bytes ≡ Name (number_of words bytes) ∷ []
        → symbols_on words (name bytes ∷ rest) ≡ Name (number_of words bytes) ∷ symbols_on words rest
    name_back bytes rest is = ap (λ (l : List Symbol). l ++ symbols_on words rest) is

    parameter_back : (k : ℕ) → k < length names.parameters → parameter_at sorts (number_of words (parameter_name k)) ≡ k
    parameter_back k h = ap parameter_number (known.parameters k h).sort_is

    -- items, each behind a comma
    module _ {A B : Type 0} (write : A → List Written) (spell : B → List Symbol) (item : A → B) (P : A → Type 0)
        (back : (x : A) → P x → symbols_on words (write x) ≡ spell (item x)) where
      pub more_back : (xs : List A) → Each P xs
          → symbols_on words (listed write false xs) ≡ spell_more spell (map item xs)
      more_back [] h = refl
      more_back (x ∷ xs) h =
          ap (λ (l : List Symbol). Sign mark.Comma ∷ l)
          (symbols_append words (write x) (listed write false xs) ∙ (λ i. back x h.0 i ++ more_back xs h.1 i))

      pub list_back : (xs : List A) → Each P xs
          → symbols_on words (listed write true xs) ≡ spell_list spell (map item xs)
      list_back [] h = refl
      list_back (x ∷ xs) h =
          symbols_append words (write x) (listed write false xs) ∙ (λ i. back x h.0 i ++ more_back xs h.1 i)

    -- ---- members of a budget
    abbrev pub member_of : model.Member → Member
    member_of h = record {
      name = number_of words (parameter_name h.parameter);
      spread = record { centre = signed_of h.centre; deviation = numeral_of h.deviation };
    }

    pub member_spelled : (h : model.Member) → IsReadableMember limit names h
        → symbols_on words (member_words names h) ≡ spell_member (member_of h)
    member_spelled h is =
        name_back (parameter_name h.parameter)
        (keyword word.At ∷ (number_words h.centre ++ keyword word.By ∷ number_words h.deviation))
        (known.parameters h.parameter is.parameter).is_name
        ∙ ap (λ (l : List Symbol). Name (number_of words (parameter_name h.parameter)) ∷ Reserved word.At ∷ l)
        (symbols_append words (number_words h.centre) (keyword word.By ∷ number_words h.deviation)
        ∙ (λ i. signed_back limit words h.centre small is.centre i ++ Reserved word.By
        ∷ number_back limit words h.deviation small is.deviation.0 is.deviation.1 i))

    pub member_back : (h : model.Member) → IsReadableMember limit names h → member sorts (member_of h) ≡ h
    member_back h is = λ i. record {
      parameter = parameter_back h.parameter is.parameter i;
      centre = signed_fraction_back h.centre i;
      deviation = fraction_back h.deviation is.deviation.1 i;
    }

    pub members_back : (hs : List model.Member) → Each (IsReadableMember limit names) hs
        → map (member sorts) (map member_of hs) ≡ hs
    members_back [] h = refl
    members_back (x ∷ hs) h = λ i. member_back x h.0 i ∷ members_back hs h.1 i

    pub numbers_back : (ks : List ℕ) → Each (λ k. k < length names.parameters) ks
        → map (parameter_at sorts) (map (λ k. number_of words (parameter_name k)) ks) ≡ ks
    numbers_back [] h = refl
    numbers_back (k ∷ ks) h = λ i. parameter_back k h.0 i ∷ numbers_back ks h.1 i
