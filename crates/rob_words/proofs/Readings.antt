-- The texts that words hold, judged, are a command line; and no other words are one.
use Rattle.std.proofs.Common.{ℕ, ◌≡◌, ◌∙◌, inl, inr, Bool, true, false, refl, sym, ap, subst, List, [], ◌∷◌, ◌++◌, length, map, Option, Some, None, Result, Ok, Err, IfErr, IsErrAnd, rules}
use Rattle.rob_words.specs.Kinds.{AreOfKinds}
use Rattle.rob_words.specs.Values.{Word, greatest_of, route_text, width_text}
use Rattle.rob_words.specs.Commands.{ArePlain, HasParts, IsCommandLine, IsPlain, IsSpelled, Line, Part, Says, Setting, TellsRoute, apart, bits, joined, own, own_words, route, setting_word, words_of, values_of}
use Rattle.rob_words.specs.Answers.{HasCause}
use Rattle.rob_words.specs.Texts.{AreAdmitted, HasNoTexts, Hold, Holding, Holds, HoldsBehind, IsAdmitted, TakesRoute, bare_words, listed}
use Rattle.rob_words.specs.Verbs.{own_of, takes_route, verb_word}
use Rattle.rob_words.specs.declared.error.WordsErr.{WordsErr}
use Rattle.rob_words.specs.declared.error.WordsErr.TheVariants.{NoCommandLine, Memory}
use Rattle.rob_words.specs.declared.line.CommandLine.{CommandLine}
use Rattle.rob_words.specs.declared.route.Route.{Route}
use Rattle.rob_words.specs.declared.route.Route.TheVariants.{Dual}
use Rattle.rob_words.specs.declared.verb.Own.{Own}
use Rattle.rob_words.specs.declared.verb.Verb.{Verb}
use Rattle.rob_words.specs.declared.width.Width.{Width}
use Rattle.rob_words.specs.declared.width.Width.TheVariants.{SixtyTwo}
use Rattle.rob_words.proofs.Spellings.{heads, line-plain, one_parts, own-plain, rest_of, says-one, width_text-one}
use Rattle.rob_words.proofs.VerbLemmas.{verb_word-one, verb_word-plain}

-- ---- words that are judged

-- the same kinds and words
pub of_kinds_again : {A : Type 0} (text : A → Word) (a b : ℕ) (ks ls : List Own) (xs ys : List A) → a ≡ b → ks ≡ ls
    → xs ≡ ys → AreOfKinds b ls (map text ys) → AreOfKinds a ks (map text xs)
of_kinds_again {A} text a b ks ls xs ys f e d h =
    subst (λ greatest. AreOfKinds greatest ks (map text xs)) (sym f)
    (subst (λ kinds. AreOfKinds b kinds (map text xs)) (sym e)
    (subst (λ (words : List A). AreOfKinds b ls (map text words)) (sym d) h))

-- a route that isn't told is the default
dual-said : (way : Route) → Says route_text Dual [] way → way ≡ Dual
dual-said way (inl one) = absurd (search (one, rules))
dual-said way (inr none) = none.1

tells : (takes : Bool) (value : Option Word) (way : Route) → TakesRoute takes value
    → Says route_text Dual (listed value) way
    → TellsRoute takes (listed value) way
tells true value way takes_it said = said
tells false value way takes_it said =
    (ap listed takes_it, dual-said way (subst (λ vs. Says route_text Dual vs way) (ap listed takes_it) said))

pub spelled-line : (verb : Verb) (words more : List Word) (found : Holding) (width : Width) (way : Route)
    → words ≡ verb_word verb ∷ more
    → HoldsBehind verb words found → AreOfKinds (greatest_of width) (own_of verb) found.own
    → Says width_text SixtyTwo (listed found.bits) width
    → Says route_text Dual (listed found.way) way
    → IsSpelled words (record { verb = verb; own = found.own; way = way; width = width })
spelled-line verb words more found width way named holds kinds says_width says_way =
    let held = subst (λ ws. HoldsBehind verb ws found) named holds in
    let hold = held.2 in (
      held.0,
      record {
        spelled = named ∙ ap (λ ws. verb_word verb ∷ ws) held.1;
        own = hold.own;
        count = hold.all;
        names = subst ArePlain hold.own (own-plain held.0 hold.plain);
        kinds = kinds;
        width = subst (λ vs. Says width_text SixtyTwo vs width) (sym hold.bits) says_width;
        route = subst (λ vs. TellsRoute (takes_route verb) vs way) (sym hold.way)
            (tells (takes_route verb) found.way way hold.takes_route says_way);
      },
    )

-- ---- a command line's words hold texts

says-listed : {X : Type 0} (text : X → Word) (default : X) (values : List Word) (x : X) → Says text default values x
    → (o : Option Word) × (values ≡ listed o)
says-listed text default values x (inl one) = (Some (text x), one)
says-listed text default values x (inr none) = (None, none.0)

tells-listed : (takes : Bool) (values : List Word) (way : Route) → TellsRoute takes values way → (o : Option Word)
    × (values ≡ listed o) × TakesRoute takes o
tells-listed true values way said = let o = says-listed route_text Dual values way said in (o.0, o.1, tt)
tells-listed false values way none = (None, none.0, refl)

line-holds : (words : List Word) (line : Line) (parts : List Part) → HasParts words line parts
    → (found : Holding) × Hold (takes_route line.verb) (length (own_of line.verb)) parts found
line-holds words line parts has =
    let width = says-listed width_text SixtyTwo (values_of bits parts) line.width has.width in
    let way = tells-listed (takes_route line.verb) (values_of route parts) line.way has.route in (
      record { own = line.own; bits = width.0; way = way.0 },
      record {
        own = has.own;
        all = has.count;
        plain = line-plain words line parts has;
        bits = width.1;
        way = way.1;
        takes_route = way.2;
      },
    )

-- the line's command is the one that the first word names
module _ (verb : Verb) (words more : List Word) (named : words ≡ verb_word verb ∷ more)
    (line : IsCommandLine words) where
  spelling : verb_word verb ∷ more ≡ verb_word line.0.verb ∷ words_of line.1.0
  spelling = sym named ∙ line.1.1.spelled

  same_verb : verb ≡ line.0.verb
  same_verb = verb_word-one verb line.0.verb (heads spelling)

  pub line-texts : (found : Holding) × HoldsBehind verb words found
  line-texts =
      let held = line-holds words line.0 line.1.0 line.1.1 in (
        held.0,
        subst (λ ws. HoldsBehind verb ws held.0) (sym named) (
          line.1.0,
          ap rest_of spelling,
          subst (λ v. Hold (takes_route v) (length (own_of v)) line.1.0 held.0) (sym same_verb) held.1,
        ),
      )

  module _ (found : Holding) (holds : HoldsBehind verb words found) where
    held : Holds verb more found
    held = subst (λ ws. HoldsBehind verb ws found) named holds

    same_parts : held.0 ≡ line.1.0
    same_parts =
        one_parts held.0 line.1.0 held.2.plain (line-plain words line.0 line.1.0 line.1.1)
        (sym held.1 ∙ ap rest_of spelling)

    pub line-width : Says width_text SixtyTwo (listed found.bits) line.0.width
    line-width =
        subst (λ vs. Says width_text SixtyTwo vs line.0.width)
        (ap (values_of bits) (sym same_parts) ∙ held.2.bits) line.1.1.width

    -- its own words are of their kinds, at the width that is said
    pub line-kinds : (width : Width) → Says width_text SixtyTwo (listed found.bits) width
        → AreOfKinds (greatest_of width) (own_of verb) found.own
    line-kinds width says =
        subst (λ w. AreOfKinds (greatest_of w) (own_of verb) found.own)
        (says-one width_text SixtyTwo (listed found.bits) line.0.width width width_text-one line-width says)
        (subst (λ v. AreOfKinds (greatest_of line.0.width) (own_of v) found.own) (sym same_verb)
        (subst (AreOfKinds (greatest_of line.0.width) (own_of line.0.verb))
        (sym line.1.1.own ∙ ap own_words (sym same_parts) ∙ held.2.own) line.1.1.kinds))

    line-tells : TellsRoute (takes_route line.0.verb) (listed found.way) line.0.way
    line-tells =
        subst (λ vs. TellsRoute (takes_route line.0.verb) vs line.0.way)
        (ap (values_of route) (sym same_parts) ∙ held.2.way) line.1.1.route

    pub line-route : (way : Route) × Says route_text Dual (listed found.way) way
    line-route = told (takes_route line.0.verb) line-tells
      where
        told : (takes : Bool) → TellsRoute takes (listed found.way) line.0.way → (way : Route)
            × Says route_text Dual (listed found.way) way
        told true said = (line.0.way, said)
        told false none = (line.0.way, inr none)

-- ---- a command line's words are admitted

plain-admitted : (word : Word) → IsPlain word → IsAdmitted word
plain-admitted [] plain = plain
plain-admitted (byte ∷ bytes) plain = inl plain

setting-admitted : (setting : Setting) (more : Word) → IsAdmitted (setting_word setting ++ more)
setting-admitted bits more = inr (refl, refl)
setting-admitted route more = inr (refl, refl)

parts-admitted : (parts : List Part) → ArePlain (bare_words parts) → AreAdmitted (words_of parts)
parts-admitted [] plain = tt
parts-admitted (own word ∷ parts) plain = (plain-admitted word plain.0, parts-admitted parts plain.1)
parts-admitted (apart bits value ∷ parts) plain =
    (inr (refl, refl), (plain-admitted value plain.0, parts-admitted parts plain.1))
parts-admitted (apart route value ∷ parts) plain =
    (inr (refl, refl), (plain-admitted value plain.0, parts-admitted parts plain.1))
parts-admitted (joined setting value ∷ parts) plain =
    (setting-admitted setting (61 ∷ value), parts-admitted parts plain)

pub line-admitted : (words : List Word) → IsCommandLine words → AreAdmitted words
line-admitted words line = subst AreAdmitted (sym line.1.1.spelled) (
  plain-admitted (verb_word line.0.verb) (verb_word-plain line.0.verb),
  parts-admitted line.1.0 (line-plain words line.0 line.1.0 line.1.1),
)

-- ---- causes of errors

module _ (words : List Word) where
  texts-cause : (verb : Verb) (more : List Word) → words ≡ verb_word verb ∷ more → (e : WordsErr)
      → HasNoTexts verb words e → HasCause words e
  texts-cause verb more named NoCommandLine none = λ line. let texts =
      line-texts verb words more named line in none texts.0 texts.1
  texts-cause verb more named Memory none = tt

  -- `?` passes the error up as it is
  pub passed-texts : (verb : Verb) (more : List Word) → words ≡ verb_word verb ∷ more
      → (r : Result CommandLine WordsErr) (e : WordsErr)
      → IsErrAnd r (λ y. y ≡ e) → HasNoTexts verb words e → IfErr r (HasCause words)
  passed-texts verb more named (Ok line) e same none = tt
  passed-texts verb more named (Err y) e same none =
      subst (HasCause words) (sym same) (texts-cause verb more named e none)

  no_line : (e : WordsErr) → (IsCommandLine words → ⊥) → HasCause words e
  no_line NoCommandLine none = none
  no_line Memory none = tt

  pub passed-no_line : (r : Result CommandLine WordsErr) → (IsCommandLine words → ⊥) → IfErr r (HasCause words)
  passed-no_line (Ok line) none = tt
  passed-no_line (Err e) none = no_line e none
