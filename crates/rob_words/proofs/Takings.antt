-- What `clap`'s answer says of the texts that words hold.
use Rattle.std.proofs.Common.{◌≡◌, ◌≤◌, ◌∙◌, ◌<◌, inl, inr, refl, sym, ap, ap₂, subst, arith, List, [], ◌∷◌, ◌++◌, length, map, true, codes}
use Rattle.clap.specs.Faults.{fault_of, is_simple_and_free}
use Rattle.clap.specs.Kinds.{HasKind, IsAmong}
use Rattle.clap.specs.Matches.{first_value, found_of}
use Rattle.clap.specs.Simple.{App, is_simple, matches_of}
use Rattle.clap.specs.Values.{kind_of}
use Rattle.clap.specs.Walk.{first_of, rows_of}
use Rattle.clap.specs.declared.error.Error.{Error}
use Rattle.clap.specs.declared.error.kind.ErrorKind.TheVariants.{OutOfMemory}
use Rattle.clap.specs.declared.parser.matches.ArgMatches.{ArgMatches}
use Rattle.clap.proofs.WalkLemmas.{first_value-rows}
use Rattle.rob_words.specs.Values.{Word}
use Rattle.rob_words.specs.Grammar.{Finds, grammar}
use Rattle.rob_words.specs.Texts.{AreAdmitted, Hold, Holding, HoldsBehind, listed}
use Rattle.rob_words.specs.Verbs.{own_of, takes_route}
use Rattle.rob_words.specs.declared.verb.Own.{Own}
use Rattle.rob_words.specs.declared.verb.Verb.{Verb}
use Rattle.rob_words.proofs.Levels.{holds-taken, simple, simple_app, texts-held, texts_in}
use Rattle.rob_words.proofs.Slots.{count_of, size}
use Rattle.rob_words.proofs.VerbLemmas.{own-few}

-- what was found is what the rows hold
found-in : (m : ArgMatches) (texts : Holding) → Finds m texts → texts_in (rows_of (found_of m)) ≡ texts
found-in m texts finds =
    let of : (id : Word) → first_of id (rows_of (found_of m)) ≡ first_value (found_of m) id =
    λ id. sym (first_value-rows (found_of m) id) in
    let own_is : (texts_in (rows_of (found_of m))).own ≡ texts.own =
    ap₂ (λ a bc. listed a ++ bc) (of (codes "first"))
    (ap₂ (λ b c. listed b ++ listed c) (of (codes "second")) (of (codes "third")))
    ∙ sym finds.own in
    (λ i. record {
      own = own_is i;
      bits = (of (codes "bits") ∙ finds.bits) i;
      way = (of (codes "route") ∙ finds.way) i;
    })

-- a command has no more own words than there are places
size-own : (own : List Own) → length own ≤ 3 → size (count_of own) ≡ length own
size-own [] few = refl
size-own (k ∷ []) few = refl
size-own (k ∷ l ∷ []) few = refl
size-own (k ∷ l ∷ m ∷ []) few = refl
size-own (k ∷ l ∷ m ∷ n ∷ more) few = absurd (omega (arith, few))

size-is : (verb : Verb) → size (count_of (own_of verb)) ≡ length (own_of verb)
size-is verb = size-own (own_of verb) (own-few verb)

pub taken-holds : (verb : Verb) (words : List Word) (m : ArgMatches) (texts : Holding)
    → 0 < length words → AreAdmitted words
    → fault_of (grammar verb) words ≡ [] → rows_of (found_of m) ≡ matches_of (grammar verb) words → Finds m texts
    → HoldsBehind verb words texts
taken-holds verb [] m texts named admitted none rows finds = absurd (omega arith)
taken-holds verb (name ∷ words) m texts named admitted none rows finds =
    let held = texts-held (takes_route verb) (own_of verb) name words admitted.1 none in (
      held.0,
      held.1,
      subst (Hold (takes_route verb) (length (own_of verb)) held.0) (sym (ap texts_in rows) ∙ found-in m texts finds)
          (subst (λ n. Hold (takes_route verb) n held.0 (texts_in (matches_of (grammar verb) (name ∷ words))))
          (size-is verb) held.2),
    )

-- `clap` refuses words that hold texts for want of memory alone
pub refused-holds : (verb : Verb) (words : List Word) (e : Error) (texts : Holding)
    → HasKind (fault_of (grammar verb) words) e
    → HoldsBehind verb words texts → kind_of e ≡ OutOfMemory
refused-holds verb [] e texts cause held = absurd held
refused-holds verb (name ∷ words) e texts (inl memory) held = memory
refused-holds verb (name ∷ words) e texts (inr among) held =
    absurd (subst (IsAmong (kind_of e))
    (holds-taken (takes_route verb) (own_of verb) name words held.0 texts held.1
    (subst (λ n. Hold (takes_route verb) n held.0 texts) (sym (size-is verb)) held.2)) among)

pub named-map : {A : Type 0} (f : A → Word) (xs : List A) → 0 < length xs → 0 < length (map f xs)
named-map f [] named = absurd (omega arith)
named-map f (x ∷ xs) named = omega arith

-- ---- the answer of a parse

module _ (verb : Verb) (app : App) (words : List Word) (built : app ≡ grammar verb) where
  is_simple_app : is_simple_and_free app ≡ true
  is_simple_app = ap is_simple_and_free built ∙ simple (takes_route verb) (own_of verb)

  pub parsed-texts : (m : ArgMatches) → 0 < length words → AreAdmitted words
      → (is_simple_and_free app ≡ true → fault_of app words ≡ [])
      → (is_simple app ≡ true → rows_of (found_of m) ≡ matches_of app words) → (texts : Holding) → Finds m texts
      → HoldsBehind verb words texts
  parsed-texts m named admitted kinds rows texts finds =
      taken-holds verb words m texts named admitted (sym (ap (λ a. fault_of a words) built) ∙ kinds is_simple_app)
      (rows (ap is_simple built ∙ simple_app (takes_route verb) (own_of verb))
      ∙ ap (λ a. matches_of a words) built) finds

  pub refused-cause : (e : Error) → (is_simple_and_free app ≡ true → HasKind (fault_of app words) e)
      → (kind_of e ≡ OutOfMemory → ⊥)
      → (texts : Holding) → HoldsBehind verb words texts → ⊥
  refused-cause e kinds other texts held =
      other (refused-holds verb words e texts
      (subst (λ a. HasKind (fault_of a words) e) built (kinds is_simple_app)) held)
