-- Which files a command line names, by the kinds of its own words.
use Rattle.std.proofs.Common.{◌≡◌, ◌||◌, ℕ, Bool, true, false, not, refl, sym, ◌∙◌, ap, subst, arith, List, [], ◌∷◌, length, Option, Some, None, Vec, Global, rules, inl, inr, ◌⊎◌}
use Rattle.std.specs.Prelude.{if◌then◌else◌, option_map}
use denote.Enum.Bare.{same_true, sameb}
use Rattle.rob_top.proofs.Origins.CommandLemmas.{is_branching_work}
use Rattle.rob_top.specs.Calls.{Call, limit_of}
use Rattle.rob_top.specs.Commands.{IsBranching, IsOnModel, Work, reads_model, work_of}
use Rattle.rob_top.specs.Files.{HasFile, Request, file_of, files_of, first_or, later, most_of, request_of, requests, word_of}
use Rattle.rob_top.specs.Replies.{HasTexts, text_of, with_text}
use Rattle.rob_top.specs.declared.files.Texts.{Texts}
use Rattle.rob_words.specs.Commands.{Line, IsSpelled}
use Rattle.rob_words.specs.Kinds.{AreOfKinds, IsOfKind}
use Rattle.rob_words.specs.Values.{Word}
use Rattle.rob_words.specs.Verbs.{own_of}
use Rattle.rob_words.specs.contracts.verb.Own.{the_type}
use Rattle.rob_words.specs.contracts.verb.Verb.{enum, the_type as verb_type}
use Rattle.rob_words.specs.declared.verb.Own.{Own}
use Rattle.rob_words.specs.declared.verb.Own.TheVariants.{Model, Certificate, Scenarios, Number, Names, Statement, Limit, Limits, Cuts, Tree, Form}
use Rattle.rob_words.specs.declared.verb.Verb.{Verb}
use Rattle.rob_words.specs.declared.verb.Verb.TheVariants.{Text, Gen, Worst}
use Rattle.rob_words.proofs.EachValue.{each_value}

-- ---- facts of the table of commands

-- one of the kinds is this
abbrev pub has_kind : Own → List Own → Bool
has_kind kind [] = false
has_kind kind (other ∷ kinds) = sameb the_type other kind || has_kind kind kinds

-- one of two tests holds, and the first doesn't
pub second_of : (a b : Bool) → (a || b) ≡ true → a ≡ false → b ≡ true
second_of true b h unmet = absurd (search (unmet, rules))
second_of false b h unmet = h

-- a command that reads a model names one
abbrev is_named : Verb → Bool
is_named v = not (reads_model v) || has_kind Model (own_of v)

pub has_model : (verb : Verb) → IsOnModel verb → has_kind Model (own_of verb) ≡ true
has_model verb reads =
    second_of (not (reads_model verb)) (has_kind Model (own_of verb))
    (each_value enum is_named refl verb) (ap not reads)

-- one that grows a tree has a list of names
abbrev is_naming : Verb → Bool
is_naming v = not (is_branching_work (work_of v)) || has_kind Names (own_of v)

pub has_names : (verb : Verb) → IsBranching verb → has_kind Names (own_of verb) ≡ true
has_names verb is =
    second_of (not (is_branching_work (work_of verb))) (has_kind Names (own_of verb))
    (each_value enum is_naming refl verb) (ap (λ (w : Work). not (is_branching_work w)) is)

-- `worst` has the name of a form
pub has_form : (verb : Verb) → verb ≡ Worst → has_kind Form (own_of verb) ≡ true
has_form verb is = ap (λ (v : Verb). has_kind Form (own_of v)) is

-- one that reads none is `text` or `gen`
abbrev is_read : Verb → Bool
is_read v = reads_model v || (sameb verb_type v Text || sameb verb_type v Gen)

pub on_number : (verb : Verb) → reads_model verb ≡ false → (verb ≡ Text) ⊎ (verb ≡ Gen)
on_number verb e = by (sameb verb_type verb Text) refl either
  where
    either : (sameb verb_type verb Text || sameb verb_type verb Gen) ≡ true
    either =
        second_of (reads_model verb) (sameb verb_type verb Text || sameb verb_type verb Gen)
        (each_value enum is_read refl verb) e

    by : (b : Bool) → sameb verb_type verb Text ≡ b → (b || sameb verb_type verb Gen) ≡ true
        → (verb ≡ Text) ⊎ (verb ≡ Gen)
    by true is h = inl (same_true verb_type tt verb Text is)
    by false is h = inr (same_true verb_type tt verb Gen h)

-- its own word is a number
pub takes_number : (verb : Verb) → reads_model verb ≡ false → own_of verb ≡ Number ∷ []
takes_number verb e = by (on_number verb e)
  where
    by : (verb ≡ Text) ⊎ (verb ≡ Gen) → own_of verb ≡ Number ∷ []
    by (inl is) = ap own_of is
    by (inr is) = ap own_of is

-- ---- so it names no file
no_request : (words : List Word) → request_of Model (Number ∷ []) words ≡ None
no_request [] = refl
no_request (word ∷ words) = refl

pub number_no_file : (call : Call) (line : Line) (bytes : List ℕ) → reads_model line.verb ≡ false
    → HasFile call line Model bytes → ⊥
number_no_file call line bytes reads_none h =
    let named : request_of Model (Number ∷ []) line.own ≡ Some h.request =
    subst (λ (kinds : List Own). request_of Model kinds line.own ≡ Some h.request)
    (takes_number line.verb reads_none) h.named
    in
    let clash : None ≡ Some h.request = sym (no_request line.own) ∙ named in
    cc

no_files : (words : List Word) → files_of (Number ∷ []) words ≡ []
no_files [] = refl
no_files (word ∷ words) = refl

pub number_no_files : (line : Line) → reads_model line.verb ≡ false → requests line ≡ []
number_no_files line reads_none =
    ap (λ (kinds : List Own). files_of kinds line.own) (takes_number line.verb reads_none) ∙ no_files line.own

-- ---- the word of a kind

request_there : (kind : Own) (most : ℕ) → most_of kind ≡ Some most → (kinds : List Own) (names : List Word)
    → length names ≡ length kinds → has_kind kind kinds ≡ true → (r : Request) × (request_of kind kinds names ≡ Some r)
request_there kind most bound [] names count has = absurd (search (has, rules))
request_there kind most bound (other ∷ kinds) [] count has = absurd (omega (arith, count))
request_there kind most bound (other ∷ kinds) (name ∷ names) count has =
    by (sameb the_type other kind) refl (most_of other) refl has
    (request_there kind most bound kinds names (omega (arith, count)))
  where
    by : (same : Bool) → sameb the_type other kind ≡ same → (o : Option ℕ) → most_of other ≡ o
        → (same || has_kind kind kinds) ≡ true
        → (has_kind kind kinds ≡ true → (r : Request) × (request_of kind kinds names ≡ Some r))
        → (r : Request) × (first_or o same name (request_of kind kinds names) ≡ Some r)
    by true alike None none h behind =
        absurd (let no : None ≡ Some most =
        sym none ∙ ap most_of (same_true the_type tt other kind alike) ∙ bound in cc)
    by true alike (Some n) is h behind = (file_of n name, refl)
    by false alike None none h behind = behind h
    by false alike (Some n) is h behind = let r = behind h in (later r.0, ap (option_map later) r.1)

-- words of which one is of a kind have a word of that kind
pub word_there : (kind : Own) (kinds : List Own) (words : List Word) → length words ≡ length kinds
    → has_kind kind kinds ≡ true
    → (w : Word) × (word_of kind kinds words ≡ Some w)
word_there kind [] words count has = absurd (search (has, rules))
word_there kind (other ∷ kinds) [] count has = absurd (omega (arith, count))
word_there kind (other ∷ kinds) (word ∷ words) count has =
    by (sameb the_type other kind) has (word_there kind kinds words (omega (arith, count)))
  where
    by : (same : Bool) → (same || has_kind kind kinds) ≡ true
        → (has_kind kind kinds ≡ true → (w : Word) × (word_of kind kinds words ≡ Some w))
        → (w : Word) × ((if same then Some word else word_of kind kinds words) ≡ Some w)
    by true h behind = (word, refl)
    by false h behind = behind h

-- a word of a kind among words of their kinds is one of the kind
kind_kept : (greatest : ℕ) (kind : Own) (kinds : List Own) (words : List Word) (w : Word)
    → AreOfKinds greatest kinds words
    → word_of kind kinds words ≡ Some w → IsOfKind greatest kind w
kind_kept greatest kind [] words w h e = absurd (let no : None ≡ Some w = e in cc)
kind_kept greatest kind (other ∷ kinds) [] w h e = absurd (let no : None ≡ Some w = e in cc)
kind_kept greatest kind (other ∷ kinds) (word ∷ words) w h e =
    by (sameb the_type other kind) refl e (kind_kept greatest kind kinds words w h.1)
  where
    by : (same : Bool) → sameb the_type other kind ≡ same
        → (if same then Some word else word_of kind kinds words) ≡ Some w
        → (word_of kind kinds words ≡ Some w → IsOfKind greatest kind w) → IsOfKind greatest kind w
    by true alike is behind =
        let same : word ≡ w = cc in
        subst (λ (x : Word). IsOfKind greatest kind x) same
        (subst (λ (k : Own). IsOfKind greatest k word) (same_true the_type tt other kind alike) h.0)
    by false alike is behind = behind is

-- what own words give for a kind, where they have a word of it, is the line's word of that kind
pub own_told : (call : Call) (line : Line) (verb : Verb) (kind : Own) (words : List Word) (word : Word)
    → line.verb ≡ verb → IsSpelled call.words line → has_kind kind (own_of line.verb) ≡ true → line.own ≡ words
    → ((other : Word) → word_of kind (own_of verb) words ≡ Some other → word ≡ other)
    → word_of kind (own_of line.verb) line.own ≡ Some word
own_told call line verb kind words word is spelled has own_is told =
    let there = word_there kind (own_of line.verb) line.own spelled.1.count has in
    let here : word_of kind (own_of verb) words ≡ Some there.0 =
    ap (λ (list : List Word). word_of kind (own_of verb) list) (sym own_is)
    ∙ ap (λ (v : Verb). word_of kind (own_of v) line.own) (sym is) ∙ there.1
    in
    there.1 ∙ ap Some (sym (told there.0 here))

-- so it is one of the kind
pub own_of_kind : (limit : ℕ) (call : Call) (line : Line) (kind : Own) (word : Word) → IsSpelled call.words line
    → limit_of line ≡ limit → word_of kind (own_of line.verb) line.own ≡ Some word → IsOfKind limit kind word
own_of_kind limit call line kind word spelled at told =
    kind_kept limit kind (own_of line.verb) line.own word
    (subst (λ (l : ℕ). AreOfKinds l (own_of line.verb) line.own) at spelled.1.kinds) told

-- the file of a kind that the line names came with the text of that kind
pub file_came : (call : Call) (line : Line) (texts : Texts) (kind : Own) (most : ℕ) → most_of kind ≡ Some most
    → HasTexts call line texts
    → has_kind kind (own_of line.verb) ≡ true → HasFile call line kind (text_of kind texts)
file_came call line texts kind most bound came has =
    let r = request_there kind most bound (own_of line.verb) line.own came.spelled.1.count has in
    record { request = r.0; named = r.1; found = came.found kind r.0 r.1 }

-- a file behind the first stands among those behind it
pub later_request : (o : Option Request) (r : Request) → option_map later o ≡ Some r → (s : Request)
    × (o ≡ Some s) × (r ≡ later s)
later_request None r e = absurd (let no : None ≡ Some r = e in cc)
later_request (Some s) r e = let same : later s ≡ r = cc in (s, refl, sym same)

-- ---- texts by kinds

pub text_of-same : (kind : Own) (most : ℕ) → most_of kind ≡ Some most → (bytes : Vec ℕ Global) (texts : Texts)
    → text_of kind (with_text kind bytes texts) ≡ bytes.items
text_of-same Model most bound bytes texts = refl
text_of-same Certificate most bound bytes texts = refl
text_of-same Scenarios most bound bytes texts = refl
text_of-same Number most bound bytes texts = absurd (let no : None ≡ Some most = bound in cc)
text_of-same Names most bound bytes texts = absurd (let no : None ≡ Some most = bound in cc)
text_of-same Form most bound bytes texts = absurd (let no : None ≡ Some most = bound in cc)
text_of-same Tree most bound bytes texts = refl
text_of-same Statement most bound bytes texts = absurd (let no : None ≡ Some most = bound in cc)
text_of-same Limit most bound bytes texts = absurd (let no : None ≡ Some most = bound in cc)
text_of-same Limits most bound bytes texts = absurd (let no : None ≡ Some most = bound in cc)
text_of-same Cuts most bound bytes texts = absurd (let no : None ≡ Some most = bound in cc)

pub text_of-other : (kind other : Own) (bytes : Vec ℕ Global) (texts : Texts) → sameb the_type kind other ≡ false
    → text_of other (with_text kind bytes texts) ≡ text_of other texts
text_of-other Model Model bytes texts apart = absurd (search (apart, rules))
text_of-other Model Certificate bytes texts apart = refl
text_of-other Model Scenarios bytes texts apart = refl
text_of-other Certificate Model bytes texts apart = refl
text_of-other Certificate Certificate bytes texts apart = absurd (search (apart, rules))
text_of-other Certificate Scenarios bytes texts apart = refl
text_of-other Scenarios Model bytes texts apart = refl
text_of-other Scenarios Certificate bytes texts apart = refl
text_of-other Scenarios Scenarios bytes texts apart = absurd (search (apart, rules))
text_of-other Number other bytes texts apart = refl
text_of-other Model Number bytes texts apart = refl
text_of-other Certificate Number bytes texts apart = refl
text_of-other Scenarios Number bytes texts apart = refl
text_of-other Names other bytes texts apart = refl
text_of-other Model Names bytes texts apart = refl
text_of-other Certificate Names bytes texts apart = refl
text_of-other Scenarios Names bytes texts apart = refl
text_of-other Form other bytes texts apart = refl
text_of-other Model Form bytes texts apart = refl
text_of-other Certificate Form bytes texts apart = refl
text_of-other Scenarios Form bytes texts apart = refl
text_of-other Tree Model bytes texts apart = refl
text_of-other Tree Certificate bytes texts apart = refl
text_of-other Tree Scenarios bytes texts apart = refl
text_of-other Tree Number bytes texts apart = refl
text_of-other Tree Names bytes texts apart = refl
text_of-other Tree Form bytes texts apart = refl
text_of-other Tree Statement bytes texts apart = refl
text_of-other Tree Limit bytes texts apart = refl
text_of-other Tree Limits bytes texts apart = refl
text_of-other Tree Cuts bytes texts apart = refl
text_of-other Tree Tree bytes texts apart = absurd (search (apart, rules))
text_of-other Model Tree bytes texts apart = refl
text_of-other Certificate Tree bytes texts apart = refl
text_of-other Scenarios Tree bytes texts apart = refl
text_of-other Statement other bytes texts apart = refl
text_of-other Model Statement bytes texts apart = refl
text_of-other Certificate Statement bytes texts apart = refl
text_of-other Scenarios Statement bytes texts apart = refl
text_of-other Limit other bytes texts apart = refl
text_of-other Model Limit bytes texts apart = refl
text_of-other Certificate Limit bytes texts apart = refl
text_of-other Scenarios Limit bytes texts apart = refl
text_of-other Limits other bytes texts apart = refl
text_of-other Model Limits bytes texts apart = refl
text_of-other Certificate Limits bytes texts apart = refl
text_of-other Scenarios Limits bytes texts apart = refl
text_of-other Cuts other bytes texts apart = refl
text_of-other Model Cuts bytes texts apart = refl
text_of-other Certificate Cuts bytes texts apart = refl
text_of-other Scenarios Cuts bytes texts apart = refl
