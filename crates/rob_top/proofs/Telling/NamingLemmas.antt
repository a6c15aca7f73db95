-- Which commands have a list of names among their own words.
use Rattle.std.proofs.Common.{◌≡◌, ◌||◌, ℕ, Bool, true, false, not, inl, inr, ◌⊎◌, List, [], ◌∷◌, Some, None, refl, ap}
use Rattle.std.specs.Prelude.{if◌then◌else◌}
use denote.Enum.Bare.{same_true, sameb}
use Rattle.rob_meaning.specs.RobustModel.{RobustModel}
use Rattle.rob_top.proofs.Origins.CommandLemmas.{branching_is, is_branching_work}
use Rattle.rob_top.proofs.Fetching.OwnLemmas.{has_kind, second_of}
use Rattle.rob_top.specs.Branched.{BreaksWhole, no_ranges, no_variables}
use Rattle.rob_top.specs.Calls.{Call}
use Rattle.rob_top.specs.Commands.{IsBranching, work_of}
use Rattle.rob_top.specs.Files.{word_of}
use Rattle.rob_top.specs.Inputs.{TellsNames}
use Rattle.rob_words.proofs.EachValue.{each_value}
use Rattle.rob_words.specs.Commands.{Line}
use Rattle.rob_words.specs.Values.{Word}
use Rattle.rob_words.specs.Verbs.{own_of}
use Rattle.rob_words.specs.contracts.verb.Own.{the_type}
use Rattle.rob_words.specs.contracts.verb.Verb.{enum, the_type as verb_type}
use Rattle.rob_words.specs.declared.verb.Own.{Own}
use Rattle.rob_words.specs.declared.verb.Own.TheVariants.{Names}
use Rattle.rob_words.specs.declared.verb.Verb.{Verb}
use Rattle.rob_words.specs.declared.verb.Verb.TheVariants.{CheckTree}

-- a word of a kind stands among words of which one is of the kind
word_kind : (kind : Own) (kinds : List Own) (words : List Word) (w : Word) → word_of kind kinds words ≡ Some w
    → has_kind kind kinds ≡ true
word_kind kind [] words w e = absurd (let no : None ≡ Some w = e in cc)
word_kind kind (other ∷ kinds) [] w e = absurd (let no : None ≡ Some w = e in cc)
word_kind kind (other ∷ kinds) (word ∷ words) w e = by (sameb the_type other kind) e (word_kind kind kinds words w)
  where
    by : (same : Bool) → (if same then Some word else word_of kind kinds words) ≡ Some w
        → (word_of kind kinds words ≡ Some w → has_kind kind kinds ≡ true) → (same || has_kind kind kinds) ≡ true
    by true h behind = refl
    by false h behind = behind h

-- such a command grows a tree, or checks one
abbrev is_either : Verb → Bool
is_either v = not (has_kind Names (own_of v)) || (is_branching_work (work_of v) || sameb verb_type v CheckTree)

names_verb : (verb : Verb) → has_kind Names (own_of verb) ≡ true → IsBranching verb ⊎ (verb ≡ CheckTree)
names_verb verb h =
    by (is_branching_work (work_of verb)) refl
    (second_of (not (has_kind Names (own_of verb))) (is_branching_work (work_of verb) || sameb verb_type verb CheckTree)
    (each_value enum is_either refl verb) (ap not h))
  where
    by : (b : Bool) → is_branching_work (work_of verb) ≡ b → (b || sameb verb_type verb CheckTree) ≡ true
        → IsBranching verb ⊎ (verb ≡ CheckTree)
    by true e k = inl (branching_is (work_of verb) e)
    by false e k = inr (same_true verb_type tt verb CheckTree k)

telling_verb : (line : Line) (names : List Word) → TellsNames line names → IsBranching line.verb
    ⊎ (line.verb ≡ CheckTree)
telling_verb line names h = names_verb line.verb (word_kind Names (own_of line.verb) line.own h.word h.told)

-- so do the words of variables that break a rule
pub breaking_verb : (call : Call) (line : Line) (m : RobustModel) (rule : ℕ) → BreaksWhole call line m rule
    → IsBranching line.verb ⊎ (line.verb ≡ CheckTree)
breaking_verb call line m rule (no_variables names h told none e) = telling_verb line names told
breaking_verb call line m rule (no_ranges numbers h e) = telling_verb line h.names h.told
