-- What is fetched for own words, from what is for the first of them and for those behind it.
use Rattle.std.proofs.Common.{◌≡◌, ◌≤◌, ℕ, List, ◌∷◌, length, map, slice_index_or, Option, Some, None, Result, Ok, Err, IfOk, sym, ◌∙◌, ap, subst, Vec, Global}
use Rattle.rob_outside.specs.Fetches.{Fetch}
use Rattle.rob_outside.specs.Files.{File, whole}
use Rattle.rob_top.specs.Calls.{Count, Source, count, source_of}
use Rattle.rob_top.specs.Files.{IsFoundIn, files_of, most_of}
use Rattle.rob_top.specs.Replies.{Asks, AsksOnce, IsAbsence, IsFetched, with_file}
use Rattle.rob_top.specs.declared.files.Files.{Files}
use Rattle.rob_top.specs.declared.files.Files.TheVariants as files
use Rattle.rob_commands.specs.declared.reply.Reply.{Reply}
use Rattle.rob_words.specs.Values.{Word}
use Rattle.rob_words.specs.declared.verb.Own.{Own}
use Rattle.rob_top.proofs.Fetching.FilesLemmas.{first_absent, more_fetched, others, passed_over, split_first}

module _ {A : Type 0} (text : A → Word) (kinds : List Own) (names : List A) (d : Own) (e : A) (name : Word)
    (some_kind : 1 ≤ length kinds)
    (some_name : 1 ≤ length names) (name_is : name ≡ text (slice_index_or names 0 e)) where
  abbrev kind : Own
  kind = slice_index_or kinds 0 d

  words-split : map text names ≡ name ∷ map text (others names)
  words-split = ap (map text) (split_first names e some_name) ∙ ap (λ w. w ∷ map text (others names)) (sym name_is)

  -- of the whole lists, where it is so of the first and the rest
  whole_lists : (source : Source) (faults : Count) (found_files : Files)
      → IsFetched (kind ∷ others kinds) (name ∷ map text (others names)) source faults found_files
      → IsFetched kinds (map text names) source faults found_files
  whole_lists source faults found_files h =
      subst (λ ks. IsFetched ks (map text names) source faults found_files) (sym (split_first kinds d some_kind))
      (subst (λ ns. IsFetched (kind ∷ others kinds) ns source faults found_files) (sym words-split) h)

  pub words_passed : {E : Type 0} → most_of (slice_index_or kinds 0 d) ≡ None
      → (source : Source) (faults : Count) (result : Result Files E)
      → IfOk result (IsFetched (others kinds) (map text (others names)) source faults)
      → IfOk result (IsFetched kinds (map text names) source faults)
  words_passed none source faults (Err error) h = tt
  words_passed none source faults (Ok found_files) h =
      whole_lists source faults found_files
      (passed_over kind none (others kinds) name (map text (others names)) source faults found_files h)

  pub words_absent : (most : ℕ) → most_of (slice_index_or kinds 0 d) ≡ Some most
      → (source : Source) (faults : Count) (reply : Reply)
      → IsAbsence source (record { place = 0; name = name; most = most }) faults reply.ended reply.text
      → IsFetched kinds (map text names) source faults (files.Answer reply)
  words_absent most bound source faults reply h =
      whole_lists source faults (files.Answer reply)
      (first_absent kind most bound (others kinds) name (map text (others names)) source faults reply h)

  pub words_fetched : (most : ℕ) → most_of (slice_index_or kinds 0 d) ≡ Some most
      → (told later_told : Option (List File)) → later_told ≡ told → (before middle now : List Fetch)
      → AsksOnce (record { place = 0; name = name; most = most }) before middle
      → Asks (files_of (others kinds) (map text (others names))) middle now
      → (bytes : Vec ℕ Global)
      → IsFoundIn (source_of told before middle) (record {
        place = 0;
        name = name;
        most = most;
      }) (whole bytes.items)
      → (start between end : ℕ) → start ≤ between → (found_files result : Files)
      → IsFetched (others kinds) (map text (others names)) (source_of later_told middle now)
      (count between end) found_files
      → result ≡ with_file kind bytes found_files
      → IsFetched kinds (map text names) (source_of told before now) (count start end) result
  words_fetched most bound told later_told same before middle now one rest bytes found start between end rose
      found_files result h is =
      whole_lists (source_of told before now) (count start end) result
      (subst (λ r. IsFetched (kind ∷ others kinds) (name ∷ map text (others names)) (source_of told before now)
      (count start end) r) (sym is)
      (more_fetched told later_told same kind most bound (others kinds) name (map text (others names)) before middle
      now one rest bytes found
      start between end rose found_files h))
