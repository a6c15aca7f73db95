-- In which order the files are fetched, and that they are short.
use Rattle.std.proofs.Common.{◌≡◌, ◌≤◌, ◌^◌, inl, inr, ℕ, List, [], ◌∷◌, length, map, slice_index_or, Option, Some, None, refl, sym, ◌∙◌, ap, subst, arith, Vec, Global}
use Rattle.rob_outside.specs.Fetches.{Fetch, fetch_of}
use Rattle.rob_outside.specs.Files.{File, whole}
use Rattle.rob_top.specs.Calls.{source_of}
use Rattle.rob_top.specs.Files.{AsksInOrder, IsFoundIn, Request, answer_to, files_of, later, most_of, with_first}
use Rattle.rob_top.specs.Replies.{Asks, AsksOnce, IsGotWithin, with_file, with_text}
use Rattle.rob_top.specs.Work.{IsShort, IsShortFetch}
use Rattle.rob_top.specs.declared.files.Files.{Files}
use Rattle.rob_top.specs.declared.files.Files.TheVariants as files
use Rattle.rob_top.specs.declared.files.Got.{Got}
use Rattle.rob_top.specs.declared.files.Got.TheVariants as got
use Rattle.rob_top.specs.declared.files.Texts.{Texts}
use Rattle.rob_top.proofs.Fetching.FilesLemmas.{answer_here, behind_grown, first, grown_all, others, split_first}
use Rattle.rob_words.specs.Values.{Word}
use Rattle.rob_words.specs.declared.verb.Own.{Own}
use Rattle.rob_words.specs.declared.verb.Own.TheVariants as own

-- a single fetch of a file that came found the whole of it
came_whole : (told : Option (List File)) (request : Request) (bytes : List ℕ) (before now : List Fetch)
    (a : AsksOnce request before now)
    → IsFoundIn (source_of told before now) (first request) (whole bytes) → a.found ≡ Some (whole bytes)
came_whole told request bytes before now a h =
    sym (answer_here request a.found [])
    ∙ subst (λ (list : List Fetch). answer_to (first request) list ≡ Some (whole bytes))
    (behind_grown before now (fetch_of request.name request.most a.found ∷ []) a.grown) h.1

-- fetches ask for files in order wherever these stand
asks_later : (files : List Request) (fetches : List Fetch) → AsksInOrder files fetches
    → AsksInOrder (map later files) fetches
asks_later files [] h = tt
asks_later [] (fetch ∷ fetches) h = absurd h
asks_later (file ∷ files) (fetch ∷ fetches) (is, inl last) = (is, inl last)
asks_later (file ∷ files) (fetch ∷ fetches) (is, inr (came, rest)) = (is, inr (came, asks_later files fetches rest))

-- the first file came whole, and then those behind it were asked for
pub asks_more : (told : Option (List File)) (request : Request) (files : List Request) (bytes : List ℕ)
    (before middle now : List Fetch)
    → AsksOnce request before middle
    → IsFoundIn (source_of told before middle) (first request) (whole bytes) → Asks files middle now
    → Asks (request ∷ map later files) before now
asks_more told request files bytes before middle now one h rest = record {
  added = fetch_of request.name request.most one.found ∷ rest.added;
  grown = grown_all told request files before middle now one rest;
  in_order = (
    (refl, refl),
    inr ((bytes, came_whole told request bytes before middle one h), asks_later files rest.added rest.in_order),
  );
}

-- ---- the files of own words: the first came whole, and then those behind it were asked for
module _ {A : Type 0} (text : A → Word) (kinds : List Own) (names : List A) (d : Own) (e : A) (name : Word)
    (some_kind : 1 ≤ length kinds)
    (some_name : 1 ≤ length names) (name_is : name ≡ text (slice_index_or names 0 e)) where
  abbrev kind : Own
  kind = slice_index_or kinds 0 d

  abbrev more : List Request
  more = files_of (others kinds) (map text (others names))

  words-files : (o : Option ℕ) → most_of (slice_index_or kinds 0 d) ≡ o
      → files_of kinds (map text names) ≡ with_first o name more
  words-files o bound =
      ap (λ ks. files_of ks (map text names)) (split_first kinds d some_kind)
      ∙ ap (λ ns. files_of (kind ∷ others kinds) ns)
      (ap (map text) (split_first names e some_name) ∙ ap (λ w. w ∷ map text (others names)) (sym name_is))
      ∙ ap (λ (q : Option ℕ). with_first q name more) bound

  pub words_asked : (most : ℕ) → most_of (slice_index_or kinds 0 d) ≡ Some most
      → (told : Option (List File)) (before middle now : List Fetch)
      → AsksOnce (record { place = 0; name = name; most = most }) before middle
      → (bytes : List ℕ)
      → IsFoundIn (source_of told before middle) (record { place = 0; name = name; most = most }) (whole bytes)
      → Asks (files_of (others kinds) (map text (others names))) middle now
      → Asks (files_of kinds (map text names)) before now
  words_asked most bound told before middle now one bytes found rest =
      subst (λ (rs : List Request). Asks rs before now) (sym (words-files (Some most) bound))
      (asks_more told (record { place = 0; name = name; most = most }) more bytes before middle now one found rest)

  -- only the first was asked for
  pub words_once : (most : ℕ) → most_of (slice_index_or kinds 0 d) ≡ Some most → (before now : List Fetch)
      → AsksOnce (record { place = 0; name = name; most = most }) before now
      → Asks (files_of kinds (map text names)) before now
  words_once most bound before now one =
      subst (λ (rs : List Request). Asks rs before now) (sym (words-files (Some most) bound)) (record {
        added = fetch_of name most one.found ∷ [];
        grown = one.grown;
        in_order = ((refl, refl), inl refl);
      })

  -- the first names none, and those behind it were asked for
  pub words_later : most_of (slice_index_or kinds 0 d) ≡ None → (before now : List Fetch)
      → Asks (files_of (others kinds) (map text (others names))) before now
      → Asks (files_of kinds (map text names)) before now
  words_later none before now rest =
      subst (λ (rs : List Request). Asks rs before now) (sym (words-files None none)) rest

-- ---- files that came are short enough to read
one_most : (a b : ℕ) → Some a ≡ Some b → a ≡ b
one_most a b e = cc

short_kind : (kind : Own) (most : ℕ) → most_of kind ≡ Some most → most ≤ 2 ^ 30
short_kind own.Model most is = omega (arith, one_most 65536 most is)
short_kind own.Certificate most is = omega (arith, one_most 4194304 most is)
short_kind own.Scenarios most is = omega (arith, one_most 4194304 most is)
short_kind own.Tree most is = omega (arith, one_most 67108864 most is)
short_kind own.Number most is = absurd (let no : None ≡ Some most = is in cc)
short_kind own.Names most is = absurd (let no : None ≡ Some most = is in cc)
short_kind own.Form most is = absurd (let no : None ≡ Some most = is in cc)
short_kind own.Statement most is = absurd (let no : None ≡ Some most = is in cc)
short_kind own.Limit most is = absurd (let no : None ≡ Some most = is in cc)
short_kind own.Limits most is = absurd (let no : None ≡ Some most = is in cc)
short_kind own.Cuts most is = absurd (let no : None ≡ Some most = is in cc)

short_text : (kind : Own) (bytes : Vec ℕ Global) (texts : Texts) → length bytes.items ≤ 2 ^ 30 → IsShort texts
    → IsShort (with_text kind bytes texts)
short_text own.Model bytes texts h s =
    record { model = h; certificate = s.certificate; scenarios = s.scenarios; tree = s.tree }
short_text own.Certificate bytes texts h s =
    record { model = s.model; certificate = h; scenarios = s.scenarios; tree = s.tree }
short_text own.Scenarios bytes texts h s =
    record { model = s.model; certificate = s.certificate; scenarios = h; tree = s.tree }
short_text own.Tree bytes texts h s =
    record { model = s.model; certificate = s.certificate; scenarios = s.scenarios; tree = h }
short_text own.Number bytes texts h s = s
short_text own.Names bytes texts h s = s
short_text own.Form bytes texts h s = s
short_text own.Statement bytes texts h s = s
short_text own.Limit bytes texts h s = s
short_text own.Limits bytes texts h s = s
short_text own.Cuts bytes texts h s = s

-- those with one more, which had no more bytes than one of its kind may have
pub files_short : (kind : Own) (most : ℕ) (bytes : Vec ℕ Global) (had : Got) (found result : Files)
    → most_of kind ≡ Some most → had ≡ got.Bytes bytes → IsGotWithin most had → IsShortFetch found
    → result ≡ with_file kind bytes found → IsShortFetch result
files_short kind most bytes had (files.Texts texts) result bound got_is within h is =
    let few : length bytes.items ≤ most = subst (λ (g : Got). IsGotWithin most g) got_is within in
    subst (λ (r : Files). IsShortFetch r) (sym is)
    (short_text kind bytes texts (omega (arith, few, short_kind kind most bound)) h)
files_short kind most bytes had (files.Answer reply) result bound got_is within h is =
    subst (λ (r : Files). IsShortFetch r) (sym is) tt
