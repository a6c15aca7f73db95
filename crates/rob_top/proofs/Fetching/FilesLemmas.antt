-- What came of a command's files, from what came of each.
use Rattle.std.proofs.Common.{◌≡◌, ◌≤◌, ◌==◌, Bool, true, false, ℕ, ◌-◌, List, [], ◌∷◌, ◌++◌, length, map, take, drop, append_assoc, slice_index_or, Option, Some, None, Result, Ok, Err, IfOk, IfSome, refl, sym, ◌∙◌, ap, subst, arith, Vec, Global}
use Rattle.std.specs.Str.{bytes_eq}
use Rattle.std.proofs.lemmas.Bool.Decides.{nat_tests}
use Rattle.std.proofs.Math.Seq.{drop-append_seam, take-length}
use Rattle.std.proofs.lemmas.List.{map-append}
use Rattle.std.proofs.lemmas.Slice.Eq.{bytes_eq-Decides}
use denote.Enum.Bare.{same_true, sameb}
use Rattle.rob_meaning.specs.Places.{Each}
use Rattle.rob_outside.specs.Fetches.{Fetch, fetch_of, logged}
use Rattle.rob_outside.specs.Files.{File, Finds, Found, whole, missing, too_long, found_at, found_of}
use Rattle.rob_outside.specs.declared.shelf.Fetched.{Fetched}
use Rattle.rob_top.specs.Calls.{Call, Count, Source, WasRaised, behind, count, source_of}
use Rattle.rob_top.specs.Files.{Came, IsFoundIn, Request, answer_to, file_of, files_of, first_or, later, most_of, request_of, requests, with_first}
use Rattle.rob_top.specs.Headline.{Means}
use Rattle.rob_top.specs.Replies.{AreFound, Asks, AsksOnce, CameIn, IsAbsence, IsAbsentAmong, IsFetched, IsGot, text_of, with_file, with_text}
use Rattle.rob_commands.specs.declared.ended.Ended.{Ended}
use Rattle.rob_commands.specs.declared.ended.Ended.TheVariants.{Optimal, Infeasible, Unbounded, Printed, Accepted, Rejected, Words, Missing, TooLong, Model, EmptySet, TooWide, WideNode, WideBudget, Cert, Scenarios, Whole, Sweep, Cells, Tree, TreeRejected, NoRow, ReadFault, WriteFault, Memory}
use Rattle.rob_top.specs.declared.files.Files.{Files}
use Rattle.rob_top.specs.declared.files.Files.TheVariants as files
use Rattle.rob_top.specs.declared.files.Got.{Got}
use Rattle.rob_top.specs.declared.files.Got.TheVariants.{Bytes, Answer}
use Rattle.rob_top.specs.declared.files.Texts.{Texts}
use Rattle.rob_commands.specs.declared.reply.Reply.{Reply}
use Rattle.rob_top.proofs.Fetching.OwnLemmas.{later_request, text_of-other, text_of-same}
use Rattle.rob_number.proofs.CountLemmas.{rose_later}
use Rattle.rob_words.specs.Commands.{Line, IsSpelled}
use Rattle.rob_words.specs.Values.{Word}
use Rattle.rob_words.specs.contracts.verb.Own.{the_type}
use Rattle.rob_words.specs.declared.verb.Own.{Own}

-- an empty list has no first item
pub empty_split : {A : Type 0} (xs : List A) (y : A) (ys : List A) → [] ≡ xs ++ y ∷ ys → ⊥
empty_split [] y ys e = cc
empty_split (x ∷ xs) y ys e = cc

-- what came of a file, where it is a reply, and where it is bytes
pub got_answer : (source : Source) (request : Request) (faults : Count) (got : Got) (reply : Reply)
    → got ≡ Answer reply → IsGot source request faults got → IsAbsence source request faults reply.ended reply.text
got_answer source request faults got reply e h = subst (λ (g : Got). IsGot source request faults g) e h

pub got_bytes : (source : Source) (request : Request) (faults : Count) (got : Got) (bytes : Vec ℕ Global)
    → got ≡ Bytes bytes → IsGot source request faults got
    → IsFoundIn source request (whole bytes.items)
got_bytes source request faults got bytes e h = subst (λ (g : Got). IsGot source request faults g) e h

-- of the files that the words name, those before this one came, and this one didn't
pub means_absent : (call : Call) (line : Line) (before : List Request) (request : Request)
    (behind : List Request) (faults : Count)
    (ended : Ended) (text : List ℕ) → IsSpelled call.words line → requests line ≡ before ++ request ∷ behind
    → Each (Came call) before → (WasRaised faults → WasRaised call.read_faults)
    → IsAbsence call.source request faults ended text
    → Means call ended text
means_absent call line before request behind faults Missing text spelled order came raised h = (
  request.name,
  record {
    line = line;
    spelled = spelled;
    before = before;
    request = request;
    behind = behind;
    order = order;
    came = came;
    absent = h.0;
    named = refl;
  },
  h.1,
)
means_absent call line before request behind faults TooLong text spelled order came raised h = (
  request.name,
  record {
    line = line;
    spelled = spelled;
    before = before;
    request = request;
    behind = behind;
    order = order;
    came = came;
    absent = h.0;
    named = refl;
  },
  h.1,
)
means_absent call line before request behind faults ReadFault text spelled order came raised h = (
  record { line = line; spelled = spelled; some = λ none. empty_split before request behind (sym none ∙ order) },
  raised h.0,
  h.1,
)
means_absent call line before request behind faults Optimal text spelled order came raised h = absurd h
means_absent call line before request behind faults Infeasible text spelled order came raised h = absurd h
means_absent call line before request behind faults Unbounded text spelled order came raised h = absurd h
means_absent call line before request behind faults Printed text spelled order came raised h = absurd h
means_absent call line before request behind faults Accepted text spelled order came raised h = absurd h
means_absent call line before request behind faults (Rejected place) text spelled order came raised h = absurd h
means_absent call line before request behind faults (TreeRejected number fault) text spelled order came raised h =
    absurd h
means_absent call line before request behind faults Words text spelled order came raised h = absurd h
means_absent call line before request behind faults (Model rule number) text spelled order came raised h = absurd h
means_absent call line before request behind faults (EmptySet weights) text spelled order came raised h = absurd h
means_absent call line before request behind faults (TooWide spot) text spelled order came raised h = absurd h
means_absent call line before request behind faults (WideNode path spot) text spelled order came raised h = absurd h
means_absent call line before request behind faults (WideBudget number spot) text spelled order came raised h = absurd h
means_absent call line before request behind faults (Cert rule number) text spelled order came raised h = absurd h
means_absent call line before request behind faults (Scenarios rule number) text spelled order came raised h = absurd h
means_absent call line before request behind faults (Whole rule) text spelled order came raised h = absurd h
means_absent call line before request behind faults NoRow text spelled order came raised h = absurd h
means_absent call line before request behind faults (Tree rule number) text spelled order came raised h = absurd h
means_absent call line before request behind faults (Sweep rule) text spelled order came raised h = absurd h
means_absent call line before request behind faults (Cells rule) text spelled order came raised h = absurd h
means_absent call line before request behind faults WriteFault text spelled order came raised h = absurd h
means_absent call line before request behind faults Memory text spelled order came raised h = absurd h

-- ---- the answers of several fetches

-- what stands behind a list that another grew from
pub behind_grown : (before now added : List Fetch) → now ≡ before ++ added → behind before now ≡ added
behind_grown before now added e =
    ap (λ (list : List Fetch). drop (length before) list) e ∙ drop-append_seam before added

-- the file where it is the first
abbrev pub first : Request → Request
first request = record request { place = 0 }

-- what a single fetch of the file found is what is found
pub answer_here : (request : Request) (found : Option Found) (more : List Fetch)
    → answer_to (first request) (fetch_of request.name request.most found ∷ more) ≡ found
answer_here request found more =
    let same : bytes_eq request.name request.name ≡ true = (bytes_eq-Decides request.name request.name).1 refl in
    let most_same : (request.most == request.most) ≡ true = grind (arith, nat_tests) in
    rw most_same (rw same refl)

-- what one fetch answered is what is found
pub found_by_result : {E : Type 0} (told : Option (List File)) (request : Request) (before now : List Fetch)
    (result : Result Fetched E)
    → Finds told request.name request.most result → now ≡ before ++ logged request.name request.most result
    → IfOk result (λ fetched. IsFoundIn (source_of told before now) (first request) (found_of fetched))
found_by_result told request before now (Err error) finds e = tt
found_by_result told request before now (Ok fetched) finds e = (
  by told finds,
  subst (λ (list : List Fetch). answer_to (first request) list ≡ Some (found_of fetched))
      (sym (behind_grown before now (fetch_of request.name request.most (Some (found_of fetched)) ∷ []) e))
      (answer_here request (Some (found_of fetched)) []),
)
  where
    by : (t : Option (List File)) → Finds {E = Unit {0}} t request.name request.most (Ok fetched)
        → IfSome t (λ files. found_at request.name request.most files ≡ found_of fetched)
    by None h = tt
    by (Some files) h = sym h

-- ---- a fetch, and fetches of other files behind it
module _ (told : Option (List File)) (request : Request) (files : List Request) (before middle now : List Fetch)
    (one : AsksOnce request before middle) (rest : Asks files middle now) where
  abbrev here : Fetch
  here = fetch_of request.name request.most one.found

  pub grown_all : now ≡ before ++ here ∷ rest.added
  grown_all =
      rest.grown ∙ ap (λ (list : List Fetch). list ++ rest.added) one.grown ∙ append_assoc before (here ∷ []) rest.added

  all : behind before now ≡ here ∷ rest.added
  all = behind_grown before now (here ∷ rest.added) grown_all

  -- what was found of the first file stays
  pub found_longer : (found : Found) → IsFoundIn (source_of told before middle) (first request) found
      → IsFoundIn (source_of told before now) (first request) found
  found_longer found h = (
    h.0,
    subst (λ (list : List Fetch). answer_to (first request) list ≡ Some found) (sym all)
        (answer_here request one.found rest.added ∙ sym (answer_here request one.found [])
        ∙ subst (λ (list : List Fetch). answer_to (first request) list ≡ Some found)
        (behind_grown before middle (here ∷ []) one.grown) h.1),
  )

  -- what the later fetches found of a file is what is found of it behind the first
  pub found_behind : (other : Request) (found : Found) → IsFoundIn (source_of told middle now) other found
      → IsFoundIn (source_of told before now) (later other) found
  found_behind other found h = (
    h.0,
    subst (λ (list : List Fetch). answer_to (later other) list ≡ Some found) (sym all)
        (subst (λ (list : List Fetch). answer_to other list ≡ Some found)
        (behind_grown middle now rest.added rest.grown) h.1),
  )

  came_behind : (list : List Request) → Each (CameIn (source_of told middle now)) list
      → Each (CameIn (source_of told before now)) (map later list)
  came_behind [] h = tt
  came_behind (r ∷ list) h = ((h.0.0, found_behind r (whole h.0.0) h.0.1), came_behind list h.1)

  absence_behind : (other : Request) (earlier faults : Count) (ended : Ended) (text : List ℕ)
      → (WasRaised faults → WasRaised earlier) → IsAbsence (source_of told middle now) other faults ended text
      → IsAbsence (source_of told before now) (later other) earlier ended text
  absence_behind other earlier faults Missing text raised h = (found_behind other missing h.0, h.1)
  absence_behind other earlier faults TooLong text raised h = (found_behind other too_long h.0, h.1)
  absence_behind other earlier faults ReadFault text raised h = (raised h.0, h.1)
  absence_behind other earlier faults Optimal text raised h = absurd h
  absence_behind other earlier faults Infeasible text raised h = absurd h
  absence_behind other earlier faults Unbounded text raised h = absurd h
  absence_behind other earlier faults Printed text raised h = absurd h
  absence_behind other earlier faults Accepted text raised h = absurd h
  absence_behind other earlier faults (Rejected place) text raised h = absurd h
  absence_behind other earlier faults (TreeRejected number fault) text raised h = absurd h
  absence_behind other earlier faults Words text raised h = absurd h
  absence_behind other earlier faults (Model rule number) text raised h = absurd h
  absence_behind other earlier faults (EmptySet weights) text raised h = absurd h
  absence_behind other earlier faults (TooWide spot) text raised h = absurd h
  absence_behind other earlier faults (WideNode path spot) text raised h = absurd h
  absence_behind other earlier faults (WideBudget number spot) text raised h = absurd h
  absence_behind other earlier faults (Cert rule number) text raised h = absurd h
  absence_behind other earlier faults (Scenarios rule number) text raised h = absurd h
  absence_behind other earlier faults (Whole rule) text raised h = absurd h
  absence_behind other earlier faults NoRow text raised h = absurd h
  absence_behind other earlier faults (Tree rule number) text raised h = absurd h
  absence_behind other earlier faults (Sweep rule) text raised h = absurd h
  absence_behind other earlier faults (Cells rule) text raised h = absurd h
  absence_behind other earlier faults WriteFault text raised h = absurd h
  absence_behind other earlier faults Memory text raised h = absurd h

-- ---- the files of own words

-- the first didn't come
pub first_absent : (kind : Own) (most : ℕ) → most_of kind ≡ Some most
    → (kinds : List Own) (name : Word) (names : List Word)
    (source : Source) (faults : Count) (reply : Reply)
    → IsAbsence source (file_of most name) faults reply.ended reply.text
    → IsFetched (kind ∷ kinds) (name ∷ names) source faults (files.Answer reply)
first_absent kind most bound kinds name names source faults reply h = record {
  before = [];
  request = file_of most name;
  behind = map later (files_of kinds names);
  order = ap (λ (o : Option ℕ). with_first o name (files_of kinds names)) bound;
  came = tt;
  absent = h;
}

-- the first names no file
pub passed_over : (kind : Own) → most_of kind ≡ None
    → (kinds : List Own) (name : Word) (names : List Word) (source : Source) (faults : Count)
    (found_files : Files) → IsFetched kinds names source faults found_files
    → IsFetched (kind ∷ kinds) (name ∷ names) source faults found_files
passed_over kind none kinds name names source faults (files.Texts texts) h = record {
  came = subst (λ (o : Option ℕ). Each (CameIn source) (with_first o name (files_of kinds names))) (sym none) h.came;
  found = λ other r named.
      h.found other r
      (subst (λ (o : Option ℕ). first_or o (sameb the_type kind other) name (request_of other kinds names) ≡ Some r)
      none named);
}
passed_over kind none kinds name names source faults (files.Answer reply) h =
    subst (λ (o : Option ℕ). IsAbsentAmong source (with_first o name (files_of kinds names)) faults reply.ended
    reply.text) (sym none) h

-- the first came, and then those behind it were asked for
module _ (told later_told : Option (List File)) (same : later_told ≡ told) (kind : Own) (most : ℕ)
    (bound : most_of kind ≡ Some most)
    (kinds : List Own) (name : Word) (names : List Word)
    (before middle now : List Fetch) (one : AsksOnce (file_of most name) before middle)
    (rest : Asks (files_of kinds names) middle now) (bytes : Vec ℕ Global)
    (found : IsFoundIn (source_of told before middle) (file_of most name) (whole bytes.items)) (start between end : ℕ)
    (rose : start ≤ between) where
  abbrev request : Request
  request = file_of most name

  abbrev earlier : Source
  earlier = source_of told before now

  abbrev behind_it : Source
  behind_it = source_of told middle now

  first_came : IsFoundIn earlier request (whole bytes.items)
  first_came = found_longer told request (files_of kinds names) before middle now one rest (whole bytes.items) found

  all_found : (texts : Texts) → AreFound behind_it kinds names texts
      → AreFound earlier (kind ∷ kinds) (name ∷ names) (with_text kind bytes texts)
  all_found texts h = record {
    came = subst (λ (o : Option ℕ). Each (CameIn earlier) (with_first o name (files_of kinds names))) (sym bound) (
      (bytes.items, first_came),
      came_behind told request (files_of kinds names) before middle now one rest (files_of kinds names) h.came,
    );
    found = λ other r named.
        by other r (sameb the_type kind other) refl
        (subst (λ (o : Option ℕ). first_or o (sameb the_type kind other) name (request_of other kinds names) ≡ Some r)
        bound named);
  }
    where
      by : (other : Own) (r : Request) (b : Bool) → sameb the_type kind other ≡ b
          → first_or (Some most) b name (request_of other kinds names) ≡ Some r
          → IsFoundIn earlier r (whole (text_of other (with_text kind bytes texts)))
      by other r true e named =
          let alike : request ≡ r = cc in
          subst (λ (o : Own). IsFoundIn earlier r (whole (text_of o (with_text kind bytes texts))))
          (same_true the_type tt kind other e)
          (subst (λ (q : Request). IsFoundIn earlier q (whole (text_of kind (with_text kind bytes texts)))) alike
          (subst (λ (list : List ℕ). IsFoundIn earlier request (whole list))
          (sym (text_of-same kind most bound bytes texts)) first_came))
      by other r false e named =
          let s = later_request (request_of other kinds names) r named in
          subst (λ (q : Request). IsFoundIn earlier q (whole (text_of other (with_text kind bytes texts)))) (sym s.2)
          (subst (λ (list : List ℕ). IsFoundIn earlier (later s.0) (whole list))
          (sym (text_of-other kind other bytes texts e))
          (found_behind told request (files_of kinds names) before middle now one rest s.0 (whole (text_of other texts))
          (h.found other s.0 s.1)))

  one_absent : (reply : Reply)
      → IsAbsentAmong behind_it (files_of kinds names) (count between end) reply.ended reply.text
      → IsAbsentAmong earlier (request ∷ map later (files_of kinds names)) (count start end) reply.ended reply.text
  one_absent reply h = record {
    before = request ∷ map later h.before;
    request = later h.request;
    behind = map later h.behind;
    order =
        ap (λ (list : List Request). request ∷ map later list) h.order
        ∙ ap (λ (list : List Request). request ∷ list) (map-append later h.before (h.request ∷ h.behind));
    came = (
      (bytes.items, first_came),
      came_behind told request (files_of kinds names) before middle now one rest h.before h.came,
    );
    absent = absence_behind told request (files_of kinds names) before middle now one rest h.request
        (count start end) (count between end)
        reply.ended reply.text (λ r. rose_later start between end rose r) h.absent;
  }

  pub more_fetched : (found_files : Files)
      → IsFetched kinds names (source_of later_told middle now) (count between end) found_files
      → IsFetched (kind ∷ kinds) (name ∷ names) earlier (count start end) (with_file kind bytes found_files)
  more_fetched (files.Texts texts) h =
      all_found texts (subst (λ (t : Option (List File)). AreFound (source_of t middle now) kinds names texts) same h)
  more_fetched (files.Answer reply) h =
      subst (λ (o : Option ℕ). IsAbsentAmong earlier (with_first o name (files_of kinds names)) (count start end)
      reply.ended reply.text) (sym bound)
      (one_absent reply
      (subst (λ (t : Option (List File)).
      IsAbsentAmong (source_of t middle now) (files_of kinds names) (count between end) reply.ended reply.text) same
      h))

-- ---- the first of own words, and those behind it

-- what is no number is none
pub none_of : {A : Type 0} (o : Option A) → ((n : A) → o ≡ Some n → ⊥) → o ≡ None
none_of None h = refl
none_of (Some n) h = absurd (h n refl)

-- the items behind the first
abbrev pub others : {A : Type 0} → List A → List A
others xs = take (length xs - 1) (drop 1 xs)

-- a list is its first item and the rest
pub split_first : {A : Type 0} (xs : List A) (d : A) → 1 ≤ length xs → xs ≡ slice_index_or xs 0 d ∷ others xs
split_first [] d some = absurd (omega (arith, some))
split_first (x ∷ xs) d some =
    let behind_it : length (x ∷ xs) - 1 ≡ length xs = omega arith in
    ap (λ list. x ∷ list) (sym (ap (λ n. take n xs) behind_it ∙ take-length xs))
