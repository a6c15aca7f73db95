-- What a fetch finds, in plain sentences.
use Rattle.std.proofs.Common.{◌≡◌, ◌≢◌, ◌<◌, ◌≤◌, ◌↔◌, ◌⊎◌, inl, inr, sym, ap, ◌∙◌, true, false, All, ℕ, List, [], ◌∷◌, ◌++◌, length, Option, Some, None, Result, Ok, Err, IsSomeAnd, MatchResult, refl, arith}
use Rattle.std.specs.Str.{bytes_eq}
use Rattle.std.proofs.lemmas.Bool.{cases_Bool, false≢true}
use Rattle.std.proofs.lemmas.Bool.Decides.{nat_tests}
use Rattle.std.proofs.lemmas.List.Elements.{All-nil, All-cons, All-head, All-tail}
use Rattle.std.proofs.lemmas.Slice.Eq.{bytes_eq-Decides}
use Rattle.rob_number.specs.Counts.{Rose}
use Rattle.rob_outside.specs.Files.{File, Finds, IsFirst, file_at, file_of, found_at, found_of, found_within, missing, too_long, whole}
use Rattle.rob_outside.specs.declared.shelf.Fetched.{Fetched}
use Rattle.rob_outside.specs.declared.shelf.ShelfErr.{ShelfErr}
use Rattle.rob_outside.specs.declared.shelf.ShelfErr.TheVariants.{Failed, Memory}

-- Within the limit

-- the whole file is found exactly where it is there and within the limit
pub found_whole : (file : Option (List ℕ)) (bytes : List ℕ) (max : ℕ)
    → (found_within max file ≡ whole bytes) ↔ ((file ≡ Some bytes) × (length bytes ≤ max))
found_whole None bytes max = (λ e. absurd (cc e), λ h. absurd (cc h.0))
found_whole (Some held) bytes max = grind (arith, nat_tests)

-- nothing is found exactly where there is no file
pub found_missing : (file : Option (List ℕ)) (max : ℕ) → (found_within max file ≡ missing) ↔ (file ≡ None)
found_missing None max = (λ _. refl, λ _. refl)
found_missing (Some held) max = grind (arith, nat_tests)

-- a file is found too long exactly where it is there and longer than the limit
pub found_too_long : (file : Option (List ℕ)) (max : ℕ)
    → (found_within max file ≡ too_long) ↔ IsSomeAnd file (λ bytes. max < length bytes)
found_too_long None max = (λ e. cc e, λ h. absurd h)
found_too_long (Some held) max = grind (arith, nat_tests)

-- The first file of a name

-- names that differ compare so
name_differs : (a b : List ℕ) → a ≢ b → bytes_eq a b ≡ false
name_differs a b differ =
    elim (cases_Bool (bytes_eq a b)) as (λ _. bytes_eq a b ≡ false)
    [ inl same ↦ absurd (differ ((bytes_eq-Decides a b).0 same)) | inr apart ↦ apart ]

-- two names are one, or they differ
name_cases : (a b : List ℕ) → (a ≡ b) ⊎ (a ≢ b)
name_cases a b =
    elim (cases_Bool (bytes_eq a b)) as (λ _. (a ≡ b) ⊎ (a ≢ b)) [
      | inl same ↦ inl ((bytes_eq-Decides a b).0 same)
      | inr apart ↦ inr (λ e. false≢true (sym apart ∙ (bytes_eq-Decides a b).1 e))
    ]

-- a file of the name is found at the front
pub file_at-here : (name : List ℕ) (file : File) (files : List File) → file.name ≡ name
    → file_at name (file ∷ files) ≡ Some file.bytes
file_at-here name file files e =
    let same : bytes_eq file.name name ≡ true = (bytes_eq-Decides file.name name).1 e in rw same refl

-- a file of another name is passed over
pub file_at-other : (name : List ℕ) (file : File) (files : List File) → file.name ≢ name
    → file_at name (file ∷ files) ≡ file_at name files
file_at-other name file files differ =
    let apart : bytes_eq file.name name ≡ false = name_differs file.name name differ in rw apart refl

-- where no file is found, none has the name
pub none_named : (name : List ℕ) (files : List File) → file_at name files ≡ None
    → All (λ file. file.name ≢ name) files
none_named name [] e = All-nil (λ file. file.name ≢ name)
none_named name (file ∷ files) e =
    elim (name_cases file.name name) as (λ _. All (λ one. one.name ≢ name) (file ∷ files)) [
      | inl same ↦ absurd (cc (file_at-here name file files same, e))
      | inr differ ↦ All-cons (λ one. one.name ≢ name) file files differ
          (none_named name files (sym (file_at-other name file files differ) ∙ e))
    ]

-- where none has the name, no file is found
pub none_found : (name : List ℕ) (files : List File) → All (λ file. file.name ≢ name) files
    → file_at name files ≡ None
none_found name [] others = refl
none_found name (file ∷ files) others =
    file_at-other name file files (All-head (λ one. one.name ≢ name) file files others)
    ∙ none_found name files (All-tail (λ one. one.name ≢ name) file files others)

-- what is found is the first file of the name
pub found_is_first : (name bytes : List ℕ) (files : List File) → file_at name files ≡ Some bytes
    → IsFirst name bytes files
found_is_first name bytes [] e = absurd (cc e)
found_is_first name bytes (file ∷ files) e =
    elim (name_cases file.name name) as (λ _. IsFirst name bytes (file ∷ files)) [
      | inl same ↦
          let held : file.bytes ≡ bytes = cc (file_at-here name file files same, e) in
          let named : List ℕ → File = λ n. record { name = n; bytes = file.bytes } in
          let holding : List ℕ → File = λ b. record { name = name; bytes = b } in
          record {
            front = [];
            back = files;
            split = ap (λ (one : File). one ∷ files) (ap named same ∙ ap holding held);
            others = All-nil (λ one. one.name ≢ name);
          }
      | inr differ ↦
          let rest : IsFirst name bytes files =
          found_is_first name bytes files (sym (file_at-other name file files differ) ∙ e) in
          record {
            front = file ∷ rest.front;
            back = rest.back;
            split = ap (λ (end : List File). file ∷ end) rest.split;
            others = All-cons (λ one. one.name ≢ name) file rest.front differ rest.others;
          }
    ]

-- the first file of the name is found
first_found : (name bytes : List ℕ) (front back : List File) → All (λ file. file.name ≢ name) front
    → file_at name (front ++ file_of name bytes ∷ back) ≡ Some bytes
first_found name bytes [] back others = file_at-here name (file_of name bytes) back refl
first_found name bytes (file ∷ front) back others =
    file_at-other name file (front ++ file_of name bytes ∷ back)
    (All-head (λ one. one.name ≢ name) file front others)
    ∙ first_found name bytes front back (All-tail (λ one. one.name ≢ name) file front others)

pub first_is_found : (name bytes : List ℕ) (files : List File) → IsFirst name bytes files
    → file_at name files ≡ Some bytes
first_is_found name bytes files p =
    ap (file_at name) p.split ∙ first_found name bytes p.front p.back p.others

-- Without a fault

-- without a fault, a fetch of told files answers what it has to find, or want of memory
pub answered : (files : List File) (name : List ℕ) (max before now : ℕ)
    (result : Result Fetched ShelfErr)
    → Finds (Some files) name max result
    → (result ≡ Err Failed → Rose before now) → (Rose before now → ⊥)
    → MatchResult result (λ fetched. found_of fetched ≡ found_at name max files)
    (λ error. error ≡ Memory)
answered files name max before now (Ok fetched) found fault no_fault = found
answered files name max before now (Err Failed) found fault no_fault = absurd (no_fault (fault refl))
answered files name max before now (Err Memory) found fault no_fault = refl
