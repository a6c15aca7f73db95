-- Words to which others come behind: what has a number keeps it.
use Rattle.std.proofs.Common.{◌≡◌, ℕ, zero, suc, ◌+◌, ◌<◌, Bool, true, false, cond, List, [], ◌∷◌, ◌++◌, length, map, Option, Some, None, refl, sym, ap, ◌∙◌, arith, append-nil, append_assoc, length-append}
use Rattle.std.specs.Prelude.{fold, not, ◌||◌, unwrap_or, option_to_list, if◌then◌else◌, replicate}
use Rattle.std.specs.Option.{option_map}
use Rattle.std.specs.Str.{bytes_eq}
use Rattle.std.specs.List.{list_any, position_or_len}
use Rattle.std.proofs.lemmas.Bool.{lt-ltb}
use Rattle.std.proofs.lemmas.Slice.Eq.{bytes_eq-Decides}
use Rattle.std.proofs.lemmas.List.Folds.{list_any-append}
use Rattle.rob_index.specs.Statements as stated
use Rattle.rob_index.specs.Statements.{Name}
use Rattle.rob_syntax.specs.declared.syntax.Statement.TheVariants as parsed
use Rattle.rob_syntax.specs.declared.syntax.Syntax.TheVariants as syntax
use Rattle.rob_syntax.specs.Numbered.{own_numeral, own_signed, own_bounds, own_rel, own_sense, numbered_tree, numbered_parts, numbered_factors, numbered_over, numbered_member, numbered_relation, numbered}
use Rattle.rob_syntax.specs.Symbols.{add_word, number_of}
use Rattle.rob_rules.specs.declared.sort.Sort.{Sort}
use Rattle.rob_rules.specs.Degrees.{sort_at}
use Rattle.rob_rules.specs.Growing.{IsAmong, AreAmong}
use Rattle.rob_rules.specs.Names.{tree_names, part_names, factor_names, side_names, names_of, grown}

-- ---- names among words
among_grows : (words more : List Name) (n : Name) → IsAmong words n → IsAmong (words ++ more) n
among_grows words more n h =
    list_any-append (bytes_eq n) words more ∙ ap (λ (b : Bool). b || list_any (bytes_eq n) more) h

pub all_grow : (words more ns : List Name) → AreAmong words ns → AreAmong (words ++ more) ns
all_grow words more [] h = tt
all_grow words more (n ∷ ns) h = (among_grows words more n h.0, all_grow words more ns h.1)

apart : (words ns ms : List Name) → AreAmong words (ns ++ ms) → AreAmong words ns × AreAmong words ms
apart words [] ms h = (tt, h)
apart words (n ∷ ns) ms h = let r = apart words ns ms h.1 in ((h.0, r.0), r.1)

self_word : (n : Name) → bytes_eq n n ≡ true
self_word n = (bytes_eq-Decides n n).1 refl

among_last : (words : List Name) (n : Name) → IsAmong (words ++ n ∷ []) n
among_last words n =
    list_any-append (bytes_eq n) words (n ∷ []) ∙ go (list_any (bytes_eq n) words) (bytes_eq n n) (self_word n)
  where
    go : (a b : Bool) → b ≡ true → (a || (b || false)) ≡ true
    go true b h = refl
    go false true h = refl
    go false false h = h

-- one more word stands behind the words, and is among them
added : (words : List Name) (n : Name)
    → (more : List Name) × (add_word words n ≡ words ++ more) × IsAmong (add_word words n) n
added words n = go (list_any (bytes_eq n) words) refl
  where
    go : (b : Bool) → list_any (bytes_eq n) words ≡ b
        → (more : List Name) × ((if b then words else words ++ n ∷ []) ≡ words ++ more)
        × IsAmong (if b then words else words ++ n ∷ []) n
    go true h = ([], sym (append-nil words), h)
    go false h = (n ∷ [], refl, among_last words n)

pub folded : (ns words : List Name)
    → (more : List Name) × (fold add_word words ns ≡ words ++ more) × AreAmong (fold add_word words ns) ns
folded [] words = ([], sym (append-nil words), tt)
folded (n ∷ ns) words =
    let one = added words n in
    let rest = folded ns (add_word words n) in (
      one.0 ++ rest.0,
      rest.1 ∙ ap (λ (l : List Name). l ++ rest.0) one.1 ∙ append_assoc words one.0 rest.0,
      (stays (add_word words n) one.2 rest.0 rest.1, rest.2),
    )
  where
    stays : (ws : List Name) → IsAmong ws n → (more : List Name) {all : List Name} → all ≡ ws ++ more → IsAmong all n
    stays ws h more is = ap (λ (l : List Name). list_any (bytes_eq n) l) is ∙ among_grows ws more n h

-- ---- numbers
-- the first place of a word, and that it is one
place : (words more : List Name) (n : Name) → IsAmong words n
    → (position_or_len (bytes_eq n) (words ++ more) ≡ position_or_len (bytes_eq n) words)
    × (position_or_len (bytes_eq n) words < length words)
place [] more n h = cc
place (w ∷ words) more n h = go (λ k. place words more n k) (bytes_eq n w) h
  where
    go : (IsAmong words n → (position_or_len (bytes_eq n) (words ++ more) ≡ position_or_len (bytes_eq n) words)
        × (position_or_len (bytes_eq n) words < length words)) → (b : Bool) → b || list_any (bytes_eq n) words ≡ true
        → (cond (not b) (1 + position_or_len (bytes_eq n) (words ++ more)) 0
        ≡ cond (not b) (1 + position_or_len (bytes_eq n) words) 0)
        × (cond (not b) (1 + position_or_len (bytes_eq n) words) 0 < length (w ∷ words))
    go rest true h = (refl, omega arith)
    go rest false h = let r = rest h in (ap (λ (k : ℕ). 1 + k) r.0, omega (arith, r.1))

-- what a number is where its word is found
number_is : (words : List Name) (n : Name) → position_or_len (bytes_eq n) words < length words
    → number_of words n ≡ position_or_len (bytes_eq n) words
number_is words n h =
    ap (λ (b : Bool). unwrap_or (cond b (Some (position_or_len (bytes_eq n) words)) None) 0) (lt-ltb _ _ h)

pub number_grows : (words more : List Name) (n : Name) → IsAmong words n
    → number_of (words ++ more) n ≡ number_of words n
number_grows words more n h =
    let p = place words more n h in
    let inside : position_or_len (bytes_eq n) (words ++ more) < length (words ++ more) =
    rw p.0 (omega (arith, p.1, length-append words more)) in
    number_is (words ++ more) n inside ∙ p.0 ∙ sym (number_is words n p.1)

pub number_inside : (words : List Name) (n : Name) → IsAmong words n → number_of words n < length words
number_inside words n h = let p = place words [] n h in rw (number_is words n p.1) p.1

-- ---- statements
module _ (words more : List Name) where
  mutual
    tree_grows : (p : stated.Plain) → AreAmong words (tree_names p)
        → numbered_tree (words ++ more) p ≡ numbered_tree words p
    tree_grows (stated.number n) h = refl
    tree_grows (stated.name n) h = ap syntax.Name (number_grows words more n h.0)
    tree_grows (stated.sum ps) h = ap syntax.Sum (parts_grow ps h)
    tree_grows (stated.product ps) h = ap syntax.Product (factors_grow ps h)

    parts_grow : (ps : stated.Parts) → AreAmong words (part_names ps)
        → numbered_parts (words ++ more) ps ≡ numbered_parts words ps
    parts_grow stated.no_parts h = refl
    parts_grow (stated.part m p ps) h =
        let r = apart words (tree_names p) (part_names ps) h in
        let e = tree_grows p r.0 in
        let f = parts_grow ps r.1 in
        (λ i. record { minus = m; inner = e i } ∷ f i)

    factors_grow : (ps : stated.Factors) → AreAmong words (factor_names ps)
        → numbered_factors (words ++ more) ps ≡ numbered_factors words ps
    factors_grow stated.no_factors h = refl
    factors_grow (stated.factor p ps) h =
        let r = apart words (tree_names p) (factor_names ps) h in
        let e = tree_grows p r.0 in
        let f = factors_grow ps r.1 in
        (λ i. e i ∷ f i)

  over_grows : (o : Option Name) → AreAmong words (option_to_list o)
      → numbered_over (words ++ more) o ≡ numbered_over words o
  over_grows None h = refl
  over_grows (Some n) h = ap (λ (k : ℕ). Some k) (number_grows words more n h.0)

  members_grow : (ms : List stated.Member) → AreAmong words (map (λ (m : stated.Member). m.name) ms)
      → map (numbered_member (words ++ more)) ms ≡ map (numbered_member words) ms
  members_grow [] h = refl
  members_grow (m ∷ ms) h =
      let e = number_grows words more m.name h.0 in
      let f = members_grow ms h.1 in
      (λ i. record {
        name = e i;
        spread = record { centre = own_signed m.centre; deviation = own_numeral m.deviation };
      } ∷ f i)

  names_grow : (ns : List Name) → AreAmong words ns → map (number_of (words ++ more)) ns ≡ map (number_of words) ns
  names_grow [] h = refl
  names_grow (n ∷ ns) h =
      let e = number_grows words more n h.0 in let f = names_grow ns h.1 in (λ i. e i ∷ f i)

  sides_grow : (l : stated.Plain) (r : stated.Rel) (p : stated.Plain) (o : Option Name)
      → AreAmong words (side_names l p o)
      → numbered_relation (words ++ more) l r p o ≡ numbered_relation words l r p o
  sides_grow l r p o h =
      let a = apart words (tree_names l) (tree_names p ++ option_to_list o) h in
      let b = apart words (tree_names p) (option_to_list o) a.1 in
      let e = tree_grows l a.0 in
      let f = tree_grows p b.0 in
      let g = over_grows o b.1 in
      (λ i. record { left = e i; rel = own_rel r; right = f i; over = g i })

  pub statement_grows : (s : stated.Statement) → AreAmong words (names_of s)
      → numbered (words ++ more) s ≡ numbered words s
  statement_grows (stated.uncertain n b) h =
      ap (λ (k : ℕ). parsed.Uncertain (record { name = k; bounds = option_map own_bounds b }))
      (number_grows words more n h.0)
  statement_grows (stated.over n) h = ap parsed.Over (number_grows words more n h.0)
  statement_grows (stated.set l r p o) h = ap parsed.Set (sides_grow l r p o h)
  statement_grows (stated.budget n ms o) h =
      let a = apart words (map (λ (m : stated.Member). m.name) ms) (option_to_list o) h in
      let e = members_grow ms a.0 in
      let f = over_grows o a.1 in
      (λ i. parsed.Budget (record { limit = own_numeral n; members = e i; over = f i }))
  statement_grows (stated.variable n b) h =
      ap (λ (k : ℕ). parsed.Var (record { name = k; bounds = option_map own_bounds b }))
      (number_grows words more n h.0)
  statement_grows (stated.adaptive n on b) h =
      let e = number_grows words more n h.0 in
      let f = names_grow on h.1 in
      (λ i. parsed.Adaptive (record { name = e i; on = f i; bounds = option_map own_bounds b }))
  statement_grows (stated.goal s e o) h =
      let a = apart words (tree_names e) (option_to_list o) h in
      let x = tree_grows e a.0 in
      let y = over_grows o a.1 in
      (λ i. parsed.Goal (record { sense = own_sense s; objective = x i; over = y i }))
  statement_grows (stated.row n l r p o) h =
      let e = number_grows words more n h.0 in
      let f = sides_grow l r p o h.1 in
      (λ i. parsed.Row (record { name = e i; relation = f i }))

-- the names of a statement are among the words that it leaves
pub grown_has : (words : List Name) (s : stated.Statement)
    → (more : List Name) × (grown words s ≡ words ++ more) × AreAmong (grown words s) (names_of s)
grown_has words s = folded (names_of s) words

-- ---- what names stand for
pub nothing_at : (n k : ℕ) → sort_at (replicate n None) k ≡ None
nothing_at zero k = refl
nothing_at (suc n) zero = refl
nothing_at (suc n) (suc k) = nothing_at n k

pub sorts_grow : (sorts : List (Option Sort)) (n k : ℕ) → sort_at (sorts ++ replicate n None) k ≡ sort_at sorts k
sorts_grow [] n k = nothing_at n k
sorts_grow (s ∷ sorts) n zero = refl
sorts_grow (s ∷ sorts) n (suc k) = sorts_grow sorts n k
