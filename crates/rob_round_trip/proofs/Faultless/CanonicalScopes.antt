-- What names stand for behind the canonical lines of a model, from the model alone.
use Rattle.std.proofs.Common.{◌≡◌, ◌≢◌, ℕ, zero, suc, ◌+◌, ◌<◌, List, [], ◌∷◌, ◌++◌, length, length-set, map, set, fold, get_or, replicate, Bool, refl, sym, ap, ◌∙◌, subst, arith, append_assoc}
use Rattle.std.specs.Prelude.{Option, Some, None, is_some}
use Rattle.std.proofs.lemmas.List.{map-append, length-replicate, get_or-set_other, get_or-set_same}
use Rattle.rob_meaning.proofs.Lists.DistinctLemmas.{Apart, distinct_append, distinct_left, distinct_right, distinct_apart, distinct_map, apart_left, apart_right, apart_append}
use Rattle.rob_meaning.proofs.Lists.EachLemmas.{each_append, each_left, each_right, each_map, each_both}
use Rattle.rob_meaning.specs.Named.{AreDistinct, declared_names, written_names, variable_names, adaptive_names, row_names}
use Rattle.rob_meaning.specs.Places.{Each}
use Rattle.rob_meaning.specs.RobustModel as model
use Rattle.rob_meaning.specs.RobustModel.{RobustModel, written_parameters}
use Rattle.rob_rules.specs.declared.sort.Sort.{Sort}
use Rattle.rob_rules.specs.declared.sort.Sort.TheVariants as sort
use Rattle.rob_rules.specs.declared.sort.Sort.TheVariants.{Parameter, Decision, Policy, RowName}
use Rattle.rob_write.specs.ExpressionWords.{naming_of}
use Rattle.rob_rules.specs.Degrees.{sort_at}
use Rattle.rob_parse.specs.Written.{word_of}
use Rattle.rob_syntax.specs.Names.{IsWord, IsSpelled}
use Rattle.rob_round_trip.specs.Readable.{StandsFor, AreKnown, IsDeclarable, AreDeclarable}
use Rattle.rob_rules.specs.Scopes.{has_some}
use Rattle.rob_syntax.specs.Symbols.{number_of}
use Rattle.rob_round_trip.proofs.Faultless.FaultlessParts.{parameters_only}
use Rattle.rob_parse.proofs.Names.DeclaredLemmas.{IsNew}
use Rattle.rob_rules.proofs.Joining.GrowingLemmas.{nothing_at}
use Rattle.rob_rules.proofs.Joining.LinkLemmas.{set_kept}

-- ---- declarations: the number of a name, and what it stands for then
abbrev pub note : List (Option Sort) → ℕ × Sort → List (Option Sort)
note sorts d = set sorts d.0 (Some d.1)

-- what names stand for behind some declarations
abbrev pub noted : List (Option Sort) → List (ℕ × Sort) → List (Option Sort)
noted sorts ds = fold note sorts ds

-- the numbers of the names
abbrev pub numbers_in : List (ℕ × Sort) → List ℕ
numbers_in ds = map (λ (d : ℕ × Sort). d.0) ds

-- each name is there, and not yet declared
abbrev pub AreFresh : List (Option Sort) → List (ℕ × Sort) → Type 0
AreFresh sorts [] = Unit {0}
AreFresh sorts (d ∷ ds) = (IsNew sorts d.0 × (d.0 < length sorts)) × AreFresh (note sorts d) ds

-- what a name stands for it stands for later
abbrev pub Kept : List (Option Sort) → List (Option Sort) → Type 0
Kept a b = (k : ℕ) (x : Sort) → sort_at a k ≡ Some x → sort_at b k ≡ Some x

pub kept_more : (a b c : List (Option Sort)) → Kept a b → Kept b c → Kept a c
kept_more a b c f g k x is = g k x (f k x is)

pub kept_noted : (sorts : List (Option Sort)) (ds : List (ℕ × Sort)) → AreFresh sorts ds → Kept sorts (noted sorts ds)
kept_noted sorts [] fresh k x is = is
kept_noted sorts (d ∷ ds) fresh k x is =
    kept_noted (note sorts d) ds fresh.1 k x (set_kept sorts d.0 k d.1 x fresh.0.0 is)

-- different names that are not declared are fresh
pub fresh_from : (sorts : List (Option Sort)) (ds : List (ℕ × Sort))
    → Each (λ k. IsNew sorts k × (k < length sorts)) (numbers_in ds)
    → AreDistinct (numbers_in ds) → AreFresh sorts ds
fresh_from sorts [] new distinct = tt
fresh_from sorts (d ∷ ds) new distinct = (
  new.0,
  fresh_from (note sorts d) ds
      (each_both (λ k. d.0 ≢ k) (λ k. IsNew sorts k × (k < length sorts))
      (λ k. IsNew (note sorts d) k × (k < length (note sorts d)))
      (λ k other h. (
        ap is_some (get_or-set_other sorts d.0 k (Some d.1) None (λ e. other (sym e))) ∙ h.0,
        omega (arith, h.1, length-set sorts d.0 (Some d.1)),
      )) (numbers_in ds) distinct.0 new.1)
      distinct.1,
)

pub fresh_apart : (sorts : List (Option Sort)) (ds es : List (ℕ × Sort)) → AreFresh sorts (ds ++ es) → AreFresh sorts ds
    × AreFresh (noted sorts ds) es
fresh_apart sorts [] es fresh = (tt, fresh)
fresh_apart sorts (d ∷ ds) es fresh = let r = fresh_apart (note sorts d) ds es fresh.1 in ((fresh.0, r.0), r.1)

-- ---- the declarations of a kind, numbered in order
module _ (words : List (List ℕ)) {A : Type 0} (name : A → List ℕ) (sort : ℕ → A → Sort) where
  abbrev pub numbered : ℕ → List A → List (ℕ × Sort)
  numbered k [] = []
  numbered k (z ∷ zs) = (number_of words (name z), sort k z) ∷ numbered (k + 1) zs

  pub numbers_are : (k : ℕ) (zs : List A) → numbers_in (numbered k zs) ≡ map (number_of words) (map name zs)
  numbers_are k [] = refl
  numbers_are k (z ∷ zs) = ap (λ (l : List ℕ). number_of words (name z) ∷ l) (numbers_are (k + 1) zs)

  -- each name stands for what has it
  pub found_at : (sorts : List (Option Sort)) (k : ℕ) (zs : List A) → AreFresh sorts (numbered k zs) → (j : ℕ)
      → j < length (map name zs)
      → (z : A) × (sort_at (noted sorts (numbered k zs)) (number_of words (get_or (map name zs) j []))
      ≡ Some (sort (k + j) z))
  found_at sorts k [] fresh j inside = absurd (omega arith)
  found_at sorts k (z ∷ zs) fresh zero inside =
      let d : ℕ × Sort = (number_of words (name z), sort k z) in
      let same : k ≡ k + 0 = omega arith in (
        z,
        kept_noted (note sorts d) (numbered (k + 1) zs) fresh.1 d.0 (sort k z)
            (get_or-set_same sorts d.0 (Some d.1) None fresh.0.1) ∙ ap (λ n. Some (sort n z)) same,
      )
  found_at sorts k (z ∷ zs) fresh (suc j) inside =
      let r = found_at (note sorts (number_of words (name z), sort k z)) (k + 1) zs fresh.1 j (omega arith) in
      let same : (k + 1) + j ≡ k + suc j = omega arith in
      (r.0, r.1 ∙ ap (λ n. Some (sort n r.0)) same)

-- ---- the names of a model among the words of its lines
inside_words : (words : List (List ℕ)) (k : ℕ) → IsWord (word_of words k) → k < length words
inside_words [] k h = absurd h
inside_words (w ∷ words) zero h = omega arith
inside_words (w ∷ words) (suc k) h = omega (arith, inside_words words k h)

pub each_mapped : {A B : Type 0} (P : B → Type 0) (f : A → B) (xs : List A) → Each (λ x. P (f x)) xs → Each P (map f xs)
each_mapped P f [] h = tt
each_mapped P f (x ∷ xs) h = (h.0, each_mapped P f xs h.1)

-- rows may stand last
rows_last : {A : Type 0} (p r v a : List A) → AreDistinct (p ++ (r ++ (v ++ a))) → AreDistinct (p ++ (v ++ (a ++ r)))
rows_last {A = A} p r v a d =
    let rest = r ++ (v ++ a) in
    let e = distinct_right p rest d in
    let f = distinct_right r (v ++ a) e in
    let others = distinct_apart r (v ++ a) e in
    let first = distinct_apart p rest d in
    let first_behind = apart_right p r (v ++ a) first in
    distinct_append p (v ++ (a ++ r)) (distinct_left p rest d)
    (distinct_append v (a ++ r) (distinct_left v a f)
    (distinct_append a r (distinct_right v a f) (distinct_left r (v ++ a) e)
    (apart_exchanged r a (apart_right r v a others)))
    (apart_append v a r (distinct_apart v a f) (apart_exchanged r v (apart_left r v a others))))
    (apart_append p v (a ++ r) (apart_left p v a first_behind)
    (apart_append p a r (apart_right p v a first_behind) (apart_left p r (v ++ a) first)))
  where
    apart_exchanged : (xs ys : List A) → Apart xs ys → Apart ys xs
    apart_exchanged xs [] h = tt
    apart_exchanged xs (y ∷ ys) h = (
      each_map (λ x. Each (λ z. x ≢ z) (y ∷ ys)) (λ x. y ≢ x) (λ x k e. k.0 (sym e)) xs h,
      apart_exchanged xs ys (each_map (λ x. Each (λ z. x ≢ z) (y ∷ ys)) (λ x. Each (λ z. x ≢ z) ys) (λ x k. k.1) xs h),
    )

-- and so they may where sets are declared behind the first
rows_behind : {A : Type 0} (p s r v a : List A) → AreDistinct (p ++ (s ++ (r ++ (v ++ a))))
    → AreDistinct (p ++ (s ++ (v ++ (a ++ r))))
rows_behind p s r v a d =
    subst AreDistinct (append_assoc p s (v ++ (a ++ r)))
    (rows_last (p ++ s) r v a (subst AreDistinct (sym (append_assoc p s (r ++ (v ++ a)))) d))

map_same : (l : List (List ℕ)) → map (λ (n : List ℕ). n) l ≡ l
map_same [] = refl
map_same (n ∷ l) = ap (λ (x : List (List ℕ)). n ∷ x) (map_same l)

module _ (words : List (List ℕ)) (m : RobustModel) where
  -- the declarations of each kind
  abbrev pub parameters_declared : List (ℕ × Sort)
  parameters_declared = numbered words (λ (p : model.Parameter). p.name) (λ k p. Parameter k) 0 (written_parameters m)

  abbrev pub sets_declared : List (ℕ × Sort)
  sets_declared = numbered words (λ (n : List ℕ). n) (λ k n. sort.Set (k + 1)) 0 m.sets

  abbrev pub variables_declared : List (ℕ × Sort)
  variables_declared = numbered words (λ (x : model.Variable). x.name) (λ k x. Decision k) 0 m.variables

  abbrev pub adaptives_declared : List (ℕ × Sort)
  adaptives_declared =
      numbered words (λ (y : model.AdaptiveVariable). y.name) (λ k y. Policy k (has_some y.on)) 0 m.adaptives

  abbrev pub rows_declared : List (ℕ × Sort)
  rows_declared = numbered words (λ (r : model.Row). r.name) (λ k r. RowName) 0 m.rows

  -- what names stand for behind the lines of each kind
  abbrev pub no_sorts : List (Option Sort)
  no_sorts = replicate (length words) None

  abbrev pub behind_parameters : List (Option Sort)
  behind_parameters = noted no_sorts parameters_declared

  abbrev pub behind_sets : List (Option Sort)
  behind_sets = noted behind_parameters sets_declared

  abbrev pub behind_variables : List (Option Sort)
  behind_variables = noted behind_sets variables_declared

  abbrev pub behind_adaptives : List (Option Sort)
  behind_adaptives = noted behind_variables adaptives_declared

  abbrev pub canonical_sorts : List (Option Sort)
  canonical_sorts = noted behind_adaptives rows_declared

  -- no line declares what is declared
  pub record AllFresh : Type 0 where
    pub parameters : AreFresh no_sorts parameters_declared
    pub sets : AreFresh behind_parameters sets_declared
    pub variables : AreFresh behind_sets variables_declared
    pub adaptives : AreFresh behind_variables adaptives_declared
    pub rows : AreFresh behind_adaptives rows_declared

  module _ (d : AreDeclarable words m) (spelled : Each IsSpelled (declared_names m))
      (distinct : AreDistinct (declared_names m)) where
    abbrev names : List (List ℕ)
    names = written_names m ++ (m.sets ++ (variable_names m ++ (adaptive_names m ++ row_names m)))

    abbrev IsSound : List ℕ → Type 0
    IsSound n = IsDeclarable words n × IsSpelled n

    all_sound : Each IsSound names
    all_sound =
        let of_rows = row_names m ++ (variable_names m ++ adaptive_names m) in
        let ps = each_left IsSpelled (written_names m) (m.sets ++ of_rows) spelled in
        let behind = each_right IsSpelled (written_names m) (m.sets ++ of_rows) spelled in
        let ss = each_left IsSpelled m.sets of_rows behind in
        let rest = each_right IsSpelled m.sets of_rows behind in
        let rs = each_left IsSpelled (row_names m) (variable_names m ++ adaptive_names m) rest in
        let vas = each_right IsSpelled (row_names m) (variable_names m ++ adaptive_names m) rest in
        let vs = each_left IsSpelled (variable_names m) (adaptive_names m) vas in
        let ys = each_right IsSpelled (variable_names m) (adaptive_names m) vas in
        let both = each_both (IsDeclarable words) IsSpelled IsSound (λ n a b. (a, b)) in
        each_append IsSound (written_names m) _
        (both (written_names m)
        (each_mapped (IsDeclarable words) (λ (p : model.Parameter). p.name) (written_parameters m) d.parameters) ps)
        (each_append IsSound m.sets _ (both m.sets d.sets ss)
        (each_append IsSound (variable_names m) _
        (both (variable_names m)
        (each_mapped (IsDeclarable words) (λ (x : model.Variable). x.name) m.variables d.variables) vs)
        (each_append IsSound (adaptive_names m) _
        (both (adaptive_names m)
        (each_mapped (IsDeclarable words) (λ (y : model.AdaptiveVariable). y.name) m.adaptives d.adaptives) ys)
        (both (row_names m) (each_mapped (IsDeclarable words) (λ (r : model.Row). r.name) m.rows d.rows) rs))))

    numbers_of_names : numbers_in
        (parameters_declared ++ (sets_declared ++ (variables_declared ++ (adaptives_declared ++ rows_declared))))
        ≡ map (number_of words) names
    numbers_of_names =
        let f : ℕ × Sort → ℕ = λ d. d.0 in
        let n = number_of words in
        let last = variables_declared ++ (adaptives_declared ++ rows_declared) in
        map-append f parameters_declared (sets_declared ++ last)
        ∙ (λ h. numbers_are words (λ (p : model.Parameter). p.name) (λ k p. Parameter k) 0 (written_parameters m) h
        ++ (map-append f sets_declared last
        ∙ (λ i. (numbers_are words (λ (l : List ℕ). l) (λ k l. sort.Set (k + 1)) 0 m.sets
        ∙ ap (map n) (map_same m.sets)) i ++ (map-append f variables_declared (adaptives_declared ++ rows_declared)
        ∙ (λ j. numbers_are words (λ (x : model.Variable). x.name) (λ k x. Decision k) 0 m.variables j
        ++ (map-append f adaptives_declared rows_declared
        ∙ (λ l. numbers_are words (λ (y : model.AdaptiveVariable). y.name)
        (λ k y. Policy k (has_some y.on)) 0 m.adaptives l
        ++ numbers_are words (λ (r : model.Row). r.name) (λ k r. RowName) 0 m.rows l)) j)) i)) h)
        ∙ (λ i. map n (written_names m)
        ++ (map n m.sets ++ (map n (variable_names m) ++ sym (map-append n (adaptive_names m) (row_names m)) i)))
        ∙ (λ i. map n (written_names m)
        ++ (map n m.sets ++ sym (map-append n (variable_names m) (adaptive_names m ++ row_names m)) i))
        ∙ (λ i. map n (written_names m)
        ++ sym (map-append n m.sets (variable_names m ++ (adaptive_names m ++ row_names m))) i)
        ∙ sym (map-append n (written_names m) (m.sets ++ (variable_names m ++ (adaptive_names m ++ row_names m))))

    fresh : AreFresh no_sorts
        (parameters_declared ++ (sets_declared ++ (variables_declared ++ (adaptives_declared ++ rows_declared))))
    fresh =
        let P : ℕ → Type 0 = λ k. IsNew no_sorts k × (k < length no_sorts) in
        fresh_from no_sorts _
        (subst (Each P) (sym numbers_of_names) (each_mapped P (number_of words) names
        (each_map IsSound (λ n. P (number_of words n)) (λ n s. (
          ap is_some (nothing_at (length words) (number_of words n)),
          omega (
            arith,
            inside_words words (number_of words n) (subst IsWord (sym s.0.word_is) s.1.is_word),
            length-replicate {A = Option Sort} (length words) None,
          ),
        )) names all_sound)))
        (subst AreDistinct (sym numbers_of_names)
        (distinct_map IsSound (number_of words)
        (λ x y p q e. sym p.0.word_is ∙ ap (word_of words) e ∙ q.0.word_is) names all_sound
        (rows_behind (written_names m) m.sets (row_names m) (variable_names m) (adaptive_names m) distinct)))

    pub all_fresh : AllFresh
    all_fresh =
        let a = fresh_apart no_sorts parameters_declared
        (sets_declared ++ (variables_declared ++ (adaptives_declared ++ rows_declared))) fresh in
        let s = fresh_apart behind_parameters sets_declared
        (variables_declared ++ (adaptives_declared ++ rows_declared)) a.1 in
        let b = fresh_apart behind_sets variables_declared (adaptives_declared ++ rows_declared) s.1 in
        let c = fresh_apart behind_variables adaptives_declared rows_declared b.1 in
        record { parameters = a.0; sets = s.0; variables = b.0; adaptives = c.0; rows = c.1 }

    name_stands : (sorts : List (Option Sort)) (ns : List (List ℕ)) → Each (IsDeclarable words) ns → (k : ℕ)
        → k < length ns → (x : Sort)
        → sort_at sorts (number_of words (get_or ns k [])) ≡ Some x → StandsFor words sorts (get_or ns k []) x
    name_stands sorts [] h k inside x is = absurd (omega arith)
    name_stands sorts (n ∷ ns) h zero inside x is = record { is_name = h.0.is_name; sort_is = is }
    name_stands sorts (n ∷ ns) h (suc k) inside x is = name_stands sorts ns h.1 k (omega arith) x is

    -- parameters stand for themselves behind their lines
    pub parameters_stand : (sorts : List (Option Sort)) → Kept behind_parameters sorts → (k : ℕ)
        → k < length (written_names m)
        → StandsFor words sorts (get_or (written_names m) k []) (Parameter k)
    parameters_stand sorts kept k inside =
        let f = found_at words (λ (p : model.Parameter). p.name) (λ k p. Parameter k) no_sorts 0 (written_parameters m)
        all_fresh.parameters k inside in
        let same : 0 + k ≡ k = omega arith in
        name_stands sorts (written_names m)
        (each_mapped (IsDeclarable words) (λ (p : model.Parameter). p.name) (written_parameters m) d.parameters) k
        inside (Parameter k)
        (kept _ _ (f.1 ∙ ap (λ (n : ℕ). Some (Parameter n)) same))

    pub sets_stand : (sorts : List (Option Sort)) → Kept behind_sets sorts → (k : ℕ) → k < length m.sets
        → StandsFor words sorts (get_or m.sets k []) (sort.Set (suc k))
    sets_stand sorts kept k inside =
        let same_names = map_same m.sets in
        let f = found_at words (λ (n : List ℕ). n) (λ k n. sort.Set (k + 1)) behind_parameters 0 m.sets all_fresh.sets k
        (subst (λ (l : List (List ℕ)). k < length l) (sym same_names) inside) in
        let same : (0 + k) + 1 ≡ suc k = omega arith in
        name_stands sorts m.sets d.sets k inside (sort.Set (suc k))
        (kept _ _ (subst
        (λ (l : List (List ℕ)). sort_at behind_sets (number_of words (get_or l k []))
        ≡ Some (sort.Set ((0 + k) + 1))) same_names f.1 ∙ ap (λ (n : ℕ). Some (sort.Set n)) same))

    variables_stand : (sorts : List (Option Sort)) → Kept behind_variables sorts → (k : ℕ)
        → k < length (variable_names m)
        → StandsFor words sorts (get_or (variable_names m) k []) (Decision k)
    variables_stand sorts kept k inside =
        let f = found_at words (λ (x : model.Variable). x.name) (λ k x. Decision k) behind_sets 0 m.variables
        all_fresh.variables k inside in
        let same : 0 + k ≡ k = omega arith in
        name_stands sorts (variable_names m)
        (each_mapped (IsDeclarable words) (λ (x : model.Variable). x.name) m.variables d.variables) k inside
        (Decision k)
        (kept _ _ (f.1 ∙ ap (λ (n : ℕ). Some (Decision n)) same))

    adaptives_stand : (sorts : List (Option Sort)) → Kept behind_adaptives sorts → (k : ℕ)
        → k < length (adaptive_names m)
        → (depends : Bool) × StandsFor words sorts (get_or (adaptive_names m) k []) (Policy k depends)
    adaptives_stand sorts kept k inside =
        let f = found_at words (λ (y : model.AdaptiveVariable). y.name) (λ k y. Policy k (has_some y.on))
        behind_variables 0 m.adaptives all_fresh.adaptives k inside in
        let same : 0 + k ≡ k = omega arith in (
          has_some f.0.on,
          name_stands sorts (adaptive_names m)
              (each_mapped (IsDeclarable words) (λ (y : model.AdaptiveVariable). y.name) m.adaptives d.adaptives) k
              inside (Policy k (has_some f.0.on))
              (kept _ _ (f.1 ∙ ap (λ (n : ℕ). Some (Policy n (has_some f.0.on))) same)),
        )

    -- the parameters' names are known behind their lines
    pub parameters_known : (sorts : List (Option Sort)) → Kept behind_parameters sorts
        → AreKnown words sorts (parameters_only (naming_of m))
    parameters_known sorts kept = record {
      parameters = parameters_stand sorts kept;
      sets = λ k inside. absurd (omega arith);
      variables = λ k inside. absurd (omega arith);
      adaptives = λ k inside. absurd (omega arith);
    }

    -- all names are known behind the lines of adaptive variables
    pub all_known : (sorts : List (Option Sort)) → Kept behind_adaptives sorts → AreKnown words sorts (naming_of m)
    all_known sorts kept =
        let variables_kept =
        kept_more behind_variables behind_adaptives sorts
        (kept_noted behind_variables adaptives_declared all_fresh.adaptives) kept in
        let sets_kept =
        kept_more behind_sets behind_variables sorts
        (kept_noted behind_sets variables_declared all_fresh.variables) variables_kept in
        record {
          parameters =
              parameters_stand sorts
              (kept_more behind_parameters behind_sets sorts
              (kept_noted behind_parameters sets_declared all_fresh.sets) sets_kept);
          sets = sets_stand sorts sets_kept;
          variables = variables_stand sorts variables_kept;
          adaptives = adaptives_stand sorts kept;
        }
