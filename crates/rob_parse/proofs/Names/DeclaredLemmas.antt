-- Each name is declared once: the numbers of the declared names of all kinds.
use Rattle.std.proofs.Common.{◌≡◌, ◌≢◌, ℕ, zero, suc, ◌<◌, true, false, List, [], ◌∷◌, ◌++◌, length, map, set, refl, sym, ap, ◌∙◌, subst, arith, append_assoc}
use Rattle.std.specs.Prelude.{Option, Some, None, is_some}
use Rattle.std.specs.List.{flat_map}
use Rattle.std.proofs.lemmas.List.{map-append, length-replicate}
use Rattle.rob_meaning.specs.Named.{AreDistinct, declared_names}
use Rattle.rob_meaning.specs.Places.{Each}
use Rattle.rob_meaning.specs.RobustModel as model
use Rattle.rob_rules.specs.declared.sort.Sort.{Sort}
use Rattle.rob_syntax.specs.declared.syntax.Statement.{Statement}
use Rattle.rob_syntax.specs.declared.syntax.Statement.TheVariants as parsed
use Rattle.rob_rules.specs.Degrees.{sort_at}
use Rattle.rob_rules.specs.Faults.{is_declared}
use Rattle.rob_parse.specs.Written.{goal_in, sets, written_of, word_of, parameters, variables, adaptives, rows}
use Rattle.rob_parse.specs.Models.{line_sets, objective_set, row_sets, model_of}
use Rattle.rob_rules.specs.Chains.{Chain, IsNumber}
use Rattle.rob_rules.specs.Scopes.{Earlier, behind, start, declared_by, declare}
use Rattle.rob_rules.proofs.Joining.WidenedLemmas.{declare_length}
use Rattle.rob_parse.proofs.Sets.InSets.{names_taken, parameters_are}
use Rattle.rob_parse.proofs.Names.SortLemmas.{is_new}
use Rattle.rob_parse.proofs.Names.WordSetLemmas.{distinct_between}
use Rattle.rob_parse.proofs.Names.NamedLemmas.{IsDeclared, declared_so}

-- ---- the numbers of the declared names, kind by kind
unfoldable pub parameter_numbers : Statement → List ℕ
parameter_numbers (parsed.Uncertain d) = d.name ∷ []
parameter_numbers _ = []

unfoldable pub set_numbers : Statement → List ℕ
set_numbers (parsed.Over k) = k ∷ []
set_numbers _ = []

unfoldable pub variable_numbers : Statement → List ℕ
variable_numbers (parsed.Var d) = d.name ∷ []
variable_numbers _ = []

unfoldable pub adaptive_numbers : Statement → List ℕ
adaptive_numbers (parsed.Adaptive p) = p.name ∷ []
adaptive_numbers _ = []

unfoldable pub row_numbers : Statement → List ℕ
row_numbers (parsed.Row r) = r.name ∷ []
row_numbers _ = []

-- all of them
unfoldable pub numbers : List Statement → List ℕ
numbers list =
    flat_map parameter_numbers
    list ++ (flat_map set_numbers
    list ++ (flat_map row_numbers list ++ (flat_map variable_numbers list ++ flat_map adaptive_numbers list)))

pub flat_names : {A B C D : Type 0} (f : A → List B) (n : B → D) (g : A → List C) (h : C → D)
    → ((x : A) → map n (f x) ≡ map h (g x)) → (xs : List A) → map n (flat_map f xs) ≡ map h (flat_map g xs)
flat_names f n g h same [] = refl
flat_names f n g h same (x ∷ xs) =
    map-append n (f x) (flat_map f xs) ∙ (λ i. same x i ++ flat_names f n g h same xs i)
    ∙ sym (map-append h (g x) (flat_map g xs))

module _ (words : List (List ℕ)) (sorts : List (Option Sort)) where
  pub parameter_names_are : (s : Statement)
      → map (λ (p : model.Parameter). p.name) (parameters words s) ≡ map (word_of words) (parameter_numbers s)
  unfolding parameter_numbers
  parameter_names_are (parsed.Uncertain d) = refl
  parameter_names_are (parsed.Over k) = refl
  parameter_names_are (parsed.Set r) = refl
  parameter_names_are (parsed.Budget b) = refl
  parameter_names_are (parsed.Var d) = refl
  parameter_names_are (parsed.Adaptive p) = refl
  parameter_names_are (parsed.Goal g) = refl
  parameter_names_are (parsed.Row r) = refl

  pub variable_names_are : (s : Statement)
      → map (λ (x : model.Variable). x.name) (variables words s) ≡ map (word_of words) (variable_numbers s)
  unfolding variable_numbers
  variable_names_are (parsed.Uncertain d) = refl
  variable_names_are (parsed.Over k) = refl
  variable_names_are (parsed.Set r) = refl
  variable_names_are (parsed.Budget b) = refl
  variable_names_are (parsed.Var d) = refl
  variable_names_are (parsed.Adaptive p) = refl
  variable_names_are (parsed.Goal g) = refl
  variable_names_are (parsed.Row r) = refl

  pub adaptive_names_are : (s : Statement)
      → map (λ (y : model.AdaptiveVariable). y.name) (adaptives words sorts s) ≡ map (word_of words)
      (adaptive_numbers s)
  unfolding adaptive_numbers
  adaptive_names_are (parsed.Uncertain d) = refl
  adaptive_names_are (parsed.Over k) = refl
  adaptive_names_are (parsed.Set r) = refl
  adaptive_names_are (parsed.Budget b) = refl
  adaptive_names_are (parsed.Var d) = refl
  adaptive_names_are (parsed.Adaptive p) = refl
  adaptive_names_are (parsed.Goal g) = refl
  adaptive_names_are (parsed.Row r) = refl

  pub row_names_are : (s : Statement)
      → map (λ (r : model.Row). r.name) (rows words sorts s) ≡ map (word_of words) (row_numbers s)
  unfolding row_numbers
  row_names_are (parsed.Uncertain d) = refl
  row_names_are (parsed.Over k) = refl
  row_names_are (parsed.Set r) = refl
  row_names_are (parsed.Budget b) = refl
  row_names_are (parsed.Var d) = refl
  row_names_are (parsed.Adaptive p) = refl
  row_names_are (parsed.Goal g) = refl
  row_names_are (parsed.Row r) = refl

  set_names_are : (s : Statement) → sets words s ≡ map (word_of words) (set_numbers s)
  unfolding set_numbers
  set_names_are (parsed.Uncertain d) = refl
  set_names_are (parsed.Over k) = refl
  set_names_are (parsed.Set r) = refl
  set_names_are (parsed.Budget b) = refl
  set_names_are (parsed.Var d) = refl
  set_names_are (parsed.Adaptive p) = refl
  set_names_are (parsed.Goal g) = refl
  set_names_are (parsed.Row r) = refl

  pub flat_sets : (list : List Statement) → flat_map (sets words) list ≡ map (word_of words) (flat_map set_numbers list)
  flat_sets [] = refl
  flat_sets (s ∷ list) =
      (λ i. set_names_are s i ++ flat_sets list i)
      ∙ sym (map-append (word_of words) (set_numbers s) (flat_map set_numbers list))

  -- the declared names of the model are the words of these numbers
  pub declared_are : (list : List Statement)
      → declared_names (model_of words sorts list) ≡ map (word_of words) (numbers list)
  unfolding numbers
  declared_are list =
      let w = word_of words in
      let p = flat_map parameter_numbers list in
      let s = flat_map set_numbers list in
      let r = flat_map row_numbers list in
      let v = flat_map variable_numbers list in
      let a = flat_map adaptive_numbers list in
      (λ i. map (λ (x : model.Parameter). x.name)
      (parameters_are (written_of words sorts list) refl (flat_map (sets words) list) (flat_map (line_sets sorts) list)
      (objective_set sorts (goal_in list)) (flat_map (row_sets sorts) list) i)
      ++ (flat_map (sets words)
      list ++ (names_taken (length (flat_map (parameters words) list)) (flat_map (rows words sorts) list)
      (flat_map (row_sets sorts) list) i
      ++ (map (λ (x : model.Variable). x.name) (flat_map (variables words) list) ++ map
      (λ (x : model.AdaptiveVariable). x.name) (flat_map (adaptives words sorts) list)))))
      ∙ (λ i. flat_names (parameters words) (λ (x : model.Parameter). x.name) parameter_numbers w parameter_names_are
      list i
      ++ (flat_sets list i ++ (flat_names (rows words sorts) (λ (x : model.Row). x.name) row_numbers w row_names_are
      list i
      ++ (flat_names (variables words) (λ (x : model.Variable). x.name) variable_numbers w variable_names_are list i
      ++ flat_names (adaptives words sorts) (λ (x : model.AdaptiveVariable). x.name) adaptive_numbers w
      adaptive_names_are list i))))
      ∙ (λ i. map w p ++ (map w s ++ (map w r ++ sym (map-append w v a) i)))
      ∙ (λ i. map w p ++ (map w s ++ sym (map-append w r (v ++ a)) i))
      ∙ (λ i. map w p ++ sym (map-append w s (r ++ (v ++ a))) i)
      ∙ sym (map-append w p (s ++ (r ++ (v ++ a))))

-- ---- what is true of the numbers behind a statement is true in front of it
module _ (P : ℕ → Type 0) where
  each_insert : (xs ys : List ℕ) (y : ℕ) → Each P (xs ++ ys) → P y → Each P (xs ++ y ∷ ys)
  each_insert [] ys y h new = (new, h)
  each_insert (x ∷ xs) ys y h new = (h.0, each_insert xs ys y h.1 new)

-- the numbers of a statement and of those behind it are those behind it with the declared one put somewhere
data Puts (old new : List ℕ) (d : Option (ℕ × Sort)) : Type 0 where
  none : new ≡ old → Puts old new d
  one : (k : ℕ) (v : Sort) (xs ys : List ℕ) → d ≡ Some (k, v) → old ≡ xs ++ ys → new ≡ xs ++ k ∷ ys → Puts old new d

puts : (e : Earlier) (s : Statement) (list : List Statement)
    → Puts (numbers list) (numbers (s ∷ list)) (declared_by e.sizes s)
unfolding numbers parameter_numbers set_numbers row_numbers variable_numbers adaptive_numbers
puts e (parsed.Uncertain d) list = one d.name _ [] (numbers list) refl refl refl
puts e (parsed.Set r) list = none refl
puts e (parsed.Budget b) list = none refl
puts e (parsed.Goal g) list = none refl
puts e (parsed.Over k) list =
    one k _ (flat_map parameter_numbers list)
    (flat_map set_numbers list
    ++ (flat_map row_numbers list ++ (flat_map variable_numbers list ++ flat_map adaptive_numbers list))) refl refl refl
puts e (parsed.Row r) list =
    let p = flat_map parameter_numbers list in
    let s = flat_map set_numbers list in
    let rest = flat_map row_numbers list ++ (flat_map variable_numbers list ++ flat_map adaptive_numbers list) in
    one r.name _ (p ++ s) rest refl (sym (append_assoc p s rest)) (sym (append_assoc p s (r.name ∷ rest)))
puts e (parsed.Var d) list =
    let p = flat_map parameter_numbers list in
    let s = flat_map set_numbers list in
    let r = flat_map row_numbers list in
    let rest = flat_map variable_numbers list ++ flat_map adaptive_numbers list in
    one d.name _ (p ++ (s ++ r)) rest refl
    ((λ i. p ++ sym (append_assoc s r rest) i) ∙ sym (append_assoc p (s ++ r) rest))
    ((λ i. p ++ sym (append_assoc s r (d.name ∷ rest)) i) ∙ sym (append_assoc p (s ++ r) (d.name ∷ rest)))
puts e (parsed.Adaptive y) list =
    let p = flat_map parameter_numbers list in
    let s = flat_map set_numbers list in
    let r = flat_map row_numbers list in
    let v = flat_map variable_numbers list in
    let a = flat_map adaptive_numbers list in
    one y.name _ (p ++ (s ++ (r ++ v))) a refl
    ((λ i. p ++ (s ++ sym (append_assoc r v a) i)) ∙ (λ i. p ++ sym (append_assoc s (r ++ v) a) i)
    ∙ sym (append_assoc p (s ++ (r ++ v)) a))
    ((λ i. p ++ (s ++ sym (append_assoc r v (y.name ∷ a)) i)) ∙ (λ i. p ++ sym (append_assoc s (r ++ v) (y.name ∷ a)) i)
    ∙ sym (append_assoc p (s ++ (r ++ v)) (y.name ∷ a)))

-- ---- each name is declared once
set_there : (sorts : List (Option Sort)) (i : ℕ) (v : Sort) → i < length sorts
    → sort_at (set sorts i (Some v)) i ≡ Some v
set_there [] i v inside = absurd (omega arith)
set_there (o ∷ sorts) zero v inside = refl
set_there (o ∷ sorts) (suc i) v inside = set_there sorts i v (omega arith)

set_new : (sorts : List (Option Sort)) (i k : ℕ) (v : Sort) → is_some (sort_at (set sorts i (Some v)) k) ≡ false
    → is_some (sort_at sorts k) ≡ false
set_new [] i k v h = h
set_new (o ∷ sorts) zero zero v h = cc
set_new (o ∷ sorts) zero (suc k) v h = h
set_new (o ∷ sorts) (suc i) zero v h = h
set_new (o ∷ sorts) (suc i) (suc k) v h = set_new sorts i k v h

-- the name is not declared
abbrev pub IsNew : List (Option Sort) → ℕ → Type 0
IsNew sorts k = is_some (sort_at sorts k) ≡ false

declare_new : (sorts : List (Option Sort)) (d : Option (ℕ × Sort)) (ks : List ℕ) → Each (IsNew (declare sorts d)) ks
    → Each (IsNew sorts) ks
declare_new sorts d [] h = tt
declare_new sorts None (k ∷ ks) h = (h.0, declare_new sorts None ks h.1)
declare_new sorts (Some d) (k ∷ ks) h = (set_new sorts d.0 k d.1 h.0, declare_new sorts (Some d) ks h.1)

other_number : (sorts : List (Option Sort)) (k : ℕ) (v : Sort) (ks : List ℕ) → k < length sorts
    → Each (IsNew (set sorts k (Some v))) ks → Each (λ j. k ≢ j) ks
other_number sorts k v [] inside h = tt
other_number sorts k v (j ∷ ks) inside h = (
  λ e. let p : is_some (sort_at (set sorts k (Some v)) j) ≡ true =
      subst (λ (x : ℕ). is_some (sort_at (set sorts k (Some v)) x) ≡ true) e
      (ap is_some (set_there sorts k v inside)) in cc,
  other_number sorts k v ks inside h.1,
)

-- the numbers of the statements behind a line are sound, new there, and different from one another
record Declares (words : List (List ℕ)) (sorts : List (Option Sort)) (ks : List ℕ) : Type 0 where
  sound : Each (IsNumber words) ks
  new : Each (IsNew sorts) ks
  distinct : AreDistinct ks

module _ (limit : ℕ) (words : List (List ℕ)) where
  declares_more : (sorts : List (Option Sort)) (d : Option (ℕ × Sort)) (old new : List ℕ) → length sorts ≡ length words
      → IsDeclared words d → is_declared sorts d ≡ false → Puts old new d → Declares words (declare sorts d) old
      → Declares words sorts new
  declares_more sorts d old new long sound fresh (none same) h =
      subst (Declares words sorts) (sym same)
      (record { sound = h.sound; new = declare_new sorts d old h.new; distinct = h.distinct })
  declares_more sorts d old new long sound fresh (one k v xs ys is front behind) h =
      let number : IsNumber words k = subst (IsDeclared words) is sound in
      let first : IsNew sorts k = subst (λ (x : Option (ℕ × Sort)). is_declared sorts x ≡ false) is fresh in
      let written : Each (IsNew (set sorts k (Some v))) (xs ++ ys) =
      subst (λ (x : Option (ℕ × Sort)). Each (IsNew (declare sorts x)) (xs ++ ys)) is
      (subst (Each (IsNew (declare sorts d))) front h.new) in
      subst (Declares words sorts) (sym behind) (record {
        sound = each_insert (IsNumber words) xs ys k (subst (Each (IsNumber words)) front h.sound) number;
        new = each_insert (IsNew sorts) xs ys k (declare_new sorts (Some (k, v)) (xs ++ ys) written) first;
        distinct =
            distinct_between xs ys k (subst AreDistinct front h.distinct)
            (other_number sorts k v (xs ++ ys) (omega (arith, long, number.0)) written);
      })

  declares : (e : Earlier) (list : List Statement) (f : Earlier) → length e.sorts ≡ length words
      → Chain limit words e list f
      → Declares words e.sorts (numbers list)
  unfolding numbers
  declares e [] f long chain = record { sound = tt; new = tt; distinct = tt }
  declares e (s ∷ list) f long chain =
      declares_more e.sorts (declared_by e.sizes s) (numbers list) (numbers (s ∷ list)) long
      (declared_so words e.sizes s chain.0.formed) (is_new limit chain.0.before e s chain.0.faultless) (puts e s list)
      (declares (behind e s) list f (declare_length e.sorts (declared_by e.sizes s) ∙ long) chain.1)

  -- the declared names of the statements of a text are sound and different from one another
  pub all_declared : (list : List Statement) (f : Earlier) → Chain limit words (start (length words)) list f
      → Each (IsNumber words) (numbers list) × AreDistinct (numbers list)
  all_declared list f chain =
      let d = declares (start (length words)) list f (length-replicate (length words) None) chain in
      (d.sound, d.distinct)
