-- Indices, and names with indices.
use Rattle.std.proofs.Common.{◌≡◌, ◌⊎◌, inl, inr, ℕ, Bool, true, false, List, [], ◌∷◌, ◌++◌, refl, sym, ap, ◌∙◌, subst, append_assoc}
use Rattle.rob_index.specs.Symbols.{Symbol, name, digits, sign}
use Rattle.rob_index.specs.Symbols as is
use Rattle.rob_index.specs.Statements.{Atom, Step, Index}
use Rattle.rob_index.specs.Statements as stated
use Rattle.rob_index.specs.Grammar.{sign_of, spell_atom, spell_steps, spell_index, spell_more, spell_indices}
use Rattle.rob_syntax.specs.Fronts.{BeginsNot, BeginsNone, Ends, EndsIndex, EndsRef, EndsList, Found, IsMissing, ReadsMore}
use Rattle.rob_syntax.proofs.Fronts.PartLemmas.{heads, one, one_found, one_missing, led, led_found, led_missing, trailed, trailed_found, trailed_missing, not_trailed, both, both_found, first_missing, second_missing, found_as, missing_as}
use Rattle.rob_syntax.proofs.Fronts.ChainLemmas.{Chain}

pub list_cases : {A : Type 0} (s : List A) → (s ≡ []) ⊎ ((x : A) × (xs : List A) × (s ≡ x ∷ xs))
list_cases [] = inl refl
list_cases (x ∷ xs) = inr (x, xs, refl)

-- ---- atoms
pub one_atom : (a b : Atom) → spell_atom a ≡ spell_atom b → a ≡ b
one_atom (stated.digits m) (stated.digits n) same = let e : m ≡ n = cc in ap stated.digits e
one_atom (stated.digits m) (stated.bound k) same = cc
one_atom (stated.bound j) (stated.digits n) same = cc
one_atom (stated.bound j) (stated.bound k) same = let e : j ≡ k = cc in ap stated.bound e

pub one_sign : (m n : Bool) → sign_of m ≡ sign_of n → m ≡ n
one_sign true true e = refl
one_sign false false e = refl
one_sign true false e = cc
one_sign false true e = cc

pub one_name : (j k : ℕ) → name j ≡ name k → j ≡ k
one_name j k same = cc

-- ---- steps
-- a sign and the atom behind it
abbrev pub spell_step : Step → List Symbol
spell_step s = sign_of s.minus ∷ spell_atom s.atom ∷ []

abbrev pub step_chain : Chain spell_step Ends spell_steps EndsIndex
step_chain = record {
  none = [];
  cons = λ s ss. s ∷ ss;
  spell_none = refl;
  spell_cons = λ s ss. refl;
  cases = list_cases;
  behind = λ ss end stop. tt;
}

pub step_found : {rest behind after : List Symbol} (minus : Bool) (a : Atom) → rest ≡ sign_of minus ∷ behind
    → behind ≡ spell_atom a ∷ after → Found spell_step Ends rest after (record { minus = minus; atom = a })
step_found {rest} {behind} {after} minus a first second =
    found_as (λ (p : Bool × Atom). record { minus = p.0; atom = p.1 }) (λ (s : Step). (s.minus, s.atom)) (λ s. refl)
    (λ s. refl) (λ p. refl)
    (both_found {EndsA = Ends} (one spell_atom) (λ b end stop. tt) (one_found {spell = sign_of} minus one_sign first)
    (one_found {spell = spell_atom} a one_atom second))

pub step_missing : {rest behind : List Symbol} (minus : Bool) → rest ≡ sign_of minus ∷ behind
    → BeginsNone spell_atom behind → IsMissing spell_step Ends rest
step_missing {rest} {behind} minus first none =
    missing_as (λ (p : Bool × Atom). record { minus = p.0; atom = p.1 }) (λ (s : Step). (s.minus, s.atom)) (λ s. refl)
    (λ s. refl) (λ p. refl)
    (second_missing {EndsA = Ends} (one spell_atom) (λ b end stop. tt)
    (one_found {spell = sign_of} minus one_sign first)
    (one_missing {spell = spell_atom} none))

-- the sign goes on
pub step_stuck : {rest behind : List Symbol} (minus : Bool) → rest ≡ sign_of minus ∷ behind → EndsIndex rest → ⊥
step_stuck {rest} {behind} minus first stop = stop minus behind first

pub no_step : {rest : List Symbol} → BeginsNone sign_of rest → (s : Step) (end : List Symbol)
    → rest ≡ spell_step s ++ end → ⊥
no_step none s end same = none s.minus (spell_atom s.atom ∷ end) same

-- ---- an index

pub index_found : {symbols middle rest : List Symbol} (a : Atom) {ss : List Step} → symbols ≡ spell_atom a ∷ middle
    → Found spell_steps EndsIndex middle rest ss
    → Found spell_index EndsIndex symbols rest (record { first = a; more = ss })
index_found a first second =
    found_as (λ (p : Atom × List Step). record { first = p.0; more = p.1 })
    (λ (x : Index). (x.first, x.more)) (λ x. refl)
    (λ x. refl) (λ p. refl)
    (both_found {EndsA = Ends} spell_steps (λ b end stop. tt) (one_found {spell = spell_atom} a one_atom first) second)

pub no_index : {symbols : List Symbol} → BeginsNone spell_atom symbols → IsMissing spell_index EndsIndex symbols
no_index none = record { none = λ other end same stop. none other.first _ same }

-- ---- what commas part
-- a comma and the item behind it
abbrev pub after_comma : {A : Type 0} → (A → List Symbol) → A → List Symbol
after_comma spell x = led (sign is.comma) spell x

-- a chain of such items, where a comma ends one
abbrev pub comma_chain : {A : Type 0} (spell : A → List Symbol) (EndsItem EndsAll : List Symbol → Type 0)
    → ((end : List Symbol) → EndsAll end → EndsItem end)
    → ((x : A) (end : List Symbol) → EndsItem end → EndsItem (sign is.comma ∷ (spell x ++ end)))
    → Chain (after_comma spell) EndsItem (spell_more spell) EndsAll
comma_chain {A} spell EndsItem EndsAll item comma = record {
  none = [];
  cons = λ x xs. x ∷ xs;
  spell_none = refl;
  spell_cons = λ x xs. refl;
  cases = list_cases;
  behind = behind;
}
  where
    behind : (xs : List A) (end : List Symbol) → EndsAll end → EndsItem (spell_more spell xs ++ end)
    behind [] end stop = item end stop
    behind (x ∷ xs) end stop =
        subst (λ (l : List Symbol). EndsItem (sign is.comma ∷ l))
        (sym (append_assoc (spell x) (spell_more spell xs) end))
        (comma x (spell_more spell xs ++ end) (behind xs end stop))

-- a comma goes on
pub comma_stuck : {EndsItem : List Symbol → Type 0} {rest behind : List Symbol} → rest ≡ sign is.comma ∷ behind
    → EndsList EndsItem rest → ⊥
comma_stuck {EndsItem} {rest} {behind} is stop = stop.comma behind is

-- an index ends at each symbol that is no `+` and no `-`
pub ends_index : (s : Symbol) (rest : List Symbol) → (s ≡ sign is.plus → ⊥) → (s ≡ sign is.minus → ⊥)
    → EndsIndex (s ∷ rest)
ends_index s rest no_plus no_minus true end same = no_minus (heads same)
ends_index s rest no_plus no_minus false end same = no_plus (heads same)

pub comma_ends_index : (rest : List Symbol) → EndsIndex (sign is.comma ∷ rest)
comma_ends_index rest = ends_index (sign is.comma) rest (λ e. cc) (λ e. cc)

-- ---- indices in brackets
abbrev pub index_chain : Chain (after_comma spell_index) EndsIndex (spell_more spell_index) (EndsList EndsIndex)
index_chain =
    comma_chain spell_index EndsIndex (EndsList EndsIndex) (λ end stop. stop.item)
    (λ x end stop. comma_ends_index (spell_index x ++ end))

-- indices behind commas, and the bracket behind them
abbrev pub behind_first : List Index → List Symbol
behind_first = trailed (spell_more spell_index) (sign is.close_bracket)

-- one index or more, and the bracket
abbrev pub spell_inside : Index × List Index → List Symbol
spell_inside = both spell_index behind_first

follows : (b : List Index) (end : List Symbol) → Ends end → EndsIndex (behind_first b ++ end)
follows [] end stop = ends_index (sign is.close_bracket) end (λ e. cc) (λ e. cc)
follows (x ∷ xs) end stop = ends_index (sign is.comma) _ (λ e. cc) (λ e. cc)

closes : (end : List Symbol) → EndsList EndsIndex (sign is.close_bracket ∷ end)
closes end = record {
  item = ends_index (sign is.close_bracket) end (λ e. cc) (λ e. cc);
  comma = λ rest same. cc;
  name = λ k rest same. cc;
}

-- the same symbols by the grammar's line
respelled : (x : Index) (xs : List Index)
    → spell_indices (x ∷ xs) ≡ led (sign is.open_bracket) spell_inside (x, xs)
respelled x xs =
    ap (λ (l : List Symbol). sign is.open_bracket ∷ l)
    (append_assoc (spell_index x) (spell_more spell_index xs) (sign is.close_bracket ∷ []))

module _ {symbols inside : List Symbol} (opens : symbols ≡ sign is.open_bracket ∷ inside) where
  pub brackets_found : {middle last rest : List Symbol} {x : Index} {new : List Index}
      → Found spell_index EndsIndex inside middle x
      → ReadsMore (spell_more spell_index) (EndsList EndsIndex) (λ xs. xs) middle last (x ∷ []) new
      → last ≡ sign is.close_bracket ∷ rest → Found spell_indices EndsRef symbols rest new
  brackets_found {middle} {last} {rest} {x} {new} first more close = record {
    spelled =
        all.spelled
        ∙ ap (λ (l : List Symbol). l ++ rest) (sym (ap spell_indices more.appended ∙ respelled x more.items));
    only = λ other end same stop. only other end same stop;
  }
    where
      all : Found (led (sign is.open_bracket) spell_inside) Ends symbols rest (x, more.items)
      all = led_found opens
          (both_found behind_first follows first (trailed_found (sign is.close_bracket) closes more.found close))

      only : (other : List Index) (end : List Symbol) → symbols ≡ spell_indices other ++ end → EndsRef end
          → (other ≡ new) × (end ≡ rest)
      only [] end same stop = absurd (stop inside (sym same ∙ opens))
      only (y ∷ ys) end same stop =
          let one = all.only (y, ys) end (same ∙ ap (λ (l : List Symbol). l ++ end) (respelled y ys)) tt in
          (ap (λ (p : Index × List Index). p.0 ∷ p.1) one.0 ∙ sym more.appended, one.1)

  no_brackets : IsMissing (led (sign is.open_bracket) spell_inside) Ends symbols
      → IsMissing spell_indices EndsRef symbols
  no_brackets missing = record { none = none }
    where
      none : (other : List Index) (end : List Symbol) → symbols ≡ spell_indices other ++ end → EndsRef end → ⊥
      none [] end same stop = stop inside (sym same ∙ opens)
      none (y ∷ ys) end same stop =
          missing.none (y, ys) end (same ∙ ap (λ (l : List Symbol). l ++ end) (respelled y ys)) tt

  pub no_first : IsMissing spell_index EndsIndex inside → IsMissing spell_indices EndsRef symbols
  no_first missing = no_brackets (led_missing opens (first_missing behind_first follows missing))

  pub no_more : {middle : List Symbol} {x : Index} → Found spell_index EndsIndex inside middle x
      → IsMissing (spell_more spell_index) (EndsList EndsIndex) middle → IsMissing spell_indices EndsRef symbols
  no_more first missing =
      no_brackets
      (led_missing opens
      (second_missing behind_first follows first (trailed_missing (sign is.close_bracket) closes missing)))

  pub no_close : {middle last : List Symbol} {x : Index} {new : List Index}
      → Found spell_index EndsIndex inside middle x
      → ReadsMore (spell_more spell_index) (EndsList EndsIndex) (λ xs. xs) middle last (x ∷ []) new
      → BeginsNot (sign is.close_bracket) last → IsMissing spell_indices EndsRef symbols
  no_close first more none =
      no_brackets
      (led_missing opens
      (second_missing behind_first follows first (not_trailed (sign is.close_bracket) closes more.found none)))
