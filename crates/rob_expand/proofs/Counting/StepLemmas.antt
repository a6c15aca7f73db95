-- One step of a count; and what a sum over a range is seen as.
use Rattle.std.proofs.Common.{◌≡◌, ℕ, ◌+◌, ◌<◌, ◌≤◌, Bool, true, false, List, ◌∷◌, length, map, drop, get_or, Option, Some, None, sym, ap, ◌∙◌}
use Rattle.std.specs.Prelude.{ℤ, Result, MatchResult, Err}
use Rattle.std.proofs.lemmas.List.{at_drop_more, at_drop_all}
use Rattle.rob_index.specs.Counting.{lead, star, parens}
use Rattle.rob_settings.specs.declared.room.Stop.{Stop}
use Rattle.rob_expand.specs.declared.count.Counted.{Counted}
use Rattle.rob_expand.specs.declared.count.Front.{Front}
use Rattle.rob_expand.specs.declared.count.Inside.{Inside}
use Rattle.rob_expand.specs.declared.count.Inside.TheVariants as place
use Rattle.std.proofs.Common.{rules}
use Rattle.rob_index.specs.Forms.{Ends}
use Rattle.rob_expand.specs.declared.placed.Placed.{Placed as Code, the_lemmas}
use Rattle.rob_expand.specs.declared.placed.Placed.TheVariants as code
use Rattle.rob_expand.specs.declared.placed.Part.{Part as CodePart, fold_out-Part}
use Rattle.rob_settings.specs.Room.{left_of, after, HasStop}
use Rattle.rob_expand.specs.Placed.{Placed, over, Part, parts_of, factors_of, placed_step, part_step, placed_of, part_of}
use Rattle.rob_expand.specs.Count.{is_closed, item_left, part_left, factor_left, tree_left, parts_left, factors_left}
use Rattle.rob_settings.proofs.AnswerLemmas.{refused}

-- a sum over a range, as it is seen
pub over_placed : (ends : Ends) (inner : _) → placed_of (code.Over ends inner) ≡ over ends (placed_of inner.value)
over_placed ends inner = search (rules, the_lemmas)

-- and so by its expression as another place shows it
pub over_seen : (ends : Ends) (inner : _) (whole shown : Code) → whole ≡ code.Over ends inner → shown ≡ inner.value
    → over ends (placed_of shown) ≡ placed_of whole
over_seen ends inner whole shown is same =
    ap (λ (p : Code). over ends (placed_of p)) same ∙ sym (ap placed_of is ∙ over_placed ends inner)

-- a signed part is seen with its sign and its expression
pub part_is : (x : CodePart) → part_of x ≡ record { minus = x.minus; inner = placed_of x.inner }
part_is x = fold_out-Part Placed Part placed_step part_step x

-- ---- one expression: the tokens in front of it, itself, and its parentheses
module _ (limit : ℕ) (front : ℕ) (kind : Inside) (make : ℕ → Option Counted) (room : ℕ) where
  abbrev inner : ℕ → Option ℕ
  inner begun = after (make begun) (λ c. left_of (parens limit (is_closed kind c.shape)) c.left)

  none_in_front : left_of front room ≡ None → item_left limit front kind make room ≡ None
  none_in_front a = ap (λ (o : Option ℕ). after o inner) a

  item_begun : {begun : ℕ} → left_of front room ≡ Some begun → item_left limit front kind make room ≡ inner begun
  item_begun a = ap (λ (o : Option ℕ). after o inner) a

  item_counted : {begun : ℕ} {o : Option Counted} → left_of front room ≡ Some begun → make begun ≡ o
      → item_left limit front kind make room
      ≡ after o (λ c. left_of (parens limit (is_closed kind c.shape)) c.left)
  item_counted a b =
      item_begun a
      ∙ ap (λ (o : Option Counted). after o (λ c. left_of (parens limit (is_closed kind c.shape)) c.left)) b

module _ (limit : ℕ) (front : Front) (x : Code) (vs : List ℤ) (room : ℕ) where
  abbrev pub item_of : Option ℕ
  item_of = item_left limit front.tokens front.inside (tree_left limit (placed_of x) vs) room

  -- there is no room for what stands in front of it, or for itself
  pub item_stop_front : {V : Type 0} {r : Result V Stop} (P : V → Type 0) (e : Stop)
      → ((f : Stop) × (r ≡ Err f) × (f ≡ e)) → HasStop (left_of front.tokens room) e
      → MatchResult r P (λ e. HasStop item_of e)
  item_stop_front {r = r} P e p cause =
      refused r P (left_of front.tokens room) item_of e p.0 p.1 p.2
      (none_in_front limit front.tokens front.inside (tree_left limit (placed_of x) vs) room) cause

  pub item_stop_inner : {V : Type 0} {r : Result V Stop} {begun : ℕ} (P : V → Type 0) (e : Stop)
      → ((f : Stop) × (r ≡ Err f) × (f ≡ e)) → left_of front.tokens room ≡ Some begun
      → HasStop (tree_left limit (placed_of x) vs begun) e → MatchResult r P (λ e. HasStop item_of e)
  item_stop_inner {r = r} {begun = begun} P e p a cause =
      refused r P (tree_left limit (placed_of x) vs begun) item_of e p.0 p.1 p.2
      (λ none. item_counted limit front.tokens front.inside (tree_left limit (placed_of x) vs) room a none) cause

  -- what is left of it for its parentheses
  pub item_behind : {begun parentheses : ℕ} {c : Counted} → left_of front.tokens room ≡ Some begun
      → tree_left limit (placed_of x) vs begun ≡ Some c → parentheses ≡ parens limit (is_closed front.inside c.shape)
      → left_of parentheses c.left ≡ item_of
  item_behind {c = c} a b is =
      ap (λ (n : ℕ). left_of n c.left) is
      ∙ sym (item_counted limit front.tokens front.inside (tree_left limit (placed_of x) vs) room a b)

-- ---- parts and factors, of which some are counted
module _ (limit : ℕ) (vs : List ℤ) where
  -- the parts from one on
  abbrev pub parts_from : (first : Bool) → List CodePart → ℕ → Option ℕ
  parts_from first xs room = parts_left limit first (parts_of (map part_of xs)) vs room

  abbrev pub factors_from : (first : Bool) → List Code → ℕ → Option ℕ
  factors_from first xs room = factors_left limit first (factors_of (map placed_of xs)) vs room

  -- what a part leaves goes on with the parts behind it
  parts_step : (xs : List CodePart) (i : ℕ) (first : Bool) (room : ℕ) (x : CodePart) → i < length xs
      → x ≡ get_or xs i x
      → parts_from first (drop i xs) room
      ≡ after (part_left limit first x.minus (tree_left limit (placed_of x.inner) vs) room)
      (parts_from false (drop (i + 1) xs))
  parts_step xs i first room x inside is =
      at_drop_more (λ (l : List CodePart). parts_from first l room) xs i x inside
      ∙ ap (λ (y : CodePart). parts_left limit first (parts_of (part_of y ∷ map part_of (drop (i + 1) xs))) vs room)
      (sym is)
      ∙ ap (λ (p : Part). parts_left limit first (parts_of (p ∷ map part_of (drop (i + 1) xs))) vs room) (part_is x)

  factors_step : (xs : List Code) (i : ℕ) (first : Bool) (room : ℕ) (x : Code) → i < length xs → x ≡ get_or xs i x
      → factors_from first (drop i xs) room
      ≡ after (factor_left limit first (tree_left limit (placed_of x) vs) room) (factors_from false (drop (i + 1) xs))
  factors_step xs i first room x inside is =
      at_drop_more (λ (l : List Code). factors_from first l room) xs i x inside
      ∙ ap (λ (y : Code). factors_left limit first (factors_of (placed_of y ∷ map placed_of (drop (i + 1) xs))) vs
      room) (sym is)

-- what is left behind the parts before one, and behind all
pub record HasPartsLeft (limit : ℕ) (vs : List ℤ) (xs : List CodePart) (i : ℕ) (first : Bool) (left room : ℕ) : Type 0
  where
    pub same : parts_from limit vs first (drop i xs) left ≡ parts_from limit vs true xs room

pub record HasFactorsLeft (limit : ℕ) (vs : List ℤ) (xs : List Code) (i : ℕ) (first : Bool) (left room : ℕ) : Type 0
  where
    pub same : factors_from limit vs first (drop i xs) left ≡ factors_from limit vs true xs room

module _ {limit : ℕ} {vs : List ℤ} {xs : List CodePart} {i : ℕ} {first : Bool} {left room : ℕ}
    (h : HasPartsLeft limit vs xs i first left room) where
  module _ {x : CodePart} {sign : ℕ} (inside : i < length xs) (is : x ≡ get_or xs i x)
      (sign_is : sign ≡ lead limit first x.minus) where
    abbrev part_item : Option ℕ
    part_item = item_left limit sign place.Sum (tree_left limit (placed_of x.inner) vs) left

    parts_on : {o : Option ℕ} → part_item ≡ o
        → parts_from limit vs true xs room ≡ after o (parts_from limit vs false (drop (i + 1) xs))
    parts_on paid =
        sym h.same ∙ parts_step limit vs xs i first left x inside is
        ∙ ap (λ (o : Option ℕ). after o (parts_from limit vs false (drop (i + 1) xs)))
        (ap (λ (n : ℕ). item_left limit n place.Sum (tree_left limit (placed_of x.inner) vs) left) (sym sign_is)
        ∙ paid)

    -- one part more
    pub parts_more : {behind : ℕ} → part_item ≡ Some behind → HasPartsLeft limit vs xs (i + 1) false behind room
    parts_more paid = record { same = sym (parts_on paid) }

    -- a part that there is no room for
    pub parts_stop : {V : Type 0} {r : Result V Stop} (P : V → Type 0) (e : Stop)
        → ((f : Stop) × (r ≡ Err f) × (f ≡ e)) → HasStop part_item e
        → MatchResult r P (λ e. HasStop (parts_from limit vs true xs room) e)
    parts_stop {r = r} P e p cause =
        refused r P part_item (parts_from limit vs true xs room) e p.0 p.1 p.2 (λ none. parts_on none) cause

  pub parts_end : length xs ≤ i → parts_from limit vs true xs room ≡ Some left
  parts_end all =
      sym h.same ∙ at_drop_all (λ (l : List CodePart). parts_from limit vs first l left) xs i all

module _ {limit : ℕ} {vs : List ℤ} {xs : List Code} {i : ℕ} {first : Bool} {left room : ℕ}
    (h : HasFactorsLeft limit vs xs i first left room) where
  module _ {x : Code} {sign : ℕ} (inside : i < length xs) (is : x ≡ get_or xs i x) (sign_is : sign ≡ star limit first)
    where
      abbrev factor_item : Option ℕ
      factor_item = item_left limit sign place.Product (tree_left limit (placed_of x) vs) left

      factors_on : {o : Option ℕ} → factor_item ≡ o
          → factors_from limit vs true xs room ≡ after o (factors_from limit vs false (drop (i + 1) xs))
      factors_on paid =
          sym h.same ∙ factors_step limit vs xs i first left x inside is
          ∙ ap (λ (o : Option ℕ). after o (factors_from limit vs false (drop (i + 1) xs)))
          (ap (λ (n : ℕ). item_left limit n place.Product (tree_left limit (placed_of x) vs) left) (sym sign_is) ∙ paid)

      -- one factor more
      pub factors_more : {behind : ℕ} → factor_item ≡ Some behind
          → HasFactorsLeft limit vs xs (i + 1) false behind room
      factors_more paid = record { same = sym (factors_on paid) }

      -- a factor that there is no room for
      pub factors_stop : {V : Type 0} {r : Result V Stop} (P : V → Type 0) (e : Stop)
          → ((f : Stop) × (r ≡ Err f) × (f ≡ e)) → HasStop factor_item e
          → MatchResult r P (λ e. HasStop (factors_from limit vs true xs room) e)
      factors_stop {r = r} P e p cause =
          refused r P factor_item (factors_from limit vs true xs room) e p.0 p.1 p.2 (λ none. factors_on none) cause

  pub factors_end : length xs ≤ i → factors_from limit vs true xs room ≡ Some left
  factors_end all =
      sym h.same ∙ at_drop_all (λ (l : List Code). factors_from limit vs first l left) xs i all
