-- Which rule of indices is named, from the tests.
use Rattle.std.proofs.Common.{◌≡◌, ℕ, ◌+◌, ◌-◌, ◌≤◌, Bool, true, false, cond, List, Option, Some, None, refl, sym, ap, ◌∙◌, arith}
use Rattle.std.specs.Prelude.{◌||◌, nat_le, nat_lt, if◌then◌else◌}
use Rattle.std.specs.List.{list_any}
use Rattle.std.proofs.lemmas.Bool.{leb-true, le-ltb, le-leb}
use Rattle.rob_index.specs.Statements.{Name, Tree, Indexed}
use Rattle.rob_index.specs.Counting.{lines_tokens}
use Rattle.rob_index.specs.Expansion.{expand}
use Rattle.rob_index.specs.Places.{places}
use Rattle.rob_index.specs.Rules.{IndexFault, index_unknown, range_too_long, index_out, too_much, no_statement, is_unknown, is_long, is_out, has_great_digits, is_no_statement, most_tokens}
use Rattle.rob_index.specs.Search.{has_room, named, named_crowded, named_long, named_out, search_places, search_long, search_out, effort, Searched}
use Rattle.rob_rules.specs.Indices.{late_fault}

module _ (limit : ℕ) (words : List Name) (is_declared : ℕ → Bool) (total : ℕ) (s : Indexed Tree) where
  -- the tests in their order
  abbrev pick : Bool → Bool → Bool → Bool → Bool → Bool → IndexFault → Option IndexFault
  pick room unknown long out much late crowded =
      if room then cond unknown (Some index_unknown) (cond long (Some range_too_long) (cond out (Some index_out)
      (cond much (Some too_much) (cond late (Some no_statement) None)))) else Some crowded

  abbrev fault : Option IndexFault
  fault = named limit words is_declared total s

  abbrev room : Bool
  room = has_room limit words is_declared total s

  abbrev unknown : Bool
  unknown = list_any (is_unknown is_declared) (places s)

  abbrev long : Bool
  long = list_any is_long (places s)

  abbrev great : Bool
  great = list_any has_great_digits (places s)

  abbrev out : Bool
  out = list_any is_out (places s)

  abbrev much : Bool
  much = nat_lt most_tokens (total + lines_tokens limit (expand words s))

  abbrev late : Bool
  late = list_any is_no_statement (expand words s)

  abbrev crowded : IndexFault
  crowded = named_crowded limit words is_declared total s

  picked : fault ≡ pick room unknown long (great || out) much late crowded
  picked = refl

  pub no_room : room ≡ false → (f : IndexFault) → crowded ≡ f → fault ≡ Some f
  no_room r f is = picked ∙ (λ i. pick (r i) unknown long (great || out) much late (is i))

  module _ (r : room ≡ true) where
    pub first_unknown : unknown ≡ true → fault ≡ Some index_unknown
    first_unknown u = picked ∙ (λ i. pick (r i) (u i) long (great || out) much late crowded)

    module _ (u : unknown ≡ false) where
      pub first_long : long ≡ true → fault ≡ Some range_too_long
      first_long l = picked ∙ (λ i. pick (r i) (u i) (l i) (great || out) much late crowded)

      module _ (l : long ≡ false) where
        pub first_great : great ≡ true → fault ≡ Some index_out
        first_great g = picked ∙ (λ i. pick (r i) (u i) (l i) (g i || out) much late crowded)

        module _ (g : great ≡ false) where
          pub first_out : out ≡ true → fault ≡ Some index_out
          first_out o = picked ∙ (λ i. pick (r i) (u i) (l i) (g i || o i) much late crowded)

          not_much : much ≡ false
          not_much = le-ltb most_tokens (total + lines_tokens limit (expand words s))
              (leb-true (total + lines_tokens limit (expand words s)) most_tokens r)

          pub none_first : out ≡ false → fault ≡ late_fault words s
          none_first o = picked ∙ (λ i. pick (r i) (u i) (l i) (g i || o i) (not_much i) late crowded)

  -- the room that is left for a line
  pub room_left : (b : Bool) → total ≤ most_tokens
      → b ≡ nat_le (lines_tokens limit (expand words s)) (most_tokens - total) → room ≡ b
  room_left b few is = same ∙ sym is
    where
      go : (a c : Bool) (tokens : ℕ) → nat_le (total + tokens) most_tokens ≡ a → nat_le tokens (most_tokens - total) ≡ c
          → a ≡ c
      go true true tokens h k = refl
      go false false tokens h k = refl
      go true false tokens h k =
          let l = leb-true (total + tokens) most_tokens h in
          let m = le-leb tokens (most_tokens - total) (omega arith) in
          sym m ∙ k
      go false true tokens h k =
          let l = leb-true tokens (most_tokens - total) k in
          let m = le-leb (total + tokens) most_tokens (omega arith) in
          sym h ∙ m

      same : room ≡ nat_le (lines_tokens limit (expand words s)) (most_tokens - total)
      same = go room (nat_le (lines_tokens limit (expand words s)) (most_tokens - total))
          (lines_tokens limit (expand words s)) refl refl

  -- ---- of a line that is too much
  abbrev searched : Searched
  searched = search_places search_long (places s) effort

  pub crowded_unknown : unknown ≡ true → crowded ≡ index_unknown
  crowded_unknown u =
      λ i. if u i then index_unknown else named_long limit words is_declared total s searched

  module _ (u : unknown ≡ false) where
    pub crowded_long : searched.found ≡ true → crowded ≡ range_too_long
    crowded_long h =
        λ i. if u i then index_unknown else (if h i then range_too_long
        else named_out limit words is_declared total s searched.left)

  -- ---- of a line of which nothing is named but for what goes by its plain statements
  abbrev IsEarly : IndexFault → Type 0
  IsEarly f = f ≡ no_statement → ⊥

  early_crowded : IsEarly crowded
  early_crowded =
      go unknown searched.found (great || (search_places search_out (places s) searched.left).found)
    where
      go : (a b c : Bool)
          → (if a then index_unknown else (if b then range_too_long else (if c then index_out else too_much)))
          ≡ no_statement
          → ⊥
      go true b c h = cc
      go false true c h = cc
      go false false true h = cc
      go false false false h = cc

  clash : (b : Bool) (f : IndexFault) → IsEarly f → Some f ≡ (if b then Some no_statement else None) → ⊥
  clash true f early h = let e : f ≡ no_statement = cc in early e
  clash false f early h = cc

  module _ (is : fault ≡ late_fault words s) where
    pub has_room_named : room ≡ true
    has_room_named = go room refl
      where
        go : (b : Bool) → room ≡ b → room ≡ true
        go true r = r
        go false r = absurd (clash late crowded early_crowded (sym (no_room r crowded refl) ∙ is))

    -- so the line's tokens have room
    pub room_named : total + lines_tokens limit (expand words s) ≤ most_tokens
    room_named = leb-true (total + lines_tokens limit (expand words s)) most_tokens has_room_named

    -- and no index is out of bounds
    pub within_named : out ≡ false
    within_named =
        (go unknown long great out much late
        (ap (λ (r : Bool). pick r unknown long (great || out) much late crowded) (sym has_room_named) ∙ is))
      where
        go : (a b c d m l : Bool) → pick true a b (c || d) m l crowded ≡ (if l then Some no_statement else None)
            → d ≡ false
        go true b c d m l h = absurd (clash l index_unknown (λ e. cc) h)
        go false true c d m l h = absurd (clash l range_too_long (λ e. cc) h)
        go false false true d m l h = absurd (clash l index_out (λ e. cc) h)
        go false false false true m l h = absurd (clash l index_out (λ e. cc) h)
        go false false false false m l h = refl

-- two tests that agree on each word name the same
pub same_named : (limit : ℕ) (words : List Name) (test other : ℕ → Bool) (total : ℕ) (s : Indexed Tree)
    → ((k : ℕ) → test k ≡ other k) → named limit words test total s ≡ named limit words other total s
same_named limit words test other total s same =
    ap (λ (t : ℕ → Bool). named limit words t total s) (λ i k. same k i)
