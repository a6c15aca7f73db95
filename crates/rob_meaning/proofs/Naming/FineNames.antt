-- A name as its plain parts: it is split at its dots. Names are the same where their plain parts are.
use Rattle.std.proofs.Common.{sym, ◌∙◌, ap, ap₂, refl, arith, append_assoc}
use Rattle.std.proofs.lemmas.Bool.{eqb-true, eqb-false}
use Rattle.std.specs.Prelude.{◌≡◌, ◌≢◌, ℕ, ◌≤◌, Bool, true, false, eqb, if◌then◌else◌, [], ◌∷◌, ◌++◌, get_or, length}
use Rattle.rob_meaning.proofs.Lists.EachLemmas.{each_append}
use Rattle.rob_meaning.proofs.Naming.JoinedLemmas.{ArePlain, joined_same}
use Rattle.rob_meaning.specs.Named.{IsPlain}
use Rattle.rob_meaning.specs.Names.{Name, Parts, behind_dots, joined}
use Rattle.rob_meaning.specs.Places.{Each}
use Rattle.std.proofs.lemmas.List.{append-nil}

-- a byte before the first part
abbrev pub push : ℕ → Parts → Parts
push b [] = (b ∷ []) ∷ []
push b (p ∷ ps) = (b ∷ p) ∷ ps

-- the parts of a name between its dots
abbrev pub split : Name → Parts
split [] = [] ∷ []
split (b ∷ rest) = if eqb b 46 then [] ∷ split rest else push b (split rest)

push_plain : (b : ℕ) (ps : Parts) → b ≢ 46 → ArePlain ps → ArePlain (push b ps)
push_plain b [] ne h = absurd h
push_plain b (p ∷ ps) ne h = ((ne, h.0), h.1)

pub all_plain : (ps : Parts) → ArePlain ps → Each IsPlain ps
all_plain [] h = absurd h
all_plain (p ∷ ps) h = h

pub split_plain : (name : Name) → ArePlain (split name)
split_plain [] = (tt, tt)
split_plain (b ∷ rest) = by (eqb b 46) refl (split_plain rest)
  where
    by : (t : Bool) → eqb b 46 ≡ t → ArePlain (split rest)
        → ArePlain (if t then [] ∷ split rest else push b (split rest))
    by true e h = (tt, all_plain (split rest) h)
    by false e h = push_plain b (split rest) (eqb-false b 46 e) h

behind_some : (ps : Parts) → ArePlain ps → behind_dots ps ≡ 46 ∷ joined ps
behind_some [] h = absurd h
behind_some (p ∷ ps) h = refl

joined_push : (b : ℕ) (ps : Parts) → ArePlain ps → joined (push b ps) ≡ b ∷ joined ps
joined_push b [] h = absurd h
joined_push b (p ∷ ps) h = refl

pub joined_split : (name : Name) → joined (split name) ≡ name
joined_split [] = refl
joined_split (b ∷ rest) = by (eqb b 46) refl (joined_split rest)
  where
    by : (t : Bool) → eqb b 46 ≡ t → joined (split rest) ≡ rest →
        joined (if t then [] ∷ split rest else push b (split rest)) ≡ b ∷ rest
    by true e h =
        behind_some (split rest) (split_plain rest)
        ∙ ap₂ (λ (x : ℕ) (xs : Name). x ∷ xs) (sym (eqb-true b 46 e)) h
    by false e h = joined_push b (split rest) (split_plain rest) ∙ ap (λ (xs : Name). b ∷ xs) h

-- what plain parts are joined to is split to them
pub split_joined : (ps : Parts) → ArePlain ps → split (joined ps) ≡ ps
split_joined ps h = joined_same (split (joined ps)) ps (split_plain (joined ps)) h (joined_split (joined ps))

pub split_same : (a b : Name) → split a ≡ split b → a ≡ b
split_same a b e = sym (joined_split a) ∙ ap joined e ∙ joined_split b

pub split_one : (name : Name) → IsPlain name → split name ≡ name ∷ []
split_one name h = ap split (sym (append-nil name)) ∙ split_joined (name ∷ []) (h, tt)

pub split_two : (a b : Name) → IsPlain a → IsPlain b → split (a ++ (46 ∷ b)) ≡ a ∷ b ∷ []
split_two a b h k =
    ap (λ (xs : Name). split (a ++ (46 ∷ xs))) (sym (append-nil b)) ∙ split_joined (a ∷ b ∷ []) (h, (k, tt))

-- ---- a name among parts is as its own parts are
behind_append : (ps qs : Parts) → behind_dots (ps ++ qs) ≡ behind_dots ps ++ behind_dots qs
behind_append [] qs = refl
behind_append (p ∷ ps) qs =
    ap (λ (xs : Name). 46 ∷ xs)
    (ap (λ (xs : Name). p ++ xs) (behind_append ps qs) ∙ sym (append_assoc p (behind_dots ps) (behind_dots qs)))

joined_append : (ps qs : Parts) → ArePlain ps → joined (ps ++ qs) ≡ joined ps ++ behind_dots qs
joined_append [] qs h = absurd h
joined_append (p ∷ ps) qs h =
    ap (λ (xs : Name). p ++ xs) (behind_append ps qs) ∙ sym (append_assoc p (behind_dots ps) (behind_dots qs))

pub joined_begins : (name : Name) (rest : Parts) → joined (split name ++ rest) ≡ joined (name ∷ rest)
joined_begins name rest =
    joined_append (split name) rest (split_plain name) ∙ ap (λ (xs : Name). xs ++ behind_dots rest) (joined_split name)

pub behind_begins : (name : Name) (rest : Parts) → behind_dots (split name ++ rest) ≡ behind_dots (name ∷ rest)
behind_begins name rest =
    behind_append (split name) rest
    ∙ ap (λ (xs : Name). xs ++ behind_dots rest)
    (behind_some (split name) (split_plain name) ∙ ap (λ (xs : Name). 46 ∷ xs) (joined_split name))

pub split_then_plain : (name : Name) (rest : Parts) → Each IsPlain rest → ArePlain (split name ++ rest)
split_then_plain name rest h = by (split name) (split_plain name)
  where
    by : (ps : Parts) → ArePlain ps → ArePlain (ps ++ rest)
    by [] k = absurd k
    by (p ∷ ps) k = (k.0, each_append IsPlain ps rest k.1 h)

pub split_each : (name : Name) (rest : Parts) → Each IsPlain rest → Each IsPlain (split name ++ rest)
split_each name rest h = each_append IsPlain (split name) rest (all_plain (split name) (split_plain name)) h

-- ---- all parts but the last, and those behind the second
abbrev pub front : Parts → Parts
front [] = []
front (p ∷ []) = []
front (p ∷ (q ∷ ps)) = p ∷ front (q ∷ ps)

pub front_append : (ps : Parts) (x : Name) → front (ps ++ x ∷ []) ≡ ps
front_append [] x = refl
front_append (p ∷ []) x = refl
front_append (p ∷ (q ∷ ps)) x = ap (λ (rest : Parts). p ∷ rest) (front_append (q ∷ ps) x)

-- what stands first
pub first_part_of : (name : Name) (rest : Parts) → get_or (split name ++ rest) 0 [] ≡ get_or (split name) 0 []
first_part_of name rest = by (split name) (split_plain name)
  where
    by : (ps : Parts) → ArePlain ps → get_or (ps ++ rest) 0 [] ≡ get_or ps 0 []
    by [] h = absurd h
    by (p ∷ ps) h = refl

abbrev pub behind_two : Parts → Parts
behind_two [] = []
behind_two (p ∷ []) = []
behind_two (p ∷ (q ∷ ps)) = ps

pub split_long : (name : Name) → 1 ≤ length (split name)
split_long name = by (split name) (split_plain name)
  where
    by : (ps : Parts) → ArePlain ps → 1 ≤ length ps
    by [] h = absurd h
    by (p ∷ ps) h = omega arith
