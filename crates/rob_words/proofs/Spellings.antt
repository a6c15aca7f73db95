-- Words are spelled by one list of parts at most.
use Rattle.std.proofs.Common.{◌≡◌, ◌≢◌, ◌∙◌, inl, inr, Bool, true, false, zero, suc, refl, sym, ap, ap₂, subst, arith, append-nil, List, [], ◌∷◌, ◌++◌, rules}
use Rattle.std.specs.List.{All}
use Rattle.rob_words.specs.Values.{Word, route_text, width_text}
use Rattle.rob_words.specs.Commands.{ArePlain, HasParts, IsCommandLine, IsPlain, IsSpelled, Line, Part, Says, Setting, TellsRoute, apart, bits, joined, own, own_words, route, setting_word, words_of, values_of}
use Rattle.rob_words.specs.Verbs.{takes_route, verb_word}
use Rattle.rob_words.specs.Texts.{bare_words}
use Rattle.rob_words.specs.declared.route.Route.{Route}
use Rattle.rob_words.specs.declared.route.Route.TheVariants.{Dual, Cuts}
use Rattle.rob_words.specs.declared.width.Width.{Width}
use Rattle.rob_words.specs.declared.width.Width.TheVariants.{Eight, Sixteen, ThirtyTwo, SixtyTwo}
use Rattle.rob_words.proofs.VerbLemmas.{verb_word-one, verb_word-plain}

-- the first items of equal lists
pub heads : {x y : Word} {xs ys : List Word} → x ∷ xs ≡ y ∷ ys → x ≡ y
heads {x} e = ap (first_or x) e
  where
    first_or : Word → List Word → Word
    first_or d [] = d
    first_or d (w ∷ ws) = w

-- the rest of a list
abbrev pub rest_of : {X : Type 0} → List X → List X
rest_of [] = []
rest_of (x ∷ xs) = xs

dashed : (setting : Setting) (more word : Word) → IsPlain word → word ≡ setting_word setting ++ more → ⊥
dashed setting more [] plain e = plain
dashed bits more (byte ∷ bytes) plain e = plain (search (e, rules))
dashed route more (byte ∷ bytes) plain e = plain (search (e, rules))

apart-joined : (s t : Setting) (value : Word) → setting_word s ≡ setting_word t ++ 61 ∷ value → ⊥
apart-joined bits bits value e = search (e, rules)
apart-joined bits route value e = search (e, rules)
apart-joined route bits value e = search (e, rules)
apart-joined route route value e = search (e, rules)

pub setting_word-one : (s t : Setting) → setting_word s ≡ setting_word t → s ≡ t
setting_word-one bits bits e = refl
setting_word-one bits route e = absurd (search (e, rules))
setting_word-one route bits e = absurd (search (e, rules))
setting_word-one route route e = refl

joined-one : (s t : Setting) (a b : Word) → setting_word s ++ 61 ∷ a ≡ setting_word t ++ 61 ∷ b → (s ≡ t) × (a ≡ b)
joined-one bits bits a b e = (refl, search (e, rules))
joined-one bits route a b e = absurd (search (e, rules))
joined-one route bits a b e = absurd (search (e, rules))
joined-one route route a b e = (refl, search (e, rules))

pub one_parts : (p q : List Part) → ArePlain (bare_words p) → ArePlain (bare_words q) → words_of p ≡ words_of q → p ≡ q
one_parts [] [] plain plain' e = refl
one_parts [] (own word ∷ q) plain plain' e = absurd (search (e, rules))
one_parts [] (apart setting value ∷ q) plain plain' e = absurd (search (e, rules))
one_parts [] (joined setting value ∷ q) plain plain' e = absurd (search (e, rules))
one_parts (own word ∷ p) [] plain plain' e = absurd (search (e, rules))
one_parts (apart setting value ∷ p) [] plain plain' e = absurd (search (e, rules))
one_parts (joined setting value ∷ p) [] plain plain' e = absurd (search (e, rules))
one_parts (own word ∷ p) (own word' ∷ q) plain plain' e =
    ap₂ (λ w ps. own w ∷ ps) (heads e) (one_parts p q plain.1 plain'.1 (ap rest_of e))
one_parts (own word ∷ p) (apart setting value ∷ q) plain plain' e =
    absurd (dashed setting [] word plain.0 (heads e ∙ sym (append-nil (setting_word setting))))
one_parts (own word ∷ p) (joined setting value ∷ q) plain plain' e =
    absurd (dashed setting (61 ∷ value) word plain.0 (heads e))
one_parts (apart setting value ∷ p) (own word ∷ q) plain plain' e =
    absurd (dashed setting [] word plain'.0 (sym (heads e) ∙ sym (append-nil (setting_word setting))))
one_parts (joined setting value ∷ p) (own word ∷ q) plain plain' e =
    absurd (dashed setting (61 ∷ value) word plain'.0 (sym (heads e)))
one_parts (apart s a ∷ p) (apart t b ∷ q) plain plain' e =
    let rest = ap rest_of e in
    ap₂ (λ (f : Part) ps. f ∷ ps) (ap₂ apart (setting_word-one s t (heads e)) (heads rest))
    (one_parts p q plain.1 plain'.1 (ap rest_of rest))
one_parts (apart s a ∷ p) (joined t b ∷ q) plain plain' e = absurd (apart-joined s t b (heads e))
one_parts (joined s a ∷ p) (apart t b ∷ q) plain plain' e = absurd (apart-joined t s a (sym (heads e)))
one_parts (joined s a ∷ p) (joined t b ∷ q) plain plain' e =
    let same = joined-one s t a b (heads e) in
    ap₂ (λ (f : Part) ps. f ∷ ps) (ap₂ joined same.0 same.1) (one_parts p q plain plain' (ap rest_of e))

-- ---- a line's parts are plain

pub bare-plain : (parts : List Part) → ArePlain (own_words parts) → ArePlain (values_of bits parts)
    → ArePlain (values_of route parts) → ArePlain (bare_words parts)
bare-plain [] own_plain bits_plain route_plain = tt
bare-plain (own word ∷ parts) own_plain bits_plain route_plain =
    (own_plain.0, bare-plain parts own_plain.1 bits_plain route_plain)
bare-plain (apart bits value ∷ parts) own_plain bits_plain route_plain =
    (bits_plain.0, bare-plain parts own_plain bits_plain.1 route_plain)
bare-plain (apart route value ∷ parts) own_plain bits_plain route_plain =
    (route_plain.0, bare-plain parts own_plain bits_plain route_plain.1)
bare-plain (joined bits value ∷ parts) own_plain bits_plain route_plain =
    bare-plain parts own_plain bits_plain.1 route_plain
bare-plain (joined route value ∷ parts) own_plain bits_plain route_plain =
    bare-plain parts own_plain bits_plain route_plain.1

pub own-plain : (parts : List Part) → ArePlain (bare_words parts) → ArePlain (own_words parts)
own-plain [] plain = tt
own-plain (own word ∷ parts) plain = (plain.0, own-plain parts plain.1)
own-plain (apart setting value ∷ parts) plain = own-plain parts plain.1
own-plain (joined setting value ∷ parts) plain = own-plain parts plain

width-plain : (width : Width) → IsPlain (width_text width)
width-plain Eight = λ e. search (e, rules, arith)
width-plain Sixteen = λ e. search (e, rules, arith)
width-plain ThirtyTwo = λ e. search (e, rules, arith)
width-plain SixtyTwo = λ e. search (e, rules, arith)

route-plain : (way : Route) → IsPlain (route_text way)
route-plain Dual = λ e. search (e, rules, arith)
route-plain Cuts = λ e. search (e, rules, arith)

says-plain : {X : Type 0} (text : X → Word) (default : X) (values : List Word) (x : X) → ((x : X) → IsPlain (text x))
    → Says text default values x → ArePlain values
says-plain text default values x plain (inl one) = subst ArePlain (sym one) (plain x, tt)
says-plain text default values x plain (inr none) = subst ArePlain (sym none.0) tt

tells-plain : (takes : Bool) (values : List Word) (way : Route) → TellsRoute takes values way → ArePlain values
tells-plain true values way tells = says-plain route_text Dual values way route-plain tells
tells-plain false values way tells = subst ArePlain (sym tells.0) tt

pub line-plain : (words : List Word) (line : Line) (parts : List Part) → HasParts words line parts
    → ArePlain (bare_words parts)
line-plain words line parts has = bare-plain parts (subst ArePlain (sym has.own) has.names)
    (says-plain width_text SixtyTwo (values_of bits parts) line.width width-plain has.width)
    (tells-plain (takes_route line.verb) (values_of route parts) line.way has.route)

-- ---- one line

pub width_text-one : (a b : Width) → width_text a ≡ width_text b → a ≡ b
width_text-one Eight Eight e = refl
width_text-one Eight Sixteen e = absurd (search (e, rules))
width_text-one Eight ThirtyTwo e = absurd (search (e, rules))
width_text-one Eight SixtyTwo e = absurd (search (e, rules))
width_text-one Sixteen Eight e = absurd (search (e, rules))
width_text-one Sixteen Sixteen e = refl
width_text-one Sixteen ThirtyTwo e = absurd (search (e, rules))
width_text-one Sixteen SixtyTwo e = absurd (search (e, rules))
width_text-one ThirtyTwo Eight e = absurd (search (e, rules))
width_text-one ThirtyTwo Sixteen e = absurd (search (e, rules))
width_text-one ThirtyTwo ThirtyTwo e = refl
width_text-one ThirtyTwo SixtyTwo e = absurd (search (e, rules))
width_text-one SixtyTwo Eight e = absurd (search (e, rules))
width_text-one SixtyTwo Sixteen e = absurd (search (e, rules))
width_text-one SixtyTwo ThirtyTwo e = absurd (search (e, rules))
width_text-one SixtyTwo SixtyTwo e = refl

route_text-one : (a b : Route) → route_text a ≡ route_text b → a ≡ b
route_text-one Dual Dual e = refl
route_text-one Cuts Cuts e = refl
route_text-one Dual Cuts e = absurd (search (e, rules))
route_text-one Cuts Dual e = absurd (search (e, rules))

pub says-one : {X : Type 0} (text : X → Word) (default : X) (values : List Word) (a b : X)
    → ((a b : X) → text a ≡ text b → a ≡ b)
    → Says text default values a → Says text default values b → a ≡ b
says-one text default values a b one (inl x) (inl y) = one a b (heads (sym x ∙ y))
says-one text default values a b one (inl x) (inr y) =
    let e : text a ∷ [] ≡ [] = sym x ∙ y.0 in absurd (search (e, rules))
says-one text default values a b one (inr x) (inl y) =
    let e : text b ∷ [] ≡ [] = sym y ∙ x.0 in absurd (search (e, rules))
says-one text default values a b one (inr x) (inr y) = x.1 ∙ sym y.1

tells-one : (takes : Bool) (values : List Word) (a b : Route) → TellsRoute takes values a
    → TellsRoute takes values b → a ≡ b
tells-one true values a b s t = says-one route_text Dual values a b route_text-one s t
tells-one false values a b s t = s.1 ∙ sym t.1

pub one_line : (words : List Word) (a b : Line) → IsSpelled words a → IsSpelled words b → a ≡ b
one_line words a b s t =
    let spelled : verb_word a.verb ∷ words_of s.0 ≡ verb_word b.verb ∷ words_of t.0 = sym s.1.spelled ∙ t.1.spelled in
    let parts : s.0 ≡ t.0 =
    one_parts s.0 t.0 (line-plain words a s.0 s.1) (line-plain words b t.0 t.1) (ap rest_of spelled) in
    let verbs : a.verb ≡ b.verb = verb_word-one a.verb b.verb (heads spelled) in
    let other : HasParts words b s.0 = subst (HasParts words b) (sym parts) t.1 in
    let words_are : a.own ≡ b.own = sym s.1.own ∙ other.own in
    let way : a.way ≡ b.way =
    tells-one (takes_route a.verb) (values_of route s.0) a.way b.way s.1.route
    (subst (λ v. TellsRoute (takes_route v) (values_of route s.0) b.way) (sym verbs) other.route) in
    let width =
    says-one width_text SixtyTwo (values_of bits s.0) a.width b.width width_text-one s.1.width other.width in
    (λ i. record { verb = verbs i; own = words_are i; way = way i; width = width i })

-- ---- no word is empty

setting-bytes : (setting : Setting) (more : Word) → setting_word setting ++ more ≡ [] → ⊥
setting-bytes bits more e = search (e, rules)
setting-bytes route more e = search (e, rules)

plain-bytes : (word : Word) → IsPlain word → word ≢ []
plain-bytes [] plain e = plain
plain-bytes (byte ∷ bytes) plain e = search (e, rules)

All-cons : (word : Word) (words : List Word) → word ≢ [] → All (λ w. w ≢ []) words → All (λ w. w ≢ []) (word ∷ words)
All-cons word words one rest zero d lt = one
All-cons word words one rest (suc k) d lt = rest k d (omega arith)

words-bytes : (parts : List Part) → ArePlain (bare_words parts) → All (λ w. w ≢ []) (words_of parts)
words-bytes [] plain = λ k d lt. absurd (omega arith)
words-bytes (own word ∷ parts) plain =
    All-cons word (words_of parts) (plain-bytes word plain.0) (words-bytes parts plain.1)
words-bytes (apart setting value ∷ parts) plain =
    All-cons (setting_word setting) (value ∷ words_of parts)
    (λ e. setting-bytes setting [] (append-nil (setting_word setting) ∙ e))
    (All-cons value (words_of parts) (plain-bytes value plain.0) (words-bytes parts plain.1))
words-bytes (joined setting value ∷ parts) plain =
    All-cons (setting_word setting ++ 61 ∷ value) (words_of parts) (setting-bytes setting (61 ∷ value))
    (words-bytes parts plain)

pub line-bytes : (words : List Word) → IsCommandLine words → All (λ w. w ≢ []) words
line-bytes words line =
    let parts = line.1.0 in
    let has = line.1.1 in
    subst (All (λ w. w ≢ [])) (sym has.spelled)
    (All-cons (verb_word line.0.verb) (words_of parts)
    (plain-bytes (verb_word line.0.verb) (verb_word-plain line.0.verb))
    (words-bytes parts (line-plain words line.0 parts has)))
