-- Kinds of lines: each has its own first word, and where lines of a kind may stand.
use Rattle.std.proofs.Common.{◌≡◌, ℕ, ◌+◌, ◌*◌, List, ◌∷◌, length, refl, ap, sym, ◌∙◌, true, get_or}
use Rattle.std.specs.Prelude.{codes, nat_eq, if◌then◌else◌}
use Rattle.rob_algebra.specs.Fraction.{Fraction}
use Rattle.rob_meaning.specs.Certificates.{Status, optimal, infeasible, unbounded}
use Rattle.rob_meaning.specs.Names.{Name}
use Rattle.rob_cert.specs.declared.kind.Multipliers.{Multipliers}
use Rattle.rob_cert.specs.declared.kind.Multipliers.TheVariants.{Covers, Holds}
use Rattle.rob_cert.specs.declared.kind.Vector.{Vector}
use Rattle.rob_cert.specs.declared.kind.Vector.TheVariants.{Inside, Plan, Move, At}
use Rattle.rob_cert.specs.Lines.{Line, status_line, value_line, scale_line, entry_line, cover_line, item_line, end_line}
use Rattle.rob_cert.specs.Kinds.{Kind, claims, values, scales, items, ends, entries, multipliers, kind_of, word_of, may_follow}
use Rattle.rob_cert.specs.Reading.{from}
use Rattle.rob_cert.specs.Spelling.{Naming, words_of, spelled}

-- ---- words
-- a number for a word: its first letter and its length
code : Name → ℕ
code word = get_or word 0 0 + 256 * length word

-- the kind of that number
decode : ℕ → Kind
decode n =
    if nat_eq n (code (codes "certificate")) then claims else
    if nat_eq n (code (codes "value")) then values else
    if nat_eq n (code (codes "scale")) then scales else
    if nat_eq n (code (codes "item")) then items else
    if nat_eq n (code (codes "end")) then ends else
    if nat_eq n (code (codes "inside")) then entries Inside else
    if nat_eq n (code (codes "plan")) then entries Plan else
    if nat_eq n (code (codes "move")) then entries Move else
    if nat_eq n (code (codes "at")) then entries At else
    if nat_eq n (code (codes "cover")) then multipliers Covers else multipliers Holds

decode-word : (k : Kind) → decode (code (word_of k)) ≡ k
unfolding code decode
decode-word claims = refl
decode-word values = refl
decode-word scales = refl
decode-word items = refl
decode-word ends = refl
decode-word (entries Inside) = refl
decode-word (entries Plan) = refl
decode-word (entries Move) = refl
decode-word (entries At) = refl
decode-word (multipliers Covers) = refl
decode-word (multipliers Holds) = refl

-- two kinds have different words
pub word_injective : (k j : Kind) → word_of k ≡ word_of j → k ≡ j
word_injective k j e = sym (decode-word k) ∙ ap (λ w. decode (code w)) e ∙ decode-word j

-- a line's first word is that of its kind
pub first_of : (names : Naming) (line : Line Name) → (more : List Name)
    × (words_of names line ≡ word_of (kind_of line) ∷ more)
first_of names (status_line s) = (_, refl)
first_of names (value_line a) = (_, refl)
first_of names (scale_line a) = (_, refl)
first_of names (entry_line v k a) = (_, refl)
first_of names (cover_line which i r a) = (_, refl)
first_of names (item_line i w b) = (_, refl)
first_of names end_line = (_, refl)

pub kind_of-spelled : (line : Line Fraction) → kind_of (spelled line) ≡ kind_of line
kind_of-spelled (status_line s) = refl
kind_of-spelled (value_line a) = refl
kind_of-spelled (scale_line a) = refl
kind_of-spelled (entry_line v k a) = refl
kind_of-spelled (cover_line which i r a) = refl
kind_of-spelled (item_line i w b) = refl
kind_of-spelled end_line = refl

-- a line whose words begin with the word of a kind is of that kind
pub kind_by_word : (names : Naming) (line : Line Name) (kind : Kind) (words more : List Name)
    → words_of names line ≡ words → words ≡ word_of kind ∷ more → kind_of line ≡ kind
kind_by_word names line kind words more e f =
    let first = first_of names line in
    let p : word_of (kind_of line) ∷ first.0 ≡ word_of kind ∷ more = sym first.1 ∙ e ∙ f in
    word_injective (kind_of line) kind (let q : word_of (kind_of line) ≡ word_of kind = cc in q)

pub kind_by_spelled : (names : Naming) (line : Line Fraction) (kind : Kind) (words more : List Name)
    → words_of names (spelled line) ≡ words → words ≡ word_of kind ∷ more → kind_of line ≡ kind
kind_by_spelled names line kind words more e f =
    sym (kind_of-spelled line) ∙ kind_by_word names (spelled line) kind words more e f

-- ---- lines of a kind
pub entry_by_kind : {A : Type 0} (v : Vector) (line : Line A) → kind_of line ≡ entries v → (k : ℕ) × (a : A)
    × (line ≡ entry_line v k a)
entry_by_kind v (entry_line w k a) e = (k, a, ap (λ u. entry_line u k a) (let p : w ≡ v = cc in p))
entry_by_kind v (status_line s) e = absurd (cc)
entry_by_kind v (value_line a) e = absurd (cc)
entry_by_kind v (scale_line a) e = absurd (cc)
entry_by_kind v (cover_line which i r a) e = absurd (cc)
entry_by_kind v (item_line i w b) e = absurd (cc)
entry_by_kind v end_line e = absurd (cc)

pub cover_by_kind : {A : Type 0} (w : Multipliers) (line : Line A) → kind_of line ≡ multipliers w → (i : ℕ) × (r : ℕ)
    × (a : A) × (line ≡ cover_line w i r a)
cover_by_kind w (cover_line which i r a) e = (i, r, a, ap (λ u. cover_line u i r a) (let p : which ≡ w = cc in p))
cover_by_kind w (entry_line v k a) e = absurd (cc)
cover_by_kind w (status_line s) e = absurd (cc)
cover_by_kind w (value_line a) e = absurd (cc)
cover_by_kind w (scale_line a) e = absurd (cc)
cover_by_kind w (item_line i x b) e = absurd (cc)
cover_by_kind w end_line e = absurd (cc)

pub item_by_kind : {A : Type 0} (line : Line A) → kind_of line ≡ items → (i : ℕ) × (w : A) × (b : A)
    × (line ≡ item_line i w b)
item_by_kind (item_line i w b) e = (i, w, b, refl)
item_by_kind (cover_line which i r a) e = absurd (cc)
item_by_kind (entry_line v k a) e = absurd (cc)
item_by_kind (status_line s) e = absurd (cc)
item_by_kind (value_line a) e = absurd (cc)
item_by_kind (scale_line a) e = absurd (cc)
item_by_kind end_line e = absurd (cc)

-- ---- what may stand behind what
-- a kind of list that may stand somewhere may stand behind itself
pub entries_again : (s : Status) (last : Kind) (v : Vector) → may_follow s last (entries v) ≡ true
    → may_follow s (entries v) (entries v) ≡ true
entries_again s last Inside e = refl
entries_again optimal last Plan e = refl
entries_again infeasible claims Plan e = e
entries_again infeasible values Plan e = e
entries_again infeasible scales Plan e = e
entries_again infeasible items Plan e = e
entries_again infeasible ends Plan e = e
entries_again infeasible (entries w) Plan e = e
entries_again infeasible (multipliers w) Plan e = e
entries_again unbounded last Plan e = refl
entries_again optimal claims Move e = e
entries_again optimal values Move e = e
entries_again optimal scales Move e = e
entries_again optimal items Move e = e
entries_again optimal ends Move e = e
entries_again optimal (entries w) Move e = e
entries_again optimal (multipliers w) Move e = e
entries_again infeasible claims Move e = e
entries_again infeasible values Move e = e
entries_again infeasible scales Move e = e
entries_again infeasible items Move e = e
entries_again infeasible ends Move e = e
entries_again infeasible (entries w) Move e = e
entries_again infeasible (multipliers w) Move e = e
entries_again unbounded last Move e = refl
entries_again optimal last At e = refl
entries_again infeasible last At e = refl
entries_again unbounded claims At e = e
entries_again unbounded values At e = e
entries_again unbounded scales At e = e
entries_again unbounded items At e = e
entries_again unbounded ends At e = e
entries_again unbounded (entries w) At e = e
entries_again unbounded (multipliers w) At e = e

pub from_entries : (v : Vector) (n : ℕ) → from (entries v) (entries v) n ≡ n
from_entries Inside n = refl
from_entries Plan n = refl
from_entries Move n = refl
from_entries At n = refl

pub from_multipliers : (w : Multipliers) (n : ℕ) → from (multipliers w) (multipliers w) n ≡ n
from_multipliers Covers n = refl
from_multipliers Holds n = refl
