-- The order of the kinds of lines: which are told by their ranks, which are used, and which are ready behind a line.
use Rattle.std.proofs.Common.{◌≡◌, ◌≢◌, ℕ, suc, ◌<◌, ◌≤◌, arith, refl, ap, sym, ◌∙◌, Bool, true, false, inl, inr}
use Rattle.std.proofs.lemmas.Bool.Decides.{nat_tests}
use Rattle.std.specs.Prelude.{if◌then◌else◌, ◌⊎◌, nat_eq, nat_le, nat_lt, ◌&&◌}
use Rattle.rob_meaning.specs.Certificates.{Status, optimal, infeasible, unbounded}
use Rattle.rob_cert.specs.declared.kind.Multipliers.{Multipliers}
use Rattle.rob_cert.specs.declared.kind.Multipliers.TheVariants.{Covers, Holds}
use Rattle.rob_cert.specs.declared.kind.Vector.{Vector}
use Rattle.rob_cert.specs.declared.kind.Vector.TheVariants.{Inside, Plan, Move, At}
use Rattle.rob_cert.specs.ReadSoFar.{IsReady}
use Rattle.rob_cert.specs.Kinds.{Kind, claims, values, scales, items, ends, entries, multipliers, rank, is_used, is_behind, may_follow}
use Rattle.std.proofs.lemmas.Bool.{and_parts, and_from}

-- ---- ranks
decode : ℕ → Kind
decode n =
    if nat_eq n 0 then claims else
    if nat_eq n 1 then values else
    if nat_eq n 2 then scales else
    if nat_eq n 3 then entries Inside else
    if nat_eq n 4 then entries Plan else
    if nat_eq n 5 then entries Move else
    if nat_eq n 6 then multipliers Covers else
    if nat_eq n 7 then multipliers Holds else ends

decode-rank : (k : Kind) → rank k ≢ 8 → decode (rank k) ≡ k
unfolding decode
decode-rank claims h = refl
decode-rank values h = refl
decode-rank scales h = refl
decode-rank items h = absurd (h refl)
decode-rank ends h = refl
decode-rank (entries Inside) h = refl
decode-rank (entries Plan) h = refl
decode-rank (entries Move) h = refl
decode-rank (entries At) h = absurd (h refl)
decode-rank (multipliers Covers) h = refl
decode-rank (multipliers Holds) h = refl

-- kinds but those of items are told by their ranks
pub rank_injective : (k j : Kind) → rank j ≢ 8 → rank k ≡ rank j → k ≡ j
rank_injective k j h e = sym (decode-rank k (λ f. h (sym e ∙ f))) ∙ ap decode e ∙ decode-rank j h

pub eight : (k : Kind) → rank k ≡ 8 → (k ≡ items) ⊎ (k ≡ entries At)
eight items h = inl refl
eight (entries At) h = inr refl
eight claims h = absurd (omega arith)
eight values h = absurd (omega arith)
eight scales h = absurd (omega arith)
eight ends h = absurd (omega arith)
eight (entries Inside) h = absurd (omega arith)
eight (entries Plan) h = absurd (omega arith)
eight (entries Move) h = absurd (omega arith)
eight (multipliers Covers) h = absurd (omega arith)
eight (multipliers Holds) h = absurd (omega arith)

-- ---- what is used
-- what may stand behind a line of a list is used
used_behind_claims : (s : Status) (kind : Kind) → 3 ≤ rank kind
    → may_follow s claims kind ≡ true → is_used s kind ≡ true
used_behind_claims infeasible (entries At) l h = refl
used_behind_claims infeasible (entries Inside) l h = h
used_behind_claims infeasible (entries Plan) l h = h
used_behind_claims infeasible (entries Move) l h = h
used_behind_claims infeasible (multipliers w) l h = h
used_behind_claims infeasible items l h = h
used_behind_claims infeasible ends l h = h
used_behind_claims infeasible claims l h = absurd (omega arith)
used_behind_claims infeasible values l h = absurd (omega arith)
used_behind_claims infeasible scales l h = absurd (omega arith)
used_behind_claims optimal claims l h = absurd (omega arith)
used_behind_claims optimal values l h = absurd (omega arith)
used_behind_claims optimal scales l h = absurd (cc)
used_behind_claims optimal items l h = absurd (cc)
used_behind_claims optimal ends l h = absurd (cc)
used_behind_claims optimal (entries v) l h = absurd (cc)
used_behind_claims optimal (multipliers v) l h = absurd (cc)
used_behind_claims unbounded claims l h = absurd (omega arith)
used_behind_claims unbounded values l h = absurd (omega arith)
used_behind_claims unbounded scales l h = absurd (cc)
used_behind_claims unbounded items l h = absurd (cc)
used_behind_claims unbounded ends l h = absurd (cc)
used_behind_claims unbounded (entries v) l h = absurd (cc)
used_behind_claims unbounded (multipliers v) l h = absurd (cc)

used_behind_values : (s : Status) (kind : Kind) → 3 ≤ rank kind
    → may_follow s values kind ≡ true → is_used s kind ≡ true
used_behind_values s claims l h = absurd (omega arith)
used_behind_values s values l h = absurd (omega arith)
used_behind_values s scales l h = absurd (omega arith)
used_behind_values s items l h = absurd (cc)
used_behind_values s ends l h = absurd (cc)
used_behind_values s (entries v) l h = absurd (cc)
used_behind_values s (multipliers v) l h = absurd (cc)

pub used : (s : Status) (last kind : Kind) → 3 ≤ rank kind → may_follow s last kind ≡ true → is_used s kind ≡ true
used s claims kind l h = used_behind_claims s kind l h
used s values kind l h = used_behind_values s kind l h
used s ends kind l h = absurd (cc)
used s scales kind l h = (and_parts (is_used s kind) (is_behind scales kind) h).0
used s items kind l h = (and_parts (is_used s kind) (is_behind items kind) h).0
used s (entries v) kind l h = (and_parts (is_used s kind) (is_behind (entries v) kind) h).0
used s (multipliers w) kind l h = (and_parts (is_used s kind) (is_behind (multipliers w) kind) h).0

-- ---- what is ready
-- the order of kinds, where an item's entries do not count
pub behind-rank : (last kind : Kind) → kind ≢ entries At → is_behind last kind ≡ nat_le (rank last) (rank kind)
behind-rank last claims h = refl
behind-rank last values h = refl
behind-rank last scales h = refl
behind-rank last items h = refl
behind-rank last ends h = refl
behind-rank last (entries Inside) h = refl
behind-rank last (entries Plan) h = refl
behind-rank last (entries Move) h = refl
behind-rank last (entries At) h = absurd (h refl)
behind-rank last (multipliers w) h = refl

ready_by : (s : Status) (last kind : Kind) → suc (rank last) ≤ rank kind → is_used s kind ≡ true → kind ≢ entries At
    → (is_used s kind && is_behind last kind) ≡ true × (nat_eq (rank last) (rank kind) ≡ false)
ready_by s last kind l u ne = (
  and_from (is_used s kind) (is_behind last kind) u (behind-rank last kind ne ∙ grind (arith, nat_tests)),
  grind (arith, nat_tests),
)

-- behind a line of a list, the used kinds of a greater rank
pub ready_entries : (s : Status) (v : Vector) → IsReady s (entries v) (suc (rank (entries v)))
ready_entries s v kind l u ne = ready_by s (entries v) kind l u ne

pub ready_multipliers : (s : Status) (w : Multipliers) → IsReady s (multipliers w) (suc (rank (multipliers w)))
ready_multipliers s w kind l u ne = ready_by s (multipliers w) kind l u ne

pub ready_items : (s : Status) → IsReady s items 9
ready_items s kind l u ne = ready_by s items kind l u ne

pub ready_scales : (s : Status) → IsReady s scales 3
ready_scales s kind l u ne = ready_by s scales kind l u ne

-- a rank more is ready too
pub ready_more : (s : Status) (last : Kind) (n : ℕ) → IsReady s last n → IsReady s last (suc n)
ready_more s last n h kind l u ne = h kind (omega arith) u ne

lt_by : (a b : ℕ) (t : Bool) → nat_lt a b ≡ t → a < suc b → (a < b) ⊎ (a ≡ b)
lt_by a b true e h = inl (grind (arith, nat_tests))
lt_by a b false e h = inr (let p : b ≤ a = grind (arith, nat_tests) in omega arith)

pub lt_cases : (a b : ℕ) → a < suc b → (a < b) ⊎ (a ≡ b)
lt_cases a b h = lt_by a b (nat_lt a b) refl h

-- what may stand behind a kind is of no lower rank
behind_le : (last other : Kind) → rank last ≢ 8 → is_behind last other ≡ true → rank last ≤ rank other
behind_le last claims ne h = grind (arith, nat_tests)
behind_le last values ne h = grind (arith, nat_tests)
behind_le last scales ne h = grind (arith, nat_tests)
behind_le last items ne h = grind (arith, nat_tests)
behind_le last ends ne h = grind (arith, nat_tests)
behind_le last (entries Inside) ne h = grind (arith, nat_tests)
behind_le last (entries Plan) ne h = grind (arith, nat_tests)
behind_le last (entries Move) ne h = grind (arith, nat_tests)
behind_le last (entries At) ne h = absurd (ne (grind (arith, nat_tests)))
behind_le last (multipliers Covers) ne h = grind (arith, nat_tests)
behind_le last (multipliers Holds) ne h = grind (arith, nat_tests)

pub entries_le : (s : Status) (v : Vector) (other : Kind) → rank (entries v) ≢ 8 → may_follow s (entries v) other ≡ true
    → rank (entries v) ≤ rank other
entries_le s v other ne h =
    behind_le (entries v) other ne (and_parts (is_used s other) (is_behind (entries v) other) h).1

pub multipliers_le : (s : Status) (w : Multipliers) (other : Kind) → rank (multipliers w) ≢ 8
    → may_follow s (multipliers w) other ≡ true → rank (multipliers w) ≤ rank other
multipliers_le s w other ne h =
    behind_le (multipliers w) other ne (and_parts (is_used s other) (is_behind (multipliers w) other) h).1

at_eight : (n : ℕ) (b : Bool) → (b && nat_eq n 8) ≡ true → n ≡ 8
at_eight n b h = let p = (and_parts b (nat_eq n 8) h).1 in grind (arith, nat_tests)

-- an item's entry stands behind a line of the items alone
pub at_needs : (s : Status) (last : Kind) → may_follow s last (entries At) ≡ true → rank last ≡ 8
at_needs optimal claims h = absurd (cc)
at_needs infeasible claims h = absurd (cc)
at_needs unbounded claims h = absurd (cc)
at_needs s values h = absurd (cc)
at_needs s ends h = absurd (cc)
at_needs s scales h = at_eight (rank scales) (is_used s (entries At)) h
at_needs s items h = refl
at_needs s (entries v) h = at_eight (rank (entries v)) (is_used s (entries At)) h
at_needs s (multipliers w) h = at_eight (rank (multipliers w)) (is_used s (entries At)) h

-- entries of items are used where items are
pub items_used : (s : Status) → is_used s (entries At) ≡ true → is_used s items ≡ true
items_used optimal h = refl
items_used infeasible h = refl
items_used unbounded h = cc

pub low_entries : (v : Vector) → 3 ≤ rank (entries v)
low_entries Inside = omega arith
low_entries Plan = omega arith
low_entries Move = omega arith
low_entries At = omega arith

pub low_multipliers : (w : Multipliers) → 3 ≤ rank (multipliers w)
low_multipliers Covers = omega arith
low_multipliers Holds = omega arith

pub apart_multipliers : (w : Multipliers) → rank (multipliers w) ≢ 8
apart_multipliers Covers = λ e. omega arith
apart_multipliers Holds = λ e. omega arith

-- items are used where their entries are
pub items_as_entries : (s : Status) → is_used s items ≡ is_used s (entries At)
items_as_entries optimal = refl
items_as_entries infeasible = refl
items_as_entries unbounded = refl
