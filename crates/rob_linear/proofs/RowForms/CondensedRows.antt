-- Condensed rows are the same functions of the column as whole rows, and a pivot keeps them so.
use Rattle.std.proofs.Common.{◌≡◌, ◌≢◌, ℕ, ◌+◌, ◌<◌, ◌≤◌, sym, ap, ◌∙◌, subst, arith, inl, inr}
use Rattle.std.proofs.lemmas.Int.{ints}
use Rattle.std.proofs.lemmas.Bool.{cases_eq, cases_lt}
use Rattle.std.proofs.lemmas.Bool.Decides.{nat_tests}
use lib.IntN.{ℤ, pos, ◌-ℤ◌, ◌*ℤ◌, neg_ℤ}
use Rattle.rob_algebra.specs.Integer.{mul-zero}
use Rattle.rob_linear.specs.Multiples.{IsClearedBy}
use Rattle.rob_linear.specs.Beside.{exchanged}
use Rattle.rob_linear.proofs.KeptOut.BesidePaths.{exchanged_in, exchanged_twice}
use Rattle.rob_linear.specs.CondensedRows.{entry_of, IsPlaced, IsReplaced, IsTurnedRow, IsClearedRow}

-- ---- one entry
pub entry_near : (w : ℕ) (at : ℕ → ℕ) (table : ℕ → ℕ → ℤ) (own : ℕ → ℤ) (i c : ℕ) → at c < w
    → entry_of w at table own i c ≡ table i (at c)
entry_near w at table own i c l = grind (arith, nat_tests)

pub entry_own : (w : ℕ) (at : ℕ → ℕ) (table : ℕ → ℕ → ℤ) (own : ℕ → ℤ) (i c : ℕ) → at c ≡ w + i
    → entry_of w at table own i c ≡ own i
entry_own w at table own i c e = grind (arith, nat_tests)

pub entry_zero : (w : ℕ) (at : ℕ → ℕ) (table : ℕ → ℕ → ℤ) (own : ℕ → ℤ) (i j c : ℕ) → at c ≡ w + j → j ≢ i
    → entry_of w at table own i c ≡ pos 0
entry_zero w at table own i j c e d = grind (arith, nat_tests)

module _ (m w n r e : ℕ) (at near basis at' near' basis' : ℕ → ℕ) (h : IsPlaced m w n at near basis)
    (x : IsReplaced m w n r e at near basis at' near' basis') where
  e_apart : (i : ℕ) → i ≤ m → basis i ≢ e
  e_apart i il g = let a : at (basis i) ≡ w + i = h.basic_at i il in let b : at (basis i) ≡ at e = ap at g in
      let f : at e < w = x.free in absurd (omega arith)

  basic_apart : (i j : ℕ) → i ≤ m → j ≤ m → i ≢ j → basis i ≢ basis j
  basic_apart i j il jl d g =
      let a : at (basis i) ≡ w + i = h.basic_at i il in let b : at (basis j) ≡ w + j = h.basic_at j jl in
      let c : at (basis i) ≡ at (basis j) = ap at g in d (omega arith)

  near_e : near (at e) ≡ e
  near_e = h.near_column e x.col_in x.free

  -- the maps are inverse to one another again
  pub placed_again : IsPlaced m w n at' near' basis'
  placed_again =
      let rl : r ≤ m = x.row_in in
      record {
        near_in = λ k kl. elim (cases_eq k (at e)) [
          | inl c ↦ subst (λ v. v < n) (sym (ap near' c ∙ x.near_out)) (h.basic_in r rl)
          | inr d ↦ subst (λ v. v < n) (sym (x.near_other k d)) (h.near_in k kl)
        ];
        near_at = λ k kl. elim (cases_eq k (at e)) [
          | inl c ↦ ap at' (ap near' c ∙ x.near_out) ∙ x.at_out ∙ sym c
          | inr d ↦
              ap at' (x.near_other k d)
              ∙ x.at_other (near k) (λ g. d (sym (h.near_at k kl) ∙ ap at g))
              (λ g. let a : at (near k) ≡ k = h.near_at k kl in
              let b : at (near k) ≡ w + r = ap at g ∙ h.basic_at r rl in absurd (omega arith))
              ∙ h.near_at k kl
        ];
        basic_in = λ i il. elim (cases_eq i r) [
          | inl c ↦ subst (λ v. v < n) (sym (ap basis' c ∙ x.basis_in)) x.col_in
          | inr d ↦ subst (λ v. v < n) (sym (x.basis_other i d)) (h.basic_in i il)
        ];
        basic_at = λ i il. elim (cases_eq i r) [
          | inl c ↦ ap at' (ap basis' c ∙ x.basis_in) ∙ x.at_in ∙ ap (λ v. w + v) (sym c)
          | inr d ↦ ap at' (x.basis_other i d)
              ∙ x.at_other (basis i) (e_apart i il) (basic_apart i r il rl d) ∙ h.basic_at i il
        ];
        near_column = λ c cl l. elim (cases_eq c e) [
          | inl g ↦ let a : at' c ≡ w + r = ap at' g ∙ x.at_in in absurd (omega arith)
          | inr d ↦ elim (cases_eq c (basis r)) [
            | inl g ↦ ap near' (ap at' g ∙ x.at_out) ∙ x.near_out ∙ sym g
            | inr f ↦
                let a : at' c ≡ at c = x.at_other c d f in
                let al : at c < w = subst (λ v. v < w) a l in
                ap near' a ∙ x.near_other (at c) (λ g. d (sym (h.near_column c cl al) ∙ ap near g ∙ near_e))
                ∙ h.near_column c cl al
          ]
        ];
        basic_column = λ c cl l. elim (cases_eq c e) [
          | inl g ↦ (r, rl, ap at' g ∙ x.at_in, x.basis_in ∙ sym g)
          | inr d ↦ elim (cases_eq c (basis r)) [
            | inl g ↦ let a : at' c ≡ at e = ap at' g ∙ x.at_out in let f : at e < w = x.free in absurd (omega arith)
            | inr f ↦
                let a : at' c ≡ at c = x.at_other c d f in
                let b : (i : ℕ) × (i ≤ m) × (at c ≡ w + i) × (basis i ≡ c) =
                h.basic_column c cl (subst (λ v. w ≤ v) a l) in
                (b.0, b.1, a ∙ b.2, x.basis_other b.0 (λ g. f (sym b.3 ∙ ap basis g)) ∙ b.3)
          ]
        ];
      }

  -- the row of the leaving position is the same function of the column
  pub turned_entry : (table table' : ℕ → ℕ → ℤ) (own own' : ℕ → ℤ) → IsTurnedRow w r (at e) table table' own own'
      → (c : ℕ) → c < n → entry_of w at' table' own' r c ≡ entry_of w at table own r c
  turned_entry table table' own own' t c cl =
      let rl : r ≤ m = x.row_in in
      let fe : at e < w = x.free in
      elim (cases_eq c e) [
        | inl g ↦
            let a : at' c ≡ w + r = ap at' g ∙ x.at_in in
            let b : at c ≡ at e = ap at g in
            entry_own w at' table' own' r c a ∙ t.own_in ∙ ap (table r) (sym b)
            ∙ sym (entry_near w at table own r c (omega arith))
        | inr d ↦ elim (cases_eq c (basis r)) [
          | inl g ↦
              let a : at' c ≡ at e = ap at' g ∙ x.at_out in
              let b : at c ≡ w + r = ap at g ∙ h.basic_at r rl in
              entry_near w at' table' own' r c (omega arith) ∙ ap (table' r) a ∙ t.own_out
              ∙ sym (entry_own w at table own r c b)
          | inr f ↦
              let a : at' c ≡ at c = x.at_other c d f in
              elim (cases_lt (at c) w) [
                | inl l ↦
                    entry_near w at' table' own' r c (omega arith) ∙ ap (table' r) a
                    ∙ t.others (at c) l (λ g. d (sym (h.near_column c cl l) ∙ ap near g ∙ near_e))
                    ∙ sym (entry_near w at table own r c l)
                | inr l ↦
                    let b : (i : ℕ) × (i ≤ m) × (at c ≡ w + i) × (basis i ≡ c) = h.basic_column c cl (omega arith) in
                    let ne : b.0 ≢ r = (λ g. f (sym b.3 ∙ ap basis g)) in
                    entry_zero w at' table' own' r b.0 c (a ∙ b.2) ne ∙ sym (entry_zero w at table own r b.0 c b.2 ne)
              ]
        ]
      ]

  -- another row is that row less the leaving position's, as functions of the column
  pub cleared_entries : (table table' : ℕ → ℕ → ℤ) (own own' : ℕ → ℤ) (i : ℕ) → i ≤ m → i ≢ r
      → (k : IsClearedRow w r (at e) i table table' own own') → (c : ℕ) → c < n
      → k.divisor *ℤ entry_of w at' table' own' i c
      ≡ (k.p *ℤ entry_of w at table own i c) -ℤ (k.q *ℤ entry_of w at table own r c)
  cleared_entries table table' own own' i il ir k c cl =
      let rl : r ≤ m = x.row_in in
      let fe : at e < w = x.free in
      let dz : k.divisor *ℤ pos 0 ≡ pos 0 = mul-zero k.divisor in
      let pz : k.p *ℤ pos 0 ≡ pos 0 = mul-zero k.p in
      let qz : k.q *ℤ pos 0 ≡ pos 0 = mul-zero k.q in
      elim (cases_eq c e) [
        | inl g ↦
            let a : at' c ≡ w + r = ap at' g ∙ x.at_in in
            let b : at c ≡ at e = ap at g in
            let n0 : k.divisor *ℤ entry_of w at' table' own' i c ≡ pos 0 =
            ap (λ v. k.divisor *ℤ v) (entry_zero w at' table' own' i r c a (λ z. ir (sym z))) ∙ dz in
            let li : k.p *ℤ entry_of w at table own i c ≡ k.p *ℤ table i (at e) =
            ap (λ v. k.p *ℤ v) (entry_near w at table own i c (omega arith) ∙ ap (table i) b) in
            let lr : k.q *ℤ entry_of w at table own r c ≡ k.q *ℤ table r (at e) =
            ap (λ v. k.q *ℤ v) (entry_near w at table own r c (omega arith) ∙ ap (table r) b) in
            let z : k.p *ℤ table i (at e) ≡ k.q *ℤ table r (at e) = k.clears in
            omega (arith, ints)
        | inr d ↦ elim (cases_eq c (basis r)) [
          | inl g ↦
              let a : at' c ≡ at e = ap at' g ∙ x.at_out in
              let b : at c ≡ w + r = ap at g ∙ h.basic_at r rl in
              let n0 : k.divisor *ℤ entry_of w at' table' own' i c ≡ neg_ℤ (k.q *ℤ own r) =
              ap (λ v. k.divisor *ℤ v) (entry_near w at' table' own' i c (omega arith) ∙ ap (table' i) a)
              ∙ k.at_place in
              let li : k.p *ℤ entry_of w at table own i c ≡ pos 0 =
              ap (λ v. k.p *ℤ v) (entry_zero w at table own i r c b (λ z. ir (sym z))) ∙ pz in
              let lr : k.q *ℤ entry_of w at table own r c ≡ k.q *ℤ own r =
              ap (λ v. k.q *ℤ v) (entry_own w at table own r c b) in
              omega (arith, ints)
          | inr f ↦
              let a : at' c ≡ at c = x.at_other c d f in
              elim (cases_lt (at c) w) [
                | inl l ↦
                    let n0 : k.divisor *ℤ entry_of w at' table' own' i c
                    ≡ (k.p *ℤ table i (at c)) -ℤ (k.q *ℤ table r (at c)) =
                    ap (λ v. k.divisor *ℤ v) (entry_near w at' table' own' i c (omega arith) ∙ ap (table' i) a)
                    ∙ k.others (at c) l (λ g. d (sym (h.near_column c cl l) ∙ ap near g ∙ near_e)) in
                    let li : k.p *ℤ entry_of w at table own i c ≡ k.p *ℤ table i (at c) =
                    ap (λ v. k.p *ℤ v) (entry_near w at table own i c l) in
                    let lr : k.q *ℤ entry_of w at table own r c ≡ k.q *ℤ table r (at c) =
                    ap (λ v. k.q *ℤ v) (entry_near w at table own r c l) in
                    omega (arith, ints)
                | inr l ↦
                    let b : (i : ℕ) × (i ≤ m) × (at c ≡ w + i) × (basis i ≡ c) = h.basic_column c cl (omega arith) in
                    let ne : b.0 ≢ r = (λ g. f (sym b.3 ∙ ap basis g)) in
                    let lr : k.q *ℤ entry_of w at table own r c ≡ pos 0 =
                    ap (λ v. k.q *ℤ v) (entry_zero w at table own r b.0 c b.2 ne) ∙ qz in
                    elim (cases_eq b.0 i) [
                      | inl g ↦
                          let o : at c ≡ w + i = b.2 ∙ ap (λ v. w + v) g in
                          let n0 : k.divisor *ℤ entry_of w at' table' own' i c ≡ k.p *ℤ own i =
                          ap (λ v. k.divisor *ℤ v) (entry_own w at' table' own' i c (a ∙ o)) ∙ k.own_times in
                          let li : k.p *ℤ entry_of w at table own i c ≡ k.p *ℤ own i =
                          ap (λ v. k.p *ℤ v) (entry_own w at table own i c o) in
                          omega (arith, ints)
                      | inr g ↦
                          let n0 : k.divisor *ℤ entry_of w at' table' own' i c ≡ pos 0 =
                          ap (λ v. k.divisor *ℤ v) (entry_zero w at' table' own' i b.0 c (a ∙ b.2) g) ∙ dz in
                          let li : k.p *ℤ entry_of w at table own i c ≡ pos 0 =
                          ap (λ v. k.p *ℤ v) (entry_zero w at table own i b.0 c b.2 g) ∙ pz in
                          omega (arith, ints)
                    ]
              ]
        ]
      ]

  pub cleared_condensed : (table table' : ℕ → ℕ → ℤ) (own own' : ℕ → ℤ) (i : ℕ) → i ≤ m → i ≢ r
      → IsClearedRow w r (at e) i table table' own own'
      → IsClearedBy n e (entry_of w at table own i) (entry_of w at table own r) (entry_of w at' table' own' i)
  cleared_condensed table table' own own' i il ir k = record {
    divisor = k.divisor;
    p = k.p;
    q = k.q;
    divides = k.divides;
    positive = k.positive;
    entries = cleared_entries table table' own own' i il ir k;
    cleared = entry_zero w at' table' own' i r e x.at_in (λ z. ir (sym z));
  }

-- ---- two rows exchanged: with their own entries, and the columns of their positions
module _ (m w n q p : ℕ) (at near basis at' basis' : ℕ → ℕ) (ql : q ≤ m) (pl : p ≤ m) (h : IsPlaced m w n at near basis)
    (free : (c : ℕ) → at c < w → at' c ≡ at c) (moved : (i : ℕ) → i ≤ m → at' (basis i) ≡ w + exchanged q p i)
    (columns : (i : ℕ) → i ≤ m → basis' i ≡ basis (exchanged q p i)) where
  pub placed_swapped : IsPlaced m w n at' near basis'
  placed_swapped = record {
    near_in = h.near_in;
    near_at = λ k kl. free (near k) (subst (λ v. v < w) (sym (h.near_at k kl)) kl) ∙ h.near_at k kl;
    basic_in = λ i il. subst (λ v. v < n) (sym (columns i il))
        (h.basic_in (exchanged q p i) (exchanged_in q p i m ql pl il));
    basic_at = λ i il. ap at' (columns i il) ∙ moved (exchanged q p i) (exchanged_in q p i m ql pl il)
        ∙ ap (λ v. w + v) (exchanged_twice q p i);
    near_column = λ c cl l. elim (cases_lt (at c) w) [
      | inl a ↦ ap near (free c a) ∙ h.near_column c cl a
      | inr a ↦
          let b : (i : ℕ) × (i ≤ m) × (at c ≡ w + i) × (basis i ≡ c) = h.basic_column c cl (omega arith) in
          let e : at' c ≡ w + exchanged q p b.0 = ap at' (sym b.3) ∙ moved b.0 b.1 in
          absurd (omega arith)
    ];
    basic_column = λ c cl l. elim (cases_lt (at c) w) [
      | inl a ↦ let e : at' c ≡ at c = free c a in absurd (omega arith)
      | inr a ↦
          let b : (i : ℕ) × (i ≤ m) × (at c ≡ w + i) × (basis i ≡ c) = h.basic_column c cl (omega arith) in
          let i : ℕ = exchanged q p b.0 in
          let il : exchanged q p b.0 ≤ m = exchanged_in q p b.0 m ql pl b.1 in (
            exchanged q p b.0,
            il,
            ap at' (sym b.3) ∙ moved b.0 b.1,
            columns (exchanged q p b.0) il
                ∙ ap basis (exchanged_twice q p b.0) ∙ b.3,
          )
    ];
  }

  pub swapped_entry : (table table' : ℕ → ℕ → ℤ) (own own' : ℕ → ℤ) (i : ℕ) → i ≤ m
      → ((k : ℕ) → k < w → table' i k ≡ table (exchanged q p i) k) → own' i ≡ own (exchanged q p i) → (c : ℕ) → c < n
      → entry_of w at' table' own' i c ≡ entry_of w at table own (exchanged q p i) c
  swapped_entry table table' own own' i il t o c cl = elim (cases_lt (at c) w) [
    | inl a ↦
        let e : at' c ≡ at c = free c a in
        entry_near w at' table' own' i c (omega arith) ∙ ap (table' i) e ∙ t (at c) a
        ∙ sym (entry_near w at table own (exchanged q p i) c a)
    | inr a ↦
        let b : (j : ℕ) × (j ≤ m) × (at c ≡ w + j) × (basis j ≡ c) = h.basic_column c cl (omega arith) in
        let e : at' c ≡ w + exchanged q p b.0 = ap at' (sym b.3) ∙ moved b.0 b.1 in
        elim (cases_eq b.0 (exchanged q p i)) [
          | inl g ↦
              let f : at' c ≡ w + i = e ∙ ap (λ v. w + exchanged q p v) g ∙ ap (λ v. w + v) (exchanged_twice q p i) in
              entry_own w at' table' own' i c f ∙ o
              ∙ sym (entry_own w at table own (exchanged q p i) c (b.2 ∙ ap (λ v. w + v) g))
          | inr g ↦
              let f : exchanged q p b.0 ≢ i = (λ z. g (sym (exchanged_twice q p b.0) ∙ ap (exchanged q p) z)) in
              entry_zero w at' table' own' i (exchanged q p b.0) c e f
              ∙ sym (entry_zero w at table own (exchanged q p i) b.0 c b.2 g)
        ]
  ]
