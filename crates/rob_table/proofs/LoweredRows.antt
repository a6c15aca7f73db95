-- Rows that lose an amount at one place, by the clearing of another place.
use Rattle.std.proofs.Common.{◌≡◌, ◌≢◌, ◌⊎◌, ℕ, ◌+◌, ◌<◌, sym, ap, ◌∙◌, arith, inl, inr}
use Rattle.std.proofs.lemmas.Bool.{cases_eq}
use Rattle.std.proofs.lemmas.Bool.Decides.{nat_tests}
use Rattle.std.proofs.lemmas.Int.{ints}
use lib.IntN.{ℤ, pos, ◌-ℤ◌, ◌*ℤ◌}
use Rattle.rob_algebra.specs.Integer.{ring, mul-zero, mul-one}
use Rattle.rob_linear.specs.Vectors.{Vector, Matrix}
use Rattle.rob_linear.specs.Multiples.{IsClearedBy}
use Rattle.rob_linear.specs.Stages.{unit_row}
use Rattle.rob_linear.proofs.CostChange.Stages.{unit_one, unit_zero}
use Rattle.rob_entries.specs.Updates.{IsWideCleared}
use Rattle.rob_table.specs.Tables.{IsUnchangedBut}
use Rattle.rob_table.specs.Lowering.{IsLowered, IsWideLowered, step_row}

-- ---- a row that is 1 at one place, and has a number at another one
pub step_one : (one place : ℕ) (number : ℤ) → step_row one place number one ≡ pos 1
step_one one place number = grind (arith, nat_tests)

step_place : (one place : ℕ) (number : ℤ) → place ≢ one → step_row one place number place ≡ number
step_place one place number d = grind (arith, nat_tests)

pub step_else : (one place : ℕ) (number : ℤ) (k : ℕ) → k ≢ one → k ≢ place → step_row one place number k ≡ pos 0
step_else one place number k d e = grind (arith, nat_tests)

-- ---- nothing is subtracted
pub nothing : (p a r u : ℤ) → r ≡ pos 0 → u ≡ pos 0 → p *ℤ (r -ℤ (a *ℤ u)) ≡ pos 0
nothing p a r u er eu =
    let x : r -ℤ (a *ℤ u) ≡ pos 0 =
    ap (λ v. v -ℤ (a *ℤ u)) er ∙ ap (λ v. pos 0 -ℤ (a *ℤ v)) eu
    ∙ (let z : a *ℤ pos 0 ≡ pos 0 = mul-zero a in let y : pos 0 -ℤ (a *ℤ pos 0) ≡ pos 0 = omega (arith, ints) in y) in
    ap (λ v. p *ℤ v) x ∙ mul-zero p

there : (p f o r : ℤ) → (p *ℤ r) -ℤ ((p *ℤ f) *ℤ o) ≡ p *ℤ (r -ℤ (f *ℤ o))
there p f o r = simp ring

factor_is : (d p q f : ℤ) → d *ℤ pos 0 ≡ (p *ℤ f) -ℤ (q *ℤ pos 1) → q ≡ p *ℤ f
factor_is d p q f e =
    let z : d *ℤ pos 0 ≡ pos 0 = mul-zero d in let o : q *ℤ pos 1 ≡ q = mul-one q in omega (arith, ints)

elsewhere : (p q a r u : ℤ) → u ≡ pos 0 → (p *ℤ r) -ℤ (q *ℤ pos 0) ≡ p *ℤ (r -ℤ (a *ℤ u))
elsewhere p q a r u e =
    let x : r -ℤ (a *ℤ u) ≡ r =
    ap (λ v. r -ℤ (a *ℤ v)) e
    ∙ (let z : a *ℤ pos 0 ≡ pos 0 = mul-zero a in let y : r -ℤ (a *ℤ pos 0) ≡ r = omega (arith, ints) in y) in
    let z : q *ℤ pos 0 ≡ pos 0 = mul-zero q in
    let y : (p *ℤ r) -ℤ (q *ℤ pos 0) ≡ p *ℤ r = omega (arith, ints) in
    y ∙ ap (λ v. p *ℤ v) (sym x)

-- ---- a factor is written to row r, at the way, and a row that is 1 there stands behind it
module _ {w r way : ℕ} {step new : Matrix}
    (factor_alone : (j k : ℕ) → k < w → (k ≢ way) ⊎ (j ≢ r) → new j k ≡ step j k) where
  pub step_behind : (place : ℕ) {own number : ℤ} → ((k : ℕ) → k < w → step (r + 1) k ≡ step_row way place own k)
      → own ≡ number → (k : ℕ) → k < w → new (r + 1) k ≡ step_row way place number k
  step_behind place row own k l =
      factor_alone (r + 1) k l (inr (λ e. absurd (omega arith))) ∙ row k l ∙ ap (λ z. step_row way place z k) own

  pub row_beside : {old : Matrix} → IsUnchangedBut (r + 1) w old step → (k : ℕ) → k < w → k ≢ way → new r k ≡ old r k
  row_beside step_alone k l d = factor_alone r k l (inl d) ∙ step_alone r k (λ e. absurd (omega arith)) l

-- ---- the clearing of the way lowers the place
module _ {n way place : ℕ} {factor : ℤ} (own : ℤ) {row low top : Vector} (wl : way < n) (apart : place ≢ way)
    (zero : row way ≡ pos 0) (here : low way ≡ factor) (others : (k : ℕ) → k < n → k ≢ way → low k ≡ row k)
    (steps : (k : ℕ) → k < n → top k ≡ step_row way place own k) where
  times : (new : Vector) (c : IsClearedBy n way low top new) → c.q ≡ c.p *ℤ factor
  times new c =
      factor_is c.divisor c.p c.q factor
      (ap (λ v. c.divisor *ℤ v) (sym c.cleared) ∙ c.entries way wl ∙ ap (λ v. (c.p *ℤ v) -ℤ (c.q *ℤ top way)) here
      ∙ ap (λ v. (c.p *ℤ factor) -ℤ (c.q *ℤ v)) (steps way wl ∙ step_one way place own))

  pub way_lowers : (new : Vector) → IsClearedBy n way low top new → IsLowered n place (factor *ℤ own) row new
  way_lowers new c = record {
    divisor = c.divisor;
    p = c.p;
    divides = c.divides;
    positive = c.positive;
    entries = λ k l. elim (cases_eq k way) [
      | inl e ↦
          let a : c.divisor *ℤ new k ≡ pos 0 = ap (λ v. c.divisor *ℤ v) (ap new e ∙ c.cleared) ∙ mul-zero c.divisor in
          let u : unit_row place k ≡ pos 0 = unit_zero place k (λ f. apart (sym f ∙ e)) in
          a ∙ sym (nothing c.p (factor *ℤ own) (row k) (unit_row place k) (ap row e ∙ zero) u)
      | inr d ↦ elim (cases_eq k place) [
        | inl e ↦
            let u : unit_row place k ≡ pos 1 = ap (unit_row place) e ∙ unit_one place in
            let s : step_row way place own k ≡ own = ap (step_row way place own) e ∙ step_place way place own apart in
            c.entries k l ∙ ap (λ v. (c.p *ℤ v) -ℤ (c.q *ℤ top k)) (others k l d)
            ∙ ap (λ v. (c.p *ℤ row k) -ℤ (c.q *ℤ v)) (steps k l ∙ s)
            ∙ ap (λ v. (c.p *ℤ row k) -ℤ (v *ℤ own)) (times new c) ∙ there c.p factor own (row k)
            ∙ ap (λ v. c.p *ℤ (row k -ℤ v)) (sym (ap (λ v. (factor *ℤ own) *ℤ v) u ∙ mul-one (factor *ℤ own)))
        | inr f ↦
            c.entries k l ∙ ap (λ v. (c.p *ℤ v) -ℤ (c.q *ℤ top k)) (others k l d)
            ∙ ap (λ v. (c.p *ℤ row k) -ℤ (c.q *ℤ v)) (steps k l ∙ step_else way place own k d f)
            ∙ elsewhere c.p c.q (factor *ℤ own) (row k) (unit_row place k) (unit_zero place k f)
      ]
    ];
  }

  pub way_wide : (limit : ℕ) → IsWideCleared limit n way low top → IsWideLowered limit n place (factor *ℤ own) row
  way_wide limit w = (w.0, way_lowers w.0 w.1, w.2, w.3)
