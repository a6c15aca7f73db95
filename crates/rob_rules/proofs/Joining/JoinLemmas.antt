-- Lines that read, and lines behind them.
use Rattle.std.proofs.Common.{◌≡◌, ℕ, suc, ◌+◌, inr, List, [], ◌∷◌, ◌++◌, length, sym, ap, ◌∙◌, subst, arith, append_assoc}
use Rattle.rob_index.specs.Symbols.{Symbol}
use Rattle.rob_index.specs.Statements as stated
use Rattle.rob_index.specs.Statements.{Name}
use Rattle.rob_index.specs.Expansion.{expand}
use Rattle.rob_index.specs.Reading.{Version, LineFault}
use Rattle.rob_rules.specs.declared.fault.Fault.{Fault}
use Rattle.rob_rules.specs.Texts.{Stage, LinesFollow, SomeBreaks}

module _ (limit : ℕ) (words : List Name) (v : Version) where
  abbrev St : Type 0
  St = Stage limit words v

  abbrev Reading : St → List (List Symbol) → List stated.Statement → St → Type 0
  Reading = LinesFollow limit words v

  abbrev Breaking : St → List (List Symbol) → LineFault Fault → ℕ → Type 0
  Breaking = SomeBreaks limit words v

  -- lines that read, and others that read behind them, read
  pub reading_append : (xs : List (List Symbol)) (e : St) (a : List stated.Statement) (f : St) (ys : List (List Symbol))
      (b : List stated.Statement) (g : St) → Reading e xs a f → Reading f ys b g → Reading e (xs ++ ys) (a ++ b) g
  reading_append [] e a f ys b g first second =
      subst (λ (l : List stated.Statement). Reading e ys (l ++ b) g) (sym first.0)
      (subst (λ (x : St). Reading x ys b g) (sym first.1) second)
  reading_append ([] ∷ xs) e a f ys b g first second = reading_append xs e a f ys b g first second
  reading_append ((x ∷ symbols) ∷ xs) e a f ys b g first second = (
    first.0,
    first.1 ++ b,
    first.2,
    first.3,
    ap (λ (l : List stated.Statement). l ++ b) first.4 ∙ append_assoc (expand words first.0) first.1 b,
    reading_append xs _ first.1 f ys b g first.5 second,
  )

  -- a bad line behind lines that read
  pub breaking_behind : (xs : List (List Symbol)) (e : St) (a : List stated.Statement) (f : St)
      (ys : List (List Symbol))
      (fault : LineFault Fault) (n : ℕ) → Reading e xs a f → Breaking f ys fault n
      → Breaking e (xs ++ ys) fault (length xs + n)
  breaking_behind [] e a f ys fault n first second =
      subst (λ (m : ℕ). Breaking e ys fault m) (zero_plus n)
      (subst (λ (x : St). Breaking x ys fault n) (sym first.1) second)
    where
      zero_plus : (n : ℕ) → n ≡ 0 + n
      zero_plus n = omega arith
  breaking_behind ([] ∷ xs) e a f ys fault n first second =
      (length xs + n, suc_plus (length xs) n, breaking_behind xs e a f ys fault n first second)
    where
      suc_plus : (m n : ℕ) → suc m + n ≡ suc (m + n)
      suc_plus m n = omega arith
  breaking_behind ((x ∷ symbols) ∷ xs) e a f ys fault n first second =
      inr (
        first.0,
        length xs + n,
        first.2,
        first.3,
        suc_plus (length xs) n,
        breaking_behind xs _ first.1 f ys fault n first.5 second,
      )
    where
      suc_plus : (m n : ℕ) → suc m + n ≡ suc (m + n)
      suc_plus m n = omega arith
