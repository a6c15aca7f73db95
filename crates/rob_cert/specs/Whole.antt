-- A whole certificate as it is read: its shape by the names, and its lines part by part.
use Rattle.std.specs.Prelude.{Result, Ok, Err, ◌≡◌, ℕ, ◌-◌, List, [], ◌∷◌, ◌++◌, length, if◌then◌else◌}
use Rattle.rob_algebra.specs.Fraction.{Fraction}
use Rattle.rob_meaning.specs.Certificates.{Status, Cover, Item, Certificate, infeasible}
use Rattle.rob_meaning.specs.Places.{0ℚ, 1ℚ}
use Rattle.rob_meaning.specs.RobustModel.{RobustModel}
use Rattle.rob_cert.specs.declared.certificate.Cert.{Cert}
use Rattle.rob_cert.specs.declared.error.CertErr.{CertErr}
use Rattle.rob_cert.specs.declared.error.CertErr.TheVariants.{Rule, Memory}
use Rattle.rob_cert.specs.declared.kind.Multipliers.TheVariants.{Covers, Holds}
use Rattle.rob_cert.specs.declared.kind.Vector.{Vector}
use Rattle.rob_cert.specs.declared.kind.Vector.TheVariants.{Inside, Plan, Move}
use Rattle.rob_cert.specs.Lines.{Line, entry_lines, cover_lines, item_lines, end_line}
use Rattle.rob_cert.specs.ReadSoFar.{SoFar}
use Rattle.rob_cert.specs.Kinds.{entries, multipliers, items, is_used}
use Rattle.rob_cert.specs.Covers.{AreGoodCovers}
use Rattle.rob_cert.specs.Items.{AreGoodItems}
use Rattle.rob_cert.specs.Shape.{HasShape}
use Rattle.rob_cert.specs.Spelling.{Naming, entry_names, lines_text, cert_text}
use Rattle.rob_cert.specs.View.{certificate_of}

-- the lines of the vectors
abbrev pub vector_lines : (inside plan moved : List Fraction) → List (Line Fraction)
vector_lines inside plan moved = entry_lines Inside 0 inside ++ (entry_lines Plan 0 plan ++ entry_lines Move 0 moved)

-- the lines of the lists, and the end
abbrev pub list_lines : (covers holds : List Cover) → List Item → List (Line Fraction)
list_lines covers holds list = cover_lines Covers covers
    ++ (cover_lines Holds holds ++ (item_lines list ++ end_line ∷ []))

-- a vector has as many numbers as it has names, or none where the status does not use it
abbrev pub HasSize : Naming → Status → Vector → List Fraction → Type 0
HasSize names s v qs = length qs ≡ (if is_used s (entries v) then length (entry_names names v) else 0)

-- the vectors have their sizes
pub record HasSizes (names : Naming) (s : Status) (inside plan moved : List Fraction) : Type 0 where
  pub inside_size : HasSize names s Inside inside
  pub plan_size : HasSize names s Plan plan
  pub moved_size : HasSize names s Move moved

-- the lists are good ones, and none is there that the status does not use
pub record AreGoodLists (names : Naming) (s : Status) (covers holds : List Cover) (list : List Item) : Type 0 where
  pub good_covers : AreGoodCovers names (is_used s (multipliers Covers)) covers
  pub good_holds : AreGoodCovers names (is_used s (multipliers Holds)) holds
  pub good_items : AreGoodItems names (is_used s items) list

-- the rest of a text is the lists and the end
abbrev pub EndsWith : Naming → ℕ → Status → List ℕ → ℕ → (covers holds : List Cover) → List Item → Type 0
EndsWith names limit s rest line covers holds list = (text : List ℕ) (lines : List (Line Fraction))
    → SoFar names limit s text lines rest line 6 → text ≡ lines_text names (lines ++ list_lines covers holds list)

-- a direction's numbers are the numbers of its columns and its bound behind them
pub record IsMoved (moved step : List Fraction) (bound : Fraction) : Type 0 where
  pub lines : entry_lines Move 0 moved ≡ entry_lines Move 0 (step ++ bound ∷ [])
  pub size : length step ≡ length moved - 1
  pub nothing : length moved ≡ 0 → bound ≡ 0ℚ

-- the certificate's parts are as the names and its status say
pub record IsWellRead (names : Naming) (c : Certificate) : Type 0 where
  pub moved : List Fraction
  pub sizes : HasSizes names c.status c.inside c.plan moved
  pub direction : IsMoved moved c.step c.step_bound
  pub lists : AreGoodLists names c.status c.covers c.holds c.items
  pub bounds : c.status ≡ infeasible → (c.value ≡ 0ℚ) × (c.scale ≡ 1ℚ)

-- the certificate has its shape for the model, and the text is its text
pub record IsTextOf (m : RobustModel) (c : Certificate) (text : List ℕ) : Type 0 where
  pub shape : HasShape m c
  pub spelled : text ≡ cert_text m c

-- the call answers the certificate, unless memory is refused
abbrev pub Reads : {N : Type 0} → (N → Fraction) → Certificate → Result (Cert N) CertErr → Type 0
Reads value c (Ok cert) = certificate_of value cert ≡ c
Reads value c (Err (Rule rule line)) = ⊥
Reads value c (Err Memory) = Unit {0}
