-- What is counted behind a piece that is written, where each open parenthesis counts once.
use Rattle.std.proofs.Common.{◌≡◌, ℕ, ◌+◌, ◌-◌, false, List, [], ◌∷◌, drop, refl, ap, arith}
use Rattle.rob_index.specs.Depths.{weight}
use Rattle.rob_lex.specs.declared.piece.Shape.TheVariants.{Lexeme}
use Rattle.rob_lex.specs.declared.place.Place.{Place}
use Rattle.rob_lex.specs.Places.{behind, depth_at}
use Rattle.rob_lex.specs.Weights.{total}
use Rattle.rob_syntax.specs.declared.symbol.Mark.{Mark}
use Rattle.rob_syntax.specs.declared.symbol.Mark.TheVariants as mark
use Rattle.rob_write.specs.Pages.{Written, name, digits, keyword, sign, negative, line_end, bytes_of}
use Rattle.rob_round_trip.specs.Pages.{depth_behind, kind_of}
use Rattle.rob_round_trip.proofs.Pages.QuietWords.{IsQuiet}

-- each counts once
abbrev pub AreOnes : List ℕ → Type 0
AreOnes [] = Unit {0}
AreOnes (w ∷ ws) = (w ≡ 1) × AreOnes ws

-- each parenthesis that is open counts once, and so would the next
pub record IsSingle (at : Place) : Type 0 where
  pub ones : AreOnes at.weights
  pub quiet : at.behind_sum ≡ false

ones-drop : (ws : List ℕ) → AreOnes ws → AreOnes (drop 1 ws)
ones-drop [] h = tt
ones-drop (w ∷ ws) h = h.1

total-closed : (ws : List ℕ) → AreOnes ws → total (drop 1 ws) ≡ total ws - 1
total-closed [] h = omega arith
total-closed (w ∷ ws) h = omega (arith, h.0)

-- what is counted behind a piece
pub record Steps (at : Place) (w : Written) : Type 0 where
  pub count : (behind at (Lexeme (kind_of w)) (bytes_of w)).count ≡ at.count + 1
  pub depth : depth_at (behind at (Lexeme (kind_of w)) (bytes_of w)) ≡ depth_behind (depth_at at) w
  pub single : IsSingle (behind at (Lexeme (kind_of w)) (bytes_of w))

sign_steps : (at : Place) (m : Mark) → IsSingle at → Steps at (sign m)
sign_steps at mark.Plus h = record { count = refl; depth = refl; single = record { ones = h.ones; quiet = refl } }
sign_steps at mark.Minus h = record { count = refl; depth = refl; single = record { ones = h.ones; quiet = refl } }
sign_steps at mark.Star h = record { count = refl; depth = refl; single = record { ones = h.ones; quiet = refl } }
sign_steps at mark.Slash h = record { count = refl; depth = refl; single = record { ones = h.ones; quiet = refl } }
sign_steps at mark.Open h =
    let once = ap weight h.quiet in
    record { count = refl; depth = omega (arith, once); single = record { ones = (once, h.ones); quiet = refl } }
sign_steps at mark.Close h = record {
  count = refl;
  depth = total-closed at.weights h.ones;
  single = record { ones = ones-drop at.weights h.ones; quiet = refl };
}
sign_steps at mark.OpenBracket h =
    record { count = refl; depth = refl; single = record { ones = h.ones; quiet = refl } }
sign_steps at mark.CloseBracket h =
    record { count = refl; depth = refl; single = record { ones = h.ones; quiet = refl } }
sign_steps at mark.Comma h = record { count = refl; depth = refl; single = record { ones = h.ones; quiet = refl } }
sign_steps at mark.Colon h = record { count = refl; depth = refl; single = record { ones = h.ones; quiet = refl } }
sign_steps at mark.Equal h = record { count = refl; depth = refl; single = record { ones = h.ones; quiet = refl } }
sign_steps at mark.AtMost h = record { count = refl; depth = refl; single = record { ones = h.ones; quiet = refl } }
sign_steps at mark.AtLeast h = record { count = refl; depth = refl; single = record { ones = h.ones; quiet = refl } }

pub steps : (at : Place) (w : Written) → IsSingle at → IsQuiet w → Steps at w
steps at (name bytes) h quiet = record { count = refl; depth = refl; single = record { ones = h.ones; quiet = quiet } }
steps at (digits n) h quiet = record { count = refl; depth = refl; single = record { ones = h.ones; quiet = refl } }
steps at (keyword k) h quiet = record { count = refl; depth = refl; single = record { ones = h.ones; quiet = quiet } }
steps at (sign m) h quiet = sign_steps at m h
steps at negative h quiet = record { count = refl; depth = refl; single = record { ones = h.ones; quiet = refl } }
steps at line_end h quiet = record { count = refl; depth = refl; single = record { ones = tt; quiet = refl } }
