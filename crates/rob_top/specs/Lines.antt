-- The lines of a text, each with its line end; a last line without one is a line too. And the line of a want of
-- memory, as it is put.
use Rattle.std.specs.Prelude.{◌≡◌, ℕ, ◌==◌, Bool, List, [], ◌∷◌, ◌++◌, if◌then◌else◌}
use Rattle.rob_outside.specs.Puts.{put_as}
use Rattle.rob_outside.specs.Taken.{TookPrefix}
use Rattle.rob_commands.specs.Answers.{memory_text}
use Rattle.rob_top.specs.Calls.{Output}

-- the byte is a line's end
abbrev pub is_line_end : ℕ → Bool
is_line_end byte = byte == 10

-- the lines, where this byte, which is no line end, stands in front of the first
abbrev pub in_front : ℕ → List (List ℕ) → List (List ℕ)
in_front byte [] = (byte ∷ []) ∷ []
in_front byte (line ∷ lines) = (byte ∷ line) ∷ lines

-- the lines of a text, in order: each ends with its first line end, or where the text ends
abbrev pub text_lines : List ℕ → List (List ℕ)
text_lines [] = []
text_lines (byte ∷ bytes) =
    if is_line_end byte then (byte ∷ []) ∷ text_lines bytes else in_front byte (text_lines bytes)

-- the line of a want of memory was put, by one put, whole or up to some byte
pub record PutMemory (output : Output) : Type 0 where
  pub whole : Bool
  pub took : TookPrefix output.before output.now memory_text
  pub puts : output.puts_now ≡ output.puts_before ++ put_as whole memory_text ∷ []
