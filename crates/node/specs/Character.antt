-- What a character is, and what a number of a query is refused for. Assumes nothing.
use Rattle.std.specs.Prelude.{Bool, not, ◌&&◌, if◌then◌else◌, ℕ, Option, Some, None, nat_le, ◌==◌}
use Rattle.node.specs.Constants.{end_marker}
use Rattle.node.specs.declared.Refusal.{Refusal}
use Rattle.node.specs.declared.Refusal.TheVariants.{NoCharacter, EndMarker}

-- row 11: "not a character: D800 to DFFF, or above 10FFFF"
unfoldable pub is_character : ℕ → Bool
is_character c = not (nat_le 0xd800 c && nat_le c 0xdfff) && nat_le c 0x10ffff

-- "11 or 2 by the first offending character": what one character is refused for
unfoldable pub character_refusal : ℕ → Option Refusal
character_refusal c = if is_character c then (if c == end_marker then Some EndMarker else None) else Some NoCharacter
