-- The number of each refusal in document 01's table, and the rule that 16 carries. Assumes nothing.
use Rattle.std.specs.Prelude.{ℕ, Option, Some, None}
use Rattle.node.specs.declared.Refusal.{Refusal}
use Rattle.node.specs.declared.Refusal.TheVariants.{Uneven, Limit, NoCharacter, ValueScale, EndMarker, NoRecords, Unsorted, EmptyKey, Duplicate, BuildRoom, ElementRoom, LongSuffix, TailRoom, Truncated, LoadRoom, Unsound, BufferRoom, Outside, MatchRoom}

-- column 'No.' of the table, row by row
abbrev pub number : Refusal → ℕ
number Uneven = 10
number Limit = 12
number NoCharacter = 11
number ValueScale = 1
number EndMarker = 2
number NoRecords = 3
number Unsorted = 13
number EmptyKey = 4
number Duplicate = 5
number BuildRoom = 9
number ElementRoom = 6
number LongSuffix = 7
number TailRoom = 8
number Truncated = 14
number LoadRoom = 15
number (Unsound rule) = 16
number BufferRoom = 20
number Outside = 22
number MatchRoom = 23

-- "carries the lowest such number"; nothing else carries one
abbrev pub carried : Refusal → Option ℕ
carried (Unsound rule) = Some rule
carried r = None
