-- The code of a character in a table: `CodeMapper::get` of src/mapper.rs. Assumes nothing.
use Rattle.std.specs.Prelude.{if◌then◌else◌, List, ℕ, Option, Some, None, slice_index_or, ◌==◌}
use Rattle.node.specs.Constants.{invalid_code}

-- the table's entry; past the table there is none
unfoldable pub code : List ℕ → ℕ → ℕ
code table c = slice_index_or table c invalid_code

-- "A character past the table or without a code is a miss": `get` answers `None` there
unfoldable pub find : List ℕ → ℕ → Option ℕ
find table c = if code table c == invalid_code then None else Some (code table c)
