-- The constants of src/lib.rs and src/mapper.rs, by their Rust names in lower case. Document 01, 'In, out, and what decides'. Assumes nothing.
use Rattle.std.specs.Prelude.{ℕ}

-- every bit but the top one of a 32-bit number
abbrev pub offset_mask : ℕ
offset_mask = 0x7fffffff

-- all ones
abbrev pub invalid_idx : ℕ
invalid_idx = 0xffffffff

abbrev pub invalid_code : ℕ
invalid_code = 0xffffffff

abbrev pub max_value : ℕ
max_value = offset_mask

abbrev pub end_code : ℕ
end_code = 0

abbrev pub end_marker : ℕ
end_marker = 0xffff

-- the lowest 32-bit number with its top bit set
abbrev pub top_bit : ℕ
top_bit = 0x80000000
