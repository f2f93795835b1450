-- The limits, each a figure of document 01, 'Limits and refusals': at each figure accepted, one above refused (12). Assumes nothing.
use Rattle.std.specs.Prelude.{Bool, ◌||◌, ℕ, nat_lt}

-- "Records 65,535"
abbrev pub max_records : ℕ
max_records = 65535

-- "key 1,024 characters"
abbrev pub max_key : ℕ
max_key = 1024

-- "all keys 262,144"
abbrev pub max_keys : ℕ
max_keys = 262144

-- "query 65,535"
abbrev pub max_query : ℕ
max_query = 65535

-- "N 16,777,216"
abbrev pub max_elems : ℕ
max_elems = 16777216

-- "table 1,114,112"
abbrev pub max_table : ℕ
max_table = 1114112

-- "tails 16,777,216"
abbrev pub max_tails : ℕ
max_tails = 16777216

-- rule 6: steps from an element to 0, for a label other than 0
abbrev pub max_steps : ℕ
max_steps = max_key

-- "in a writer, `io_bytes` or a count N, table and tails"
unfoldable pub arrays_over : ℕ → ℕ → ℕ → Bool
arrays_over elems table tails = nat_lt max_elems elems || (nat_lt max_table table || nat_lt max_tails tails)

-- "in a query these and the query"
unfoldable pub query_over : ℕ → ℕ → ℕ → ℕ → Bool
query_over elems table tails query = arrays_over elems table tails || nat_lt max_query query

-- "in a build the records, keys and all keys": all but the single keys
unfoldable pub build_over : ℕ → ℕ → Bool
build_over records keys = nat_lt max_records records || nat_lt max_keys keys

-- a single key
unfoldable pub key_over : ℕ → Bool
key_over key = nat_lt max_key key
