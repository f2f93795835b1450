-- The common prefix of two keys, and their order: document 01, module 1, "length and order; a proper prefix is less". Assumes nothing.
use Rattle.std.specs.Prelude.{List, ℕ, nat_eq}
use Rattle.std.specs.List.{common_prefix_len}
use Rattle.std.specs.declared.cmp.Ordering.{Ordering}
use Rattle.std.specs.Ordering.{nat_cmp}
use Rattle.std.specs.Cmp.Lexicographic.{slice_cmp}

-- how many first characters two keys share
abbrev pub common : List ℕ → List ℕ → ℕ
common a b = common_prefix_len nat_eq a b

-- the order of two keys: the first place where they differ decides, and else their lengths do
abbrev pub ordering : List ℕ → List ℕ → Ordering
ordering a b = slice_cmp nat_cmp a b
