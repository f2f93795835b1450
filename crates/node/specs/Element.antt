-- The parts of a number and of an element: the methods of `Node` in src/lib.rs, and document 01's words for them ('Soundness rules', first paragraph). An
-- element is known by its number e in two runs, base and check. Assumes nothing.
use Rattle.std.specs.Prelude.{Bool, ◌&&◌, List, ℕ, ◌%◌, slice_index, nat_le, ◌==◌}
use Rattle.std.specs.Int.Bits.{bit_xor}
use Rattle.node.specs.Constants.{offset_mask}

-- `x & OFFSET_MASK`: a 32-bit number without its top bit
unfoldable pub offset : ℕ → ℕ
offset x = x % 0x80000000

-- `x & !OFFSET_MASK != 0`: is the top bit set?
unfoldable pub top : ℕ → Bool
top x = nat_le 0x80000000 x

-- `is_vacant`: base and check are both `OFFSET_MASK`
unfoldable pub vacant_pair : ℕ → ℕ → Bool
vacant_pair b c = (b == offset_mask) && (c == offset_mask)

-- `get_base` of element e
unfoldable pub base_of : List ℕ → ℕ → ℕ
base_of base e = offset (slice_index base e)

-- `get_check` of element e: "its parent is check without the top bit"
unfoldable pub parent : List ℕ → ℕ → ℕ
parent check e = offset (slice_index check e)

-- `is_leaf` of element e: "a leaf has the top bit of base"
unfoldable pub leaf : List ℕ → ℕ → Bool
leaf base e = top (slice_index base e)

-- `has_leaf` of element e: the top bit of check
unfoldable pub marked : List ℕ → ℕ → Bool
marked check e = top (slice_index check e)

-- "its label is base of the parent xor its number"
unfoldable pub label : List ℕ → List ℕ → ℕ → ℕ
label base check e = bit_xor (base_of base (parent check e)) e

-- `is_vacant` of element e
unfoldable pub vacant : List ℕ → List ℕ → ℕ → Bool
vacant base check e = vacant_pair (slice_index base e) (slice_index check e)
