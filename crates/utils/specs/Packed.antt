-- Packed numbers, over the width: document 01, module 1. Assumes nothing.
use Rattle.std.specs.Prelude.{Bool, if◌then◌else◌, ◌&&◌, List, [], ◌∷◌, ◌++◌, ℕ, zero, suc, ◌+◌, ◌*◌, ◌/◌, ◌%◌, Option, Some, None, length, take, drop, nat_le, nat_lt}

-- "`pack_size`: 1 below 256, 2 below 65,536, 3 below 16,777,216, else 4"
unfoldable pub pack_size : ℕ → ℕ
pack_size n = if nat_lt n 256 then 1 else if nat_lt n 65536 then 2 else if nat_lt n 16777216 then 3 else 4

-- "little-endian low bytes": the lowest w bytes of n, lowest first
unfoldable pub packed : ℕ → ℕ → List ℕ
packed zero n = []
packed (suc w) n = n % 256 ∷ packed w (n / 256)

-- the number in the first w bytes, lowest first
unfoldable pub unpacked : List ℕ → ℕ → ℕ
unpacked t zero = 0
unpacked [] (suc w) = 0
unpacked (x ∷ xs) (suc w) = x + 256 * unpacked xs w

-- a width that a number of 32 bits can have
unfoldable pub width_ok : ℕ → Bool
width_ok w = nat_le 1 w && nat_le w 4

-- may w bytes be read at the start of t? A width outside 1 to 4 never may.
unfoldable pub readable : List ℕ → ℕ → Bool
readable t w = width_ok w && nat_le w (length t)

-- is there room for w bytes from the place at on, in a run of n bytes?
unfoldable pub packable : ℕ → ℕ → ℕ → Bool
packable n at w = width_ok w && nat_le (at + w) n

-- what `pack_u32` answers: the place behind the number, if there is room for it
unfoldable pub pack_answer : ℕ → ℕ → ℕ → Option ℕ
pack_answer n at w = if packable n at w then Some (at + w) else None

-- the run after it: the number's bytes from the place at on, all else as before
unfoldable pub packed_into : List ℕ → ℕ → ℕ → ℕ → List ℕ
packed_into out at n w = if packable (length out) at w then take at out ++ (packed w n ++ drop (at + w) out) else out

-- what `unpack_u32` answers: the number, if there is one to read
unfoldable pub unpack_answer : List ℕ → ℕ → Option ℕ
unpack_answer t w = if readable t w then Some (unpacked t w) else None
