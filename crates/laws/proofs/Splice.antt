-- Parts of a run that were lent and are back: `&s[a..]` is what follows the first a places, and what a callee left of `&mut s[a..]` is said of the whole run.
-- One law for every section and every reader. Assumes nothing.
use Rattle.std.proofs.Common.{arith, ℕ, ◌+◌, ◌-◌, ◌≡◌, List, [], ◌++◌, append_assoc, append-nil, length, take, drop, length-append, drop_of_length-le, take_at, drop_at, take_all}

module _ (pre rest : List ℕ) (a : ℕ) (at : length pre ≡ a) where
  -- the part is the rest
  pub part_is : take (length (pre ++ rest) - a) (drop a (pre ++ rest)) ≡ rest
  part_is = rw (drop_at pre rest a at, length-append) (take_all (length pre + length rest - a) rest (omega arith))

  after_none : drop (length (pre ++ rest) - a) (drop a (pre ++ rest)) ≡ []
  after_none = rw (drop_at pre rest a at, length-append) (drop_of_length-le rest {i = length pre + length rest - a} (omega arith))

  -- the whole run after the part came back as ys
  pub whole_is : (ys : List ℕ) → take a (pre ++ rest) ++ (ys ++ drop (length (pre ++ rest) - a) (drop a (pre ++ rest))) ≡ pre ++ ys
  whole_is ys = rw (take_at pre rest a at, after_none, append-nil)

-- s was pre ++ rest; the callee wrote enc at the start of the part from a on, n places, and left what follows
pub spliced : {s ys : List ℕ} (pre rest enc : List ℕ) (a n : ℕ) → s ≡ pre ++ rest → length pre ≡ a
    → ys ≡ enc ++ drop n (take (length s - a) (drop a s))
    → take a s ++ (ys ++ drop (length s - a) (drop a s)) ≡ (pre ++ enc) ++ drop n rest
spliced pre rest enc a n e at w = rw (e, w, e) (rw (whole_is pre rest a at, part_is pre rest a at, append_assoc))
