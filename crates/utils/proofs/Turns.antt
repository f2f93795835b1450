-- The turns of loops that count an index by hand over packed numbers and over two keys: what is packed or passed at each place, and what the next place adds.
-- The code's own loops are over the runs themselves (Bytes, Prefix); these laws serve who goes by a place. Assumes nothing.
use Rattle.std.proofs.Common.{◌≡◌, refl, sym, ap, ◌∙◌, List, [], ◌∷◌, ◌++◌, append_assoc, ℕ, zero, suc, ◌+◌, ◌-◌, ◌*◌, ◌/◌, ◌%◌, ◌^◌, ◌<◌, ◌≤◌, pow-suc, add-zero, add-one, arith, length, get_or, take, drop, set, length-append, take-append-drop, Ordering, Less, Equal, Greater, lt-ltb, le-ltb}
use Rattle.std.proofs.Math.Arith.{digits_lt}
use Rattle.std.proofs.Math.ListN.{drop_of_length-le}
use Rattle.std.proofs.Math.Seq.{drop-cons, set_at, length-take-le}
use Rattle.std.proofs.lemmas.Bool.{eq-eqb, ne_eqb}
use Rattle.utils.specs.Common.{common, ordering}
use Rattle.utils.specs.Packed.{packed, unpacked}
use Rattle.utils.proofs.Bytes.{length-packed, small_pow}
use Rattle.utils.proofs.Prefix.{common-cons, ordering-cons}

-- ---- packing: what is left of n after k bytes

unfoldable pub shifted : ℕ → ℕ → ℕ
shifted zero n = n
shifted (suc k) n = shifted k (n / 256)

pub shifted_none : (n : ℕ) → n ≡ shifted 0 n
unfolding shifted
shifted_none n = refl

pub shifted_more : (k n : ℕ) → shifted k n / 256 ≡ shifted (k + 1) n
unfolding shifted
shifted_more k n = rw add-one (go k n)
  where
    go : (k n : ℕ) → shifted k n / 256 ≡ shifted (suc k) n
    go zero n = refl
    go (suc k) n = go k (n / 256)

-- the last byte of a wider packing
pub packed_more : (k n : ℕ) → packed (suc k) n ≡ packed k n ++ (shifted k n % 256 ∷ [])
unfolding packed shifted
packed_more zero n = refl
packed_more (suc k) n = ap (λ (l : List ℕ). n % 256 ∷ l) (packed_more k (n / 256))

module _ (out₀ out : List ℕ) (at n k : ℕ) (room : at + k < length out₀) (e : out ≡ take at out₀ ++ (packed k n ++ drop (at + k) out₀)) where
  -- in a run that goes on on both sides
  pub put_more : set out (at + k) (shifted k n % 256) ≡ take at out₀ ++ (packed (k + 1) n ++ drop (at + (k + 1)) out₀)
  put_more =
      let s : at + (k + 1) ≡ suc (at + k) = omega arith in
      let h : length (take at out₀ ++ packed k n) ≡ at + k = omega (arith, length-append (take at out₀) (packed k n), length-take-le at out₀ (omega arith), length-packed k n) in
      rw (e, s, add-one k, packed_more k n, append_assoc (packed k n) (shifted k n % 256 ∷ []) (drop (suc (at + k)) out₀), drop-cons out₀ (at + k) 0 room)
      (rw (← append_assoc) (set_at (take at out₀ ++ packed k n) (get_or out₀ (at + k) 0) (drop (suc (at + k)) out₀) (shifted k n % 256) (at + k) h)
      ∙ append_assoc (take at out₀) (packed k n) (shifted k n % 256 ∷ drop (suc (at + k)) out₀))

pub put_none : (out : List ℕ) (at n : ℕ) → out ≡ take at out ++ (packed 0 n ++ drop (at + 0) out)
unfolding packed
put_none out at n = rw (add-zero at) (sym (take-append-drop at out))

-- ---- unpacking, from the highest byte down: x is the number in the bytes from k up to w

pub record Got (t : List ℕ) (w k x : ℕ) : Type 0 where
  pub below : k ≤ w
  pub small : x < 256 ^ (w - k)
  pub is : x ≡ unpacked (drop k t) (w - k)

pub got_none : (t : List ℕ) (w : ℕ) → Got t w w 0
unfolding unpacked
got_none t w =
    let z : w - w ≡ 0 = omega arith in
    record { below = omega arith; small = rw z (omega arith); is = rw z refl }

pub got_all : (t : List ℕ) (w k x : ℕ) → k ≡ 0 → Got t w k x → x ≡ unpacked t w
got_all t w k x z g =
    let m : w - 0 ≡ w = omega arith in
    g.is ∙ rw (z, m) refl

module _ (t : List ℕ) (w k x : ℕ) (g : Got t w k x) (some : 0 < k) where
  -- one byte more fits 32 bits
  pub got_fits : w ≤ 4 → x < 16777216
  got_fits h = omega (arith, g.small, g.below, small_pow (w - k) (omega (arith, g.below)))

  pub got_more : (b : ℕ) → b ≡ get_or t (k - 1) 0 → b < 256 → k ≤ length t → Got t w (k - 1) (x * 256 + b)
  unfolding unpacked
  got_more b e l h =
      let s : w - (k - 1) ≡ suc (w - k) = omega (arith, g.below) in
      let n : suc (k - 1) ≡ k = omega arith in
      record {
        below = omega (arith, g.below);
        small = rw (s, pow-suc 256 (w - k)) (digits_lt g.small l);
        is = rw (s, drop-cons t (k - 1) 0 (omega arith), n) (omega (arith, g.is));
      }

-- ---- two keys: the first i characters are passed, since they are alike

pub record Passed (a b : List ℕ) (i : ℕ) : Type 0 where
  pub in_a : i ≤ length a
  pub in_b : i ≤ length b
  pub shared : common a b ≡ i + common (drop i a) (drop i b)
  pub ordered : ordering a b ≡ ordering (drop i a) (drop i b)

pub none_passed : (a b : List ℕ) → Passed a b 0
none_passed a b = record { in_a = omega arith; in_b = omega arith; shared = omega arith; ordered = refl }

module _ (a b : List ℕ) (i : ℕ) (p : Passed a b i) where
  abbrev pub Ends : Ordering → Type 0
  Ends o = record { lcp : i ≡ common a b; ord : o ≡ ordering a b }

  pub ends_by : (o : Ordering) → common (drop i a) (drop i b) ≡ 0 → ordering (drop i a) (drop i b) ≡ o → Ends o
  ends_by o z e = record { lcp = omega (arith, p.shared); ord = sym (p.ordered ∙ e) }

  -- b ends here and a does not, or the other way, or both do
  pub b_ends : i < length a → length b ≤ i → Ends Greater
  b_ends h k = ends_by Greater (rw (drop-cons a i 0 h, drop_of_length-le b k)) (rw (drop-cons a i 0 h, drop_of_length-le b k))

  pub a_ends : length a ≤ i → i < length b → Ends Less
  a_ends h k = ends_by Less (rw (drop_of_length-le a h)) (rw (drop_of_length-le a h, drop-cons b i 0 k))

  pub both_end : length a ≤ i → length b ≤ i → Ends Equal
  both_end h k = ends_by Equal (rw (drop_of_length-le a h)) (rw (drop_of_length-le a h, drop_of_length-le b k))

  module _ (h : i < length a) (k : i < length b) where
    -- both words by the characters here
    common_here : common (drop i a) (drop i b) ≡ common (get_or a i 0 ∷ drop (suc i) a) (get_or b i 0 ∷ drop (suc i) b)
    common_here = rw (drop-cons a i 0 h, drop-cons b i 0 k) refl

    ordering_here : ordering (drop i a) (drop i b) ≡ ordering (get_or a i 0 ∷ drop (suc i) a) (get_or b i 0 ∷ drop (suc i) b)
    ordering_here = rw (drop-cons a i 0 h, drop-cons b i 0 k) refl

    apart : (get_or a i 0 ≡ get_or b i 0 → ⊥) → common (drop i a) (drop i b) ≡ 0
    apart n = common_here ∙ common-cons (get_or a i 0) (get_or b i 0) (drop (suc i) a) (drop (suc i) b) ∙ rw (ne_eqb (get_or a i 0) (get_or b i 0) n) refl

    -- the characters differ
    pub lower : get_or a i 0 < get_or b i 0 → Ends Less
    lower l =
        ends_by Less (apart (λ e. omega arith))
        (ordering_here ∙ ordering-cons (get_or a i 0) (get_or b i 0) (drop (suc i) a) (drop (suc i) b) ∙ rw (lt-ltb (get_or a i 0) (get_or b i 0) l) refl)

    pub higher : get_or b i 0 < get_or a i 0 → Ends Greater
    higher l =
        ends_by Greater (apart (λ e. omega arith))
        (ordering_here ∙ ordering-cons (get_or a i 0) (get_or b i 0) (drop (suc i) a) (drop (suc i) b)
        ∙ rw (le-ltb (get_or a i 0) (get_or b i 0) (omega arith), lt-ltb (get_or b i 0) (get_or a i 0) l) refl)

    -- they are alike
    pub one_more : get_or b i 0 ≤ get_or a i 0 → get_or a i 0 ≤ get_or b i 0 → Passed a b (i + 1)
    one_more l m =
        record {
          in_a = omega arith;
          in_b = omega arith;
          shared = rw add-one (omega (arith, p.shared, step));
          ordered = rw add-one (p.ordered ∙ ordering_here ∙ ordering-cons (get_or a i 0) (get_or b i 0) (drop (suc i) a) (drop (suc i) b)
              ∙ rw (le-ltb (get_or a i 0) (get_or b i 0) l, le-ltb (get_or b i 0) (get_or a i 0) m) refl);
        }
      where
        step : common (drop i a) (drop i b) ≡ suc (common (drop (suc i) a) (drop (suc i) b))
        step = common_here ∙ common-cons (get_or a i 0) (get_or b i 0) (drop (suc i) a) (drop (suc i) b) ∙ rw (eq-eqb (get_or a i 0) (get_or b i 0) (omega arith)) refl
