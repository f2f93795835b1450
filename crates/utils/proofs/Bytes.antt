-- The facts about packed numbers, proved once over the width: how many bytes, what they are worth, packing then unpacking and back, and the turns of the two
-- loops. Assumes nothing.
use Rattle.std.proofs.Common.{◌≡◌, refl, sym, ap, ◌∙◌, List, [], ◌∷◌, ◌++◌, append_assoc, append-nil, ℕ, zero, suc, ◌+◌, ◌*◌, ◌/◌, ◌%◌, ◌^◌, ◌<◌, ◌≤◌, pow-suc, mod-lt, mod-eq_of_lt, le_of_suc-le-suc, not-suc-le-zero, add-one, arith, length, get_or, take, set, length-append, ltb, take-suc-set, take_all, length-set, ◌-◌, ltb-true, IsTrue, ◌↔◌}
use Rattle.std.proofs.Math.Arith.{digits_lt, digits_div, digits_mod, mod-mul}
use Rattle.std.proofs.Math.Nat.{mod-one}
use Rattle.std.proofs.lemmas.Bool.Decides.{nat_tests}
use Rattle.std.specs.List.{push}
use Rattle.laws.proofs.Lists.{decide}
use Rattle.utils.specs.Packed.{pack_size, packed, unpacked, readable, packable, width_ok}

-- ---- how many bytes, and that each is one

pub length-packed : (w n : ℕ) → length (packed w n) ≡ w
unfolding packed
length-packed zero n = refl
length-packed (suc w) n = ap suc (length-packed w (n / 256))

pub packed_byte : (w n i : ℕ) → get_or (packed w n) i 0 < 256
unfolding packed
packed_byte zero n i = omega arith
packed_byte (suc w) n zero = mod-lt n (omega arith)
packed_byte (suc w) n (suc i) = packed_byte w (n / 256) i

-- every element of a run is a byte
abbrev pub Bytes : List ℕ → Type 0
Bytes t = (i : ℕ) → get_or t i 0 < 256

-- ---- what the bytes are worth

pow_positive : (w : ℕ) → 0 < 256 ^ w
pow_positive zero = omega arith
pow_positive (suc w) = rw pow-suc (omega (arith, pow_positive w))

pub unpacked-lt : (t : List ℕ) (w : ℕ) → Bytes t → unpacked t w < 256 ^ w
unfolding unpacked
unpacked-lt t zero b = omega arith
unpacked-lt [] (suc w) b = pow_positive (suc w)
unpacked-lt (x ∷ xs) (suc w) b = rw pow-suc (omega (arith, b 0, unpacked-lt xs w (λ i. b (suc i))))

-- ---- packing then unpacking, and back

pub unpacked-packed : (w n : ℕ) (rest : List ℕ) → unpacked (packed w n ++ rest) w ≡ n % 256 ^ w
unfolding packed unpacked
unpacked-packed zero n rest = sym (mod-one n)
unpacked-packed (suc w) n rest =
    let h = unpacked-packed w (n / 256) rest in
    let m = mod-mul n {m = 256 ^ w} {c = 256} (pow_positive w) (omega arith) in
    rw (pow-suc 256 w) (omega (arith, h, m))

-- the first w bytes are enough
pub unpacked_of_first : (t : List ℕ) (w : ℕ) → w ≤ length t → unpacked (take w t) (length (take w t)) ≡ unpacked t w
unfolding unpacked
unpacked_of_first t zero h = refl
unpacked_of_first [] (suc w) h = absurd (not-suc-le-zero h)
unpacked_of_first (x ∷ xs) (suc w) h = ap (λ (n : ℕ). x + 256 * n) (unpacked_of_first xs w (le_of_suc-le-suc h))

-- a number that the width holds comes back
pub unpacked-packed_fits : (w n : ℕ) (rest : List ℕ) → n < 256 ^ w → unpacked (packed w n ++ rest) w ≡ n
unpacked-packed_fits w n rest h = unpacked-packed w n rest ∙ mod-eq_of_lt h

-- and bytes that were unpacked are those that packing writes
pub packed-unpacked : (t : List ℕ) (w : ℕ) → Bytes t → w ≤ length t → packed w (unpacked t w) ≡ take w t
unfolding packed unpacked
packed-unpacked t zero b h = refl
packed-unpacked [] (suc w) b h = absurd (not-suc-le-zero h)
packed-unpacked (x ∷ xs) (suc w) b h =
    let e : x + 256 * unpacked xs w ≡ unpacked xs w * 256 + x = omega arith in
    let q : (x + 256 * unpacked xs w) / 256 ≡ unpacked xs w = rw e (digits_div (unpacked xs w) (b 0)) in
    let r : (x + 256 * unpacked xs w) % 256 ≡ x = rw e (digits_mod (unpacked xs w) (b 0)) in
    rw (q, r, packed-unpacked xs w (λ i. b (suc i)) (le_of_suc-le-suc h))

-- `pack_size` of a 32-bit number is a width from 1 to 4 that holds it
pub record Holding (n w : ℕ) : Type 0 where
  pub some_width : 1 ≤ w
  pub most : w ≤ 4
  pub holds : n < 256 ^ w

pub pack_size_holds : (n : ℕ) → n < 4294967296 → Holding n (pack_size n)
unfolding pack_size
pack_size_holds n h =
    decide (ltb n 256)
    (λ a. rw a (record { some_width = omega arith; most = omega arith; holds = ltb-true n 256 a }))
    (λ a. decide (ltb n 65536)
    (λ b. rw (a, b) (record { some_width = omega arith; most = omega arith; holds = ltb-true n 65536 b }))
    (λ b. decide (ltb n 16777216)
    (λ d. rw (a, b, d) (record { some_width = omega arith; most = omega arith; holds = ltb-true n 16777216 d }))
    (λ d. rw (a, b, d) (record { some_width = omega arith; most = omega arith; holds = h }))))

-- ---- when there is an answer

pub readable_when : (t : List ℕ) (w : ℕ) → IsTrue (readable t w) ↔ ((1 ≤ w) × (w ≤ 4) × (w ≤ length t))
unfolding readable width_ok
readable_when t w = grind (arith, nat_tests)

pub packable_when : (n at w : ℕ) → IsTrue (packable n at w) ↔ ((1 ≤ w) × (w ≤ 4) × (at + w ≤ n))
unfolding packable width_ok
packable_when n at w = grind (arith, nat_tests)

-- ---- the turns of `put_bytes`: what is written, and what packing the rest of the number would add, are what packing the number writes

pub put_more : (out : List ℕ) (i x n : ℕ) → i < length out → take i out ++ packed (length out - i) x ≡ packed (length out) n
    → take (i + 1) (set out i (x % 256)) ++ packed (length (set out i (x % 256)) - (i + 1)) (x / 256) ≡ packed (length (set out i (x % 256))) n
unfolding packed
put_more out i x n h w =
    let s : length out - i ≡ suc (length out - suc i) = omega arith in
    let w' : take i out ++ packed (suc (length out - suc i)) x ≡ packed (length out) n = rw s at w in
    rw (add-one i, length-set, take-suc-set out i (x % 256) h) (append_assoc (take i out) (x % 256 ∷ []) (packed (length out - suc i) (x / 256)) ∙ w')

-- no place is left
pub put_all : (out : List ℕ) (l i x n : ℕ) → length out ≡ l → l ≤ i → take i out ++ packed (length out - i) x ≡ packed (length out) n → out ≡ packed l n
unfolding packed
put_all out l i x n e h w =
    let z : length out - i ≡ 0 = omega arith in
    let whole : take i out ++ packed (length out - i) x ≡ out = rw (z, append-nil, take_all i out (omega arith)) refl in
    sym whole ∙ w ∙ ap (λ (k : ℕ). packed k n) e

-- ---- the turns of `get_bytes`, from the highest byte down

pub small_pow : (m : ℕ) → m ≤ 3 → 256 ^ m ≤ 16777216
small_pow zero h = omega arith
small_pow (suc zero) h = omega arith
small_pow (suc (suc zero)) h = omega arith
small_pow (suc (suc (suc zero))) h = omega arith
small_pow (suc (suc (suc (suc m)))) h = absurd (omega arith)

-- x is the number in the bytes behind those that are left
pub record Got (bytes left : List ℕ) (x : ℕ) : Type 0 where
  pub passed : List ℕ
  pub parts : bytes ≡ left ++ passed
  pub is : x ≡ unpacked passed (length passed)
  pub small : x < 256 ^ length passed

pub got_none : (bytes left : List ℕ) → left ≡ bytes → Got bytes left 0
unfolding unpacked
got_none bytes left e = record { passed = []; parts = sym e ∙ sym (append-nil left); is = refl; small = omega arith }

module _ (bytes left rest : List ℕ) (x b : ℕ) (g : Got bytes left x) (last : left ≡ push rest b) where
  -- one byte more fits 32 bits
  pub got_fits : length bytes ≤ 4 → x < 16777216
  got_fits h =
      let n : length bytes ≡ length rest + 1 + length g.passed = rw (g.parts, last, length-append, length-append) refl in
      omega (arith, g.small, small_pow (length g.passed) (omega (arith, n)))

  pub got_more : (y : ℕ) → y ≡ b → y < 256 → Got bytes rest (x * 256 + y)
  unfolding unpacked
  got_more y e l =
      record {
        passed = y ∷ g.passed;
        parts = g.parts ∙ rw (last, e) (append_assoc rest (b ∷ []) g.passed);
        is = omega (arith, g.is);
        small = rw pow-suc (digits_lt g.small l);
      }
