-- The answers of `pack_u32` and `unpack_u32` by cases, for who calls them. Assumes nothing.
use Rattle.std.proofs.Common.{◌≡◌, true, false, ◌++◌, List, ℕ, zero, suc, ◌+◌, ◌<◌, ◌≤◌, Some, None, arith, length, take, drop, le-leb, refl}
use Rattle.std.proofs.lemmas.Bool.{lt-leb}
use Rattle.laws.proofs.Lists.{decide}
use Rattle.utils.specs.Packed.{packed, unpacked, width_ok, readable, packable, pack_answer, packed_into, unpack_answer}

module _ (w : ℕ) where
  pub width_ok-zero : w ≡ 0 → width_ok w ≡ false
  unfolding width_ok
  width_ok-zero h = rw h

  pub width_ok-over : 4 < w → width_ok w ≡ false
  unfolding width_ok
  width_ok-over h = rw (le-leb 1 w (omega arith), lt-leb w 4 h)

  pub width_ok-inside : (w ≡ 0 → ⊥) → w ≤ 4 → width_ok w ≡ true
  unfolding width_ok
  width_ok-inside n h = rw (le-leb 1 w (positive w n), le-leb w 4 h)
    where
      positive : (w : ℕ) → (w ≡ 0 → ⊥) → 1 ≤ w
      positive zero n = absurd (n refl)
      positive (suc w) n = omega arith

  module _ (t : List ℕ) where
    pub unpack_width : width_ok w ≡ false → None ≡ unpack_answer t w
    unfolding unpack_answer readable
    unpack_width h = rw h

    pub unpack_short : length t < w → None ≡ unpack_answer t w
    unfolding unpack_answer readable
    unpack_short h = decide (width_ok w) (λ a. rw (a, lt-leb w (length t) h)) (λ a. rw a)

    pub unpack_number : width_ok w ≡ true → w ≤ length t → (x : ℕ) → x ≡ unpacked t w → Some x ≡ unpack_answer t w
    unfolding unpack_answer readable
    unpack_number a h x e = rw (a, le-leb w (length t) h, e)

  module _ (out : List ℕ) (at n : ℕ) where
    pub pack_width : width_ok w ≡ false → packable (length out) at w ≡ false
    unfolding packable
    pack_width h = rw h

    pub pack_short : length out < at + w → packable (length out) at w ≡ false
    unfolding packable
    pack_short h = decide (width_ok w) (λ a. rw (a, lt-leb (at + w) (length out) h)) (λ a. rw a)

    pub pack_room : width_ok w ≡ true → at + w ≤ length out → packable (length out) at w ≡ true
    unfolding packable
    pack_room a h = rw (a, le-leb (at + w) (length out) h)

    pub pack_refused : packable (length out) at w ≡ false → (None ≡ pack_answer (length out) at w) × (out ≡ packed_into out at n w)
    unfolding pack_answer packed_into
    pack_refused h = (rw h, rw h)

    pub pack_done : packable (length out) at w ≡ true → (v : ℕ) → v ≡ w → (out' : List ℕ) → out' ≡ take at out ++ (packed v n ++ drop (at + v) out)
        → (Some (at + v) ≡ pack_answer (length out) at w) × (out' ≡ packed_into out at n w)
    unfolding pack_answer packed_into
    pack_done h v q out' e = (rw (h, q), rw (h, e, q))
