-- A tail against what is left of a query, by what the code sees: how many codes are left, whether one can be read, whether the query goes on. Assumes nothing.
use Rattle.std.proofs.Common.{if◌then◌else◌, ◌≡◌, ◌≢◌, ◌∙◌, ◌-◌, ◌≤◌, ◌==◌, ℕ, suc, List, [], ◌∷◌, Option, Some, None, Result, Ok, Err, Bool, true, false, length, get_or, take, drop, refl, sym, ap, arith, eq-eqb}
use Rattle.std.proofs.lemmas.List.{take_rest}
use Rattle.std.proofs.lemmas.Bool.{ne_eqb}
use Rattle.node.specs.declared.Refusal.{Refusal}
use Rattle.node.specs.declared.Refusal.TheVariants.{Outside}
use Rattle.utils.specs.Packed.{unpacked, readable, unpack_answer}
use Rattle.utils.proofs.Bytes.{readable_when}
use Rattle.walk.specs.Walk.{go_on}
use Rattle.walk.specs.Tail.{tail_match, tail_value}

-- what a read that gave nothing, or x, says
pub read_none : (t : List ℕ) (w : ℕ) → unpack_answer t w ≡ None → readable t w ≡ false
unfolding unpack_answer
read_none t w e = by (readable t w) refl
  where
    by : (b : Bool) → readable t w ≡ b → readable t w ≡ false
    by false r = r
    by true r = absurd (let h : Some (unpacked t w) ≡ None = rw r at e in cc)

pub read_some : (t : List ℕ) (w x : ℕ) → unpack_answer t w ≡ Some x → (readable t w ≡ true) × (x ≡ unpacked t w)
unfolding unpack_answer
read_some t w x e = by (readable t w) refl
  where
    by : (b : Bool) → readable t w ≡ b → (readable t w ≡ true) × (x ≡ unpacked t w)
    by true r = (r, let h : Some (unpacked t w) ≡ Some x = rw r at e in cc)
    by false r = absurd (let h : None ≡ Some x = rw r at e in cc)

pub no_code_left : (f : ℕ → Option ℕ) (cw vw : ℕ) (t : List ℕ) (n : ℕ) (q : List ℕ) (x : Result (Option ℕ) Refusal) → n ≡ 0 → x ≡ tail_value vw t q → x ≡ tail_match f cw vw t n q
unfolding tail_match
no_code_left f cw vw t n q x e h = rw e h

module _ (f : ℕ → Option ℕ) (cw vw : ℕ) (t : List ℕ) (n : ℕ) (q : List ℕ) (more : n ≢ 0) where
  left : n ≡ suc (n - 1)
  left = omega arith

  pub unread : unpack_answer t cw ≡ None → Err Outside ≡ tail_match f cw vw t n q
  unfolding tail_match
  unread e = by q
    where
      by : (q : List ℕ) → Err Outside ≡ tail_match f cw vw t n q
      by [] = rw (left, read_none t cw e) refl
      by (c ∷ q) = rw (left, read_none t cw e) refl

  module _ (code : ℕ) (read : unpack_answer t cw ≡ Some code) where
    pub ends : length q ≡ 0 → Ok None ≡ tail_match f cw vw t n q
    unfolding tail_match
    ends h = by q h
      where
        by : (q : List ℕ) → length q ≡ 0 → Ok None ≡ tail_match f cw vw t n q
        by [] h = rw (left, (read_some t cw code read).0) refl
        by (c ∷ q) h = absurd (omega arith)

    module _ (go : length q ≢ 0) where
      -- by the code of the query's next character
      by_code : tail_match f cw vw t n q ≡ go_on None (Ok (f (get_or q 0 0))) (λ x. if x == code then tail_match f cw vw (drop cw t) (n - 1) (drop 1 q) else Ok None)
      unfolding tail_match
      by_code = by q go
        where
          by : (q : List ℕ) → length q ≢ 0
              → tail_match f cw vw t n q ≡ go_on None (Ok (f (get_or q 0 0))) (λ x. if x == code then tail_match f cw vw (drop cw t) (n - 1) (drop 1 q) else Ok None)
          by [] g = absurd (g refl)
          by (c ∷ q) g =
              let r = read_some t cw code read in
              ap (λ (m : ℕ). tail_match f cw vw t m (c ∷ q)) left ∙ rw (r.0, r.1) refl

      pub unknown : f (get_or q 0 0) ≡ None → Ok None ≡ tail_match f cw vw t n q
      unknown e = sym (by_code ∙ ap (λ (o : Option ℕ). go_on None (Ok o) (λ x. if x == code then tail_match f cw vw (drop cw t) (n - 1) (drop 1 q) else Ok None)) e)

      module _ (x : ℕ) (known : f (get_or q 0 0) ≡ Some x) where
        by_known : tail_match f cw vw t n q ≡ (if x == code then tail_match f cw vw (drop cw t) (n - 1) (drop 1 q) else Ok None)
        by_known = by_code ∙ ap (λ (o : Option ℕ). go_on None (Ok o) (λ x. if x == code then tail_match f cw vw (drop cw t) (n - 1) (drop 1 q) else Ok None)) known

        pub differs : x ≢ code → Ok None ≡ tail_match f cw vw t n q
        differs d = sym (by_known ∙ rw (ne_eqb x code d) refl)

        pub alike : x ≡ code → (y : Result (Option ℕ) Refusal) → y ≡ tail_match f cw vw (take (length t - cw) (drop cw t)) (n - 1) (take (length q - 1) (drop 1 q)) → y ≡ tail_match f cw vw t n q
        alike d y e =
            e ∙ ap (λ (l : List ℕ). tail_match f cw vw l (n - 1) (take (length q - 1) (drop 1 q))) (take_rest t cw) ∙ ap (tail_match f cw vw (drop cw t) (n - 1)) (take_rest q 1)
            ∙ sym (by_known ∙ rw (eq-eqb x code d) refl)

-- what was read is inside the tail
pub inside : (t : List ℕ) (w x : ℕ) → unpack_answer t w ≡ Some x → w ≤ length t
inside t w x e = ((readable_when t w).0 (read_some t w x e).0).2
