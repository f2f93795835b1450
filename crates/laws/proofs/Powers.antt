-- Powers of two, and what makes a number the least power of two that is not below another: `next_power_of_two`. Assumes nothing.
use Rattle.std.proofs.Common.{◌≡◌, refl, sym, ap, ◌∙◌, ℕ, zero, suc, ◌-◌, ◌^◌, ◌≤◌, ◌<◌, pow-suc, lt_of_not-le, arith, pow_pos, pow_mono}
use Rattle.std.proofs.Math.Decide.{dec_le}

-- every number is below its power of two
pub lt-pow : (n : ℕ) → n < 2 ^ n
lt-pow zero = pow_pos 0
lt-pow (suc n) = rw pow-suc (omega (arith, lt-pow n))

-- m is the least power of two, from 2 on, that is not below a
pub record LeastPower (a m : ℕ) : Type 0 where
  pub width : ℕ
  pub some_width : 1 ≤ width
  pub power : m ≡ 2 ^ width
  pub enough : a ≤ m
  pub least : (k : ℕ) → 1 ≤ k → a ≤ 2 ^ k → width ≤ k

-- there is only one such number
pub LeastPower_one : (a m n : ℕ) → LeastPower a m → LeastPower a n → m ≡ n
LeastPower_one a m n x y =
    let p : x.width ≤ y.width = x.least y.width y.some_width (rw y.power at y.enough) in
    let q : y.width ≤ x.width = y.least x.width x.some_width (rw x.power at x.enough) in
    let e : x.width ≡ y.width = omega arith in
    x.power ∙ ap (λ (k : ℕ). 2 ^ k) e ∙ sym y.power

-- a number found by doubling from 2 while it is below a is the least power: the power before it was below a
pub LeastPower_by_half : (a w : ℕ) → 1 ≤ w → a ≤ 2 ^ w → ((1 < w) → 2 ^ (w - 1) < a) → LeastPower a (2 ^ w)
LeastPower_by_half a w h e below =
    record {
      width = w;
      some_width = h;
      power = refl;
      enough = e;
      least = λ k hk le. least k hk le (dec_le w k);
    }
  where
    least : (k : ℕ) → 1 ≤ k → a ≤ 2 ^ k → Dec (w ≤ k) → w ≤ k
    least k hk le (yes q) = q
    least k hk le (no q) =
        let lt : k < w = lt_of_not-le q in
        let shorter : k ≤ w - 1 = omega arith in
        absurd (omega (arith, below (omega arith), pow_mono shorter))
