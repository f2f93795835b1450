-- An element, by what a read of it gives. Assumes nothing.
use Rattle.std.proofs.Common.{Bool, true, false, if◌then◌else◌, ◌≡◌, ◌==◌, ℕ, List, Option, Some, None, Ok, Err, get_or, nat_lt, refl, sym, ap}
use Rattle.node.specs.declared.Node.{Node}
use Rattle.std.specs.Int.Bits.{bit_xor}
use Rattle.node.specs.Element.{base_of, parent, leaf}
use Rattle.node.specs.declared.Refusal.TheVariants.{Outside}
use Rattle.walk.specs.Walk.{elems, element, child, step, go_on}

module _ (base check : List ℕ) (p : ℕ) where
  pub not_there : element base check p ≡ None → nat_lt p (elems base check) ≡ false
  not_there e = by (nat_lt p (elems base check)) refl
    where
      by : (b : Bool) → nat_lt p (elems base check) ≡ b → nat_lt p (elems base check) ≡ false
      by false h = h
      by true h = absurd (let x : Some (record { base = get_or base p 0; check = get_or check p 0 }) ≡ None = rw h at e in cc)

  abbrev base_in : Option Node → ℕ
  base_in None = 0
  base_in (Some n) = n.base

  abbrev check_in : Option Node → ℕ
  check_in None = 0
  check_in (Some n) = n.check

  pub there : (node : Node) → element base check p ≡ Some node → (nat_lt p (elems base check) ≡ true) × (node.base ≡ get_or base p 0) × (node.check ≡ get_or check p 0)
  there node e = by (nat_lt p (elems base check)) refl
    where
      by : (b : Bool) → nat_lt p (elems base check) ≡ b → (nat_lt p (elems base check) ≡ true) × (node.base ≡ get_or base p 0) × (node.check ≡ get_or check p 0)
      by true h =
          let x : Some (record { base = get_or base p 0; check = get_or check p 0 }) ≡ Some node = rw h at e in
          (h, sym (ap base_in x), sym (ap check_in x))
      by false h = absurd (let x : None ≡ Some node = rw h at e in cc)

-- a step leads inside
module _ (f : ℕ → Option ℕ) (base check : List ℕ) (N p c d : ℕ) where
  pub leads_inside : Ok (Some d) ≡ step f base check N p c → nat_lt d N ≡ true
  unfolding child
  leads_inside e = by_code (f c) e
    where
      to_child : (x : ℕ) → Ok (Some d) ≡ child base check N p x → nat_lt d N ≡ true
      to_child x e = by (nat_lt p N) (leaf base p) (nat_lt to N) (parent check to == p) refl (e)
        where
          to : ℕ
          to = bit_xor (base_of base p) x

          by : (a b i k : Bool) → nat_lt to N ≡ i
              → Ok (Some d) ≡ (if a then (if b then Ok None else if i then (if k then Ok (Some to) else Ok None) else Err Outside) else Err Outside) → nat_lt d N ≡ true
          by false b i k h e = cc
          by true true i k h e = cc
          by true false false k h e = cc
          by true false true false h e = cc
          by true false true true h e = let same : d ≡ to = cc in rw same h

      by_code : (o : Option ℕ) → Ok (Some d) ≡ go_on None (Ok o) (child base check N p) → nat_lt d N ≡ true
      by_code None e = cc
      by_code (Some x) e = to_child x e
