-- The turns of a walk of the minimal-prefix form: it stands at element p, i characters in. Assumes nothing.
use Rattle.std.proofs.Common.{IsErrAnd, Bool, true, false, if◌then◌else◌, ◌≡◌, ◌∙◌, ◌+◌, ◌-◌, ◌<◌, ◌≤◌, ℕ, List, [], ◌∷◌, Option, Some, None, Result, Ok, Err, length, get_or, take, drop, nat_lt, refl, sym, ap, ap₂, add-one, drop-cons, drop_of_length-le}
use Rattle.std.proofs.lemmas.List.{take_rest}
use Rattle.node.specs.declared.Refusal.{Refusal}
use Rattle.node.specs.declared.Refusal.TheVariants.{Outside}
use Rattle.node.specs.declared.Node.{Node}
use Rattle.node.specs.Element.{offset, top, leaf, base_of}
use Rattle.walk.specs.Walk.{elems, element, go_on, step, end_value, settle_end}
use Rattle.walk.proofs.Elements.{not_there, there}
use Rattle.walk.specs.Tail.{tail_at, settle_tail, stroll, exact_mp}

module _ (f : ℕ → Option ℕ) (base check tails : List ℕ) (cw vw : ℕ) (q : List ℕ) where
  -- what is left of the query decides as the whole does
  abbrev pub Stands : ℕ → ℕ → Type 0
  Stands p i = exact_mp f base check tails cw vw (elems base check) q ≡ stroll f base check tails cw vw (elems base check) p (drop i q)

  pub at_root : Stands 0 0
  unfolding exact_mp
  at_root = refl

  -- what follows at an element that is no leaf
  abbrev goes : ℕ → List ℕ → Result (Option ℕ) Refusal
  goes p [] = settle_end base check (elems base check) p
  goes p (c ∷ r) = go_on None (step f base check (elems base check) p c) (λ d. stroll f base check tails cw vw (elems base check) d r)

  by_place : (p : ℕ) (r : List ℕ) → stroll f base check tails cw vw (elems base check) p r
      ≡ (if nat_lt p (elems base check) then (if leaf base p then settle_tail f base tails cw vw p r else goes p r) else Err Outside)
  unfolding stroll
  by_place p [] = refl
  by_place p (c ∷ r) = refl

  module _ (p i : ℕ) (s : Stands p i) where
    pub outside : element base check p ≡ None → Err Outside ≡ exact_mp f base check tails cw vw (elems base check) q
    outside e = sym (s ∙ by_place p (drop i q) ∙ rw (not_there base check p e) refl)

    module _ (node : Node) (e : element base check p ≡ Some node) where
      inside : (nat_lt p (elems base check) ≡ true) × (node.base ≡ get_or base p 0) × (node.check ≡ get_or check p 0)
      inside = there base check p node e

      by_leaf : exact_mp f base check tails cw vw (elems base check) q ≡ (if leaf base p then settle_tail f base tails cw vw p (drop i q) else goes p (drop i q))
      by_leaf = s ∙ by_place p (drop i q) ∙ rw inside.0 refl

      leaf_is : (b : Bool) → top node.base ≡ b → leaf base p ≡ b
      unfolding leaf
      leaf_is b t = ap top (sym inside.1) ∙ t

      module _ (l : top node.base ≡ true) (pos : ℕ) (at : pos ≡ offset node.base) where
        by_tail : exact_mp f base check tails cw vw (elems base check) q ≡ tail_at f cw vw (drop pos tails) (drop i q)
        unfolding settle_tail base_of
        by_tail = by_leaf ∙ rw (leaf_is true l) (ap (λ (n : ℕ). tail_at f cw vw (drop n tails) (drop i q)) (ap offset (sym inside.1) ∙ sym at))

        pub in_tail : (x : Result (Option ℕ) Refusal) → x ≡ tail_at f cw vw (drop pos tails) (take (length q - i) (drop i q)) → x ≡ exact_mp f base check tails cw vw (elems base check) q
        in_tail x v = v ∙ ap (tail_at f cw vw (drop pos tails)) (take_rest q i) ∙ sym by_tail

        pub ended_in_tail : length q ≤ i → (x : Result (Option ℕ) Refusal) → x ≡ tail_at f cw vw (drop pos tails) [] → x ≡ exact_mp f base check tails cw vw (elems base check) q
        ended_in_tail h x v = v ∙ ap (tail_at f cw vw (drop pos tails)) (sym (drop_of_length-le q h)) ∙ sym by_tail

      module _ (l : top node.base ≡ false) where
        by_step : exact_mp f base check tails cw vw (elems base check) q ≡ goes p (drop i q)
        by_step = by_leaf ∙ rw (leaf_is false l) refl

        pub ended : length q ≤ i → (x : Result (Option ℕ) Refusal) → x ≡ end_value base (elems base check) node.base node.check → x ≡ exact_mp f base check tails cw vw (elems base check) q
        ended h x v =
            v ∙ ap₂ (end_value base (elems base check)) inside.1 inside.2 ∙ sym (by_step ∙ ap (goes p) (drop_of_length-le q h))

        module _ (c : ℕ) (h : i < length q) (g : c ≡ get_or q i 0) where
          along : (w : Result (Option ℕ) Refusal) → w ≡ step f base check (elems base check) p c
              → exact_mp f base check tails cw vw (elems base check) q ≡ go_on None w (λ d. stroll f base check tails cw vw (elems base check) d (drop (i + 1) q))
          along w v =
              let head : drop i q ≡ c ∷ drop (i + 1) q = rw (drop-cons q i 0 h, add-one i, g) refl in
              by_step ∙ ap (goes p) head ∙ ap (λ (x : Result (Option ℕ) Refusal). go_on None x (λ d. stroll f base check tails cw vw (elems base check) d (drop (i + 1) q))) (sym v)

          -- the step leads to d, nowhere, or outside
          pub stepped : (d : ℕ) → Ok (Some d) ≡ step f base check (elems base check) p c → Stands d (i + 1)
          stepped d v = along _ v

          pub missed : Ok None ≡ step f base check (elems base check) p c → Ok None ≡ exact_mp f base check tails cw vw (elems base check) q
          missed v = sym (along _ v)

          pub left : (x : Result (Option ℕ) Refusal) (r : Refusal) → Err r ≡ step f base check (elems base check) p c → IsErrAnd x (λ y. y ≡ r) → x ≡ exact_mp f base check tails cw vw (elems base check) q
          left (Ok o) r v w = absurd w
          left (Err y) r v w = ap Err w ∙ sym (along _ v)
