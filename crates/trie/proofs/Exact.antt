-- The turns of a walk of the plain form: it stands at element p, i characters in. Assumes nothing.
use Rattle.std.proofs.Common.{IsErrAnd, ◌≡◌, ◌∙◌, ◌+◌, ◌<◌, ◌≤◌, ℕ, List, ◌∷◌, Option, Some, None, Result, Ok, Err, length, get_or, drop, refl, sym, ap, add-one, drop-cons, drop_of_length-le}
use Rattle.node.specs.declared.Refusal.{Refusal}
use Rattle.walk.specs.Walk.{go_on, step, walk, settle, exact}

module _ (f : ℕ → Option ℕ) (base check : List ℕ) (N : ℕ) (q : List ℕ) where
  -- what is left of the query decides as the whole does
  abbrev pub Stands : ℕ → ℕ → Type 0
  Stands p i = exact f base check N q ≡ go_on None (walk f base check N p (drop i q)) (settle base check N)

  pub at_root : Stands 0 0
  unfolding exact
  at_root = refl

  module _ (p i : ℕ) (s : Stands p i) where
    module _ (c : ℕ) (h : i < length q) (e : c ≡ get_or q i 0) where
      by_step : exact f base check N q ≡ go_on None (go_on None (step f base check N p c) (λ d. walk f base check N d (drop (i + 1) q))) (settle base check N)
      unfolding walk
      by_step =
          let head : drop i q ≡ c ∷ drop (i + 1) q = rw (drop-cons q i 0 h, add-one i, e) refl in
          s ∙ ap (λ (l : List ℕ). go_on None (walk f base check N p l) (settle base check N)) head

      along : (w : Result (Option ℕ) Refusal) → w ≡ step f base check N p c
          → exact f base check N q ≡ go_on None (go_on None w (λ d. walk f base check N d (drop (i + 1) q))) (settle base check N)
      along w v = by_step ∙ ap (λ (x : Result (Option ℕ) Refusal). go_on None (go_on None x (λ d. walk f base check N d (drop (i + 1) q))) (settle base check N)) (sym v)

      -- the step leads to d, nowhere, or outside
      pub stepped : (d : ℕ) → Ok (Some d) ≡ step f base check N p c → Stands d (i + 1)
      stepped d v = along _ v

      pub missed : Ok None ≡ step f base check N p c → Ok None ≡ exact f base check N q
      missed v = sym (along _ v)

      pub left : (x : Result (Option ℕ) Refusal) (r : Refusal) → Err r ≡ step f base check N p c → IsErrAnd x (λ e. e ≡ r) → x ≡ exact f base check N q
      left (Ok o) r v h = absurd h
      left (Err e) r v h = ap Err h ∙ sym (along _ v)

    -- the query ends at p
    pub ended : (x : Result (Option ℕ) Refusal) → length q ≤ i → x ≡ settle base check N p → x ≡ exact f base check N q
    unfolding walk
    ended x h e = e ∙ sym (s ∙ ap (λ (l : List ℕ). go_on None (walk f base check N p l) (settle base check N)) (drop_of_length-le q h))
