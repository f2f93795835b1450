-- The match at an element that a step leads to. Assumes nothing.
use Rattle.std.proofs.Common.{IsErrAnd, Bool, true, false, if◌then◌else◌, ◌≡◌, ◌∙◌, ◌+◌, ℕ, List, [], Option, Some, None, Result, Ok, Err, length, get_or, drop, nat_lt, refl, sym, ap, ap₂, arith}
use Rattle.node.specs.declared.Refusal.{Refusal}
use Rattle.node.specs.declared.Refusal.TheVariants.{Outside}
use Rattle.node.specs.declared.Node.{Node}
use Rattle.node.specs.Element.{offset, top, leaf, base_of}
use Rattle.walk.specs.Walk.{elems, element, go_on, before, report, end_value, settle_end}
use Rattle.walk.specs.Tail.{tail_scan_at, leaf_scan, one_of}
use Rattle.walk.proofs.Elements.{not_there, there}
use Rattle.walk.proofs.Scans.{listed, tail_listed, Within, tail_within}
use Rattle.mptrie.specs.MpTrie.{match_at}

-- a match behind l characters, before the matches r
abbrev pub added : Result (Option (ℕ × ℕ)) Refusal → ℕ → Result (List (ℕ × ℕ)) Refusal → Result (List (ℕ × ℕ)) Refusal
added (Ok (Some m)) l r = before (m.0, l + m.1) r
added (Ok None) l r = r
added (Err e) l r = Err e

-- a value is a match that takes nothing more
abbrev here : Result (Option ℕ) Refusal → Result (Option (ℕ × ℕ)) Refusal
here s = go_on None s (λ v. Ok (Some (v, 0)))

added_listed : (a : Result (Option (ℕ × ℕ)) Refusal) (l : ℕ) → added a l (Ok []) ≡ listed l a
added_listed (Ok (Some m)) l = refl
added_listed (Ok None) l = refl
added_listed (Err e) l = refl

added_here : (s : Result (Option ℕ) Refusal) (l : ℕ) (r : Result (List (ℕ × ℕ)) Refusal) → added (here s) l r ≡ report s l r
added_here (Ok (Some v)) l r = ap (λ (k : ℕ). before (v, k) r) (omega arith)
added_here (Ok None) l r = refl
added_here (Err e) l r = refl

here_within : (s : Result (Option ℕ) Refusal) (n : ℕ) → Within n (here s)
here_within (Ok (Some v)) n = omega arith
here_within (Ok None) n = tt
here_within (Err e) n = tt

module _ (f : ℕ → Option ℕ) (base check tails : List ℕ) (cw vw : ℕ) (d : ℕ) (q : List ℕ) where
  pub within : Within (length q) (match_at f base check tails cw vw d q)
  unfolding leaf_scan
  within = by (nat_lt d (elems base check)) (leaf base d)
    where
      by : (b k : Bool)
          → Within (length q) (if b then (if k then one_of (leaf_scan f base tails cw vw d 0 q) else here (settle_end base check (elems base check) d)) else Err Outside)
      by true true = tail_within f cw vw (drop (base_of base d) tails) q
      by true false = here_within _ _
      by false k = tt

  -- the search at d, by the match there; r is what the search finds from d on, nothing at a leaf
  pub arrives : (l : ℕ) (r : Result (List (ℕ × ℕ)) Refusal) → nat_lt d (elems base check) ≡ true → (leaf base d ≡ true → r ≡ Ok [])
      → (if leaf base d then leaf_scan f base tails cw vw d l q else report (settle_end base check (elems base check) d) l r) ≡ added (match_at f base check tails cw vw d q) l r
  unfolding leaf_scan
  arrives l r i e = by (leaf base d) refl
    where
      by : (b : Bool) → leaf base d ≡ b
          → (if leaf base d then leaf_scan f base tails cw vw d l q else report (settle_end base check (elems base check) d) l r) ≡ added (match_at f base check tails cw vw d q) l r
      by true k = rw (i, k, e k) (tail_listed f cw vw l (drop (base_of base d) tails) q ∙ sym (added_listed _ l))
      by false k = rw (i, k) (sym (added_here _ l r))

  -- ---- what the code sees

  pub outside : element base check d ≡ None → Err Outside ≡ match_at f base check tails cw vw d q
  outside e = rw (not_there base check d e) refl

  module _ (node : Node) (e : element base check d ≡ Some node) where
    inside : (nat_lt d (elems base check) ≡ true) × (node.base ≡ get_or base d 0) × (node.check ≡ get_or check d 0)
    inside = there base check d node e

    leaf_is : (b : Bool) → top node.base ≡ b → leaf base d ≡ b
    unfolding leaf
    leaf_is b t = ap top (sym inside.1) ∙ t

    pub in_tail : top node.base ≡ true → (pos : ℕ) → pos ≡ offset node.base → (x : Result (Option (ℕ × ℕ)) Refusal) → x ≡ one_of (tail_scan_at f cw vw (drop pos tails) 0 q)
        → x ≡ match_at f base check tails cw vw d q
    unfolding leaf_scan base_of
    in_tail l pos at x v = v ∙ ap (λ (n : ℕ). one_of (tail_scan_at f cw vw (drop n tails) 0 q)) (at ∙ ap offset inside.1) ∙ sym (rw (inside.0, leaf_is true l) refl)

    module _ (l : top node.base ≡ false) where
      by_value : (s : Result (Option ℕ) Refusal) → s ≡ end_value base (elems base check) node.base node.check → here s ≡ match_at f base check tails cw vw d q
      by_value s v = ap here (v ∙ ap₂ (end_value base (elems base check)) inside.1 inside.2) ∙ sym (rw (inside.0, leaf_is false l) refl)

      pub matched : (v : ℕ) → Ok (Some v) ≡ end_value base (elems base check) node.base node.check → Ok (Some (v, 0)) ≡ match_at f base check tails cw vw d q
      matched v w = by_value _ w

      pub none : Ok None ≡ end_value base (elems base check) node.base node.check → Ok None ≡ match_at f base check tails cw vw d q
      none w = by_value _ w

      pub unread : (x : Result (Option (ℕ × ℕ)) Refusal) (r : Refusal) → Err r ≡ end_value base (elems base check) node.base node.check → IsErrAnd x (λ y. y ≡ r)
          → x ≡ match_at f base check tails cw vw d q
      unread (Ok o) r v w = absurd w
      unread (Err y) r v w = ap Err w ∙ by_value _ v
