-- The turns of a common-prefix search of the minimal-prefix form: it stands at element p, i characters in, with n matches so far. Assumes nothing.
use Rattle.std.proofs.Common.{IsErrAnd, true, if◌then◌else◌, ◌≡◌, ◌∙◌, ◌+◌, ◌-◌, ◌<◌, ◌≤◌, ℕ, suc, List, [], ◌∷◌, Option, Some, None, Result, Ok, Err, length, length-drop, get_or, set, subst, take, drop, nat_lt, refl, sym, ap, arith, add-one, drop-cons, drop_of_length-le}
use Rattle.std.proofs.lemmas.List.{take_rest}
use Rattle.node.specs.declared.Refusal.{Refusal}
use Rattle.node.specs.Element.{leaf}
use Rattle.walk.specs.Walk.{elems, go_on, report, child, step, settle_end}
use Rattle.walk.specs.Tail.{leaf_scan, scan_mp, prefixes_mp}
use Rattle.walk.specs.Query.{answer_of}
use Rattle.walk.proofs.Elements.{leads_inside}
use Rattle.walk.proofs.Matches.{counted, counted_before, counted_none, counted_end, Written, written_as, written_whole, written_unread, written_room, written_on}
use Rattle.walk.proofs.Scans.{Within}
use Rattle.mptrie.specs.MpTrie.{match_at}
use Rattle.mptrie.proofs.Arrival.{added, arrives, within}

module _ (f : ℕ → Option ℕ) (base check tails : List ℕ) (cw vw : ℕ) (q : List ℕ) where
  -- what a search finds from there
  abbrev pub rest : ℕ → ℕ → Result (List (ℕ × ℕ)) Refusal
  rest p i = scan_mp f base check tails cw vw (elems base check) p i (drop i q)

  -- what is left of the query, as the code has it
  abbrev pub behind : ℕ → List ℕ
  behind i = take (length q - i) (drop i q)

  pub all : prefixes_mp f base check tails cw vw (elems base check) q ≡ rest 0 0
  unfolding prefixes_mp
  all = refl

  pub ends : (p i : ℕ) → length q ≤ i → rest p i ≡ Ok []
  unfolding scan_mp
  ends p i h = rw (drop_of_length-le q h) refl

  -- from a leaf no step leads on
  past_leaf : (d i : ℕ) (r : List ℕ) → nat_lt d (elems base check) ≡ true → leaf base d ≡ true → scan_mp f base check tails cw vw (elems base check) d i r ≡ Ok []
  unfolding scan_mp child
  past_leaf d i [] h l = refl
  past_leaf d i (c ∷ r) h l = by (f c)
    where
      by : (o : Option ℕ)
          → go_on [] (go_on None (Ok o) (child base check (elems base check) d))
          (λ e.
          if leaf base e then leaf_scan f base tails cw vw e (suc i) r
          else report (settle_end base check (elems base check) e) (suc i) (scan_mp f base check tails cw vw (elems base check) e (suc i) r))
          ≡ Ok []
      by None = refl
      by (Some x) = rw (h, l) refl

  module _ (p i c : ℕ) (h : i < length q) (e : c ≡ get_or q i 0) where
    abbrev onto : ℕ → Result (List (ℕ × ℕ)) Refusal
    onto d = if leaf base d then leaf_scan f base tails cw vw d (i + 1) (drop (i + 1) q) else report (settle_end base check (elems base check) d) (i + 1) (rest d (i + 1))

    turn_to : (k : ℕ) (r : List ℕ) → k ≡ suc i → scan_mp f base check tails cw vw (elems base check) p i (c ∷ r)
        ≡ go_on [] (step f base check (elems base check) p c)
        (λ d. if leaf base d then leaf_scan f base tails cw vw d k r else report (settle_end base check (elems base check) d) k (scan_mp f base check tails cw vw (elems base check) d k r))
    unfolding scan_mp
    turn_to k r e = rw e refl

    turn : rest p i ≡ go_on [] (step f base check (elems base check) p c) onto
    turn =
        let head : drop i q ≡ c ∷ drop (i + 1) q = rw (drop-cons q i 0 h, add-one i, e) refl in
        ap (scan_mp f base check tails cw vw (elems base check) p i) head ∙ turn_to (i + 1) (drop (i + 1) q) (add-one i)

    pub along : (w : Result (Option ℕ) Refusal) → w ≡ step f base check (elems base check) p c → rest p i ≡ go_on [] w onto
    along w v = turn ∙ ap (λ (x : Result (Option ℕ) Refusal). go_on [] x onto) (sym v)

    pub reaches : (d : ℕ) (m : Result (Option (ℕ × ℕ)) Refusal) → Ok (Some d) ≡ step f base check (elems base check) p c
        → m ≡ match_at f base check tails cw vw d (behind (i + 1)) → rest p i ≡ added m (i + 1) (rest d (i + 1))
    reaches d m v w =
        let inner : nat_lt d (elems base check) ≡ true = leads_inside f base check (elems base check) p c d v in
        along _ v ∙ arrives f base check tails cw vw d (drop (i + 1) q) (i + 1) (rest d (i + 1)) inner (past_leaf d (i + 1) (drop (i + 1) q) inner)
        ∙ ap (λ (x : Result (Option (ℕ × ℕ)) Refusal). added x (i + 1) (rest d (i + 1))) (sym (w ∙ ap (match_at f base check tails cw vw d) (take_rest q (i + 1))))

  -- ---- the count

  -- what is left, behind the n matches so far, decides as the whole does
  abbrev pub Counted : ℕ → ℕ → ℕ → Type 0
  Counted n p i = answer_of (prefixes_mp f base check tails cw vw (elems base check) q) ≡ counted n (rest p i)

  pub count_at_root : Counted 0 0 0
  count_at_root = ap answer_of all ∙ sym (counted_none (rest 0 0))

  module _ (n p i : ℕ) (s : Counted n p i) where
    module _ (c : ℕ) (h : i < length q) (e : c ≡ get_or q i 0) where
      -- the step leads to d, where a match is, none, or a read outside
      pub count_matched : (d : ℕ) (m : ℕ × ℕ) → Ok (Some d) ≡ step f base check (elems base check) p c
          → Ok (Some m) ≡ match_at f base check tails cw vw d (behind (i + 1)) → Counted (n + 1) d (i + 1)
      count_matched d m v w = s ∙ ap (counted n) (reaches p i c h e d _ v w) ∙ counted_before n (m.0, i + 1 + m.1) (rest d (i + 1))

      pub count_passed : (d : ℕ) → Ok (Some d) ≡ step f base check (elems base check) p c
          → Ok None ≡ match_at f base check tails cw vw d (behind (i + 1)) → Counted n d (i + 1)
      count_passed d v w = s ∙ ap (counted n) (reaches p i c h e d _ v w)

      pub count_unread : (d : ℕ) (x : Result ℕ Refusal) (r : Refusal) → Ok (Some d) ≡ step f base check (elems base check) p c
          → Err r ≡ match_at f base check tails cw vw d (behind (i + 1)) → IsErrAnd x (λ y. y ≡ r) → x ≡ answer_of (prefixes_mp f base check tails cw vw (elems base check) q)
      count_unread d (Ok m) r v w k = absurd k
      count_unread d (Err a) r v w k = ap Err k ∙ sym (s ∙ ap (counted n) (reaches p i c h e d _ v w))

      -- the step leads nowhere, or outside
      pub count_missed : Ok None ≡ step f base check (elems base check) p c → Ok n ≡ answer_of (prefixes_mp f base check tails cw vw (elems base check) q)
      count_missed v = sym (s ∙ ap (counted n) (along p i c h e _ v) ∙ counted_end n)

      pub count_left : (x : Result ℕ Refusal) (r : Refusal) → Err r ≡ step f base check (elems base check) p c → IsErrAnd x (λ y. y ≡ r)
          → x ≡ answer_of (prefixes_mp f base check tails cw vw (elems base check) q)
      count_left (Ok m) r v k = absurd k
      count_left (Err a) r v k = ap Err k ∙ sym (s ∙ ap (counted n) (along p i c h e _ v))

    -- the query ends at p
    pub count_ended : length q ≤ i → Ok n ≡ answer_of (prefixes_mp f base check tails cw vw (elems base check) q)
    count_ended h = sym (s ∙ ap (counted n) (ends p i h) ∙ counted_end n)

  -- ---- a run of results

  -- the run xs, of which g is written, as far as the search has come
  pub record Writes (g : ℕ × ℕ → ℕ) (end : List ℕ) (n p i : ℕ) (xs : List ℕ) : Type 0 where
    pub run : Written g end n (rest p i) xs

module _ {f : ℕ → Option ℕ} {base check tails : List ℕ} {cw vw : ℕ} {q : List ℕ} where
  module _ {g : ℕ × ℕ → ℕ} {end : List ℕ} {n p i : ℕ} {xs : List ℕ} (s : Writes f base check tails cw vw q g end n p i xs) where
    -- the same, by the names of the next turn
    pub write_as : {n' p' : ℕ} {xs' : List ℕ} → n' ≡ n → p' ≡ p → xs' ≡ xs → Writes f base check tails cw vw q g end n' p' i xs'
    write_as a b k = rw (a, b, k) s

    -- the query ends at p
    pub write_ended : length q ≤ i → xs ≡ end
    write_ended h = written_whole (written_as s.run (ends f base check tails cw vw q p i h))

    module _ (h : i < length q) where
      -- the step leads nowhere; outside it cannot lead, since the matches are there
      pub write_missed : Ok None ≡ step f base check (elems base check) p (get_or q i 0) → xs ≡ end
      write_missed v = written_whole (written_as s.run (along f base check tails cw vw q p i _ h refl _ v))

      pub write_left : {r : Refusal} → Err r ≡ step f base check (elems base check) p (get_or q i 0) → ⊥
      write_left v = written_unread (written_as s.run (along f base check tails cw vw q p i _ h refl _ v))

      -- the step leads to d, where no match is, no read outside can be, or a match is, for which there is room
      module _ {d : ℕ} (v : Ok (Some d) ≡ step f base check (elems base check) p (get_or q i 0)) where
        by_match : (m : Result (Option (ℕ × ℕ)) Refusal) → m ≡ match_at f base check tails cw vw d (behind f base check tails cw vw q (i + 1))
            → Written g end n (added m (i + 1) (rest f base check tails cw vw q d (i + 1))) xs
        by_match m w = written_as s.run (reaches f base check tails cw vw q p i _ h refl d _ v w)

        pub write_passed : Ok None ≡ match_at f base check tails cw vw d (behind f base check tails cw vw q (i + 1)) → Writes f base check tails cw vw q g end n d (i + 1) xs
        write_passed w = record { run = by_match (Ok None) w }

        pub write_unread : {r : Refusal} → Err r ≡ match_at f base check tails cw vw d (behind f base check tails cw vw q (i + 1)) → ⊥
        write_unread w = written_unread (by_match (Err _) w)

        module _ {m : ℕ × ℕ} (w : Ok (Some m) ≡ match_at f base check tails cw vw d (behind f base check tails cw vw q (i + 1))) where
          pub room : n < length xs
          room = written_room (m.0, i + 1 + m.1) (rest f base check tails cw vw q d (i + 1)) (by_match (Ok (Some m)) w)

          pub write_matched : Writes f base check tails cw vw q g end (n + 1) d (i + 1) (set xs n (g (m.0, i + 1 + m.1)))
          write_matched = record { run = written_on (m.0, i + 1 + m.1) (rest f base check tails cw vw q d (i + 1)) (by_match (Ok (Some m)) w) }

-- a match's length is within the query
module _ (f : ℕ → Option ℕ) (base check tails : List ℕ) (cw vw : ℕ) (q : List ℕ) (i d : ℕ) (m : ℕ × ℕ) where
  pub reach : i < length q → Ok (Some m) ≡ match_at f base check tails cw vw d (take (length q - (i + 1)) (drop (i + 1) q)) → i + 1 + m.1 ≤ length q
  reach h w =
      let most : m.1 ≤ length (take (length q - (i + 1)) (drop (i + 1) q)) = subst (Within _) (sym w) (within f base check tails cw vw d _) in
      let left : length (take (length q - (i + 1)) (drop (i + 1) q)) ≡ length q - (i + 1) = ap length (take_rest q (i + 1)) ∙ length-drop (i + 1) q in
      omega arith
