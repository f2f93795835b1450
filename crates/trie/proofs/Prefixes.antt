-- The turns of a common-prefix search: it stands at element p, i characters in, with n matches so far. Assumes nothing.
use Rattle.std.proofs.Common.{IsErrAnd, ◌≡◌, ◌∙◌, ◌+◌, ◌<◌, ◌≤◌, ℕ, List, [], Option, Some, None, Result, Ok, Err, length, get_or, set, drop, refl, sym, ap, add-one, drop-cons, drop_of_length-le}
use Rattle.node.specs.declared.Refusal.{Refusal}
use Rattle.walk.specs.Walk.{go_on, report, step, settle, scan, prefixes}
use Rattle.walk.specs.Query.{answer_of}
use Rattle.walk.proofs.Matches.{counted, counted_before, counted_none, counted_end, Written, written_as, written_whole, written_unread, written_room, written_on}

module _ (f : ℕ → Option ℕ) (base check : List ℕ) (N : ℕ) (q : List ℕ) where
  -- what a search finds from there
  abbrev pub rest : ℕ → ℕ → Result (List (ℕ × ℕ)) Refusal
  rest p i = scan f base check N p i (drop i q)

  pub all : prefixes f base check N q ≡ rest 0 0
  unfolding prefixes
  all = refl

  module _ (p i c : ℕ) (h : i < length q) (e : c ≡ get_or q i 0) where
    turn : rest p i ≡ go_on [] (step f base check N p c) (λ d. report (settle base check N d) (i + 1) (rest d (i + 1)))
    unfolding scan
    turn = rw (drop-cons q i 0 h, add-one i, e) refl

    along : (w : Result (Option ℕ) Refusal) → w ≡ step f base check N p c → rest p i ≡ go_on [] w (λ d. report (settle base check N d) (i + 1) (rest d (i + 1)))
    along w v = turn ∙ ap (λ (x : Result (Option ℕ) Refusal). go_on [] x (λ d. report (settle base check N d) (i + 1) (rest d (i + 1)))) (sym v)

    onto : (d : ℕ) (s : Result (Option ℕ) Refusal) → Ok (Some d) ≡ step f base check N p c → s ≡ settle base check N d → rest p i ≡ report s (i + 1) (rest d (i + 1))
    onto d s v w = along _ v ∙ ap (λ (x : Result (Option ℕ) Refusal). report x (i + 1) (rest d (i + 1))) (sym w)

  ends : (p i : ℕ) → length q ≤ i → rest p i ≡ Ok []
  unfolding scan
  ends p i h = rw (drop_of_length-le q h) refl

  -- ---- the count

  -- what is left, behind the n matches so far, decides as the whole does
  abbrev pub Counted : ℕ → ℕ → ℕ → Type 0
  Counted n p i = answer_of (prefixes f base check N q) ≡ counted n (rest p i)

  pub count_at_root : Counted 0 0 0
  count_at_root = ap answer_of all ∙ sym (counted_none (rest 0 0))

  module _ (n p i : ℕ) (s : Counted n p i) where
    module _ (c : ℕ) (h : i < length q) (e : c ≡ get_or q i 0) where
      -- the step leads to d, which has the value v, none, or a read outside
      pub count_matched : (d v : ℕ) → Ok (Some d) ≡ step f base check N p c → Ok (Some v) ≡ settle base check N d → Counted (n + 1) d (i + 1)
      count_matched d v w x = s ∙ ap (counted n) (onto p i c h e d _ w x) ∙ counted_before n (v, i + 1) (rest d (i + 1))

      pub count_passed : (d : ℕ) → Ok (Some d) ≡ step f base check N p c → Ok None ≡ settle base check N d → Counted n d (i + 1)
      count_passed d w x = s ∙ ap (counted n) (onto p i c h e d _ w x)

      pub count_unread : (d : ℕ) (x : Result ℕ Refusal) (r : Refusal) → Ok (Some d) ≡ step f base check N p c → Err r ≡ settle base check N d
          → IsErrAnd x (λ e. e ≡ r) → x ≡ answer_of (prefixes f base check N q)
      count_unread d (Ok m) r w y k = absurd k
      count_unread d (Err a) r w y k = ap Err k ∙ sym (s ∙ ap (counted n) (onto p i c h e d _ w y))

      -- the step leads nowhere, or outside
      pub count_missed : Ok None ≡ step f base check N p c → Ok n ≡ answer_of (prefixes f base check N q)
      count_missed w = sym (s ∙ ap (counted n) (along p i c h e _ w) ∙ counted_end n)

      pub count_left : (x : Result ℕ Refusal) (r : Refusal) → Err r ≡ step f base check N p c → IsErrAnd x (λ e. e ≡ r) → x ≡ answer_of (prefixes f base check N q)
      count_left (Ok m) r w k = absurd k
      count_left (Err a) r w k = ap Err k ∙ sym (s ∙ ap (counted n) (along p i c h e _ w))

    -- the query ends at p
    pub count_ended : length q ≤ i → Ok n ≡ answer_of (prefixes f base check N q)
    count_ended h = sym (s ∙ ap (counted n) (ends p i h) ∙ counted_end n)

  -- ---- a run of results

  -- the run xs, of which g is written, as far as the search has come
  pub record Writes (g : ℕ × ℕ → ℕ) (end : List ℕ) (n p i : ℕ) (xs : List ℕ) : Type 0 where
    pub run : Written g end n (rest p i) xs

module _ {f : ℕ → Option ℕ} {base check : List ℕ} {N : ℕ} {q : List ℕ} where
  module _ {g : ℕ × ℕ → ℕ} {end : List ℕ} {n p i : ℕ} {xs : List ℕ} (s : Writes f base check N q g end n p i xs) where
    -- the same, by the names of the next turn
    pub write_as : {n' p' : ℕ} {xs' : List ℕ} → n' ≡ n → p' ≡ p → xs' ≡ xs → Writes f base check N q g end n' p' i xs'
    write_as a b k = rw (a, b, k) s

    -- the query ends at p
    pub write_ended : length q ≤ i → xs ≡ end
    write_ended h = written_whole (written_as s.run (ends f base check N q p i h))

    module _ (h : i < length q) where
      -- the step leads nowhere; outside it cannot lead, since the matches are there
      pub write_missed : Ok None ≡ step f base check N p (get_or q i 0) → xs ≡ end
      write_missed w = written_whole (written_as s.run (along f base check N q p i _ h refl _ w))

      pub write_left : {r : Refusal} → Err r ≡ step f base check N p (get_or q i 0) → ⊥
      write_left w = written_unread (written_as s.run (along f base check N q p i _ h refl _ w))

      -- the step leads to d, which has no value, cannot be read outside, or has the value v, for which there is room
      module _ {d : ℕ} (w : Ok (Some d) ≡ step f base check N p (get_or q i 0)) where
        by_value : (x : Result (Option ℕ) Refusal) → x ≡ settle base check N d → Written g end n (report x (i + 1) (rest f base check N q d (i + 1))) xs
        by_value x e = written_as s.run (onto f base check N q p i _ h refl d _ w e)

        pub write_passed : Ok None ≡ settle base check N d → Writes f base check N q g end n d (i + 1) xs
        write_passed x = record { run = by_value (Ok None) x }

        pub write_unread : {r : Refusal} → Err r ≡ settle base check N d → ⊥
        write_unread x = written_unread (by_value (Err _) x)

        module _ {v : ℕ} (x : Ok (Some v) ≡ settle base check N d) where
          pub room : n < length xs
          room = written_room (v, i + 1) (rest f base check N q d (i + 1)) (by_value (Ok (Some v)) x)

          pub write_matched : Writes f base check N q g end (n + 1) d (i + 1) (set xs n (g (v, i + 1)))
          write_matched = record { run = written_on (v, i + 1) (rest f base check N q d (i + 1)) (by_value (Ok (Some v)) x) }
