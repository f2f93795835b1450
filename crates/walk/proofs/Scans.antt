-- A tail against the start of what is left of a query: by what the code sees, and from any length on. Assumes nothing.
use Rattle.std.proofs.Common.{if◌then◌else◌, ◌≡◌, ◌≢◌, ◌∙◌, ◌+◌, ◌-◌, ◌≤◌, ◌==◌, ℕ, zero, suc, List, [], ◌∷◌, Option, Some, None, Result, Ok, Err, Bool, true, false, length, get_or, take, drop, refl, sym, ap, arith, add-one, eq-eqb}
use Rattle.std.proofs.lemmas.List.{take_rest}
use Rattle.std.proofs.lemmas.Bool.{ne_eqb}
use Rattle.node.specs.declared.Refusal.{Refusal}
use Rattle.node.specs.declared.Refusal.TheVariants.{Outside}
use Rattle.utils.specs.Packed.{unpacked, readable, unpack_answer}
use Rattle.walk.specs.Walk.{go_on}
use Rattle.walk.specs.Tail.{tail_scan, tail_scan_at, one_of}
use Rattle.walk.proofs.Tails.{read_none, read_some}

module _ (f : ℕ → Option ℕ) (cw vw : ℕ) where
  -- ---- the turns

  module _ (t : List ℕ) (n l : ℕ) (q : List ℕ) where
    module _ (none : n ≡ 0) where
      pub no_code_left : (v m : ℕ) → unpack_answer t vw ≡ Some v → m ≡ l → Ok (Some (v, m)) ≡ one_of (tail_scan f cw vw t n l q)
      unfolding tail_scan
      no_code_left v m e k = let r = read_some t vw v e in rw (none, r.0, r.1, k) refl

      pub unread_value : unpack_answer t vw ≡ None → Err Outside ≡ one_of (tail_scan f cw vw t n l q)
      unfolding tail_scan
      unread_value e = rw (none, read_none t vw e) refl

    module _ (more : n ≢ 0) where
      left : n ≡ suc (n - 1)
      left = omega arith

      pub unread : unpack_answer t cw ≡ None → Err Outside ≡ one_of (tail_scan f cw vw t n l q)
      unfolding tail_scan
      unread e = by q
        where
          by : (q : List ℕ) → Err Outside ≡ one_of (tail_scan f cw vw t n l q)
          by [] = rw (left, read_none t cw e) refl
          by (c ∷ q) = rw (left, read_none t cw e) refl

      module _ (code : ℕ) (read : unpack_answer t cw ≡ Some code) where
        pub ends : length q ≡ 0 → Ok None ≡ one_of (tail_scan f cw vw t n l q)
        unfolding tail_scan
        ends h = by q h
          where
            by : (q : List ℕ) → length q ≡ 0 → Ok None ≡ one_of (tail_scan f cw vw t n l q)
            by [] h = rw (left, (read_some t cw code read).0) refl
            by (c ∷ q) h = absurd (omega arith)

        module _ (go : length q ≢ 0) where
          abbrev next : ℕ → Result (List (ℕ × ℕ)) Refusal
          next x = if x == code then tail_scan f cw vw (drop cw t) (n - 1) (l + 1) (drop 1 q) else Ok []

          -- by the code of the query's next character
          by_code : tail_scan f cw vw t n l q ≡ go_on [] (Ok (f (get_or q 0 0))) next
          unfolding tail_scan
          by_code = by q go
            where
              by : (q : List ℕ) → length q ≢ 0
                  → tail_scan f cw vw t n l q ≡ go_on [] (Ok (f (get_or q 0 0))) (λ x. if x == code then tail_scan f cw vw (drop cw t) (n - 1) (l + 1) (drop 1 q) else Ok [])
              by [] g = absurd (g refl)
              by (c ∷ q) g =
                  let r = read_some t cw code read in
                  ap (λ (m : ℕ). tail_scan f cw vw t m l (c ∷ q)) left ∙ rw (r.0, r.1, add-one l) refl

          by_known : (o : Option ℕ) → f (get_or q 0 0) ≡ o → tail_scan f cw vw t n l q ≡ go_on [] (Ok o) next
          by_known o e = by_code ∙ ap (λ (o : Option ℕ). go_on [] (Ok o) next) e

          pub unknown : f (get_or q 0 0) ≡ None → Ok None ≡ one_of (tail_scan f cw vw t n l q)
          unknown e = sym (ap one_of (by_known _ e))

          module _ (x : ℕ) (known : f (get_or q 0 0) ≡ Some x) where
            by_test : (b : Bool) → (x == code) ≡ b → tail_scan f cw vw t n l q ≡ (if b then tail_scan f cw vw (drop cw t) (n - 1) (l + 1) (drop 1 q) else Ok [])
            by_test b e = by_known _ known ∙ rw e refl

            pub differs : x ≢ code → Ok None ≡ one_of (tail_scan f cw vw t n l q)
            differs d = sym (ap one_of (by_test false (ne_eqb x code d)))

            pub alike : x ≡ code → (y : Result (Option (ℕ × ℕ)) Refusal)
                → y ≡ one_of (tail_scan f cw vw (take (length t - cw) (drop cw t)) (n - 1) (l + 1) (take (length q - 1) (drop 1 q))) → y ≡ one_of (tail_scan f cw vw t n l q)
            alike d y e =
                e ∙ ap (λ (r : List ℕ). one_of (tail_scan f cw vw r (n - 1) (l + 1) (take (length q - 1) (drop 1 q)))) (take_rest t cw)
                ∙ ap (λ (r : List ℕ). one_of (tail_scan f cw vw (drop cw t) (n - 1) (l + 1) r)) (take_rest q 1) ∙ sym (ap one_of (by_test true (eq-eqb x code d)))

-- ---- the list, by its match

-- the list behind l characters
abbrev pub listed : ℕ → Result (Option (ℕ × ℕ)) Refusal → Result (List (ℕ × ℕ)) Refusal
listed l (Ok None) = Ok []
listed l (Ok (Some m)) = Ok ((m.0, l + m.1) ∷ [])
listed l (Err r) = Err r

-- the match, if any, takes no more than there is
abbrev pub Within : ℕ → Result (Option (ℕ × ℕ)) Refusal → Type 0
Within n (Ok None) = Unit {0}
Within n (Ok (Some m)) = m.1 ≤ n
Within n (Err r) = Unit {0}

module _ (f : ℕ → Option ℕ) (cw vw : ℕ) (l : ℕ) where
  scan_listed : (t : List ℕ) (n k : ℕ) (q : List ℕ) → tail_scan f cw vw t n (l + k) q ≡ listed l (one_of (tail_scan f cw vw t n k q))
  unfolding tail_scan
  scan_listed t zero k q = by (readable t vw)
    where
      by : (b : Bool) → (if b then Ok ((unpacked t vw, l + k) ∷ []) else Err Outside) ≡ listed l (one_of (if b then Ok ((unpacked t vw, k) ∷ []) else Err Outside))
      by true = refl
      by false = refl
  scan_listed t (suc n) k [] = by (readable t cw)
    where
      by : (b : Bool) → (if b then Ok [] else Err Outside) ≡ listed l (one_of (if b then Ok [] else Err Outside))
      by true = refl
      by false = refl
  scan_listed t (suc n) k (c ∷ q) = by (let same : suc (l + k) ≡ l + suc k = omega arith in rw same (scan_listed (drop cw t) n (suc k) q)) (readable t cw)
    where
      Later : Type 0
      Later = tail_scan f cw vw (drop cw t) n (suc (l + k)) q ≡ listed l (one_of (tail_scan f cw vw (drop cw t) n (suc k) q))

      more : Later → (b : Bool) → (if b then tail_scan f cw vw (drop cw t) n (suc (l + k)) q else Ok []) ≡ listed l (one_of (if b then tail_scan f cw vw (drop cw t) n (suc k) q else Ok []))
      more h true = h
      more h false = refl

      coded : Later → (o : Option ℕ)
          → go_on [] (Ok o) (λ x. if x == unpacked t cw then tail_scan f cw vw (drop cw t) n (suc (l + k)) q else Ok [])
          ≡ listed l (one_of (go_on [] (Ok o) (λ x. if x == unpacked t cw then tail_scan f cw vw (drop cw t) n (suc k) q else Ok [])))
      coded h None = refl
      coded h (Some x) = more h (x == unpacked t cw)

      by : Later → (b : Bool)
          → (if b then go_on [] (Ok (f c)) (λ x. if x == unpacked t cw then tail_scan f cw vw (drop cw t) n (suc (l + k)) q else Ok []) else Err Outside)
          ≡ listed l (one_of (if b then go_on [] (Ok (f c)) (λ x. if x == unpacked t cw then tail_scan f cw vw (drop cw t) n (suc k) q else Ok []) else Err Outside))
      by h true = coded h (f c)
      by h false = refl

  pub tail_listed : (t q : List ℕ) → tail_scan_at f cw vw t l q ≡ listed l (one_of (tail_scan_at f cw vw t 0 q))
  unfolding tail_scan_at
  tail_listed [] q = refl
  tail_listed (n ∷ t) q = let same : l ≡ l + 0 = omega arith in ap (λ (k : ℕ). tail_scan f cw vw t n k q) same ∙ scan_listed t n 0 q

module _ (f : ℕ → Option ℕ) (cw vw : ℕ) where
  scan_within : (t : List ℕ) (n k m : ℕ) (q : List ℕ) → k + length q ≤ m → Within m (one_of (tail_scan f cw vw t n k q))
  unfolding tail_scan
  scan_within t zero k m q h = by (readable t vw)
    where
      by : (b : Bool) → Within m (one_of (if b then Ok ((unpacked t vw, k) ∷ []) else Err Outside))
      by true = omega arith
      by false = tt
  scan_within t (suc n) k m [] h = by (readable t cw)
    where
      by : (b : Bool) → Within m (one_of (if b then Ok [] else Err Outside))
      by true = tt
      by false = tt
  scan_within t (suc n) k m (c ∷ q) h = by (scan_within (drop cw t) n (suc k) m q (omega arith)) (readable t cw)
    where
      Later : Type 0
      Later = Within m (one_of (tail_scan f cw vw (drop cw t) n (suc k) q))

      more : Later → (b : Bool) → Within m (one_of (if b then tail_scan f cw vw (drop cw t) n (suc k) q else Ok []))
      more h true = h
      more h false = tt

      coded : Later → (o : Option ℕ) → Within m (one_of (go_on [] (Ok o) (λ x. if x == unpacked t cw then tail_scan f cw vw (drop cw t) n (suc k) q else Ok [])))
      coded h None = tt
      coded h (Some x) = more h (x == unpacked t cw)

      by : Later → (b : Bool) → Within m (one_of (if b then go_on [] (Ok (f c)) (λ x. if x == unpacked t cw then tail_scan f cw vw (drop cw t) n (suc k) q else Ok []) else Err Outside))
      by h true = coded h (f c)
      by h false = tt

  pub tail_within : (t q : List ℕ) → Within (length q) (one_of (tail_scan_at f cw vw t 0 q))
  unfolding tail_scan_at
  tail_within [] q = tt
  tail_within (n ∷ t) q = scan_within t n 0 (length q) q (omega arith)
