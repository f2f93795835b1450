-- The minimal-prefix walk: it stops at a leaf, and the rest of the query is held against the leaf's tail, read by read as src/mptrie.rs and its `TailIter` do
-- it. cw and vw are the widths of a code and of a value. Assumes nothing.
use Rattle.std.specs.Prelude.{if◌then◌else◌, List, [], ◌∷◌, ℕ, zero, suc, Option, Some, None, Result, Ok, Err, drop, nat_lt, ◌==◌}
use Rattle.node.specs.Element.{base_of, leaf}
use Rattle.node.specs.declared.Refusal.{Refusal}
use Rattle.node.specs.declared.Refusal.TheVariants.{Outside}
use Rattle.utils.specs.Packed.{unpacked, readable}
use Rattle.walk.specs.Walk.{go_on, step, settle_end, report}

-- the value behind the codes of a tail, if the query ends there; it is not read otherwise
abbrev pub tail_value : ℕ → List ℕ → List ℕ → Result (Option ℕ) Refusal
tail_value vw t [] = if readable t vw then Ok (Some (unpacked t vw)) else Err Outside
tail_value vw t (c ∷ q) = Ok None

-- the rest of a query against the n codes at the start of t. A code is read before the query's next character.
unfoldable pub tail_match : (ℕ → Option ℕ) → ℕ → ℕ → List ℕ → ℕ → List ℕ → Result (Option ℕ) Refusal
tail_match f cw vw t zero q = tail_value vw t q
tail_match f cw vw t (suc n) [] = if readable t cw then Ok None else Err Outside
tail_match f cw vw t (suc n) (c ∷ q) =
    if readable t cw then go_on None (Ok (f c)) (λ x. if x == unpacked t cw then tail_match f cw vw (drop cw t) n q else Ok None) else Err Outside

-- "a tail is handed on as the part of the tail bytes that starts at its position": its length byte comes first
unfoldable pub tail_at : (ℕ → Option ℕ) → ℕ → ℕ → List ℕ → List ℕ → Result (Option ℕ) Refusal
tail_at f cw vw [] q = Err Outside
tail_at f cw vw (n ∷ t) q = tail_match f cw vw t n q

-- the rest of a query at a leaf
unfoldable pub settle_tail : (ℕ → Option ℕ) → List ℕ → List ℕ → ℕ → ℕ → ℕ → List ℕ → Result (Option ℕ) Refusal
settle_tail f base tails cw vw e q = tail_at f cw vw (drop (base_of base e) tails) q

-- the loop of `MpTrie::exact_match` from p: element p is read before the query's next character, and at a leaf the rest of the query is held against its tail
unfoldable pub stroll : (ℕ → Option ℕ) → List ℕ → List ℕ → List ℕ → ℕ → ℕ → ℕ → ℕ → List ℕ → Result (Option ℕ) Refusal
stroll f base check tails cw vw N p [] =
    if nat_lt p N then (if leaf base p then settle_tail f base tails cw vw p [] else settle_end base check N p) else Err Outside
stroll f base check tails cw vw N p (c ∷ q) =
    if nat_lt p N then
    (if leaf base p then settle_tail f base tails cw vw p (c ∷ q)
    else go_on None (step f base check N p c) (λ d. stroll f base check tails cw vw N d q))
    else Err Outside

-- `MpTrie::exact_match`
unfoldable pub exact_mp : (ℕ → Option ℕ) → List ℕ → List ℕ → List ℕ → ℕ → ℕ → ℕ → List ℕ → Result (Option ℕ) Refusal
exact_mp f base check tails cw vw N q = stroll f base check tails cw vw N 0 q

-- the n codes at the start of t against what follows in the query: one match, at the length l, or none. The value is read whenever the codes are passed.
unfoldable pub tail_scan : (ℕ → Option ℕ) → ℕ → ℕ → List ℕ → ℕ → ℕ → List ℕ → Result (List (ℕ × ℕ)) Refusal
tail_scan f cw vw t zero l q = if readable t vw then Ok ((unpacked t vw, l) ∷ []) else Err Outside
tail_scan f cw vw t (suc n) l [] = if readable t cw then Ok [] else Err Outside
tail_scan f cw vw t (suc n) l (c ∷ q) =
    if readable t cw then go_on [] (Ok (f c)) (λ x. if x == unpacked t cw then tail_scan f cw vw (drop cw t) n (suc l) q else Ok []) else Err Outside

unfoldable pub tail_scan_at : (ℕ → Option ℕ) → ℕ → ℕ → List ℕ → ℕ → List ℕ → Result (List (ℕ × ℕ)) Refusal
tail_scan_at f cw vw [] l q = Err Outside
tail_scan_at f cw vw (n ∷ t) l q = tail_scan f cw vw t n l q

-- the match of a list of at most one
abbrev pub one_of : Result (List (ℕ × ℕ)) Refusal → Result (Option (ℕ × ℕ)) Refusal
one_of (Ok []) = Ok None
one_of (Ok (m ∷ l)) = Ok (Some m)
one_of (Err r) = Err r

-- a leaf's tail against what follows in the query
unfoldable pub leaf_scan : (ℕ → Option ℕ) → List ℕ → List ℕ → ℕ → ℕ → ℕ → ℕ → List ℕ → Result (List (ℕ × ℕ)) Refusal
leaf_scan f base tails cw vw e l q = tail_scan_at f cw vw (drop (base_of base e) tails) l q

-- `CommonPrefixSearchIter` of src/mptrie.rs, from element p, n characters in
unfoldable pub scan_mp : (ℕ → Option ℕ) → List ℕ → List ℕ → List ℕ → ℕ → ℕ → ℕ → ℕ → ℕ → List ℕ → Result (List (ℕ × ℕ)) Refusal
scan_mp f base check tails cw vw N p n [] = Ok []
scan_mp f base check tails cw vw N p n (c ∷ q) =
    go_on [] (step f base check N p c) (λ d.
    if leaf base d then leaf_scan f base tails cw vw d (suc n) q
    else report (settle_end base check N d) (suc n) (scan_mp f base check tails cw vw N d (suc n) q))

-- `MpTrie::common_prefix_search`
unfoldable pub prefixes_mp : (ℕ → Option ℕ) → List ℕ → List ℕ → List ℕ → ℕ → ℕ → ℕ → List ℕ → Result (List (ℕ × ℕ)) Refusal
prefixes_mp f base check tails cw vw N q = scan_mp f base check tails cw vw N 0 0 q
