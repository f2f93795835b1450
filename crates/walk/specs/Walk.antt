-- The walk of a query down the elements, read by read as src/trie.rs and src/mptrie.rs do it, over how a code is found (f). N is how many elements are lent:
-- the length of the shorter of base and check. Assumes nothing.
use Rattle.std.specs.Prelude.{if◌then◌else◌, List, [], ◌∷◌, ℕ, suc, min, Option, Some, None, Result, Ok, Err, length, slice_index, count_by, nat_lt, ◌==◌}
use Rattle.std.specs.List.{zip}
use Rattle.std.specs.Int.Bits.{bit_xor}
use Rattle.node.specs.Constants.{end_code}
use Rattle.node.specs.Element.{offset, top, base_of, parent, leaf, vacant_pair}
use Rattle.node.specs.declared.Node.{Node}
use Rattle.node.specs.declared.Refusal.{Refusal}
use Rattle.node.specs.declared.Refusal.TheVariants.{Outside}

-- "to a query or writer N is the length of the shorter run"
abbrev pub elems : List ℕ → List ℕ → ℕ
elems base check = min (length base) (length check)

-- element e, if it is inside both runs
abbrev pub element : List ℕ → List ℕ → ℕ → Option Node
element base check e = if nat_lt e (elems base check) then Some (record { base = slice_index base e; check = slice_index check e }) else None

-- how many elements have base and check `OFFSET_MASK`, element 0 among them, as the Rust counts
abbrev pub vacants : List ℕ → List ℕ → ℕ
vacants base check = count_by (λ (e : ℕ × ℕ). vacant_pair e.0 e.1) (zip base check)

-- What a step, a walk or a read comes to: `Ok (Some x)`, x is there; `Ok None`, nothing is; `Err Outside`, it would read outside what is lent.
-- Go on from what is there. Where nothing is, the answer is `none`.
abbrev pub go_on : {A B : Type 0} → B → Result (Option A) Refusal → (A → Result B Refusal) → Result B Refusal
go_on none (Ok (Some a)) k = k a
go_on none (Ok None) k = Ok none
go_on none (Err r) k = Err r

-- `get_child_idx`: element p is read first, and a leaf has no child; then the check of the element that its base and the code c name
unfoldable pub child : List ℕ → List ℕ → ℕ → ℕ → ℕ → Result (Option ℕ) Refusal
child base check N p c =
    let d : ℕ = bit_xor (base_of base p) c in
    if nat_lt p N then (if leaf base p then Ok None else if nat_lt d N then (if parent check d == p then Ok (Some d) else Ok None) else Err Outside) else Err Outside

-- the step from p by the character c: a character without a code is a miss, before any element is read
abbrev pub step : (ℕ → Option ℕ) → List ℕ → List ℕ → ℕ → ℕ → ℕ → Result (Option ℕ) Refusal
step f base check N p c = go_on None (Ok (f c)) (child base check N p)

-- the walk of the plain form from p by the characters of a query: the element where it ends
unfoldable pub walk : (ℕ → Option ℕ) → List ℕ → List ℕ → ℕ → ℕ → List ℕ → Result (Option ℕ) Refusal
walk f base check N p [] = Ok (Some p)
walk f base check N p (c ∷ q) = go_on None (step f base check N p c) (λ d. walk f base check N d q)

-- the leaf by code 0 of an element with the numbers b and c, where c says that there is one: its `get_value`
unfoldable pub end_value : List ℕ → ℕ → ℕ → ℕ → Result (Option ℕ) Refusal
end_value base N b c =
    let l : ℕ = bit_xor (offset b) end_code in
    if top c then (if nat_lt l N then Ok (Some (base_of base l)) else Err Outside) else Ok None

-- that of element e
abbrev pub settle_end : List ℕ → List ℕ → ℕ → ℕ → Result (Option ℕ) Refusal
settle_end base check N e = end_value base N (slice_index base e) (slice_index check e)

-- the end of a walk of the plain form: a leaf's value, that of the leaf by code 0, or none
unfoldable pub settle : List ℕ → List ℕ → ℕ → ℕ → Result (Option ℕ) Refusal
settle base check N e = if nat_lt e N then (if leaf base e then Ok (Some (base_of base e)) else settle_end base check N e) else Err Outside

-- `Trie::exact_match`
unfoldable pub exact : (ℕ → Option ℕ) → List ℕ → List ℕ → ℕ → List ℕ → Result (Option ℕ) Refusal
exact f base check N q = go_on None (walk f base check N 0 q) (settle base check N)

-- ---- the matches of a common-prefix search, as (value, length), up to the iterator's first `None`

-- one match before the others
abbrev pub before : ℕ × ℕ → Result (List (ℕ × ℕ)) Refusal → Result (List (ℕ × ℕ)) Refusal
before m (Ok l) = Ok (m ∷ l)
before m (Err r) = Err r

-- what an element adds to the list: its value at length n, nothing, or a read outside
abbrev pub report : Result (Option ℕ) Refusal → ℕ → Result (List (ℕ × ℕ)) Refusal → Result (List (ℕ × ℕ)) Refusal
report (Ok (Some v)) n l = before (v, n) l
report (Ok None) n l = l
report (Err r) n l = Err r

-- `CommonPrefixSearchIter` of src/trie.rs, from element p, n characters in
unfoldable pub scan : (ℕ → Option ℕ) → List ℕ → List ℕ → ℕ → ℕ → ℕ → List ℕ → Result (List (ℕ × ℕ)) Refusal
scan f base check N p n [] = Ok []
scan f base check N p n (c ∷ q) =
    go_on [] (step f base check N p c) (λ d. report (settle base check N d) (suc n) (scan f base check N d (suc n) q))

-- `Trie::common_prefix_search`
unfoldable pub prefixes : (ℕ → Option ℕ) → List ℕ → List ℕ → ℕ → List ℕ → Result (List (ℕ × ℕ)) Refusal
prefixes f base check N q = scan f base check N 0 0 q
