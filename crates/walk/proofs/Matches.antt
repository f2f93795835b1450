-- The matches of a common-prefix search that are left, behind the n so far: how many there are, and the run of their values or of their lengths. Assumes nothing.
use Rattle.std.proofs.Common.{◌≡◌, ◌∙◌, ◌+◌, ◌<◌, ◌≤◌, ℕ, suc, min, List, [], ◌∷◌, ◌++◌, append_assoc, Result, Ok, Err, length, set, length-set, take, drop, map, subst, refl, sym, ap, arith}
use Rattle.std.specs.Result.{IsOkAnd}
use Rattle.std.proofs.lemmas.List.{take_more_set, take-append-drop, drop-set-lt}
use Rattle.node.specs.declared.Refusal.{Refusal}
use Rattle.walk.specs.Walk.{before}
use Rattle.walk.specs.Query.{answer_of, values_after, lengths_after}

-- the answer, where n matches come before those that are left
abbrev pub counted : ℕ → Result (List (ℕ × ℕ)) Refusal → Result ℕ Refusal
counted n (Ok l) = Ok (n + length l)
counted n (Err r) = Err r

-- the run of the numbers g of the matches, where n of them are in xs
abbrev pub put : (ℕ × ℕ → ℕ) → ℕ → Result (List (ℕ × ℕ)) Refusal → List ℕ → List ℕ
put g n (Ok l) xs = take n xs ++ (map g l ++ drop (n + length l) xs)
put g n (Err r) xs = xs

-- the matches that are left fit a run of that length behind the n so far
abbrev pub Fits : ℕ → ℕ → Result (List (ℕ × ℕ)) Refusal → Type 0
Fits n room (Ok l) = n + length l ≤ room
Fits n room (Err r) = ⊥

pub counted_before : (n : ℕ) (m : ℕ × ℕ) (l : Result (List (ℕ × ℕ)) Refusal) → counted n (before m l) ≡ counted (n + 1) l
counted_before n m (Ok l) = ap (λ (k : ℕ). Ok k) (omega arith)
counted_before n m (Err r) = refl

pub counted_none : (l : Result (List (ℕ × ℕ)) Refusal) → counted 0 l ≡ answer_of l
counted_none (Ok l) = ap (λ (k : ℕ). Ok k) (omega arith)
counted_none (Err r) = refl

pub counted_end : (n : ℕ) → counted n (Ok []) ≡ Ok n
counted_end n = ap (λ (k : ℕ). Ok k) (omega arith)

module _ (g : ℕ × ℕ → ℕ) (n : ℕ) where
  -- one match is written at n
  pub put_before : (m : ℕ × ℕ) (l : Result (List (ℕ × ℕ)) Refusal) (xs : List ℕ) → Fits n (length xs) (before m l) → put g n (before m l) xs ≡ put g (n + 1) l (set xs n (g m))
  put_before m (Ok l) xs h =
      let lt : n < length xs = omega arith in
      let far : n < n + 1 + length l = omega arith in
      let same : n + suc (length l) ≡ n + 1 + length l = omega arith in
      rw (take_more_set xs n (g m) lt, drop-set-lt (n + 1 + length l) xs n (g m) far, same) (sym (append_assoc (take n xs) (g m ∷ []) (map g l ++ drop (n + 1 + length l) xs)))
  put_before m (Err r) xs h = absurd h

  -- none is left
  pub put_end : (xs : List ℕ) → put g n (Ok []) xs ≡ xs
  put_end xs = let same : n + 0 ≡ n = omega arith in rw same (take-append-drop n xs)

pub fits_before : (n room : ℕ) (m : ℕ × ℕ) (l : Result (List (ℕ × ℕ)) Refusal) → Fits n room (before m l) → (n < room) × Fits (n + 1) room l
fits_before n room m (Ok l) h = (omega arith, omega arith)
fits_before n room m (Err r) h = absurd h

pub fits_none : (a b : ℕ) (l : Result (List (ℕ × ℕ)) Refusal) → IsOkAnd l (λ m. length m ≤ min a b) → Fits 0 a l × Fits 0 b l
fits_none a b (Ok l) h = (omega arith, omega arith)
fits_none a b (Err r) h = absurd h

pub values_none : (l : Result (List (ℕ × ℕ)) Refusal) (xs : List ℕ) → values_after l xs ≡ put (λ m. m.0) 0 l xs
values_none (Ok l) xs = let same : 0 + length l ≡ length l = omega arith in rw same refl
values_none (Err r) xs = refl

pub lengths_none : (l : Result (List (ℕ × ℕ)) Refusal) (xs : List ℕ) → lengths_after l xs ≡ put (λ m. m.1) 0 l xs
lengths_none (Ok l) xs = let same : 0 + length l ≡ length l = omega arith in rw same refl
lengths_none (Err r) xs = refl

-- ---- a run of results

-- the run xs with n matches written, of which g is written: the matches l that are left fit it, and complete it to what it is in the end
pub record Written (g : ℕ × ℕ → ℕ) (end : List ℕ) (n : ℕ) (l : Result (List (ℕ × ℕ)) Refusal) (xs : List ℕ) : Type 0 where
  pub completes : end ≡ put g n l xs
  pub fits : Fits n (length xs) l

-- both runs, as they are lent
module _ (vs ls : List ℕ) (l : Result (List (ℕ × ℕ)) Refusal) (h : IsOkAnd l (λ m. length m ≤ min (length vs) (length ls))) where
  pub values_lent : Written (λ m. m.0) (values_after l vs) 0 l vs
  values_lent = record { completes = values_none l vs; fits = (fits_none _ _ l h).0 }

  pub lengths_lent : Written (λ m. m.1) (lengths_after l ls) 0 l ls
  lengths_lent = record { completes = lengths_none l ls; fits = (fits_none _ _ l h).1 }

module _ {g : ℕ × ℕ → ℕ} {end : List ℕ} {n : ℕ} {l : Result (List (ℕ × ℕ)) Refusal} {xs : List ℕ} (s : Written g end n l xs) where
  -- the same matches, by another word
  pub written_as : {k : Result (List (ℕ × ℕ)) Refusal} → l ≡ k → Written g end n k xs
  written_as e = record { completes = s.completes ∙ ap (λ (r : Result (List (ℕ × ℕ)) Refusal). put g n r xs) e; fits = subst (Fits n (length xs)) e s.fits }

module _ {g : ℕ × ℕ → ℕ} {end : List ℕ} {n : ℕ} {xs : List ℕ} where
  -- none is left
  pub written_whole : Written g end n (Ok []) xs → xs ≡ end
  written_whole s = sym (s.completes ∙ put_end g n xs)

  -- a read outside is not among them
  pub written_unread : {r : Refusal} → Written g end n (Err r) xs → ⊥
  written_unread s = s.fits

  -- one match is written at n
  module _ (m : ℕ × ℕ) (l : Result (List (ℕ × ℕ)) Refusal) (s : Written g end n (before m l) xs) where
    pub written_room : n < length xs
    written_room = (fits_before n _ m l s.fits).0

    pub written_on : Written g end (n + 1) l (set xs n (g m))
    written_on = record { completes = s.completes ∙ put_before g n m l xs s.fits; fits = rw length-set (fits_before n _ m l s.fits).1 }
