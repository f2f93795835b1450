-- The common prefix of two keys, and their order by the first characters behind it. Assumes nothing.
use Rattle.std.proofs.Common.{◌≡◌, ◌==◌, ◌+◌, ◌∙◌, ℕ, suc, List, [], ◌∷◌, Option, Some, None, IfSome, is_some, length, take_while, cond, if◌then◌else◌, ◌<◌, one-add, slice_get, get_or, nat_lt, Bor, refl, ap, ap₂, sym, arith, zip, option_copied, Ordering, Less, Equal, Greater, nat_cmp, le-ltb, lt-ltb, eqb-true, ltb-true, ltb-false}
use Rattle.std.proofs.lemmas.Bool.{eqb-false}
use Rattle.std.proofs.lemmas.List.Folds.{length-prefix_len}
use Rattle.std.proofs.lemmas.Option.{slice_get_past, slice_get_read}
use Rattle.std.specs.Cmp.{nat_cmp_is, ranked}
use Rattle.std.specs.List.{prefix_len}
use Rattle.std.specs.Option.{option_cmp}
use Rattle.std.specs.Ordering.{MatchOrdering, ordering_then}
use Rattle.laws.proofs.Lists.{decide}
use Rattle.utils.specs.Common.{common, ordering}

-- ---- both words by the first characters

pub common-cons : (x y : ℕ) (a b : List ℕ) → common (x ∷ a) (y ∷ b) ≡ (if x == y then suc (common a b) else 0)
common-cons x y a b = ap (λ (n : ℕ). if x == y then n else 0) (one-add (common a b))

pub ordering-cons : (x y : ℕ) (a b : List ℕ) → ordering (x ∷ a) (y ∷ b) ≡ (if nat_lt x y then Less else if nat_lt y x then Greater else ordering a b)
ordering-cons x y a b = by_rank (nat_cmp x y) (ranked x y (nat_cmp x y) refl)
  where
    by_rank : (o : Ordering) → MatchOrdering o (x < y) (x ≡ y) (y < x) → ordering_then o (ordering a b) ≡ (if nat_lt x y then Less else if nat_lt y x then Greater else ordering a b)
    by_rank Less h = rw (lt-ltb x y h) refl
    by_rank Equal h = rw (le-ltb x y (omega arith), le-ltb y x (omega arith)) refl
    by_rank Greater h = rw (le-ltb x y (omega arith), lt-ltb y x h) refl

-- ---- as the code finds the length

prefix_len-zip : (a b : List ℕ) → prefix_len (λ (p : ℕ × ℕ). p.0 == p.1) (zip a b) ≡ common a b
prefix_len-zip [] b = refl
prefix_len-zip (x ∷ a) [] = refl
prefix_len-zip (x ∷ a) (y ∷ b) = ap (λ (n : ℕ). cond (x == y) (1 + n) 0) (prefix_len-zip a b)

-- a walk over both at once passes what they share
pub shared_is_common : (a b : List ℕ) (n : ℕ) → n ≡ length (take_while (λ (p : ℕ × ℕ). p.0 == p.1) (zip a b)) → n ≡ common a b
shared_is_common a b n e = e ∙ length-prefix_len (λ (p : ℕ × ℕ). p.0 == p.1) (zip a b) ∙ prefix_len-zip a b

-- ---- as the code finds the order

then_apart : (o r : Ordering) → (o ≡ Equal → ⊥) → o ≡ ordering_then o r
then_apart Less r n = refl
then_apart Equal r n = absurd (n refl)
then_apart Greater r n = refl

-- the characters behind it decide, where a key that ends there is less
order_there : (a b : List ℕ) → option_cmp nat_cmp (slice_get a (common a b)) (slice_get b (common a b)) ≡ ordering a b
order_there [] [] = refl
order_there [] (y ∷ b) = refl
order_there (x ∷ a) [] = refl
order_there (x ∷ a) (y ∷ b) =
    decide (x == y)
    (λ e. at (suc (common a b)) (rw e (omega arith)) ∙ order_there a b ∙ ap (λ o. ordering_then o (ordering a b)) (nat_cmp_is x y Equal (eqb-true x y e)))
    (λ e. at 0 (rw e refl) ∙ then_apart (nat_cmp x y) (ordering a b) (λ h. eqb-false x y e (ranked x y Equal (sym h))))
  where
    at : (n : ℕ) → common (x ∷ a) (y ∷ b) ≡ n
        → option_cmp nat_cmp (slice_get (x ∷ a) (common (x ∷ a) (y ∷ b))) (slice_get (y ∷ b) (common (x ∷ a) (y ∷ b)))
        ≡ option_cmp nat_cmp (slice_get (x ∷ a) n) (slice_get (y ∷ b) n)
    at n e = ap (λ (i : ℕ). option_cmp nat_cmp (slice_get (x ∷ a) i) (slice_get (y ∷ b) i)) e

-- what `get` lends is the character, if there is one
lent_at : (xs : List ℕ) (n : ℕ) (r : Option (Bor ℕ)) → is_some r ≡ nat_lt n (length xs) → IfSome r (λ x. x.now ≡ get_or xs n x.now) → option_copied r ≡ slice_get xs n
lent_at xs n None l h = sym (slice_get_past xs n (ltb-false n (length xs) (sym l)))
lent_at xs n (Some x) l h = sym (slice_get_read xs (length xs) n x.now refl (ltb-true n (length xs) (sym l)) h)

-- characters that are lent compare as they do
compare_lent : (p q : Option (Bor ℕ)) → option_cmp (λ x y. nat_cmp x.now y.now) p q ≡ option_cmp nat_cmp (option_copied p) (option_copied q)
compare_lent None None = refl
compare_lent None (Some y) = refl
compare_lent (Some x) None = refl
compare_lent (Some x) (Some y) = refl

-- the order by the characters that `get` lends there
pub order_behind : (a b : List ℕ) (n : ℕ) (p q : Option (Bor ℕ))
    → is_some p ≡ nat_lt n (length a) → IfSome p (λ x. x.now ≡ get_or a n x.now) → is_some q ≡ nat_lt n (length b) → IfSome q (λ x. x.now ≡ get_or b n x.now)
    → n ≡ length (take_while (λ (m : ℕ × ℕ). m.0 == m.1) (zip a b)) → option_cmp (λ x y. nat_cmp x.now y.now) p q ≡ ordering a b
order_behind a b n p q in_a at_a in_b at_b walked =
    let e = shared_is_common a b n walked in
    compare_lent p q ∙ ap₂ (option_cmp nat_cmp) (lent_at a n p in_a at_a ∙ ap (slice_get a) e) (lent_at b n q in_b at_b ∙ ap (slice_get b) e) ∙ order_there a b
