use Rattle.std.proofs.Common.{Ok, ◌∙◌, sym, refl, ap}
use Rattle.trie.proofs.Prefixes.{count_left, count_unread}
use Rattle.trie.proofs.count.Goals as goal

-- the check leaves the answers that `?` hands on
pub returns-in_err-child_idx : goal.returns-in_err-child_idx
returns-in_err-child_idx c =
    count_left _ _ _ _ c.args.query.now _ _ _ c.loop-c.invariant.counted _ c.loop-c-test.true refl _ _ (sym c.in_err-child_idx.was ∙ c.step.ensures) c.from_residual.ensures.1

pub returns-in_err-settle : goal.returns-in_err-settle
returns-in_err-settle c =
    count_unread _ _ _ _ c.args.query.now _ _ _ c.loop-c.invariant.counted _ c.loop-c-test.true refl _ _ _
    (ap Ok (sym c.in-Some.is) ∙ sym c.in_ok-child_idx.was ∙ c.step.ensures) (sym c.in_err-settle.was ∙ c.settle.ensures) c.from_residual-in_err-settle.ensures.1
