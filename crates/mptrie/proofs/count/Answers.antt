use Rattle.std.proofs.Common.{Ok, ◌∙◌, sym, refl, ap}
use Rattle.mptrie.proofs.Prefixes.{count_left, count_unread}
use Rattle.mptrie.proofs.count.Goals as goal

-- the check leaves the answers that `?` hands on
pub returns-in_err-child_idx : goal.returns-in_err-child_idx
returns-in_err-child_idx c =
    count_left _ _ _ _ _ _ c.args.query.now _ _ _ c.loop-i.invariant.counted _ c.loop-i-test.true refl _ _ (sym c.in_err-child_idx.was ∙ c.step.ensures) c.from_residual.ensures.1

pub returns-in_err-match_at : goal.returns-in_err-match_at
returns-in_err-match_at c =
    count_unread _ _ _ _ _ _ c.args.query.now _ _ _ c.loop-i.invariant.counted _ c.loop-i-test.true refl _ _ _
    (ap Ok (sym c.in-Some.is) ∙ sym c.in_ok-child_idx.was ∙ c.step.ensures) (sym c.in_err-match_at.was ∙ c.match_at.ensures) c.from_residual-in_err-match_at.ensures.1
