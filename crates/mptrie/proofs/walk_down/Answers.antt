use Rattle.std.proofs.Common.{◌∙◌, sym, refl}
use Rattle.mptrie.proofs.Stroll.{left}
use Rattle.mptrie.proofs.walk_down.Goals as goal

-- the check leaves the answer that `?` hands on
pub returns-in_err-child_idx : goal.returns-in_err-child_idx
returns-in_err-child_idx c =
    left _ _ _ _ _ _ c.args.query.now _ c.loop-i.i c.loop-i.invariant _ (sym c.node_at.ensures ∙ c.in-Some.is) (sym c.is_leaf.ensures ∙ c.if-is_leaf.false) _ c.loop-i-test.true refl _ _
    (sym c.in_err-child_idx.was ∙ c.step.ensures) c.from_residual.ensures.1
