use Rattle.std.proofs.Common.{◌∙◌, sym}
use Rattle.mptrie.proofs.Arrival.{unread}
use Rattle.mptrie.proofs.match_at.Goals as goal

-- the check leaves the answer that `?` hands on
pub returns-in_err-value : goal.returns-in_err-value
returns-in_err-value c =
    unread _ _ _ _ _ _ _ c.args.query.now _ (sym c.node_at.ensures ∙ c.in-Some.is) (sym c.is_leaf.ensures ∙ c.if-is_leaf.false) _ _
    (sym c.in_err-value.was ∙ c.end_value.ensures) c.from_residual.ensures.1
