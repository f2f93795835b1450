use Rattle.std.proofs.Common.{◌∙◌}
use Rattle.utils.proofs.Prefix.{order_behind}
use Rattle.utils.proofs.longest_common_prefix.Goals as goal

-- the check leaves the order
pub returns-clause-ord : goal.returns-clause-ord
returns-clause-ord c =
    let in_a = c.get.ensures.lookup in
    let in_b = c.get-2.ensures.lookup in
    c.cmp.ensures ∙ order_behind c.args.a.now c.args.b.now c.shared-lcp.result _ _ in_a.0 in_a.1 in_b.0 in_b.1 c.shared-lcp.ensures
