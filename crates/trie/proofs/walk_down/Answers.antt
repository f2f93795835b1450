use Rattle.std.proofs.Common.{◌∙◌, sym, refl}
use Rattle.trie.proofs.Exact.{left}
use Rattle.trie.proofs.walk_down.Goals as goal

-- the check leaves the answer that `?` hands on
pub returns-in_err-child_idx : goal.returns-in_err-child_idx
returns-in_err-child_idx c = left _ _ _ _ c.args.query.now _ _ c.loop-c.invariant _ c.loop-c-test.true refl _ _ (sym c.in_err-child_idx.was ∙ c.step.ensures) c.from_residual.ensures.1
