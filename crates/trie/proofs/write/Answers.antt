use Rattle.std.proofs.Common.{Ok, ◌∙◌, sym, ap}
use Rattle.walk.proofs.Matches.{written_as, values_lent, lengths_lent}
use Rattle.trie.proofs.Prefixes.{all, write_as, write_matched, write_passed, write_missed, write_left, write_unread, write_ended, room}
use Rattle.trie.proofs.write.Goals as goal
use Rattle.trie.proofs.write.Goals.{in-Some-found, in_default-found}

pub loop-i-init : goal.loop-i-init
loop-i-init c = record {
  values = record { run = written_as (values_lent _ _ _ c.requires.fits) (all _ _ _ _ c.args.query.now) };
  lengths = record { run = written_as (lengths_lent _ _ _ c.requires.fits) (all _ _ _ _ c.args.query.now) };
}

-- the step leads outside, which it cannot
pub returns-in_default-clause-values_after : goal.returns-in_default-clause-values_after
returns-in_default-clause-values_after c = absurd (write_left c.loop-i.invariant.values c.loop-i-test.true c.in_default.ensures)

pub returns-in_default-clause-lengths_after : goal.returns-in_default-clause-lengths_after
returns-in_default-clause-lengths_after c = absurd (write_left c.loop-i.invariant.lengths c.loop-i-test.true c.in_default.ensures)

-- it leads nowhere
pub returns-in_default-child-clause-values_after : goal.returns-in_default-child-clause-values_after
returns-in_default-child-clause-values_after c = write_missed c.loop-i.invariant.values c.loop-i-test.true (ap Ok (sym c.in_default-child.is) ∙ c.in-Ok.ensures)

pub returns-in_default-child-clause-lengths_after : goal.returns-in_default-child-clause-lengths_after
returns-in_default-child-clause-lengths_after c =
    write_missed c.loop-i.invariant.lengths c.loop-i-test.true (ap Ok (sym c.in_default-child.is) ∙ c.in-Ok.ensures)

-- the child's value is read outside, which it cannot be
pub returns-in_default-settle-clause-values_after : goal.returns-in_default-settle-clause-values_after
returns-in_default-settle-clause-values_after c =
    absurd (write_unread c.loop-i.invariant.values c.loop-i-test.true (ap Ok (sym c.in-Some.is) ∙ c.in-Ok.ensures) c.in_default-settle.ensures)

pub returns-in_default-settle-clause-lengths_after : goal.returns-in_default-settle-clause-lengths_after
returns-in_default-settle-clause-lengths_after c =
    absurd (write_unread c.loop-i.invariant.lengths c.loop-i-test.true (ap Ok (sym c.in-Some.is) ∙ c.in-Ok.ensures) c.in_default-settle.ensures)

-- there is room for a match
pub bounds-values-n : goal.bounds-values-n
bounds-values-n c =
    room c.loop-i.invariant.values c.loop-i-test.true (ap Ok (sym c.in-Some.is) ∙ c.in-Ok.ensures) (ap Ok (sym c.in-Some-found.is) ∙ c.in-Ok-settle.ensures)

pub bounds-lengths-n : goal.bounds-lengths-n
bounds-lengths-n c =
    room c.loop-i.invariant.lengths c.loop-i-test.true (ap Ok (sym c.in-Some.is) ∙ c.in-Ok.ensures) (ap Ok (sym c.in-Some-found.is) ∙ c.in-Ok-settle.ensures)

-- the child has a value, which is written, or none
pub loop-i-preserved : goal.loop-i-preserved
loop-i-preserved c =
    elim c.match-found.branch [
      | in-Some-found w ↦ record {
        values = write_as (write_matched c.loop-i.invariant.values c.loop-i-test.true (ap Ok (sym c.in-Some.is) ∙ c.in-Ok.ensures) (ap Ok (sym w.in-Some-found.is) ∙ c.in-Ok-settle.ensures)) w.n-is w.node_idx-is w.values-is;
        lengths = write_as (write_matched c.loop-i.invariant.lengths c.loop-i-test.true (ap Ok (sym c.in-Some.is) ∙ c.in-Ok.ensures) (ap Ok (sym w.in-Some-found.is) ∙ c.in-Ok-settle.ensures)) w.n-is w.node_idx-is w.lengths-is;
      }
      | in_default-found w ↦ record {
        values = write_as (write_passed c.loop-i.invariant.values c.loop-i-test.true (ap Ok (sym c.in-Some.is) ∙ c.in-Ok.ensures) (ap Ok (sym w.in_default-found.is) ∙ c.in-Ok-settle.ensures)) w.n-is w.node_idx-is w.values-is;
        lengths = write_as (write_passed c.loop-i.invariant.lengths c.loop-i-test.true (ap Ok (sym c.in-Some.is) ∙ c.in-Ok.ensures) (ap Ok (sym w.in_default-found.is) ∙ c.in-Ok-settle.ensures)) w.n-is w.node_idx-is w.lengths-is;
      }
    ]

-- the query ends
pub returns-clause-values_after : goal.returns-clause-values_after
returns-clause-values_after c = write_ended c.loop-i.invariant.values c.loop-i-test.false

pub returns-clause-lengths_after : goal.returns-clause-lengths_after
returns-clause-lengths_after c = write_ended c.loop-i.invariant.lengths c.loop-i-test.false
