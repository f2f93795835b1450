-- The numbers of the C answers. status is 0 where there is an answer, a refusal's number of document 01 where the call is refused, and all ones where the
-- answer is that there is none. Assumes nothing.
use Rattle.std.specs.Prelude.{Bool, true, false, ℕ, Option, Some, None, Result, Ok, Err}
use Rattle.node.specs.declared.Refusal.{Refusal}
use Rattle.node.specs.Refusals.{number}
use Rattle.std.specs.declared.cmp.Ordering.{Ordering}
use Rattle.std.specs.declared.cmp.Ordering.TheVariants.{Less, Equal, Greater}
use Rattle.export.specs.declared.GroatAnswer.{GroatAnswer}
use Rattle.export.specs.declared.GroatPlace.{GroatPlace}
use Rattle.export.specs.declared.GroatCommon.{GroatCommon}
use Rattle.export.specs.declared.GroatNode.{GroatNode}
use Rattle.node.specs.Element.{offset, top, vacant_pair}

-- there is no answer to give
abbrev pub no_answer : ℕ
no_answer = 0xffffffff

abbrev pub flag : Bool → ℕ
flag true = 1
flag false = 0

abbrev pub placed : Option ℕ → GroatPlace
placed (Some n) = record { status = 0; next = n }
placed None = record { status = no_answer; next = 0 }

abbrev pub unpacked_as : Option ℕ → GroatAnswer
unpacked_as (Some n) = record { status = 0; value = n }
unpacked_as None = record { status = no_answer; value = 0 }

-- the answer of exact match: the value, that there is none, or the refusal
abbrev pub found_as : Result (Option ℕ) Refusal → GroatAnswer
found_as (Ok value) = unpacked_as value
found_as (Err r) = record { status = number r; value = 0 }

-- the answer of prefix search: the place behind the matches in each run, or the refusal
abbrev pub counted_as : Result ℕ Refusal → GroatPlace
counted_as (Ok n) = record { status = 0; next = n }
counted_as (Err r) = record { status = number r; next = 0 }

abbrev pub order_number : Ordering → ℕ
order_number Less = 0
order_number Equal = 1
order_number Greater = 2

abbrev pub common_parts : ℕ → Ordering → GroatCommon
common_parts n o = record { lcp = n; ord = order_number o }

abbrev pub node_parts : ℕ → ℕ → GroatNode
node_parts b c =
    record {
      base = offset b;
      check = offset c;
      leaf = flag (top b);
      marked = flag (top c);
      vacant = flag (vacant_pair b c);
    }
