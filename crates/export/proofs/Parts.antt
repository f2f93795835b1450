-- The parts of an element, field by field. Assumes nothing.
use Rattle.std.proofs.Common.{◌≡◌, ℕ}
use Rattle.node.specs.Element.{offset, top, vacant_pair}
use Rattle.export.specs.declared.GroatNode.{GroatNode}
use Rattle.export.specs.Numbers.{flag, node_parts}

abbrev fields : ℕ → ℕ → ℕ → ℕ → ℕ → GroatNode
fields x y l m v = record { base = x; check = y; leaf = l; marked = m; vacant = v }

pub parts_are : (b c x y l m v : ℕ) → x ≡ offset b → y ≡ offset c → l ≡ flag (top b) → m ≡ flag (top c) → v ≡ flag (vacant_pair b c)
    → fields x y l m v ≡ node_parts b c
parts_are b c x y l m v e f g h i = rw (e, f, g, h, i)
