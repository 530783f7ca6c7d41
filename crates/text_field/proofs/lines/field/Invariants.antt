use Rattle.std.proofs.Common.{◌≡◌, ◌+◌, ◌≤◌, [], length, get_or, drop}
use Rattle.text_field.specs.Split.{split, index_of}
use Rattle.text_field.proofs.lines.field.Given as goal

abbrev pub invariant-loop-k : goal.invariant-loop-k
invariant-loop-k l =
    (l.from ≤ l.k) × (l.k ≤ length l.line) × (l.k + index_of 9 (drop l.k l.line) ≡ l.from + index_of 9 (drop l.from l.line))
    × (get_or (split 9 (drop l.from l.line)) l.left [] ≡ get_or (split 9 l.line) l.i [])
