-- Ranges of one buffer: one is read while the other is stored. Assumes nothing.
use Rattle.std.specs.Prelude.{ℕ, ◌+◌, ◌*◌, ◌≤◌, List, length}
use Rattle.window.specs.Ranges.{Apart}
use Rattle.kernel_fold.specs.declared.between.Between.{Between}

-- the m bytes from w on lie in d, apart from the m bytes from `to` on
abbrev pub Foldable : ℕ → ℕ → ℕ → List ℕ → Type 0
Foldable w to m d = (w + m ≤ length d) × Apart w m to m

-- the lines at both places lie in d
abbrev pub InBuffer : Between → List ℕ → Type 0
InBuffer b d = (b.from + b.count * b.n ≤ length d) × (b.to + b.count * b.n ≤ length d)
