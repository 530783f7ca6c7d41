-- The columns that a pass reads: of bytes, and the line that is behind the window. Assumes nothing.
use mathlib.Core.Path.{◌≡◌, ap, ◌∙◌}
use mathlib.Core.List.{List}
use Prim.Native.Nat.{ℕ, ◌+◌, ◌-◌, ◌*◌, ◌<◌}
use native.Mathlib.Omega.{arith}
use lib.ListN.{get_or}
use mir.Syntax.{w8}
use mir.Val.{Fits}
use Rattle.window.specs.Window.{behind}
use Rattle.window.proofs.BandedPasses.{behind-in}
use Rattle.kernel_sums.specs.declared.running.BoxPass.{BoxPass}
use Rattle.kernel_sums.specs.Running.{columns}
use Rattle.kernel_sums.proofs.LinesApart.{column-in, column-lt}

-- each element is a byte, as the borrow checker has it
abbrev pub Bytes : List ℕ → Type 0
Bytes d = (i : ℕ) → Fits w8 (get_or d i 0)

module _ (p : BoxPass) (d : List ℕ) (bytes : Bytes d) where
  pub columns-lt : (i v : ℕ) → columns p d i v < 256
  columns-lt i v = column-lt d p.from p.n p.count i (λ j. omega (arith, bytes j)) v

-- the line that is behind the window at y
pub leaving : (p : BoxPass) (d : List ℕ) (i y : ℕ) → p.back < y → y < p.count → behind (p.back + 1) (columns p d i) y ≡ get_or d (p.from + (y - p.back - 1) * p.n + i) 0
leaving p d i y h l =
    behind-in (p.back + 1) (columns p d i) y (omega arith) ∙ ap (columns p d i) (omega arith) ∙ column-in d p.from p.n p.count i (y - p.back - 1) (omega arith)
