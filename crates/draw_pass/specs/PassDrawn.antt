-- A pass, drawn inside one rectangle. Assumes nothing.
use Rattle.std.specs.Prelude.{ℕ, List}
use Rattle.filter.specs.declared.Input.{Input}
use Rattle.filter.specs.declared.Pass.{Pass}
use Rattle.filter.specs.declared.Rect.{Rect}
use Rattle.filter.specs.Picture.{each}
use Rattle.filter.specs.Kinds.{passed}
use Rattle.buffers.specs.declared.Context.{Context}
use Rattle.buffers.specs.Shown.{shown}
use Rattle.buffers.specs.Context.{DrawnIn}

-- the rectangle of the step's own layer now has the pixels of the pass of sizes dx and dy over the input
abbrev pub PassDrawn : Context → Pass → Input → ℕ → ℕ → Rect → List ℕ → List ℕ → List ℕ → Type 0
PassDrawn c p i dx dy r src ws ws' = DrawnIn c r (each (passed c.w c.h p dx dy) (shown c src ws i)) ws ws'
