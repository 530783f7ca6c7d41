-- The shapes without kinds inside. Assumes nothing.
use Rattle.std.specs.Prelude.{ℕ, List, []}
use Rattle.filter.specs.declared.Rect.{Rect}
use Rattle.filter.specs.declared.Shape.{Shape}
use Rattle.filter.specs.declared.Shape.TheVariants as S
use Rattle.filter.specs.Kinds.{work_of}
use Rattle.buffers.specs.declared.Context.{Context}
use Rattle.buffers.specs.Shown.{shown}
use Rattle.buffers.specs.Context.{DrawnIn}

unfoldable pub Kindless : Shape → Type 0
Kindless (S.Flood c) = Unit {0}
Kindless (S.Offset i dx dy) = Unit {0}
Kindless (S.Pass p i dx dy) = ⊥
Kindless (S.Map m i) = ⊥
Kindless (S.Pair p i j) = ⊥
Kindless (S.Merge c is) = Unit {0}
Kindless (S.Convolve k i) = ⊥

-- the shape is drawn inside the rectangle; it needs no values
abbrev pub ShapeDrawn : Context → Shape → Rect → List ℕ → List ℕ → List ℕ → Type 0
ShapeDrawn c k r src ws ws' = DrawnIn c r (work_of c.w c.h k [] (shown c src ws)) ws ws'
