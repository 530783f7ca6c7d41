-- A convolution as the checks let it pass, and its rows and rectangles as they are drawn. Assumes nothing.
use Prim.Native.Nat.{ℕ, ◌+◌, ◌≤◌, ◌<◌}
use mathlib.Core.Path.{◌≡◌, sym, ap}
use mathlib.Core.Bool.{true}
use mathlib.Core.List.{List}
use native.Mathlib.Omega.{arith}
use Rattle.number.specs.declared.Fixed.{Fixed}
use Rattle.number.specs.Number.{limit_of}
use Rattle.number.specs.declared.Range.TheVariants.{Coefficient}
use Rattle.pixel.specs.declared.Convolution.{Convolution}
use Rattle.pixel.specs.Convolve.{convolved}
use Rattle.kernel_lines.specs.Convolved.{Convolves}
use Rattle.filter.specs.declared.Input.{Input}
use Rattle.filter.specs.declared.Rect.{Rect}
use Rattle.filter.specs.Rect.{canvas_of}
use Rattle.filter.specs.Picture.{Picture, blank}
use Rattle.filter.specs.Kinds.{value_at, work_of}
use Rattle.filter.specs.Convolutions.{convolution?, convolution_count}
use Rattle.filter.specs.Signature.{range_in, convolution_numbers}
use Rattle.filter.specs.Accepted.{Within, Ranged, Divides}
use Rattle.filter.proofs.FewNumbers.{kernel-fits}
use Rattle.filter.proofs.AllowedCoefficients.{alike-range}
use Rattle.filter.proofs.Patches.{patch-in}
use Rattle.buffers.specs.declared.Context.{Context}
use Rattle.buffers.specs.Shown.{shown}
use Rattle.buffers.proofs.DrawnRows.{drawn-new}
use Rattle.draw_convolve.specs.Convolved.{RectConvolved, ConvolveDrawn}
use Rattle.draw_convolve.specs.Staged.{ScratchHolds}

-- what the checks establish is what the kernels ask
pub convolves : (k : Convolution) (v : List Fixed) → convolution? k ≡ true → Ranged (convolution_numbers k) v → Divides k v → Convolves k v
convolves k v e R D =
    let f = kernel-fits k e in
    record {
      some_columns = f.orders.some_columns;
      few_columns = f.orders.few_columns;
      some_rows = f.orders.some_rows;
      few_rows = f.orders.few_rows;
      column_inside = f.column;
      row_inside = f.row;
      allowed = λ i l.
          let r : limit_of (range_in (convolution_numbers k) i) ≡ 256 = ap limit_of (alike-range (convolution_count k) Coefficient i) in
          record { above = omega (arith, R.above i l); below = omega (arith, R.below i l) };
      divides = D;
    }

-- scratch that holds a picture for some rows holds it for a row of them
pub holds_row : (w h : ℕ) (k : Convolution) (top bottom y : ℕ) (g : Picture) (d : List ℕ) → top ≤ y → y < bottom → ScratchHolds w h k top bottom g d → ScratchHolds w h k y (y + 1) g d
holds_row w h k top bottom y g d l m H = record {
  from = H.from;
  to = H.to;
  blank = H.blank;
  staged = H.staged;
  read = record {
    order = H.read.order;
    high = H.read.high;
    seen = λ z i a b. H.read.seen z i (omega arith) (omega arith);
  };
}

-- inside the canvas a step's work is the convolution
pub convolve-drawn : (c : Context) (k : Convolution) (v : List Fixed) (i : Input) (r : Rect) (src ws ws' : List ℕ) → Within c.w c.h r
    → RectConvolved c k v (shown c src ws i) r ws ws' → ConvolveDrawn c k v i r src ws ws'
unfolding work_of
convolve-drawn c k v i r src ws ws' W D =
    drawn-new c.w c.h c.n r _ _ ws ws'
    (λ x y t. sym (patch-in (canvas_of c.w c.h) (convolved c.w c.h k (value_at v) (shown c src ws i)) blank (record {
      left = omega arith;
      right = omega (arith, t.right, W.right);
      top = omega arith;
      bottom = omega (arith, t.bottom, W.bottom);
    }))) D
