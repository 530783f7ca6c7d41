-- Where a shifted picture is transparent, and where it shows the columns that were loaded. Assumes nothing.
use mathlib.Core.Path.{◌≡◌, sym, ap, ◌∙◌}
use mathlib.Core.List.{List}
use mathlib.Core.Logic.{◌⊎◌, inl, inr, ⊎_elim}
use Prim.Native.Nat.{ℕ, ◌+◌, ◌-◌, ◌≤◌, ◌<◌, min}
use native.Mathlib.Omega.{arith}
use borrow.Author.Tests.{le-leb, lt-leb}
use Rattle.window.proofs.Truths.{and_no}
use Rattle.window.proofs.Store.{lt-or-le}
use Rattle.pixel.specs.Alpha.{clear}
use Rattle.kernel_row.specs.Row.{moved_row}
use Rattle.kernel_row.proofs.MovedRows.{moved-row-inside, moved-row-outside}
use Rattle.filter.specs.declared.Shift.{Shift}
use Rattle.filter.specs.Rect.{canvas_of}
use Rattle.filter.specs.Picture.{Picture}
use Rattle.filter.specs.Kinds.{shifted}
use Rattle.filter.specs.Valid.{BlankOutside}
use Rattle.filter.specs.Accepted.{Near}
use Rattle.filter.specs.Limits.{longest_side}
use Rattle.buffers.specs.declared.RowPart.{RowPart}
use Rattle.buffers.specs.Buffers.{Loaded}
use Rattle.buffers.proofs.LoadedRows.{loaded-pixel}

module _ (dx dy : Shift) (p : Picture) (x y : ℕ) where
  -- the row lies above the canvas, or the column left of it
  pub shifted-above : y + dy.minus < dy.plus → shifted dx dy p x y ≡ clear
  unfolding shifted
  shifted-above l = simp (lt-leb dy.plus (y + dy.minus) l, and_no)

  pub shifted-before : x + dx.minus < dx.plus → shifted dx dy p x y ≡ clear
  unfolding shifted
  shifted-before l = simp (lt-leb dx.plus (x + dx.minus) l)

  pub shifted_at : dx.plus ≤ x + dx.minus → dy.plus ≤ y + dy.minus → shifted dx dy p x y ≡ p (x + dx.minus - dx.plus) (y + dy.minus - dy.plus)
  unfolding shifted
  shifted_at l m = simp (le-leb dx.plus (x + dx.minus) l, le-leb dy.plus (y + dy.minus) m)

  -- the row lies below the canvas
  pub shifted-below : (w h : ℕ) → BlankOutside (canvas_of w h) p → dy.plus ≤ y + dy.minus → h ≤ y + dy.minus - dy.plus → shifted dx dy p x y ≡ clear
  shifted-below w h b m l = ⊎_elim
      (λ (k : x + dx.minus < dx.plus). shifted-before k)
      (λ (k : dx.plus ≤ x + dx.minus). shifted_at k m ∙ b.outside _ _ (λ i. absurd (omega (arith, i.bottom))))
      (lt-or-le (x + dx.minus) dx.plus)

-- an order and its contrary
never : (a b : ℕ) → a < b → b ≤ a → ⊥
never a b l m = omega arith

-- before the row's start, and so before any column of it
before_more : (x a b : ℕ) → x < a → x < a + b
before_more x a b l = omega arith

-- the column u = t - right of the loaded ones, for t from `right + first` on
inside-until : (t right first last : ℕ) → right ≤ t → t - right < last → right + first ≤ t → t < right + first + (last - first)
inside-until t right first last k u s = omega arith

inside-count : (t right first last : ℕ) → t - right < last → right + first ≤ t → t - (right + first) < last - first
inside-count t right first last u s = omega arith

inside-column : (t right first : ℕ) → right + first ≤ t → first + (t - (right + first)) ≡ t - right
inside-column t right first s = omega arith

outside-until : (t right first last w : ℕ) → right ≤ t → w ≤ t - right → last ≤ w → first ≤ last → right + first + (last - first) ≤ t
outside-until t right first last w k s a b = omega arith

-- the columns of the input that show between `from` and `to`: they are there, and no more than those
module _ (w from to right left first last : ℕ) (order : from ≤ to) (starts : first ≡ min (from + left - right) w) (ends : last ≡ min (to + left - right) w) where
  cut-order : first ≤ last
  cut-order = omega arith

  cut-wide : last ≤ w
  cut-wide = omega arith

  cut-few : last - first ≤ to - from
  cut-few = omega arith

  cut-since : (x : ℕ) → from ≤ x → right ≤ x + left → right + first ≤ x + left
  cut-since x l k = omega arith

  cut-until : (x : ℕ) → x < to → right ≤ x + left → x + left - right < w → x + left - right < last
  cut-until x l k s = omega arith

pub cut-part : (w : ℕ) (d : Shift) (p : RowPart) (first last : ℕ) → p.from ≤ p.to → first ≡ min (p.from + d.minus - d.plus) w → last ≡ min (p.to + d.minus - d.plus) w
    → (first ≤ last) × (last ≤ w) × (last - first ≤ p.to - p.from)
cut-part w d p first last order starts ends = (
  cut-order w p.from p.to d.plus d.minus first last order starts ends,
  cut-wide w p.from p.to d.plus d.minus first last order starts ends,
  cut-few w p.from p.to d.plus d.minus first last order starts ends,
)

module _ (dx dy : Shift) (p : Picture) (w h y v from to first last : ℕ) (row row' : List ℕ) (blank : BlankOutside (canvas_of w h) p) (order : from ≤ to)
    (starts : first ≡ min (from + dx.minus - dx.plus) w) (ends : last ≡ min (to + dx.minus - dx.plus) w)
    (high : dy.plus ≤ y + dy.minus) (at : v ≡ y + dy.minus - dy.plus) (L : Loaded p v first last row row') where
  -- a column that shows
  shown : (x : ℕ) → from ≤ x → x < to → dx.plus ≤ x + dx.minus → (x + dx.minus - dx.plus < w) ⊎ (w ≤ x + dx.minus - dx.plus)
      → moved_row row' (last - first) (dx.plus + first) dx.minus x ≡ p (x + dx.minus - dx.plus) (y + dy.minus - dy.plus)
  shown x l m k (inl s) =
      let since = cut-since w from to dx.plus dx.minus first last order starts ends x l k in
      let until = cut-until w from to dx.plus dx.minus first last order starts ends x m k s in
      moved-row-inside row' (last - first) (dx.plus + first) dx.minus x since (inside-until (x + dx.minus) dx.plus first last k until since)
      ∙ loaded-pixel p v first last row row' L (x + dx.minus - (dx.plus + first)) (inside-count (x + dx.minus) dx.plus first last until since)
      ∙ ap (λ (u : ℕ). p u v) (inside-column (x + dx.minus) dx.plus first since)
      ∙ ap (p (x + dx.minus - dx.plus)) at
  shown x l m k (inr s) =
      let wide = cut-wide w from to dx.plus dx.minus first last order starts ends in
      let some = cut-order w from to dx.plus dx.minus first last order starts ends in
      moved-row-outside _ _ _ _ x (inr (outside-until (x + dx.minus) dx.plus first last w k s wide some)) ∙ sym (blank.outside _ _ (λ i. absurd (never _ _ i.right s)))

  pub moved-shifted : (x : ℕ) → from ≤ x → x < to → moved_row row' (last - first) (dx.plus + first) dx.minus x ≡ shifted dx dy p x y
  moved-shifted x l m = ⊎_elim
      (λ (k : x + dx.minus < dx.plus). moved-row-outside _ _ _ _ x (inl (before_more _ _ first k)) ∙ sym (shifted-before dx dy p x y k))
      (λ (k : dx.plus ≤ x + dx.minus). shown x l m k (lt-or-le (x + dx.minus - dx.plus) w) ∙ sym (shifted_at dx dy p x y k high))
      (lt-or-le (x + dx.minus) dx.plus)

-- a move one way keeps the loaded columns within a row
pub shift_small : (d : Shift) (w from first : ℕ) → Near d → w ≤ longest_side → from ≤ w → first ≡ min (from + d.minus - d.plus) w → d.plus + first ≤ longest_side
shift_small d w from first n lw lf e = ⊎_elim (λ (z : d.plus ≡ 0). omega arith) (λ (z : d.minus ≡ 0). let l : d.plus ≤ longest_side = n.plus in omega arith) n.one_way
