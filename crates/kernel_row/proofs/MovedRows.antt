-- Where a moved row shows the row, and where it is transparent. Assumes nothing.
use Rattle.std.proofs.Common.{◌≡◌, ℕ, ◌+◌, ◌-◌, ◌*◌, ◌<◌, ◌≤◌, ◌⊎◌, List, sym, ap, ◌∙◌, inl, inr, ⊎_elim, arith, le-ltb, lt-ltb, le-leb}
use borrow.Author.Tests.{lt-leb}
use Rattle.window.proofs.Store.{lt-or-le}
use Rattle.pixel.specs.Alpha.{clear}
use Rattle.pixel.specs.Bytes.{pixel_at}
use Rattle.kernel_row.specs.Row.{moved_row}
use Rattle.kernel_row.specs.Code.{Parted}

pub moved-row-inside : (row : List ℕ) (w right left x : ℕ) → right ≤ x + left → x + left < right + w → moved_row row w right left x ≡ pixel_at row (4 * (x + left - right))
unfolding moved_row
moved-row-inside row w right left x l h = simp (le-leb _ _ l, lt-ltb (x + left - right) w (omega arith))

pub moved-row-outside : (row : List ℕ) (w right left x : ℕ) → (x + left < right) ⊎ (right + w ≤ x + left) → moved_row row w right left x ≡ clear
unfolding moved_row
moved-row-outside row w right left x = ⊎_elim
    (λ l. simp (lt-leb _ _ l))
    (λ (h : right + w ≤ x + left).
    let l : right ≤ x + left = omega arith in
    simp (le-leb _ _ l, le-ltb (x + left - right) w (omega arith)))

-- lo and hi part the places from `from` up to `to` where the row begins to show, and where it ends
module _ (row : List ℕ) (w right left from to lo hi : ℕ) (P : Parted right left from to lo) (Q : Parted (right + w) left lo to hi) where
  pub moved_before : (x : ℕ) → from ≤ x → x < lo → clear ≡ moved_row row w right left x
  moved_before x l h = sym (moved-row-outside row w right left x (inl (P.before x l h)))

  pub moved-after : (x : ℕ) → hi ≤ x → x < to → clear ≡ moved_row row w right left x
  moved-after x l h = sym (moved-row-outside row w right left x (inr (Q.since x l h)))

  pub moved-between : (x : ℕ) → lo ≤ x → x < hi → pixel_at row (4 * (lo + left - right + (x - lo))) ≡ moved_row row w right left x
  moved-between x l h =
      let top : hi ≤ to = Q.high in
      let a : right ≤ x + left = P.since x l (omega arith) in
      let b : right ≤ lo + left = P.since lo (omega arith) (omega arith) in
      let e : lo + left - right + (x - lo) ≡ x + left - right = omega arith in
      ap (λ (n : ℕ). pixel_at row (4 * n)) e ∙ sym (moved-row-inside row w right left x a (Q.before x l h))

  pub moved-starts : lo < hi → right ≤ lo + left
  moved-starts l = let top : hi ≤ to = Q.high in P.since lo (omega arith) (omega arith)

  pub moved-room : lo < hi → lo + left - right + (hi - lo) ≤ w
  moved-room l =
      let a : right ≤ lo + left = moved-starts l in
      let b : hi - 1 + left < right + w = Q.before (hi - 1) (omega arith) (omega arith) in
      omega arith

  pub moved_none : hi ≤ lo → (x : ℕ) → from ≤ x → x < to → clear ≡ moved_row row w right left x
  moved_none g x l h = ⊎_elim (λ t. moved_before x l t) (λ t. moved-after x (omega arith) h) (lt-or-le x lo)
