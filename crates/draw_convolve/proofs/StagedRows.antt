-- Rows of scratch that hold a picture: one row more, and the lines that are laid from them. Assumes nothing.
use Prim.Native.Nat.{ℕ, ◌+◌, ◌-◌, ◌*◌, ◌≤◌, ◌<◌}
use mathlib.Core.Path.{◌≡◌, refl, sym, ap, subst, ◌∙◌}
use mathlib.Core.Bool.{Bool, true, false}
use mathlib.Core.List.{List}
use native.Mathlib.Decide.{dec_lt}
use native.Mathlib.Nat.{mul-le-mul_right}
use native.Mathlib.Omega.{arith}
use lib.ListN.{take, drop}
use borrow.Author.Tests.{lt-ltb}
use Rattle.window.specs.Limits.{longest_side}
use Rattle.pixel.specs.declared.Convolution.{Convolution}
use Rattle.pixel.specs.Alpha.{Valid, clear, straight}
use Rattle.pixel.specs.Bytes.{pixel_at, Painted}
use Rattle.pixel.specs.Convolve.{extended}
use Rattle.pixel.proofs.PaintedRows.{pixel-same, pixel-part, painted-as}
use Rattle.kernel_lines.specs.Lines.{line_bytes, pixel_in}
use Rattle.kernel_lines.specs.Convolved.{as_read}
use Rattle.kernel_lines.proofs.ExtendedRows.{pixel-behind, extended-place, extended-as, extended-map}
use Rattle.filter.specs.Picture.{Picture}
use Rattle.filter.specs.Valid.{ValidPicture}
use Rattle.buffers.specs.Context.{LoadedPart}
use Rattle.buffers.proofs.LoadedRows.{loaded-pixel}
use Rattle.draw_convolve.specs.Staged.{Staged, row_read, line_of, ScratchHolds}

-- none yet
pub staged-none : (w : ℕ) (b : Bool) (g : Picture) (from : ℕ) (d : List ℕ) → Staged w b g from from d
staged-none w b g from d = record { same = λ x y lx l m. absurd (omega arith) }

-- a row before another ends before it
row_before : (w x y z : ℕ) → x < w → y < z → y * w + x < z * w
row_before w x y z l m = omega (arith, mul-le-mul_right w m)

pub staged-more : (w : ℕ) (b : Bool) (g : Picture) (from y : ℕ) (d d' : List ℕ) → Staged w b g from y d
    → Painted (λ p. as_read b (g (p - y * w) y)) 0 (y * w) (y * w + w) d d' → Staged w b g from (y + 1) d'
staged-more w b g from y d d' S P = record { same = λ x z lx l m. go x z lx l m (dec_lt z y) }
  where
    go : (x z : ℕ) → x < w → from ≤ z → z < y + 1 → Dec (z < y) → pixel_at d' (4 * (z * w + x)) ≡ as_read b (g x z)
    go x z lx l m (yes k) =
        let early = row_before w x z y lx k in
        pixel-same d' d (4 * (z * w + x)) (4 * (z * w + x)) (λ c h. P.before (4 * (z * w + x) + c) (omega arith)) ∙ S.same x z lx l k
    go x z lx l m (no k) =
        let e : z ≡ y = omega arith in
        let at : 4 * (z * w + x) ≡ 0 + 4 * (y * w + x) = rw e (omega arith) in
        let own : y * w + x - y * w ≡ x = omega arith in
        ap (pixel_at d') at ∙ P.inside (y * w + x) (omega arith) (omega arith) ∙ rw (own, e) refl

-- a row of the picture, copied to its place
pub row_loaded : (g : Picture) (y w : ℕ) (bytes d d' : List ℕ) → LoadedPart g (record { y = y; from = 0; to = w }) bytes bytes
    → Painted (λ x. pixel_at bytes (4 * (0 + (x - y * w)))) 0 (y * w) (y * w + w) d d' → Painted (λ p. g (p - y * w) y) 0 (y * w) (y * w + w) d d'
row_loaded g y w bytes d d' L P = painted-as _ _ _ _ _ _ _ each P
  where
    each : (x : ℕ) → y * w ≤ x → x < y * w + w → pixel_at bytes (4 * (0 + (x - y * w))) ≡ g (x - y * w) y
    each x l h =
        let e : 4 * (0 + (x - y * w)) ≡ 4 * (x - y * w) = omega arith in
        let z : 0 + (x - y * w) ≡ x - y * w = omega arith in
        ap (pixel_at bytes) e ∙ loaded-pixel g y 0 w bytes bytes L (x - y * w) (omega arith) ∙ ap (λ (u : ℕ). g u y) z

-- and its colours unpremultiplied where it stands
pub row-straightened : (g : Picture) (y w : ℕ) (d d₁ d₂ : List ℕ) → Painted (λ p. g (p - y * w) y) 0 (y * w) (y * w + w) d d₁
    → Painted (λ p. straight (pixel_at d₁ (4 * p))) 0 (y * w) (y * w + w) d₁ d₂ → Painted (λ p. straight (g (p - y * w) y)) 0 (y * w) (y * w + w) d d₂
row-straightened g y w d d₁ d₂ P Q = record {
  inside = λ x l h.
      let e : 4 * x ≡ 0 + 4 * x = omega arith in
      Q.inside x l h ∙ ap straight (ap (pixel_at d₁) e ∙ P.inside x l h);
  before = λ i h. Q.before i h ∙ P.before i h;
  after = λ i h. Q.after i h ∙ P.after i h;
  long = Q.long ∙ P.long;
}

-- a row of a valid picture
pub row-valid : (g : Picture) (y w : ℕ) (d d' : List ℕ) → ValidPicture g → Painted (λ p. g (p - y * w) y) 0 (y * w) (y * w + w) d d'
    → (x : ℕ) → x < w → Valid (pixel_at d' (4 * (y * w + x)))
row-valid g y w d d' good P x l =
    let e : 4 * (y * w + x) ≡ 0 + 4 * (y * w + x) = omega arith in
    subst Valid (sym (ap (pixel_at d') e ∙ P.inside (y * w + x) (omega arith) (omega arith))) (good.valid (y * w + x - y * w) y)

-- transparent black is read as it is
read-clear : (b : Bool) → as_read b clear ≡ clear
unfolding straight
read-clear true = refl
read-clear false = refl

module _ (w h : ℕ) (k : Convolution) (y i : ℕ) (g : Picture) (d : List ℕ) (H : ScratchHolds w h k y (y + 1) g d) (li : i < k.rows) where
  blank-at : (p q : ℕ) → h ≤ q → as_read k.preserve (g p q) ≡ clear
  blank-at p q l = ap (as_read k.preserve) (H.blank.outside p q (λ t. absurd (omega (arith, t.bottom)))) ∙ read-clear k.preserve

  -- a row that is not on the canvas is transparent black, extended or not
  row-blank : (q m : ℕ) → h ≤ q → extended k.edge w k.column (λ p. as_read k.preserve (g p q)) m ≡ clear
  row-blank q m l =
      extended-as k.edge w k.column m _ (λ p. clear) (λ p. blank-at p q l)
      ∙ extended-map k.edge w k.column m (λ p. clear) (λ p. clear) refl

  -- line i is the row that is read, extended
  line_row : (m : ℕ) → line_of w h k g y i m ≡ extended k.edge w k.column (λ p. as_read k.preserve (g p (row_read h k y i))) m
  line_row m = extended-place k.edge h k.row (y + i) _ (λ q l. row-blank q m l)

  pub line-blank : (m : ℕ) → h ≤ row_read h k y i → clear ≡ line_of w h k g y i m
  line-blank m l = sym (line_row m ∙ row-blank (row_read h k y i) m l)

  -- a row of scratch
  pub line-laid : (o c m : ℕ) → row_read h k y i < h → o ≡ 4 * (row_read h k y i * w) → c ≡ 4 * w
      → extended k.edge w k.column (pixel_in (take c (drop o d)) w) m ≡ line_of w h k g y i m
  line-laid o c m l eo ec = extended-as k.edge w k.column m _ _ each ∙ sym (line_row m)
    where
      q : ℕ
      q = row_read h k y i

      part : (p : ℕ) → p < w → pixel_at (take c (drop o d)) (4 * p) ≡ as_read k.preserve (g p q)
      part p lp =
          let seen = H.read.seen y i (omega arith) (omega arith) li l in
          pixel-part d o c (4 * p) (4 * (q * w + p)) (omega arith) (omega arith) ∙ H.staged.same p q lp seen.0 seen.1

      inside : (p : ℕ) → p < w → pixel_in (take c (drop o d)) w p ≡ pixel_at (take c (drop o d)) (4 * p)
      inside p lp = simp (lt-ltb p w lp)

      outside : (p : ℕ) → w ≤ p → as_read k.preserve (g p q) ≡ clear
      outside p lp = ap (as_read k.preserve) (H.blank.outside p q (λ t. absurd (omega (arith, t.right)))) ∙ read-clear k.preserve

      each : (p : ℕ) → pixel_in (take c (drop o d)) w p ≡ as_read k.preserve (g p q)
      each p = elim (dec_lt p w) [
        | yes lp ↦ inside p lp ∙ part p lp
        | no lp ↦ pixel-behind (take c (drop o d)) w p (omega arith) ∙ sym (outside p (omega arith))
      ]

-- the lines before line n
pub record LinesBefore (w h : ℕ) (k : Convolution) (g : Picture) (y n : ℕ) (lines : List ℕ) : Type 0 where
  pub held : (i m : ℕ) → i < n → m < w + k.columns - 1 → pixel_at lines (i * line_bytes + 4 * m) ≡ line_of w h k g y i m

pub lines_none : (w h : ℕ) (k : Convolution) (g : Picture) (y : ℕ) (lines : List ℕ) → LinesBefore w h k g y 0 lines
lines_none w h k g y lines = record { held = λ i m l h. absurd (omega arith) }

pub lines_more : (w h : ℕ) (k : Convolution) (g : Picture) (y n : ℕ) (lines lines' : List ℕ) → w ≤ longest_side → k.columns ≤ 5 → LinesBefore w h k g y n lines
    → Painted (line_of w h k g y n) (n * line_bytes) 0 (w + k.columns - 1) lines lines' → LinesBefore w h k g y (n + 1) lines'
lines_more w h k g y n lines lines' lw lc B P = record { held = λ i m l lm. go i m l lm (dec_lt i n) }
  where
    go : (i m : ℕ) → i < n + 1 → m < w + k.columns - 1 → Dec (i < n) → pixel_at lines' (i * line_bytes + 4 * m) ≡ line_of w h k g y i m
    go i m l lm (yes q) =
        pixel-same lines' lines (i * line_bytes + 4 * m) (i * line_bytes + 4 * m) (λ c h. P.before (i * line_bytes + 4 * m + c) (omega arith)) ∙ B.held i m q lm
    go i m l lm (no q) =
        let e : i ≡ n = omega arith in
        rw e (P.inside m (omega arith) lm)
