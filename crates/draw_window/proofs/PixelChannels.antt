-- A pixel by its four channels. Assumes nothing.
use Prim.Native.Nat.{ℕ, zero, suc, ◌+◌, ◌*◌, ◌<◌}
use mathlib.Core.Path.{◌≡◌, refl, sym, ap, ◌∙◌}
use mathlib.Core.List.{List}
use native.Mathlib.Nat.{add-zero}
use native.Mathlib.Omega.{arith}
use lib.ListN.{get_or}
use Rattle.window.specs.Window.{column}
use Rattle.pixel.specs.declared.Pixel.{Pixel}
use Rattle.pixel.specs.Alpha.{clear}
use Rattle.pixel.specs.Bytes.{pixel_at}
use Rattle.pixel.proofs.PaintedRows.{pixel-is}
use Rattle.filter.specs.Picture.{Picture}
use Rattle.draw_window.specs.LineRules.{Rule, across_of, down_of, along_row, Worked}

-- channel k of R, G, B, A
unfoldable pub channel : ℕ → Pixel → ℕ
channel zero p = p.r
channel (suc zero) p = p.g
channel (suc (suc zero)) p = p.b
channel (suc (suc (suc k))) p = p.a

pub pixel-channels : (p q : Pixel) → ((k : ℕ) → k < 4 → channel k p ≡ channel k q) → p ≡ q
unfolding channel
pixel-channels p q e = pixel-is p q (e 0 (omega arith)) (e 1 (omega arith)) (e 2 (omega arith)) (e 3 (omega arith))

pub channel-clear : (k : ℕ) → channel k clear ≡ 0
unfolding channel
channel-clear zero = refl
channel-clear (suc zero) = refl
channel-clear (suc (suc zero)) = refl
channel-clear (suc (suc (suc k))) = refl

-- a channel is a byte
pub channel-at : (d : List ℕ) (i k : ℕ) → k < 4 → channel k (pixel_at d i) ≡ get_or d (i + k) 0
unfolding channel
channel-at d i zero l = ap (λ (j : ℕ). get_or d j 0) (sym (add-zero i))
channel-at d i (suc zero) l = refl
channel-at d i (suc (suc zero)) l = refl
channel-at d i (suc (suc (suc zero))) l = refl
channel-at d i (suc (suc (suc (suc k)))) l = absurd (omega arith)

pub pixel-bytes : (d : List ℕ) (i : ℕ) (p : Pixel) → ((k : ℕ) → k < 4 → get_or d (i + k) 0 ≡ channel k p) → pixel_at d i ≡ p
pixel-bytes d i p e = pixel-channels (pixel_at d i) p (λ k l. channel-at d i k l ∙ e k l)

-- the channels of what a rule makes
pub across-channel : (rule : Rule) (w : ℕ) (p : Picture) (x y k : ℕ) → channel k (across_of rule w p x y) ≡ rule w (λ u. channel k (p u y)) x
unfolding channel across_of
across-channel rule w p x y zero = refl
across-channel rule w p x y (suc zero) = refl
across-channel rule w p x y (suc (suc zero)) = refl
across-channel rule w p x y (suc (suc (suc k))) = refl

pub down-channel : (rule : Rule) (h : ℕ) (p : Picture) (x y k : ℕ) → channel k (down_of rule h p x y) ≡ rule h (λ v. channel k (p x v)) y
unfolding channel down_of
down-channel rule h p x y zero = refl
down-channel rule h p x y (suc zero) = refl
down-channel rule h p x y (suc (suc zero)) = refl
down-channel rule h p x y (suc (suc (suc k))) = refl

pub row-channel : (rule : Rule) (d : List ℕ) (count x k : ℕ) → k < 4 → channel k (along_row rule d count x) ≡ rule count (column d 0 4 count k) x
unfolding channel along_row
row-channel rule d count x zero l = refl
row-channel rule d count x (suc zero) l = refl
row-channel rule d count x (suc (suc zero)) l = refl
row-channel rule d count x (suc (suc (suc zero))) l = refl
row-channel rule d count x (suc (suc (suc (suc k)))) l = absurd (omega arith)

-- a pixel of a row that was worked
pub row-pixel : (rule : Rule) (d d' : List ℕ) (r count x i : ℕ) → Worked rule r 4 count d d' → i ≡ r + x * 4 → x < count → pixel_at d' i ≡ along_row rule d count x
row-pixel rule d d' r count x i W e l = pixel-bytes d' i _ (λ k m. ap (λ (j : ℕ). get_or d' (j + k) 0) e ∙ W.inside x k l m ∙ sym (row-channel rule d count x k m))
