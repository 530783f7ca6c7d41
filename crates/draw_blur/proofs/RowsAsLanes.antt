-- Rows turned into lanes and back: one lane more, lanes that are worked, and a strip from lanes. Assumes nothing.
use Prim.Native.Nat.{ℕ, ◌+◌, ◌-◌, ◌*◌, ◌≤◌, ◌<◌, min}
use mathlib.Core.Path.{◌≡◌, refl, sym, ap, ◌∙◌}
use mathlib.Core.List.{List}
use mathlib.Core.Logic.{◌≢◌, ⊎_elim}
use native.Mathlib.Nat.{mul-le-mul_right}
use native.Mathlib.Omega.{arith}
use lib.ListN.{get_or}
use Rattle.window.specs.Store.{byte_at}
use Rattle.window.proofs.Store.{lt-or-le}
use Rattle.pixel.specs.Bytes.{pixel_at}
use Rattle.pixel.proofs.PaintedRows.{pixel-same}
use Rattle.kernel_blur.specs.StridedRows.{Rows}
use Rattle.filter.specs.Rect.{canvas_of}
use Rattle.filter.specs.Picture.{Picture}
use Rattle.filter.specs.Valid.{BlankOutside}
use Rattle.buffers.specs.Buffers.{Loaded}
use Rattle.buffers.specs.Strip.{Strip}
use Rattle.draw_window.specs.declared.Span.{Span}
use Rattle.draw_window.specs.LookedAt.{LookedAt}
use Rattle.draw_window.specs.LineRules.{Rule, across_of, Worked}
use Rattle.draw_window.proofs.PixelChannels.{channel, channel-at, pixel-bytes}
use Rattle.draw_window.proofs.BandedRules.{Banded}
use Rattle.draw_window.proofs.StripRows.{strip-more}
use Rattle.draw_window.proofs.BandIsEnough.{band-channel}
use Rattle.draw_blur.specs.Lanes.{Lanes, Dealt, Gathered}

-- two lanes have no byte in common
lane-apart : (a v j k c i : ℕ) → j < k → k < 8 → c < 4 → i < 4 → 0 + a * 32 + 4 * j + c ≢ 4 * k + v * 32 + i
lane-apart a v j k c i h l m n e = absurd (omega arith)

-- one lane more
lanes-more : (p : Picture) (from to y k : ℕ) (row₀ row d d' : List ℕ) → k < 8 → Lanes p 0 from from to y k d → Loaded p (y + k) from to row₀ row
    → Rows (λ x c. byte_at row 0 4 x c) (4 * k) 32 4 (to - from) d d' → Lanes p 0 from from to y (k + 1) d'
lanes-more p from to y k row₀ row d d' few L G R = record {
  same = λ x j a b h. ⊎_elim
      (λ l.
      let i : ℕ = 0 + (x - from) * 32 + 4 * j in
      pixel-same d' d i i (λ c m. R.outside (i + c) (λ v e hv he. lane-apart (x - from) v j k c e l few m he)) ∙ L.same x j a b l)
      (λ l.
      let q : j ≡ k = omega arith in
      let f : from + (x - from) ≡ x = omega arith in
      rw q (pixel-bytes d' (0 + (x - from) * 32 + 4 * k) (p x (y + k)) (λ c m.
      let e : 0 + (x - from) * 32 + 4 * k + c ≡ 4 * k + (x - from) * 32 + c = omega arith in
      let g : 0 + (x - from) * 4 + c ≡ 0 + 4 * (x - from) + c = omega arith in
      ap (λ (z : ℕ). get_or d' z 0) e ∙ R.inside (x - from) c (omega arith) m ∙ ap (λ (z : ℕ). get_or row z 0) g
      ∙ sym (channel-at row (0 + 4 * (x - from)) c m) ∙ ap (channel c) (G.inside (x - from) (omega arith) (omega arith) ∙ ap (λ (z : ℕ). p z (y + k)) f))))
      (lt-or-le j k);
}

pub dealt-more : (p : Picture) (s : Span) (y k : ℕ) (row₀ row d₀ d d' : List ℕ) → k < 8 → Dealt p s y k d₀ d → Loaded p (y + k) s.from s.to row₀ row
    → Rows (λ x c. byte_at row 0 4 x c) (4 * k) 32 4 (s.to - s.from) d d' → Dealt p s y (k + 1) d₀ d'
dealt-more p s y k row₀ row d₀ d d' few S G R = record {
  lanes = lanes-more p s.from s.to y k row₀ row d d' few S.lanes G R;
  outside = λ j h. R.outside j (λ v i a b e. h v (4 * k + i) a (omega arith) (omega (arith, e))) ∙ S.outside j (λ v i a b. h v i a (omega arith));
  long = R.long ∙ S.long;
}

-- lanes that are worked along the lines
lanes-worked : (rule : Rule) (back ahead w h : ℕ) (p : Picture) → BlankOutside (canvas_of w h) p → Banded rule back ahead
    → (r y count left right lo hi : ℕ) (s s' : List ℕ) → LookedAt w left right back ahead lo hi → right ≤ w → count ≤ 8 → Lanes p 0 lo lo hi y count s
    → Worked rule r 32 (hi - lo) s s' → Lanes (across_of rule w p) r lo left right y count s'
lanes-worked rule back ahead w h p blank B r y count left right lo hi s s' R wide few L K = record {
  same = λ x k a b h. pixel-bytes s' (r + (x - lo) * 32 + 4 * k) _ (λ c m.
      let e : r + (x - lo) * 32 + 4 * k + c ≡ r + (x - lo) * 32 + (4 * k + c) = omega arith in
      ap (λ (z : ℕ). get_or s' z 0) e ∙ K.inside (x - lo) (4 * k + c) (room x a b) (omega arith)
      ∙ band-channel rule back ahead w _ p blank B s 0 32 (4 * k + c) c (y + k) left right lo hi R wide (λ j l. lane k c j h m l) x a b);
}
  where
    room : (x : ℕ) → left ≤ x → x < right → x - lo < hi - lo
    room x a b = omega (arith, R.low, R.high)

    lane : (k c j : ℕ) → k < count → c < 4 → j < hi - lo → byte_at s 0 32 j (4 * k + c) ≡ channel c (p (lo + j) (y + k))
    lane k c j h m l =
        let e : 0 + j * 32 + (4 * k + c) ≡ 0 + (lo + j - lo) * 32 + 4 * k + c = omega arith in
        ap (λ (z : ℕ). get_or s z 0) e ∙ sym (channel-at s (0 + (lo + j - lo) * 32 + 4 * k) c m) ∙ ap (channel c) (L.same (lo + j) k (omega arith) (omega arith) h)

-- one row more
pub gathered-more : (s : List ℕ) (o at width k : ℕ) (d₀ d d' : List ℕ) → Gathered s o at width k d₀ d
    → Rows (λ v i. byte_at s (o + 4 * k) 32 v i) (4 * (at + k * width)) 4 4 width d d' → Gathered s o at width (k + 1) d₀ d'
gathered-more s o at width k d₀ d d' G R = record {
  inside = λ v j h l. ⊎_elim
      (λ lt.
      let i : ℕ = 4 * (at + v * width + j) in
      let m : v * width + width ≤ k * width = omega (arith, mul-le-mul_right width lt) in
      pixel-same d' d i i (λ c n. R.outside (i + c) (λ x e hx he q. absurd (omega arith))) ∙ G.inside v j lt l)
      (λ ge.
      let q : v ≡ k = omega arith in
      rw q (pixel-same d' s (4 * (at + k * width + j)) (o + j * 32 + 4 * k) (λ c n.
      let e : 4 * (at + k * width + j) + c ≡ 4 * (at + k * width) + j * 4 + c = omega arith in
      let f : o + 4 * k + j * 32 + c ≡ o + j * 32 + 4 * k + c = omega arith in
      ap (λ (z : ℕ). get_or d' z 0) e ∙ R.inside j c l n ∙ ap (λ (z : ℕ). get_or s z 0) f)))
      (lt-or-le v k);
  before = λ i h. R.outside i (λ x e hx he q. absurd (omega arith)) ∙ G.before i h;
  after = λ i h. R.outside i (λ x e hx he q. absurd (omega arith)) ∙ G.after i (omega arith);
  long = R.long ∙ G.long;
}

-- places of a strip's row counted from an earlier row, and of a line counted from a later column
row-place : (v u k width at x : ℕ) → at ≡ u * width → v ≡ u + k → 4 * (0 + v * width + x) ≡ 4 * (at + k * width + x)
row-place v u k width at x e q = omega (arith, ap (λ (z : ℕ). z * width) q)

line-place : (r lo left x k : ℕ) → lo ≤ left → left ≤ x → r + 32 * (left - lo) + (x - left) * 32 + k ≡ r + (x - lo) * 32 + k
line-place r lo left x k l m = omega arith

counted : (a b n c : ℕ) → c ≡ a + n → a ≤ b → b < c → b - a < n
counted a b n c e l m = omega arith

-- rows gathered from lanes are rows of the strip
strip-gathered : (q : Picture) (r lo left right first y count at : ℕ) (s d d' : List ℕ) → lo ≤ left → first ≤ y → at ≡ (y - first) * (right - left)
    → Strip q 0 left right first y d → Lanes q r lo left right y count s → Gathered s (r + 32 * (left - lo)) at (right - left) count d d' → Strip q 0 left right first (y + count) d'
strip-gathered q r lo left right first y count at s d d' skip from place S L G = strip-more q 0 left right first y (y + count) d d' from S
    (λ i l. G.before i (omega arith))
    (λ x v a b c e.
    let k : v - first ≡ (y - first) + (v - y) = omega arith in
    let t : y + (v - y) ≡ v = omega arith in
    let width : right ≡ left + (right - left) = omega arith in
    let i = row-place (v - first) (y - first) (v - y) (right - left) at (x - left) place k in
    let j = line-place r lo left x (4 * (v - y)) skip a in
    ap (pixel_at d') i ∙ G.inside (v - y) (x - left) (counted y v count (y + count) refl c e) (counted left x (right - left) right width a b) ∙ ap (pixel_at s) j ∙ L.same x (v - y) a b (counted y v count (y + count) refl c e) ∙ ap (q x) t)

-- rows that were dealt, worked and gathered are rows of the strip, up to z
pub strip-turn : (rule : Rule) (back ahead w h : ℕ) (p : Picture) → BlankOutside (canvas_of w h) p → Banded rule back ahead
    → (r first y count bottom z left right lo hi at : ℕ) (s s' d d' : List ℕ) → LookedAt w left right back ahead lo hi → lo ≤ left → right ≤ w → count ≤ 8 → first ≤ y → y < bottom → y + count ≡ z
    → at ≡ (y - first) * (right - left) → Strip (across_of rule w p) 0 left right first (min y bottom) d → Lanes p 0 lo lo hi y count s → Worked rule r 32 (hi - lo) s s'
    → Gathered s' (r + 32 * (left - lo)) at (right - left) count d d' → Strip (across_of rule w p) 0 left right first z d'
strip-turn rule back ahead w h p blank B r first y count bottom z left right lo hi at s s' d d' R skip wide few from under end place S L W G =
    let e : min y bottom ≡ y = omega arith in
    rw end at (strip-gathered (across_of rule w p) r lo left right first y count at s' d d' skip from place (rw e at S) (lanes-worked rule back ahead w h p blank B r y count left right lo hi s s' R wide few L W) G)

-- count rows from y on end in the strip
pub rows-room : (y first last count width : ℕ) → first ≤ y → y + count ≤ last → (y - first) * width + count * width ≤ (last - first) * width
rows-room y first last count width l m = let k : y - first + count ≤ last - first = omega arith in omega (arith, mul-le-mul_right width k)
