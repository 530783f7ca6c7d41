-- The last step of a row: alphas put, colours lowered. Assumes nothing.
use Prim.Native.Nat.{ℕ, ◌+◌, ◌*◌, ◌/◌, ◌%◌, ◌≤◌, ◌<◌, min}
use mathlib.Core.Path.{◌≡◌, refl, ap, ◌∙◌}
use mathlib.Core.Bool.{true, false, cond}
use mathlib.Core.List.{List}
use mathlib.Core.Logic.{◌≢◌}
use native.Mathlib.Nat.{add-mul-mod_self_right, mod-eq_of_lt}
use native.Mathlib.Omega.{arith}
use lib.ListN.{length, get_or, set, length-set}
use lib.Seq.{get_or-set_same, get_or-set_other}
use Rattle.window.specs.Store.{Filled}
use Rattle.pixel.specs.declared.Pixel.{Pixel}
use Rattle.pixel.specs.declared.Convolution.{Convolution}
use Rattle.pixel.specs.Alpha.{lowered}
use Rattle.pixel.specs.Bytes.{pixel_at, Painted}
use Rattle.pixel.specs.Word.{unpacked}
use Rattle.pixel.proofs.PaintedRows.{pixel-is, pixel-by}
use Rattle.kernel_alpha.specs.Premultiplied.{premultiplied_pixel}
use Rattle.kernel_lines.specs.Lines.{line_bytes}
use Rattle.kernel_lines.specs.Convolved.{own_alpha, kept_by, lane_pixel, line_pixel, lane_byte}
use Rattle.number.specs.declared.Fixed.{Fixed}
use Rattle.kernel_convolve.specs.Code.{with_alpha, lowest}

-- the alpha of one pixel
pub painted-alpha : (a i : ℕ) (d : List ℕ) → i + 4 ≤ length d → Painted (λ x. with_alpha a (pixel_at d i)) i 0 1 d (set d (i + 3) a)
painted-alpha a i d l =
    let other : (j : ℕ) → j ≢ i + 3 → get_or (set d (i + 3) a) j 0 ≡ get_or d j 0 = λ j ne. get_or-set_other d (i + 3) j a 0 ne in
    record {
      inside = λ x lo hi.
          let e : i + 4 * x ≡ i = omega arith in
          rw e (pixel-by (set d (i + 3) a) i (with_alpha a (pixel_at d i))
          (other i (omega arith)) (other (i + 1) (omega arith)) (other (i + 2) (omega arith)) (get_or-set_same d (i + 3) a 0 (omega arith)));
      before = λ j h. other j (omega arith);
      after = λ j h. other j (omega arith);
      long = length-set d (i + 3) a;
    }

low_byte : (n q a : ℕ) → n ≡ a + q * 256 → a < 256 → n % 256 ≡ a
low_byte n q a e l = rw (e, add-mul-mod_self_right a q 256) (mod-eq_of_lt l)

-- the four bytes of a word are an alpha
pub word-lowest : (a v : ℕ) → a < 256 → v ≡ a * 16843009 → unpacked v ≡ lowest a
word-lowest a v l e =
    let e0 : v % 256 ≡ a = low_byte v (a * 65793) a (omega arith) l in
    let e1 : v / 256 % 256 ≡ a = low_byte (v / 256) (a * 257) a (omega arith) l in
    let e2 : v / 65536 % 256 ≡ a = low_byte (v / 65536) a a (omega arith) l in
    let e3 : v / 16777216 ≡ a = omega arith in
    pixel-is _ (lowest a) e0 e1 e2 e3

-- the lesser of each byte and its alpha: pixels lowered
pub lowered-row : (d f₀ f d' : List ℕ) (n : ℕ) → length d ≡ 4 * n
    → Painted (λ x. lowest (get_or d (4 * x + 3) 0)) 0 0 n f₀ f
    → Filled (λ i. min (get_or d i 0) (get_or f i 0)) 0 (length d) d d'
    → Painted (λ x. lowered (pixel_at d (4 * x))) 0 0 n d d'
lowered-row d f₀ f d' n long P F = record {
  inside = λ x lo hi.
      let z : 0 + 4 * x ≡ 4 * x = omega arith in
      let p : pixel_at f (4 * x) ≡ lowest (get_or d (4 * x + 3) 0) = rw z at (P.inside x lo hi) in
      let least : (i a : ℕ) → i < length d → get_or f i 0 ≡ a → get_or d' i 0 ≡ min (get_or d i 0) a
      = λ i a l e. F.inside i (omega arith) l ∙ ap (min (get_or d i 0)) e in
      let own : min (get_or d (4 * x + 3) 0) (get_or d (4 * x + 3) 0) ≡ get_or d (4 * x + 3) 0 = omega arith in
      rw z (pixel-by d' (4 * x) (lowered (pixel_at d (4 * x)))
      (least (4 * x) _ (omega arith) (ap (λ (q : Pixel). q.r) p))
      (least (4 * x + 1) _ (omega arith) (ap (λ (q : Pixel). q.g) p))
      (least (4 * x + 2) _ (omega arith) (ap (λ (q : Pixel). q.b) p))
      (least (4 * x + 3) _ (omega arith) (ap (λ (q : Pixel). q.a) p) ∙ own));
  before = λ i h. absurd (omega arith);
  after = λ i h. F.after i (omega arith);
  long = F.long;
}

-- one row after another, over the same pixels
pub painted-over : (f g : ℕ → Pixel) (h : ℕ → Pixel) (n : ℕ) (d e d' : List ℕ) → ((x : ℕ) → x < n → pixel_at e (4 * x) ≡ f x → g x ≡ h x)
    → Painted f 0 0 n d e → Painted g 0 0 n e d' → Painted h 0 0 n d d'
painted-over f g h n d e d' s P Q = record {
  inside = λ x lo hi.
      let z : 0 + 4 * x ≡ 4 * x = omega arith in
      Q.inside x lo hi ∙ s x hi (rw z at (P.inside x lo hi));
  before = λ i l. absurd (omega arith);
  after = λ i l. Q.after i l ∙ P.after i l;
  long = Q.long ∙ P.long;
}

pub kept-pixel : (a : ℕ) (p q : Pixel) → q ≡ with_alpha a p → premultiplied_pixel q ≡ kept_by a p
unfolding premultiplied_pixel
kept-pixel a p q e = rw e refl

-- alphas put, then colours premultiplied by them
pub kept_row : (k : Convolution) (lines : List ℕ) (own left n : ℕ) (d e d' : List ℕ) → k.preserve ≡ true
    → own ≡ k.row * line_bytes + 4 * (left + k.column) + 3
    → Painted (λ x. with_alpha (get_or lines (own + 4 * x) 0) (pixel_at d (4 * x))) 0 0 n d e
    → Painted (λ x. premultiplied_pixel (pixel_at e (4 * x))) 0 0 n e d'
    → Painted (λ x. cond k.preserve (kept_by (own_alpha k lines (left + x)) (pixel_at d (4 * x))) (lowered (pixel_at d (4 * x)))) 0 0 n d d'
kept_row k lines own left n d e d' b o P Q = rw b (painted-over _ _ _ n d e d' (λ x l h.
    let at : own + 4 * x ≡ k.row * line_bytes + (4 * (left + x + k.column) + 3) = omega arith in
    kept-pixel (get_or lines (own + 4 * x) 0) (pixel_at d (4 * x)) _ h ∙ ap (λ (i : ℕ). kept_by (get_or lines i 0) (pixel_at d (4 * x))) at) P Q)

pub lowered-only : (k : Convolution) (lines : List ℕ) (left n : ℕ) (d d' : List ℕ) → k.preserve ≡ false
    → Painted (λ x. lowered (pixel_at d (4 * x))) 0 0 n d d'
    → Painted (λ x. cond k.preserve (kept_by (own_alpha k lines (left + x)) (pixel_at d (4 * x))) (lowered (pixel_at d (4 * x)))) 0 0 n d d'
lowered-only k lines left n d d' b P = rw b P

-- bytes that were summed, as the pixels of the definition
lane-pixel : (k : Convolution) (v : List Fixed) (lines : List ℕ) (left n x : ℕ) (d e : List ℕ) → x < n
    → Filled (λ b. lane_byte k v lines (4 * left + b)) 0 (4 * n) d e → pixel_at e (4 * x) ≡ lane_pixel k v lines (left + x)
lane-pixel k v lines left n x d e l F =
    let byte : (b c : ℕ) → b < 4 * n → 4 * left + b ≡ c → get_or e b 0 ≡ lane_byte k v lines c
    = λ b c h q. F.inside b (omega arith) h ∙ ap (lane_byte k v lines) q in
    pixel-by e (4 * x) (lane_pixel k v lines (left + x))
    (byte (4 * x) (4 * (left + x)) (omega arith) (omega arith))
    (byte (4 * x + 1) (4 * (left + x) + 1) (omega arith) (omega arith))
    (byte (4 * x + 2) (4 * (left + x) + 2) (omega arith) (omega arith))
    (byte (4 * x + 3) (4 * (left + x) + 3) (omega arith) (omega arith))

pub convolved-row : (k : Convolution) (v : List Fixed) (lines : List ℕ) (left n : ℕ) (d e d' : List ℕ)
    → Filled (λ b. lane_byte k v lines (4 * left + b)) 0 (4 * n) d e
    → Painted (λ x. cond k.preserve (kept_by (own_alpha k lines (left + x)) (pixel_at e (4 * x))) (lowered (pixel_at e (4 * x)))) 0 0 n e d'
    → Painted (λ x. line_pixel k v lines (left + x)) 0 0 n d d'
unfolding line_pixel
convolved-row k v lines left n d e d' F P = record {
  inside = λ x lo hi.
      P.inside x lo hi
      ∙ ap (λ (p : Pixel). cond k.preserve (kept_by (own_alpha k lines (left + x)) p) (lowered p)) (lane-pixel k v lines left n x d e hi F);
  before = λ i l. absurd (omega arith);
  after = λ i l. P.after i l ∙ F.after i (omega arith);
  long = P.long ∙ F.long;
}
