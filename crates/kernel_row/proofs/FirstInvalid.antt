-- Laws of the first invalid pixel: it is exactly the one that is not valid after valid ones; there is none exactly where all are valid.
-- Assumes nothing.
use Rattle.std.proofs.Common.{◌≡◌, ℕ, zero, suc, ◌+◌, ◌*◌, ◌<◌, ◌≤◌, Bool, true, false, not, ◌&&◌, ◌||◌, List, take, drop, sym, refl, ap, ◌∙◌, ap₂, ⊎_elim, mul-le-mul_right, mul_comm, add-one, arith, le-ltb, lt-ltb}
use Rattle.window.proofs.Truths.{and_left, and_right}
use Rattle.window.proofs.Store.{lt-or-le}
use Rattle.pixel.specs.Bytes.{pixel_at, valid?, first_invalid}
use Rattle.kernel_row.specs.Code.{all_valid?}
use Rattle.pixel.proofs.PaintedRows.{pixel-part}

not-and : (a b : Bool) → (not a || not b) ≡ not (a && b)
not-and true b = refl
not-and false b = refl

-- one pixel more
pub all-valid-more : (s : List ℕ) (x : ℕ) (bad e : Bool) → bad ≡ not (all_valid? s x) → e ≡ not (valid? (pixel_at s (4 * x))) → (bad || e) ≡ not (all_valid? s (x + 1))
unfolding all_valid?
all-valid-more s x bad e p q = rw add-one (ap₂ ◌||◌ p q ∙ not-and (all_valid? s x) (valid? (pixel_at s (4 * x))))

pub first-invalid-more : (s : List ℕ) (n : ℕ) → first_invalid s n ≡ n → valid? (pixel_at s (4 * n)) ≡ true → first_invalid s (n + 1) ≡ n + 1
unfolding first_invalid
first-invalid-more s n e v = rw add-one (rw (e, le-ltb n n (omega arith), v))

-- a pixel that is not valid, after none
pub first-at : (s : List ℕ) (n p : ℕ) → p < n → first_invalid s p ≡ p → valid? (pixel_at s (4 * p)) ≡ false → first_invalid s n ≡ p
unfolding first_invalid
first-at s zero p l e v = absurd (omega arith)
first-at s (suc n) p l e v = ⊎_elim
    (λ h. rw (first-at s n p h e v, lt-ltb p n h))
    (λ h. let q : n ≡ p = omega arith in rw (q, e, le-ltb p p (omega arith), v))
    (lt-or-le p n)

-- a row of valid pixels, after none
pub first-row : (s : List ℕ) (p k o w : ℕ) → o ≡ 4 * p → 4 * w ≤ k → first_invalid s p ≡ p → all_valid? (take k (drop o s)) w ≡ true → first_invalid s (p + w) ≡ p + w
unfolding all_valid?
first-row s p k o zero eo l e v = let z : p + 0 ≡ p = omega arith in rw z e
first-row s p k o (suc w) eo l e v =
    let t : List ℕ = take k (drop o s) in
    let good : Bool = all_valid? t w in
    let last : Bool = valid? (pixel_at t (4 * w)) in
    let z : p + suc w ≡ p + w + 1 = omega arith in
    let same : pixel_at t (4 * w) ≡ pixel_at s (4 * (p + w)) = pixel-part s o k (4 * w) (4 * (p + w)) (omega arith) (omega arith) in
    rw z (first-invalid-more s (p + w) (first-row s p k o w eo (omega arith) e (and_left good last v)) (ap valid? (sym same) ∙ and_right good last v))

-- the pixels of row y end before those of h rows do
pub scan-row-room : (w h y p : ℕ) → y < h → p ≡ y * w → p + w ≤ w * h
scan-row-room w h y p l e = omega (arith, mul-le-mul_right w l, mul_comm w h)
