-- Marks of pixels that are not valid: differences in the halves of a word, gathered by or. Assumes nothing.
use Rattle.std.proofs.Common.{◌≡◌, ℕ, zero, suc, ◌+◌, ◌-◌, ◌*◌, ◌/◌, ◌%◌, ◌^◌, ◌<◌, ◌≤◌, max, Bool, true, false, not, ◌&&◌, ◌||◌, ltb, leb, ◌⊎◌, sym, refl, ap, ◌∙◌, ap₂, inl, inr, ⊎_elim, arith, le-ltb, lt-ltb, le-leb}
use borrow.Author.Tests.{lt-leb}
use lib.Bits.{bit_or, or_zero_l, or_shr, or_mod}
use Rattle.window.proofs.Store.{lt-or-le}
use Rattle.pixel.specs.declared.Pixel.{Pixel}
use Rattle.pixel.specs.Bytes.{valid?}
use Rattle.kernel_row.specs.Code.{marked?}

-- the bit k of an or
or-bit : (k s t : ℕ) → bit_or s t / 2 ^ k % 2 ≡ max (s / 2 ^ k % 2) (t / 2 ^ k % 2)
or-bit k s t = ap (λ (n : ℕ). n % 2) (or_shr s t k) ∙ or_mod (s / 2 ^ k) (t / 2 ^ k) 1 ∙ bits (s / 2 ^ k % 2) (t / 2 ^ k % 2) (omega arith) (omega arith)
  where
    bits : (x y : ℕ) → x < 2 → y < 2 → bit_or x y ≡ max x y
    bits zero y h l = or_zero_l y ∙ omega arith
    bits (suc zero) zero h l = refl
    bits (suc zero) (suc zero) h l = refl
    bits (suc zero) (suc (suc y)) h l = absurd (omega arith)
    bits (suc (suc x)) y h l = absurd (omega arith)

any-set : (p q u w : ℕ) → ltb 0 (max p u + max q w) ≡ (ltb 0 (p + q) || ltb 0 (u + w))
any-set p q u w = ⊎_elim
    (λ (h : 0 < p + q). rw (lt-ltb 0 (p + q) h) (lt-ltb 0 (max p u + max q w) (omega arith)))
    (λ (h : p + q ≤ 0).
    let e : max p u + max q w ≡ u + w = omega arith in
    rw (le-ltb 0 (p + q) h) (ap (ltb 0) e))
    (lt-or-le 0 (p + q))

pub marked-or : (s t : ℕ) → marked? (bit_or s t) ≡ (marked? s || marked? t)
marked-or s t =
    ap₂ (λ (m n : ℕ). ltb 0 (m + n)) (or-bit 15 s t) (or-bit 31 s t)
    ∙ any-set (s / 32768 % 2) (s / 2147483648 % 2) (t / 32768 % 2) (t / 2147483648 % 2)

-- a low half of 32,768 or more has its top bit set
low-set : (d m l : ℕ) → d ≡ 65536 * m + l → 32768 ≤ l → l < 65536 → d / 32768 % 2 ≡ 1
low-set d m l e g h =
    let q : d / 32768 ≡ 2 * m + 1 = omega arith in
    omega (arith, q)

low_clear : (d m l : ℕ) → d ≡ 65536 * m + l → l < 32768 → d / 32768 % 2 ≡ 0
low_clear d m l e h =
    let q : d / 32768 ≡ 2 * m = omega arith in
    omega (arith, q)

-- d is c - n, with 2³² added where that is below zero
taken : (d n c : ℕ) → d < 4294967296 → n < 4294967296 → (d + n) % 4294967296 ≡ c → (d + n ≡ c) ⊎ (d + n ≡ c + 4294967296)
taken d n c ld ln e = ⊎_elim (λ (h : d + n < 4294967296). inl (omega arith)) (λ (h : 4294967296 ≤ d + n). inr (omega arith)) (lt-or-le (d + n) 4294967296)

-- x and y taken from a in the halves of a word: a difference below zero sets the top bit
marked-by : (a x y d : ℕ) → a < 256 → x < 256 → y < 256 → d < 4294967296 → (d + (x + y * 65536)) % 4294967296 ≡ a * 65537
    → marked? d ≡ not (leb x a && leb y a)
marked-by a x y d la lx ly ld e =
    let n : ℕ = d / 32768 % 2 + d / 2147483648 % 2 in
    let by = taken d (x + y * 65536) (a * 65537) ld (omega arith) e in
    ⊎_elim
    (λ (h : a < x).
    let set : d / 32768 % 2 ≡ 1 = ⊎_elim
    (λ g. low-set d (a - y - 1) (65536 + a - x) (omega arith) (omega arith) (omega arith))
    (λ g. low-set d (65535 + a - y) (65536 + a - x) (omega arith) (omega arith) (omega arith))
    by in
    lt-ltb 0 n (omega (arith, set)) ∙ ap (λ (b : Bool). not (b && leb y a)) (sym (lt-leb x a h)))
    (λ (h : x ≤ a). ⊎_elim
    (λ (g : a < y).
    let top : d / 2147483648 ≡ 1 = ⊎_elim (λ k. omega arith) (λ k. omega arith) by in
    let set : d / 2147483648 % 2 ≡ 1 = ap (λ (m : ℕ). m % 2) top in
    lt-ltb 0 n (omega (arith, set)) ∙ ap₂ (λ (b c : Bool). not (b && c)) (sym (le-leb x a h)) (sym (lt-leb y a g)))
    (λ (g : y ≤ a).
    let is : d ≡ 65536 * (a - y) + (a - x) = ⊎_elim (λ k. omega arith) (λ k. omega arith) by in
    let z : d / 2147483648 ≡ 0 = omega (arith, is) in
    let low : d / 32768 % 2 ≡ 0 = low_clear d (a - y) (a - x) is (omega arith) in
    let high : d / 2147483648 % 2 ≡ 0 = ap (λ (m : ℕ). m % 2) z in
    le-ltb 0 n (omega (arith, low, high)) ∙ ap₂ (λ (b c : Bool). not (b && c)) (sym (le-leb x a h)) (sym (le-leb y a g)))
    (lt-or-le a y))
    (lt-or-le a x)

-- the difference as the code works it out
pub marked-halves : (a x y : ℕ) → a < 256 → x < 256 → y < 256 → marked? ((a * 65537 + (4294967296 - (x + y * 65536))) % 4294967296) ≡ not (leb x a && leb y a)
marked-halves a x y la lx ly = marked-by a x y _ la lx ly (omega arith) (omega arith)

-- the marks of R and B, and those of G and A
pub marked-pixel : (p : Pixel) (d e : ℕ) → marked? d ≡ not (leb p.r p.a && leb p.b p.a) → marked? e ≡ not (leb p.g p.a && leb p.a p.a)
    → marked? (bit_or d e) ≡ not (valid? p)
marked-pixel p d e m n = marked-or d e ∙ ap₂ ◌||◌ m n ∙ rw (le-leb p.a p.a (omega arith)) (three (leb p.r p.a) (leb p.g p.a) (leb p.b p.a))
  where
    three : (r g b : Bool) → (not (r && b) || not (g && true)) ≡ not (r && (g && b))
    three true true true = refl
    three true true false = refl
    three true false true = refl
    three true false false = refl
    three false g b = refl
