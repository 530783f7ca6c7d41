-- A signed sum, divided and limited, by naturals alone; the bias and the half that rounds go into the sum first. Assumes nothing.
use Prim.Native.Nat.{ℕ, suc, ◌+◌, ◌-◌, ◌*◌, ◌/◌, min}
use mathlib.Core.Path.{◌≡◌, ap, sym, ◌∙◌}
use mathlib.Core.Logic.{⊎_elim}
use native.Mathlib.Nat.{add-mul, mul-zero, mul_comm, div-div-eq-div-mul}
use native.Mathlib.Omega.{arith}
use lib.IntN.{ℤ, pos, negsuc, neg_ℤ, ◌+ℤ◌, ◌*ℤ◌, *ℤ-negsuc}
use Rattle.window.proofs.Store.{lt-or-le}
use Rattle.number.specs.Number.{value}
use Rattle.number.specs.declared.Fixed.{Fixed}
use Rattle.pixel.specs.Whole.{nearest_up, limited}
use Rattle.pixel.specs.Convolve.{quotient}
use Rattle.pixel.proofs.SignedSums.{Diff, diff-sub, diff-add, diff-mul, diff-by, diff-plus, diff-limited}
use Rattle.kernel_taps.proofs.SignedQuotients.{diff-neg}
use Rattle.kernel_convolve.specs.Code.{lift_over, lift_under}

diff-mul-below : {x : ℤ} {a b : ℕ} (d : ℕ) → Diff x a b → Diff (x *ℤ negsuc d) (b * suc d) (a * suc d)
diff-mul-below {x} d h = rw (*ℤ-negsuc x d) (diff-neg (diff-mul (suc d) h))

-- ⌊(n + x) / d⌋ is ⌊(n + ⌊x⌋) / d⌋: p and q are what the bias adds and takes away
lifted : (A B p q d : ℕ)
    → (2 * (65536 * A + p * d) + 65536 * d - 2 * (65536 * B + q * d)) / (2 * (65536 * d))
    ≡ (A + d * (p + 32768 - q) / 65536 - (B + (d * (q - (p + 32768)) + 65535) / 65536)) / d
lifted A B p q d =
    let e : ℕ = d * (p + 32768 - q) in
    let f : ℕ = d * (q - (p + 32768)) in
    let n : ℕ = 2 * (65536 * A + p * d) + 65536 * d - 2 * (65536 * B + q * d) in
    let twice : 2 * (65536 * d) ≡ 131072 * d = omega arith in
    let balance : p + 32768 - q + q ≡ q - (p + 32768) + (p + 32768) = omega arith in
    let shares : e + q * d ≡ f + (p * d + 32768 * d)
    = rw (mul_comm d (p + 32768 - q), mul_comm d (q - (p + 32768)))
    (sym (add-mul (p + 32768 - q) q d) ∙ ap (λ (k : ℕ). k * d) balance ∙ add-mul (q - (p + 32768)) (p + 32768) d
    ∙ ap (λ (k : ℕ). (q - (p + 32768)) * d + k) (add-mul p 32768 d)) in
    let whole : n / 131072 ≡ A + e / 65536 - (B + (f + 65535) / 65536) = ⊎_elim
    (λ l. let z : p + 32768 - q ≡ 0 = omega arith in
    let e0 : e ≡ 0 = ap (λ (k : ℕ). d * k) z ∙ mul-zero d in omega (arith, shares, e0))
    (λ l. let z : q - (p + 32768) ≡ 0 = omega arith in
    let f0 : f ≡ 0 = ap (λ (k : ℕ). d * k) z ∙ mul-zero d in omega (arith, shares, f0))
    (lt-or-le (p + 32768) q) in
    rw (twice, ← div-div-eq-div-mul n 131072 d) (ap (λ (k : ℕ). k / d) whole)

-- by a divisor above zero
pub quotient-above : (s : ℤ) (bias : Fixed) (a d A B : ℕ) → Diff s A B
    → quotient s (value bias) a (pos d) ≡ min ((A + lift_over bias d a - (B + lift_under bias d a)) / d) 255
unfolding quotient
quotient-above s bias a d A B h =
    let own = diff-mul d (diff-mul a (diff-sub bias.above bias.below)) in
    diff-limited (2 * (65536 * d)) (diff-plus (65536 * d) (diff-by 2 (diff-add (diff-by 65536 h) own)))
    ∙ ap (λ (k : ℕ). min k 255) (lifted A B (bias.above * a) (bias.below * a) d)

-- by one below zero: the sum's two parts are exchanged
pub quotient-below : (s : ℤ) (bias : Fixed) (a d A B : ℕ) → Diff s B A
    → quotient s (value bias) a (negsuc d) ≡ min ((A + lift_over bias (suc d) a - (B + lift_under bias (suc d) a)) / suc d) 255
unfolding quotient
quotient-below s bias a d A B h =
    let own = diff-mul-below d (diff-mul a (diff-sub bias.above bias.below)) in
    let less : 65536 * suc d ≡ suc (65536 * d + 65535) = omega arith in
    ap (λ (k : ℕ). limited (nearest_up (pos 65536 *ℤ s +ℤ value bias *ℤ pos a *ℤ negsuc d) (neg_ℤ (pos k)))) less
    ∙ diff-limited (2 * suc (65536 * d + 65535)) (diff-plus (suc (65536 * d + 65535)) (diff-by 2 (diff-neg (diff-add (diff-by 65536 h) own))))
    ∙ ap (λ (k : ℕ). min ((2 * (65536 * A + bias.above * a * suc d) + k - 2 * (65536 * B + bias.below * a * suc d)) / (2 * k)) 255) (sym less)
    ∙ ap (λ (k : ℕ). min k 255) (lifted A B (bias.above * a) (bias.below * a) (suc d))
