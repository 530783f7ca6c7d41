-- Unpremultiply by a product with reciprocals that are rounded up: exact for every colour up to its alpha. Assumes nothing.
use mathlib.Core.Path.{◌≡◌, refl, ap, ◌∙◌}
use mathlib.Core.Bool.{Bool, true, false}
use Prim.Native.Nat.{ℕ, ◌+◌, ◌-◌, ◌*◌, ◌/◌, ◌≤◌, ◌<◌}
use native.Mathlib.Nat.{mul_assoc, mul-add, add-mul, mul-le-mul, mul-le-mul_left, mul-le-mul_right, zero-mul}
use native.Mathlib.Omega.{arith}
use lib.Dec.{eqb}
use borrow.Author.Tests.{eqb-true, eqb-false}
use Rattle.window.proofs.Store.{lt-or-le}
use mathlib.Core.Logic.{⊎_elim}
use Rattle.std.specs.Int.{div_ceil}
use Rattle.std.proofs.lemmas.Grind.{div_ceil_times}
use Rattle.window.proofs.Numbers.{quotient}
use Rattle.pixel.specs.Alpha.{unpremultiplied}
use Rattle.kernel_alpha.specs.Tables.{ceiling}

-- k and h are reciprocals that are too large by less than 1
by-reciprocals : (c a k h d e : ℕ) → 0 < a → a < 256 → c ≤ a → k * a ≡ 16711680 + d → d < a → h * a ≡ (a / 2) * 65536 + e → e < a
    → (c * k + h) / 65536 ≡ (255 * c + a / 2) / a
by-reciprocals c a k h d e pos lim le ka da ha ea =
    let small : c * d ≤ 255 * 254 = mul-le-mul {n₁ = c} {m₁ = d} {n₂ = 255} {m₂ = 254} (omega arith) (omega arith) in
    let ck : c * k * a ≡ c * 16711680 + c * d = mul_assoc c k a ∙ ap (λ (x : ℕ). c * x) ka ∙ mul-add c 16711680 d in
    let all : (c * k + h) * a ≡ c * k * a + h * a = add-mul (c * k) h a in
    quotient (c * k + h) (255 * c + a / 2) a 65536 (c * d + e) pos (omega (arith, all, ck, ha)) (omega (arith, small))

lt_of_times : (p q b : ℕ) → p * b < q * b → p < q
lt_of_times p q b h = ⊎_elim (λ l. l) (λ (l : q ≤ p). absurd (omega (arith, h, mul-le-mul_right b l))) (lt-or-le p q)

pub ceiling-le : (n a : ℕ) → ceiling n a ≤ n
ceiling-le n a = go (eqb a 0) refl
  where
    go : (t : Bool) → eqb a 0 ≡ t → ceiling n a ≤ n
    go true e = rw e (omega arith)
    go false e =
        let pos : 0 < a = omega (arith, eqb-false a 0 e) in
        let wide : n * 1 ≤ n * a = mul-le-mul_left n pos in
        let q : div_ceil n a < n + 1 = lt_of_times (div_ceil n a) (n + 1) a (omega (arith, (div_ceil_times n a pos).1, wide, add-mul n 1 a)) in
        rw e (omega (arith, q))

pub unpremultiplied-by-product : (c a : ℕ) → c ≤ a → a < 256 → (c * ceiling 16711680 a + ceiling (a / 2 * 65536) a) / 65536 ≡ unpremultiplied c a
unpremultiplied-by-product c a le lim = go (eqb a 0) refl
  where
    go : (t : Bool) → eqb a 0 ≡ t → (c * ceiling 16711680 a + ceiling (a / 2 * 65536) a) / 65536 ≡ unpremultiplied c a
    go true e = let z : c ≡ 0 = omega (arith, eqb-true a 0 e) in rw (e, z) (omega (arith, zero-mul 0))
    go false e =
        let pos : 0 < a = omega (arith, eqb-false a 0 e) in
        let k : ℕ = div_ceil 16711680 a in
        let h : ℕ = div_ceil (a / 2 * 65536) a in
        let up = div_ceil_times 16711680 a pos in
        let half = div_ceil_times (a / 2 * 65536) a pos in
        rw e (by-reciprocals c a k h (k * a - 16711680) (h * a - a / 2 * 65536) pos lim le (omega (arith, up.0)) (omega (arith, up.1)) (omega (arith, half.0)) (omega (arith, half.1)))
