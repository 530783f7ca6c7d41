-- Each entry of both tables is the nearest byte to its curve: one test, computed over all entries; and there is no other such byte.
-- Assumes nothing.
use Prim.Native.Nat.{ℕ, zero, suc, ◌+◌, ◌-◌, ◌*◌, ◌≤◌, ◌<◌, ◌^◌}
use mathlib.Core.Path.{◌≡◌, refl, sym, subst, ◌∙◌}
use mathlib.Core.Bool.{Bool, true, false, cond, not, ◌&&◌, false≢true}
use mathlib.Core.List.{List, [], ◌∷◌}
use native.Mathlib.Nat.{add-zero, zero-add, add-suc, suc-add, le_of_suc-le-suc, not-suc-le-zero, mul-le-mul_right, le_trans, pow-le-pow_left}
use native.Mathlib.Omega.{arith}
use native.Mathlib.Decide.{dec_lt}
use lib.Dec.{leb, ltb}
use lib.ListN.{length, get_or, get_or-eq_default}
use borrow.Author.Tests.{leb-true, le-leb, ltb-true}
use Rattle.pixel.specs.declared.Space as S
use Rattle.pixel.specs.declared.Space.TheVariants.{Srgb, Linear}
use Rattle.pixel.specs.Remap.{ByteMaps}
use Rattle.pixel.specs.Space.{to_linear, to_srgb, table_of, reaches, Nearest, space_maps}

-- a test at each entry of a list and its place, counted from i
every : (ℕ → ℕ → Bool) → ℕ → List ℕ → Bool
every f i [] = true
every f i (x ∷ xs) = f i x && every f (suc i) xs

both_true : (a b : Bool) → (a && b) ≡ true → (a ≡ true) × (b ≡ true)
both_true true b e = (refl, e)
both_true false b e = absurd (false≢true e)

from : (f : ℕ → ℕ → Bool) (xs : List ℕ) (i : ℕ) → every f i xs ≡ true → (k : ℕ) → k < length xs → f (i + k) (get_or xs k 0) ≡ true
unfolding every
from f [] i t k h = absurd (not-suc-le-zero h)
from f (x ∷ xs) i t zero h = subst (λ (m : ℕ). f m x ≡ true) (sym (add-zero i)) (both_true (f i x) (every f (suc i) xs) t).0
from f (x ∷ xs) i t (suc k) h =
    subst (λ (m : ℕ). f m (get_or xs k 0) ≡ true) (suc-add i k ∙ sym (add-suc i k))
    (from f xs (suc i) (both_true (f i x) (every f (suc i) xs) t).1 k (le_of_suc-le-suc h))

-- the test of an entry: a byte, and the nearest one
right : S.Space → ℕ → ℕ → Bool
right s i b = ltb b 256 && (reaches s i (2 * b - 1) && not (reaches s i (2 * b + 1)))

-- computed over both tables
tables-right : (s : S.Space) → every (right s) 0 (table_of s) ≡ true
unfolding every right reaches to_linear to_srgb
tables-right Linear = refl
tables-right Srgb = refl

table-long : (s : S.Space) → length (table_of s) ≡ 256
unfolding to_linear to_srgb
table-long Linear = refl
table-long Srgb = refl

not-true : (b : Bool) → not b ≡ true → b ≡ false
not-true true e = absurd (false≢true e)
not-true false e = refl

pub table-nearest : (s : S.Space) (i : ℕ) → i < 256 → Nearest s i (get_or (table_of s) i 0)
unfolding right
table-nearest s i l =
    let b : ℕ = get_or (table_of s) i 0 in
    let t = subst (λ (m : ℕ). right s m b ≡ true) (zero-add i) (from (right s) (table_of s) 0 (tables-right s) i (rw (table-long s) l)) in
    let u = both_true (ltb b 256) (reaches s i (2 * b - 1) && not (reaches s i (2 * b + 1))) t in
    let v = both_true (reaches s i (2 * b - 1)) (not (reaches s i (2 * b + 1))) u.1 in
    record { low = v.0; high = not-true (reaches s i (2 * b + 1)) v.1 }

pub table-byte : (s : S.Space) (i : ℕ) → i < 256 → get_or (table_of s) i 0 < 256
unfolding right
table-byte s i l =
    let b : ℕ = get_or (table_of s) i 0 in
    let t = subst (λ (m : ℕ). right s m b ≡ true) (zero-add i) (from (right s) (table_of s) 0 (tables-right s) i (rw (table-long s) l)) in
    ltb-true b 256 (both_true (ltb b 256) (reaches s i (2 * b - 1) && not (reaches s i (2 * b + 1))) t).0

pub space-bytes : (s : S.Space) → ByteMaps (space_maps s)
space-bytes s = record { r = table-byte s; g = table-byte s; b = table-byte s; a = λ c l. l }

-- more half bytes are reached later
reaches-fewer : (s : S.Space) (i g h : ℕ) → g ≤ h → reaches s i h ≡ true → reaches s i g ≡ true
unfolding reaches
reaches-fewer Linear i g h l e = go (leb (100000 * i) (4045 * 255)) e
  where
    go : (b : Bool) → cond b (leb (1292 * h) (200 * i)) (leb (h ^ 5 * 10761 ^ 12) ((40 * i + 561) ^ 12 * 510 ^ 5)) ≡ true
        → cond b (leb (1292 * g) (200 * i)) (leb (g ^ 5 * 10761 ^ 12) ((40 * i + 561) ^ 12 * 510 ^ 5)) ≡ true
    go true t = le-leb (1292 * g) (200 * i) (omega (arith, leb-true (1292 * h) (200 * i) t))
    go false t = le-leb (g ^ 5 * 10761 ^ 12) ((40 * i + 561) ^ 12 * 510 ^ 5) (le_trans (mul-le-mul_right (10761 ^ 12) (pow-le-pow_left l 5)) (leb-true (h ^ 5 * 10761 ^ 12) _ t))
reaches-fewer Srgb i g h l e = go (leb (10000000 * i) (31308 * 255)) e
  where
    m : 20 * g + 561 ≤ 20 * h + 561
    m = omega arith

    go : (b : Bool) → cond b (leb (100 * h) (2584 * i)) (leb ((20 * h + 561) ^ 12 * 255 ^ 5) (i ^ 5 * 10761 ^ 12)) ≡ true
        → cond b (leb (100 * g) (2584 * i)) (leb ((20 * g + 561) ^ 12 * 255 ^ 5) (i ^ 5 * 10761 ^ 12)) ≡ true
    go true t = le-leb (100 * g) (2584 * i) (omega (arith, leb-true (100 * h) (2584 * i) t))
    go false t = le-leb ((20 * g + 561) ^ 12 * 255 ^ 5) (i ^ 5 * 10761 ^ 12) (le_trans (mul-le-mul_right (255 ^ 5) (pow-le-pow_left m 12)) (leb-true ((20 * h + 561) ^ 12 * 255 ^ 5) _ t))

-- the nearest byte is the only one
pub nearest-only : (s : S.Space) (i b c : ℕ) → Nearest s i b → Nearest s i c → b ≡ c
nearest-only s i b c n m = go (dec_lt b c) (dec_lt c b)
  where
    go : Dec (b < c) → Dec (c < b) → b ≡ c
    go (yes l) d = absurd (false≢true (sym n.high ∙ reaches-fewer s i (2 * b + 1) (2 * c - 1) (omega arith) m.low))
    go (no l) (yes k) = absurd (false≢true (sym m.high ∙ reaches-fewer s i (2 * c + 1) (2 * b - 1) (omega arith) n.low))
    go (no l) (no k) = omega arith

pub table-zero : (s : S.Space) → get_or (table_of s) 0 0 ≡ 0
unfolding to_linear to_srgb
table-zero Linear = refl
table-zero Srgb = refl

-- past the table there is nothing
pub table-past : (s : S.Space) (i : ℕ) → 256 ≤ i → get_or (table_of s) i 0 ≡ 0
table-past s i l = get_or-eq_default (table_of s) 0 (rw (table-long s) l)
