-- The map of a space: entries of the rules' table, which are the conversion at full alpha; and a colour as it is seen. Assumes nothing.
use Prim.Native.Nat.{ℕ, ◌+◌, ◌*◌, ◌≤◌, ◌<◌}
use mathlib.Core.Path.{◌≡◌, ◌∙◌, ap}
use mathlib.Core.Bool.{false}
use native.Mathlib.Omega.{arith}
use lib.Dec.{eqb}
use mathlib.Core.List.{List}
use lib.ListN.{length, get_or}
use Rattle.kernel_remap.specs.Code.{seen_colour}
use Rattle.kernel_remap.specs.Remaps.{Inner}
use borrow.Author.Tests.{eqb-false}
use Rattle.pixel.specs.declared.Space.{Space}
use Rattle.pixel.specs.Alpha.{premultiplied, unpremultiplied}
use Rattle.pixel.specs.Space.{table_of}
use Rattle.pixel.specs.Convert.{pair_of}
use Rattle.pixel.proofs.Premultiplied.{premultiplied-le, unpremultiplied-is, unpremultiplied-byte}
use Rattle.pixel.proofs.SpaceTables.{space-bytes}

-- full alpha changes no colour, neither way
pub pair-full : (to : Space) (c : ℕ) → pair_of to c 255 ≡ get_or (table_of to) c 0
pair-full to c =
    let up : unpremultiplied c 255 ≡ c = unpremultiplied-is c 255 (omega arith) ∙ omega arith in
    let down : premultiplied (get_or (table_of to) c 0) 255 ≡ get_or (table_of to) c 0 = omega arith in
    ap (λ (u : ℕ). premultiplied (get_or (table_of to) u 0) 255) up ∙ down

-- a converted colour is at most its alpha
pub pair-le : (to : Space) (c a : ℕ) → c ≤ a → pair_of to c a ≤ a
pair-le to c a l = premultiplied-le (get_or (table_of to) (unpremultiplied c a) 0) a ((space-bytes to).r _ (unpremultiplied-byte c a l))

-- where there is a table, its entry is the colour as it is seen
pub seen-entry : (to : Space) (inner : List ℕ) (c a : ℕ) → Inner to inner → eqb (length inner) 0 ≡ false → c ≤ a → a < 256
    → (get_or inner (256 * a + c) 0 ≡ seen_colour to inner c a) × (get_or inner (256 * a + c) 0 ≤ a)
seen-entry to inner c a I none l h =
    let some : 0 < length inner = omega (arith, eqb-false _ 0 none) in
    let e = (I.good some).entry a c h (omega arith) in
    (rw none e, rw e (pair-le to c a l))
