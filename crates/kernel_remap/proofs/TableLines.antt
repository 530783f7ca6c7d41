-- Tables filled line by line, a line for each alpha. Assumes nothing.
use mathlib.Core.Path.{◌≡◌, refl, ◌∙◌, ap, sym}
use mathlib.Core.List.{List, ◌++◌}
use mathlib.Core.Logic.{⊎_elim, ◌≢◌}
use Prim.Native.Nat.{ℕ, ◌+◌, ◌-◌, ◌*◌, ◌≤◌, ◌<◌}
use native.Mathlib.Omega.{arith}
use lib.ListN.{length, get_or, take, drop, get_or-append}
use Rattle.std.proofs.lemmas.List.{get_or-append_right}
use Rattle.std.proofs.Common.{length-append, length-take, length-drop, length-take-le, get_or-take, get_or-drop}
use borrow.Rule.Slice.PartMut.{put_mid}
use Rattle.window.specs.Store.{Filled}
use Rattle.window.proofs.Store.{lt-or-le}
use Rattle.pixel.specs.declared.Space.{Space}
use Rattle.pixel.specs.Alpha.{premultiplied, unpremultiplied}
use Rattle.pixel.specs.Convert.{pair_of}
use Rattle.pixel.proofs.Premultiplied.{unpremultiplied-byte}
use Rattle.pixel.proofs.Converted.{pair-zero, pair-above}
use Rattle.kernel_remap.specs.Pairs.{Pairs}
use Rattle.kernel_remap.specs.Code.{Mapped, unpremultiplied_at, line_entry}

-- the conversion's lines before n are filled, the others still 0: up to the alpha by the conversion, 0 above it
pub record Begun (to : Space) (n : ℕ) (d : List ℕ) : Type 0 where
  pub filled : (a c : ℕ) → a < n → c < 256 → get_or d (256 * a + c) 0 ≡ pair_of to c a
  pub blank : (i : ℕ) → 256 * n ≤ i → i < 65536 → get_or d i 0 ≡ 0

-- at the alpha 0 every colour becomes 0
pub begun_first : (to : Space) (d : List ℕ) → ((i : ℕ) → i < 65536 → get_or d i 0 ≡ 0) → Begun to 1 d
begun_first to d z = record {
  filled = λ a c la lc.
      let e : a ≡ 0 = omega arith in
      z (256 * a + c) (omega arith) ∙ rw e (sym (pair-zero to 0));
  blank = λ i l h. z i h;
}

-- an entry of a line, by the rules' map and with no conversion before it
pub line-pair : (to : Space) (none map line line₀ : List ℕ) (o a c : ℕ) → length none ≡ 0 → Mapped to map → c ≤ a
    → Filled (unpremultiplied_at to none a) 0 (a + 1) line₀ line → line_entry map (take (a + 1) line) a (o + c - o) ≡ pair_of to c a
line-pair to none map line line₀ o a c z M l S =
    let at : o + c - o ≡ c = omega arith in
    let u : get_or (take (a + 1) line) c 0 ≡ unpremultiplied c a = get_or-take (a + 1) line c 0 (omega arith) ∙ S.inside c (omega arith) (omega arith) ∙ rw z refl in
    rw (at, u) (ap (λ (v : ℕ). premultiplied v a) (M.entry (unpremultiplied c a) (unpremultiplied-byte c a l)))

-- one line more
pub begun_more : (to : Space) (f : ℕ → ℕ) (n : ℕ) (d d' : List ℕ) → n < 256 → ((c : ℕ) → c ≤ n → f (256 * n + c) ≡ pair_of to c n) → Begun to n d
    → Filled f (256 * n) (256 * n + (n + 1)) d d' → Begun to (n + 1) d'
begun_more to f n d d' ln e B F = record {
  filled = λ a c la lc. ⊎_elim
      (λ h. F.before (256 * a + c) (omega arith) ∙ B.filled a c h lc)
      (λ h. let q : a ≡ n = omega arith in rw q (line c lc))
      (lt-or-le a n);
  blank = λ i l h. F.after i (omega arith) ∙ B.blank i (omega arith) h;
}
  where
    line : (c : ℕ) → c < 256 → get_or d' (256 * n + c) 0 ≡ pair_of to c n
    line c lc = ⊎_elim
        (λ h. F.after (256 * n + c) (omega arith) ∙ B.blank (256 * n + c) (omega arith) (omega arith) ∙ sym (pair-above to c n h ln))
        (λ h. F.inside (256 * n + c) (omega arith) (omega arith) ∙ e c h)
        (lt-or-le n c)

-- a line for the alpha a in the table j of three leaves every other line as it was
pub line_other : (f : ℕ → ℕ) (j a k b c o : ℕ) (d d' : List ℕ) → a < 256 → b < 256 → c < 256 → 256 * k + b ≢ 256 * j + a → o ≡ 65536 * j + 256 * a
    → Filled f o (o + (a + 1)) d d' → get_or d' (65536 * k + 256 * b + c) 0 ≡ get_or d (65536 * k + 256 * b + c) 0
line_other f j a k b c o d d' la lb lc ne at F = ⊎_elim
    (λ h. F.before (65536 * k + 256 * b + c) h)
    (λ h. F.after (65536 * k + 256 * b + c) (omega arith))
    (lt-or-le (65536 * k + 256 * b + c) o)

-- an entry where the table starts at 0
pub pair-in : {to : Space} {d : List ℕ} → Pairs to d → (a c : ℕ) → a < 256 → c < 256 → get_or d (0 + 256 * a + c) 0 ≡ pair_of to c a
pair-in {to = to} {d = d} P a c la lc = let at : 0 + 256 * a + c ≡ 256 * a + c = omega arith in rw at (P.entry a c la lc)
