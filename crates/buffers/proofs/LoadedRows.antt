-- Loaded rows as a kernel reads them, and a kernel's row in its place in a layer. Assumes nothing.
use mathlib.Core.Path.{◌≡◌, refl, sym, ap, ◌∙◌}
use mathlib.Core.List.{List}
use Prim.Native.Nat.{ℕ, ◌+◌, ◌-◌, ◌*◌, ◌≤◌, ◌<◌}
use native.Mathlib.Omega.{arith}
use lib.ListN.{length, take, drop, replicate, length-drop, length-replicate}
use lib.Seq.{length-take-le}
use Rattle.pixel.specs.declared.Pixel.{Pixel}
use Rattle.pixel.specs.Bytes.{pixel_at, Painted, ValidRow}
use Rattle.kernel_row.proofs.LentParts.{back, painted-lent}
use Rattle.window.specs.Limits.{longest_row}
use Rattle.filter.specs.Picture.{Picture}
use Rattle.filter.specs.Valid.{ValidPicture}
use Rattle.buffers.specs.Buffers.{Loaded}

module _ (p : Picture) (y from to : ℕ) (row row' : List ℕ) (L : Loaded p y from to row row') where
  pub loaded-pixel : (j : ℕ) → j < to - from → pixel_at row' (4 * j) ≡ p (from + j) y
  loaded-pixel j l = let e : 4 * j ≡ 0 + 4 * j = omega arith in ap (pixel_at row') e ∙ L.inside j (omega arith) l

  pub loaded-valid : ValidPicture p → ValidRow row' (to - from)
  loaded-valid v = record { valid = λ j l. rw (loaded-pixel j l) (v.valid (from + j) y) }

  -- loaded once, it is there
  pub loaded-stays : (q : Picture) → ((x : ℕ) → p x y ≡ q x y) → Loaded q y from to row' row'
  loaded-stays q e = record { inside = λ j l h. L.inside j l h ∙ e (from + j); before = λ i h. refl; after = λ i h. refl; long = refl }

  -- and then another picture's row
  pub loaded-then : (q : Picture) (row'' : List ℕ) → Loaded q y from to row' row'' → Loaded q y from to row row''
  loaded-then q row'' M = record {
    inside = M.inside;
    before = λ i h. M.before i h ∙ L.before i h;
    after = λ i h. M.after i h ∙ L.after i h;
    long = M.long ∙ L.long;
  }

  -- a loaded row that was stored
  pub painted-stored : (o : ℕ) (d d' : List ℕ) → Painted (λ x. pixel_at row' (4 * (0 + (x - from)))) o from to d d' → Painted (λ x. p x y) o from to d d'
  painted-stored o d d' P = record {
    inside = λ x l h.
        let q : 4 * (0 + (x - from)) ≡ 4 * (x - from) = omega arith in
        let z : from + (x - from) ≡ x = omega arith in
        P.inside x l h ∙ ap (pixel_at row') q ∙ loaded-pixel (x - from) (omega arith) ∙ ap (λ (u : ℕ). p u y) z;
    before = P.before;
    after = P.after;
    long = P.long;
  }

-- c pixels of a layer from the index lo on, lent to a kernel
module _ (lo c : ℕ) (d : List ℕ) (fits : lo + 4 * c ≤ length d) where
  pub part-long : length (take (lo + 4 * c - lo) (drop lo d)) ≡ 4 * c
  part-long =
      let e : lo + 4 * c - lo ≡ 4 * c = omega arith in
      length-take-le (lo + 4 * c - lo) (drop lo d) (simp length-drop (omega arith)) ∙ e

  -- the part begins at the column q of the row at o
  painted-in : (f g : ℕ → Pixel) (o q a b from to : ℕ) (m : List ℕ) → lo ≡ o + 4 * q → from ≡ q + a → to ≡ q + b → a ≤ b → b ≤ c
      → ((x : ℕ) → a ≤ x → x < b → f x ≡ g (q + x)) → Painted f 0 a b (take (lo + 4 * c - lo) (drop lo d)) m → Painted g o from to d (back d lo (lo + 4 * c - lo) m)
  painted-in f g o q a b from to m el ef et order wide same P =
      let k : ℕ = lo + 4 * c - lo in
      let Q : Painted f lo a b d (back d lo k m) = painted-lent f lo k a b d m (omega arith) order (omega arith) P in
      record {
        inside = λ x l h.
            let e : o + 4 * x ≡ lo + 4 * (x - q) = omega arith in
            let z : q + (x - q) ≡ x = omega arith in
            ap (pixel_at (back d lo k m)) e ∙ Q.inside (x - q) (omega arith) (omega arith) ∙ same (x - q) (omega arith) (omega arith) ∙ ap g z;
        before = λ i h. Q.before i (omega arith);
        after = λ i h. Q.after i (omega arith);
        long = Q.long;
      }

  -- exactly the columns from `from` up to `to`
  pub painted-into : (f g : ℕ → Pixel) (o from to : ℕ) (m : List ℕ) → lo ≡ o + 4 * from → c ≡ to - from → from ≤ to
      → ((j : ℕ) → j < c → f j ≡ g (from + j)) → Painted f 0 0 c (take (lo + 4 * c - lo) (drop lo d)) m → Painted g o from to d (back d lo (lo + 4 * c - lo) m)
  painted-into f g o from to m el ec order same P =
      painted-in f g o from 0 c from to m el (omega arith) (omega arith) (omega arith) (omega arith) (λ x l h. same x h) P

  -- a whole row
  pub painted-row : (f g : ℕ → Pixel) (o from to : ℕ) (m : List ℕ) → lo ≡ o + 4 * 0 → from ≤ to → to ≤ c
      → ((x : ℕ) → from ≤ x → x < to → f x ≡ g x) → Painted f 0 from to (take (lo + 4 * c - lo) (drop lo d)) m → Painted g o from to d (back d lo (lo + 4 * c - lo) m)
  painted-row f g o from to m el order wide same P =
      painted-in f g o 0 from to from to m el (omega arith) (omega arith) order wide
      (λ x l h. let z : x ≡ 0 + x = omega arith in same x l h ∙ ap g z) P

-- the first k bytes of a work row
pub prefix-long : (k : ℕ) → k ≤ longest_row → k ≡ length {A = ℕ} (take k (replicate longest_row 0))
prefix-long k l =
    let e : length {A = ℕ} (replicate longest_row 0) ≡ longest_row = length-replicate {A = ℕ} longest_row 0 in
    sym (length-take-le k (replicate longest_row 0) (omega arith))
