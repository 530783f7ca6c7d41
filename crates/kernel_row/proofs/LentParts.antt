-- A part of a list that was lent and came back. Assumes nothing.
use Rattle.std.proofs.Common.{◌≡◌, ℕ, ◌+◌, ◌-◌, ◌*◌, ◌<◌, ◌≤◌, List, ◌++◌, length, get_or, take, drop, sym, ap, ◌∙◌, ⊎_elim, arith, length-append, length-drop, length-take, length-take-le, get_or-drop, get_or-take, get_or-append-add}
use lib.ListN.{get_or-append}
use Rattle.window.proofs.Store.{lt-or-le}
use Rattle.pixel.specs.declared.Pixel.{Pixel}
use Rattle.pixel.specs.Bytes.{Painted}
use Rattle.pixel.proofs.PaintedRows.{pixel-same}

-- d after the k elements from o on were lent and came back as m
abbrev pub back : List ℕ → ℕ → ℕ → List ℕ → List ℕ
back d o k m = take o d ++ (m ++ drop k (drop o d))

module _ (d : List ℕ) (o k : ℕ) (m : List ℕ) (fits : o + k ≤ length d) (long : length m ≡ k) where
  head-long : length (take o d) ≡ o
  head-long = length-take-le o d (omega arith)

  pub back_long : length (back d o k m) ≡ length d
  back_long = simp (length-append, length-take, length-drop) (omega arith)

  pub back-before : (j : ℕ) → j < o → get_or (back d o k m) j 0 ≡ get_or d j 0
  back-before j h =
      let l : j < length (take o d) = omega (arith, head-long) in
      get_or-append (take o d) (m ++ drop k (drop o d)) 0 j l ∙ get_or-take o d j 0 h

  tail : (i : ℕ) → get_or (back d o k m) (o + i) 0 ≡ get_or (m ++ drop k (drop o d)) i 0
  tail i = ap (λ (n : ℕ). get_or (back d o k m) (n + i) 0) (sym head-long) ∙ get_or-append-add (take o d) (m ++ drop k (drop o d)) i 0

  pub back_in : (i : ℕ) → i < k → get_or (back d o k m) (o + i) 0 ≡ get_or m i 0
  back_in i h = let l : i < length m = omega arith in tail i ∙ get_or-append m (drop k (drop o d)) 0 i l

  pub back-after : (j : ℕ) → o + k ≤ j → get_or (back d o k m) j 0 ≡ get_or d j 0
  back-after j h =
      let e : j ≡ o + (k + (j - o - k)) = omega arith in
      let g : get_or (m ++ drop k (drop o d)) (k + (j - o - k)) 0 ≡ get_or (drop k (drop o d)) (j - o - k) 0
      = ap (λ (n : ℕ). get_or (m ++ drop k (drop o d)) (n + (j - o - k)) 0) (sym long) ∙ get_or-append-add m (drop k (drop o d)) (j - o - k) 0 in
      ap (λ (n : ℕ). get_or (back d o k m) n 0) e
      ∙ tail (k + (j - o - k))
      ∙ g
      ∙ get_or-drop k (drop o d) (j - o - k) 0
      ∙ get_or-drop o d (k + (j - o - k)) 0
      ∙ ap (λ (n : ℕ). get_or d n 0) (sym e)

-- a painted row that was lent and came back is painted where it lies
pub painted-lent : (f : ℕ → Pixel) (o k from to : ℕ) (d m : List ℕ) → 4 * to ≤ k → from ≤ to → o + k ≤ length d → Painted f 0 from to (take k (drop o d)) m → Painted f o from to d (back d o k m)
painted-lent f o k from to d m le lo fits P =
    let long : length m ≡ k = P.long ∙ length-take-le k (drop o d) (simp length-drop (omega arith)) in
    let old : (i : ℕ) → o ≤ i → i < o + k → get_or m (i - o) 0 ≡ get_or (take k (drop o d)) (i - o) 0 → get_or (back d o k m) i 0 ≡ get_or d i 0
    = λ i g h e.
    let q : i ≡ o + (i - o) = omega arith in
    ap (λ (n : ℕ). get_or (back d o k m) n 0) q
    ∙ back_in d o k m fits long (i - o) (omega arith)
    ∙ e
    ∙ get_or-take k (drop o d) (i - o) 0 (omega arith)
    ∙ get_or-drop o d (i - o) 0
    ∙ ap (λ (n : ℕ). get_or d n 0) (sym q) in
    record {
      inside = λ x l h.
          pixel-same (back d o k m) m (o + 4 * x) (0 + 4 * x) (λ c lc.
          let q : o + 4 * x + c ≡ o + (0 + 4 * x + c) = omega arith in
          ap (λ (n : ℕ). get_or (back d o k m) n 0) q ∙ back_in d o k m fits long (0 + 4 * x + c) (omega arith))
          ∙ P.inside x l h;
      before = λ i h. ⊎_elim
          (λ l. back-before d o k m fits long i l)
          (λ l. old i l (omega arith) (P.before (i - o) (omega arith)))
          (lt-or-le i o);
      after = λ i h. ⊎_elim
          (λ l. old i (omega arith) l (P.after (i - o) (omega arith)))
          (λ l. back-after d o k m fits long i l)
          (lt-or-le i (o + k));
      long = back_long d o k m fits long;
    }
