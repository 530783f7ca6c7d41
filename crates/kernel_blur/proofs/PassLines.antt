-- A box pass, line by line: what a line needs of the sums, and what it leaves of the sums and of the buffer. Assumes nothing.
use mathlib.Core.Path.{◌≡◌, refl, sym, ap, ◌∙◌}
use mathlib.Core.List.{List}
use Prim.Native.Nat.{ℕ, ◌+◌, ◌-◌, ◌*◌, ◌/◌, ◌≤◌, ◌<◌}
use mathlib.Core.Logic.{⊎_elim}
use native.Mathlib.Nat.{mul-le-mul_right}
use native.Mathlib.Omega.{arith}
use lib.ListN.{length, get_or}
use Rattle.window.specs.Store.{Filled, Lined}
use Rattle.window.specs.Window.{behind, mean}
use Rattle.window.proofs.Store.{lt-or-le}
use Rattle.kernel_sums.specs.declared.running.BoxPass.{BoxPass}
use Rattle.kernel_sums.specs.Running.{rounded, columns, Sums}
use Rattle.kernel_sums.proofs.FilledRanges.{filled-as, filled-then}
use Rattle.window.proofs.Numbers.{line-end}
use Rattle.kernel_sums.proofs.LinesApart.{column-in, kept-column}
use Rattle.kernel_sums.proofs.SlidingSums.{running-slide, rounded-mean, rounded-le}
use Rattle.kernel_sums.proofs.PassColumns.{Bytes, columns-lt, leaving}
use Rattle.kernel_blur.specs.PassAdvanced.{PassReady, Advanced}

-- the sum of column i after line y
abbrev pub next : BoxPass → List ℕ → ℕ → ℕ → ℕ
next p d y i = rounded p.back p.ahead (columns p d i) (y + 1)

module _ (p : BoxPass) (d s : List ℕ) (y : ℕ) (R : PassReady p d s) (S : Sums p d y s) (bytes : Bytes d) where
  pub sum_lt : (i : ℕ) → i < p.n → get_or s i 0 < 65280
  sum_lt i h = omega (arith, S i h, R.limit, rounded-le p.back p.ahead (columns p d i) y (columns-lt p d bytes i))

  pub next_le : (i : ℕ) → next p d y i ≤ 255 * (p.back + p.ahead + 1) + (p.back + p.ahead + 1) / 2
  next_le i = rounded-le p.back p.ahead (columns p d i) (y + 1) (columns-lt p d bytes i)

  -- what comes and what goes make the next sum
  slid : (i t u : ℕ) → i < p.n → t ≡ columns p d i (y + p.ahead) → u ≡ behind (p.back + 1) (columns p d i) y → (u ≤ get_or s i 0 + t) × (get_or s i 0 + t - u ≡ next p d y i)
  slid i t u h e g =
      let k = running-slide p.back p.ahead (columns p d i) y in
      (omega (arith, S i h, k), omega (arith, S i h, k))

  -- so the line is stored and the sums are slid
  pub advanced-line : (d' s' : List ℕ) (g : ℕ → ℕ) → Filled g 0 p.n s s' → ((i : ℕ) → i < p.n → g i ≡ next p d y i)
      → Filled (λ j. g (j - (p.to + y * p.n)) / (p.back + p.ahead + 1)) (p.to + y * p.n) (p.to + y * p.n + p.n) d d' → Advanced p y (y + 1) d s d' s'
  advanced-line d' s' g F e G = record {
    inside = λ v i l h k.
        let q : v ≡ y = omega arith in
        let r : ℕ = p.to + y * p.n in
        let at : r + i - r ≡ i = omega arith in
        rw q (G.inside (r + i) (omega arith) (omega arith) ∙ ap (λ (x : ℕ). x / (p.back + p.ahead + 1)) (ap g at ∙ e i k) ∙ rounded-mean p.back p.ahead (columns p d i) y);
    before = G.before;
    after = λ j h. G.after j (omega arith);
    long = G.long;
    sums = λ i h. F.inside i (omega arith) h ∙ e i h;
    sums_long = F.long;
  }

  -- the line by `enter`, `leave` and `means`: s' has what came, and s'' is without what went
  module _ (s' : List ℕ) (E : Filled (λ i. get_or s i 0 + columns p d i (y + p.ahead)) 0 p.n s s') where
    pub entered : (i : ℕ) → i < p.n → behind (p.back + 1) (columns p d i) y ≤ get_or s' i 0
    entered i h = omega (arith, E.inside i (omega arith) h, (slid i _ _ h refl refl).0)

    module _ (s'' : List ℕ) (L : Filled (λ i. get_or s' i 0 - behind (p.back + 1) (columns p d i) y) 0 p.n s' s'') where
      left : (i : ℕ) → i < p.n → get_or s'' i 0 ≡ next p d y i
      left i h = omega (arith, E.inside i (omega arith) h, L.inside i (omega arith) h, (slid i _ _ h refl refl).1)

      pub left_le : (i : ℕ) → i < p.n → get_or s'' i 0 ≤ 255 * (p.back + p.ahead + 1) + (p.back + p.ahead + 1) / 2
      left_le i h = omega (arith, left i h, next_le i)

      pub edge-advanced : (d' : List ℕ) → Filled (λ j. get_or s'' (j - (p.to + y * p.n)) 0 / (p.back + p.ahead + 1)) (p.to + y * p.n) (p.to + y * p.n + p.n) d d' → Advanced p y (y + 1) d s d' s''
      edge-advanced d' G = advanced-line d' s'' (λ i. get_or s'' i 0) (filled-as _ _ 0 p.n s s'' (λ i l h. sym (L.inside i l h)) (filled-then _ _ 0 p.n s s' s'' E L)) left G

  -- the line by `slide_line`: bytes of two lines of the buffer
  module _ (behind-y : p.back < y) (y-ahead : y + p.ahead < p.count) where
    pub inner-slid : (i : ℕ) → i < p.n →
        let t = get_or d (p.from + (y + p.ahead) * p.n + i) 0 in
        let u = get_or d (p.from + (y - p.back - 1) * p.n + i) 0 in
        (u ≤ get_or s i 0 + t) × (get_or s i 0 + t - u ≡ next p d y i)
    inner-slid i h = slid i _ _ h (sym (column-in d p.from p.n p.count i (y + p.ahead) y-ahead)) (sym (leaving p d i y behind-y (omega arith)))

-- after the lines up to y the buffer and the sums serve line y
pub record Run (p : BoxPass) (d s : List ℕ) (y : ℕ) (d' s' : List ℕ) : Type 0 where
  pub ready : PassReady p d' s'
  pub here : Sums p d' y s'
  pub done : Advanced p 0 y d s d' s'

pub run-start : (p : BoxPass) (d s s' : List ℕ) → PassReady p d s' → Sums p d 0 s' → length s' ≡ length s → Run p d s 0 d s'
run-start p d s s' R S long = record {
  ready = R;
  here = S;
  done = record {
    inside = λ v i l h k. absurd (omega arith);
    before = λ j h. refl;
    after = λ j h. refl;
    long = refl;
    sums = S;
    sums_long = long;
  };
}

-- one line more
module _ (p : BoxPass) (d s : List ℕ) (y : ℕ) (d' s' d'' s'' : List ℕ) (R : Run p d s y d' s') (less : y < p.count) (B : Advanced p y (y + 1) d' s' d'' s'') where
  columns-kept : (lo hi : ℕ) (d₁ d₂ s₁ s₂ : List ℕ) → lo ≤ hi → hi ≤ p.count → Advanced p lo hi d₁ s₁ d₂ s₂ → (i : ℕ) → i < p.n → columns p d₂ i ≡ columns p d₁ i
  columns-kept lo hi d₁ d₂ s₁ s₂ l most A i h =
      kept-column p.from p.to p.n p.count (p.to + lo * p.n) (p.to + hi * p.n) d₁ d₂ R.ready.apart (omega arith) (omega (arith, mul-le-mul_right p.n most)) A.before A.after i h

  same : (i : ℕ) → i < p.n → columns p d' i ≡ columns p d i
  same = columns-kept 0 y d d' s s' (omega arith) (omega arith) R.done

  pub run-more : Run p d s (y + 1) d'' s''
  run-more = record {
    ready = record {
      source = omega (arith, R.ready.source, B.long);
      target = omega (arith, R.ready.target, B.long);
      apart = R.ready.apart;
      sums = omega (arith, R.ready.sums, B.sums_long);
      limit = R.ready.limit;
      few = R.ready.few;
      divides = R.ready.divides;
    };
    here = λ i h. rw (columns-kept y (y + 1) d' d'' s' s'' (omega arith) (omega arith) B i h) (B.sums i h);
    done = record {
      inside = λ v i lo hi h. ⊎_elim
          (λ lt. B.before (p.to + v * p.n + i) (omega (arith, line-end p.n y v lt)) ∙ R.done.inside v i lo lt h)
          (λ ge. B.inside v i ge hi h ∙ ap (λ (f : ℕ → ℕ). mean p.back p.ahead f v) (same i h))
          (lt-or-le v y);
      before = λ j h. B.before j (omega (arith, h)) ∙ R.done.before j h;
      after = λ j h. B.after j h ∙ R.done.after j (omega arith);
      long = B.long ∙ R.done.long;
      sums = λ i h. B.sums i h ∙ ap (λ (f : ℕ → ℕ). rounded p.back p.ahead f (y + 1)) (same i h);
      sums_long = B.sums_long ∙ R.done.sums_long;
    };
  }

-- all lines are stored
pub advanced-lined : (p : BoxPass) (d s d' s' : List ℕ) → Advanced p 0 p.count d s d' s' → Lined (λ v i. mean p.back p.ahead (columns p d i) v) p.to p.n p.count d d'
advanced-lined p d s d' s' A = record { inside = λ v i h k. A.inside v i (omega arith) h k; before = λ j h. A.before j (omega arith); after = A.after; long = A.long }
