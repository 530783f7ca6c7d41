-- Lines that hold windows: one line each at first, then longer ones from two shorter, the edges last. Assumes nothing.
use mathlib.Core.Path.{◌≡◌, refl, sym, ap, ◌∙◌}
use mathlib.Core.List.{List}
use mathlib.Core.Logic.{◌⊎◌, inl, inr, ⊎_elim}
use Prim.Native.Nat.{ℕ, ◌+◌, ◌-◌, ◌*◌, ◌≤◌, ◌<◌, min}
use native.Mathlib.Nat.{mul-le-mul_right}
use native.Mathlib.Omega.{arith}
use borrow.Author.Tests.{lt-ltb, le-ltb, le-leb, lt-leb}
use lib.ListN.{get_or}
use Rattle.kernel_fold.specs.declared.between.Between.{Between}
use Rattle.kernel_fold.specs.declared.between.Reach.{Reach}
use Rattle.window.specs.Store.{Filled, Lined, byte_at}
use Rattle.window.specs.Window.{column}
use Rattle.window.proofs.Store.{lt-or-le, lined-outside}
use Rattle.kernel_fold.specs.declared.Extreme.{Extreme}
use Rattle.kernel_fold.specs.declared.Extreme.TheVariants.{Least, Largest}
use Rattle.kernel_fold.specs.Operation.{operation}
use Rattle.kernel_fold.proofs.LineRuns.{line-in}
use Rattle.kernel_morph.specs.Extremes.{neutral, extreme}
use Rattle.kernel_morph.specs.PingPong.{PingPong}
use Rattle.kernel_morph.specs.Growth.{windows, edged, edged_line, Widened, Towards}
use Rattle.kernel_morph.proofs.CutWindows.{cut-one, cut-limit}
use Rattle.kernel_morph.proofs.WindowEdges.{start-byte, extreme-cut}

-- each line is its own window
pub pingpong-start : (op : Extreme) (a b n count : ℕ) (d : List ℕ) → ((j : ℕ) → get_or d j 0 < 256) → PingPong (windows op d a n count 0 0) a b n count a d d
pingpong-start op a b n count d bytes = record {
  place = inl refl;
  inside = λ v i h l. sym (cut-one (operation op) (neutral op) count (λ w. byte_at d a n w i) v h (start-byte op (byte_at d a n v i) (bytes (a + v * n + i))));
  outside = λ j p q. refl;
  long = refl;
}

-- longer windows, at the other place
pub pingpong-widen : (op : Extreme) (a n count p q p' q' here there : ℕ) (d d₁ d₂ : List ℕ) → PingPong (windows op d a n count p q) here there n count here d d₁
    → Widened op p q p' q' here there n count d₁ d₂ → PingPong (windows op d a n count p' q') there here n count there d d₂
pingpong-widen op a n count p q p' q' here there d d₁ d₂ P W = record {
  place = inl refl;
  inside = W.holds (λ w i. byte_at d a n w i) P.inside;
  outside = λ j k m. W.off j k ∙ P.outside j m k;
  long = W.long ∙ P.long;
}

-- while windows grow between the two places of b towards `whole`: those at the first place of w reach to `now`, its second is scratch
pub record Standing (op : Extreme) (b : Between) (whole : Reach) (w : Between) (now : Reach) (d d' : List ℕ) : Type 0 where
  pub lines : PingPong (windows op d b.from b.n b.count now.back now.ahead) w.from w.to b.n b.count w.from d d'
  pub place : ((w.from ≡ b.from) × (w.to ≡ b.to)) ⊎ ((w.from ≡ b.to) × (w.to ≡ b.from))
  pub n_is : w.n ≡ b.n
  pub count_is : w.count ≡ b.count
  pub low : now.back ≤ whole.back
  pub high : now.ahead ≤ whole.ahead

-- longer windows, and the way back
pub standing-next : (op : Extreme) (b : Between) (whole : Reach) (w w' : Between) (now next : Reach) (d d₁ d₂ : List ℕ) → Standing op b whole w now d d₁
    → Widened op now.back now.ahead next.back next.ahead w.from w.to w.n w.count d₁ d₂ → Towards now.back now.ahead whole.back whole.ahead next.back next.ahead
    → w'.from ≡ w.to → w'.to ≡ w.from → w'.n ≡ w.n → w'.count ≡ w.count → Standing op b whole w' next d d₂
standing-next op b whole w w' now next d d₁ d₂ S W T e₁ e₂ e₃ e₄ = record {
  lines = rw (e₁, e₂) (pingpong-widen op b.from b.n b.count now.back now.ahead next.back next.ahead w.from w.to d d₁ d₂ S.lines (rw (S.n_is, S.count_is) at W));
  place = ⊎_elim (λ (e : (w.from ≡ b.from) × (w.to ≡ b.to)). inr (e₁ ∙ e.1, e₂ ∙ e.0)) (λ (e : (w.from ≡ b.to) × (w.to ≡ b.from)). inl (e₁ ∙ e.1, e₂ ∙ e.0)) S.place;
  n_is = e₃ ∙ S.n_is;
  count_is = e₄ ∙ S.count_is;
  low = T.low;
  high = T.high;
}

-- the two places under their own names
pub pingpong-place : (f : ℕ → ℕ → ℕ) (a b n count here there : ℕ) (d d' : List ℕ) → ((here ≡ a) × (there ≡ b)) ⊎ ((here ≡ b) × (there ≡ a))
    → PingPong f here there n count here d d' → PingPong f a b n count here d d'
pingpong-place f a b n count here there d d' p W = record {
  place = ⊎_elim (λ (e : (here ≡ a) × (there ≡ b)). inl e.0) (λ (e : (here ≡ b) × (there ≡ a)). inr e.0) p;
  inside = W.inside;
  outside = λ j k m. ⊎_elim
      (λ (e : (here ≡ a) × (there ≡ b)). W.outside j (rw e.0 k) (rw e.1 m))
      (λ (e : (here ≡ b) × (there ≡ a)). W.outside j (rw e.0 m) (rw e.1 k)) p;
  long = W.long;
}

-- the windows of the definition
pub pingpong-edged : (op : Extreme) (a b n count back ahead r : ℕ) (d d₁ d₂ : List ℕ)
    → PingPong (windows op d a n count (min back (count - 1)) (min ahead (count - 1))) a b n count r d d₁ → Lined (edged_line op back ahead d₁ r n count) r n count d₁ d₂
    → PingPong (λ v i. extreme op back ahead (column d a n count i) v) a b n count r d d₂
unfolding column edged_line
pingpong-edged op a b n count back ahead r d d₁ d₂ W L = record {
  place = W.place;
  inside = λ v i h l. L.inside v i h l
      ∙ ap (edged op back ahead count v) (W.inside v i h l ∙ cut-limit (operation op) (neutral op) back ahead count (λ w. byte_at d a n w i) v h)
      ∙ sym (extreme-cut op back ahead count (λ w. byte_at d a n w i) v h);
  outside = λ j k m. lined-outside _ _ _ _ _ _ j L (⊎_elim (λ e. rw e k) (λ e. rw e m) W.place) ∙ W.outside j k m;
  long = L.long ∙ W.long;
}

-- the first and the last lines are cleared
module _ (o n count back ahead k m : ℕ) (d d₁ d₂ : List ℕ) (ek : k ≡ min back count) (em : m ≡ min ahead count)
    (F : Filled (λ _. 0) o (o + k * n) d d₁) (G : Filled (λ _. 0) (o + count * n - m * n) (o + count * n) d₁ d₂) where
  first-in : k * n ≤ count * n
  first-in = mul-le-mul_right n (omega arith)

  last-in : m * n ≤ count * n
  last-in = mul-le-mul_right n (omega arith)

  at_last : (v i : ℕ) → v < count → i < n → count ≤ v + m → byte_at d₂ o n v i ≡ 0
  at_last v i h l u =
      let lo : o + count * n - m * n ≤ o + v * n + i = omega (arith, mul-le-mul_right n u) in
      let hi : o + v * n + i < o + count * n = omega (arith, line-in n count v i h l) in
      G.inside (o + v * n + i) lo hi

  at_first : (v i : ℕ) → v < k → i < n → byte_at d₂ o n v i ≡ 0
  at_first v i h l =
      let lo : o ≤ o + v * n + i = omega arith in
      let hi : o + v * n + i < o + k * n = omega (arith, line-in n k v i h l) in
      let end : o + v * n + i < o + count * n = omega (arith, first-in) in ⊎_elim
      (λ z. G.before (o + v * n + i) z ∙ F.inside (o + v * n + i) lo hi)
      (λ z. G.inside (o + v * n + i) z end)
      (lt-or-le (o + v * n + i) (o + count * n - m * n))

  at-middle : (v i : ℕ) → i < n → k ≤ v → v + 1 + m ≤ count → byte_at d₂ o n v i ≡ byte_at d o n v i
  at-middle v i l u w =
      let lo : o + k * n ≤ o + v * n + i = omega (arith, mul-le-mul_right n u) in
      let hi : o + v * n + i < o + count * n - m * n = omega (arith, mul-le-mul_right n w) in
      G.before (o + v * n + i) hi ∙ F.after (o + v * n + i) lo

  cleared_at : (v i : ℕ) → v < count → i < n → byte_at d₂ o n v i ≡ edged_line Least back ahead d o n count v i
  unfolding edged_line edged
  cleared_at v i h l = ⊎_elim
      (λ g. at_first v i (omega arith) l ∙ simp (lt-leb back v g))
      (λ g. ⊎_elim
      (λ z. at-middle v i l (omega arith) (omega arith) ∙ simp (le-leb back v g, lt-ltb (v + ahead) count z))
      (λ z. at_last v i h l (omega arith) ∙ simp (le-leb back v g, le-ltb (v + ahead) count z))
      (lt-or-le (v + ahead) count))
      (lt-or-le v back)

  pub cleared : Lined (edged_line Least back ahead d o n count) o n count d d₂
  cleared = record {
    inside = cleared_at;
    before = λ j h. G.before j (omega (arith, last-in)) ∙ F.before j h;
    after = λ j h. G.after j h ∙ F.after j (omega (arith, first-in));
    long = G.long ∙ F.long;
  }

-- the edges of the largest stay
pub stayed : (back ahead o n count : ℕ) (d : List ℕ) → Lined (edged_line Largest back ahead d o n count) o n count d d
unfolding edged_line edged
stayed back ahead o n count d = record { inside = λ v i h l. refl; before = λ j h. refl; after = λ j h. refl; long = refl }
