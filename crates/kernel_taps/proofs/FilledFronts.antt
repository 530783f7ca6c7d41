-- The first n bytes filled, and those behind them left. Assumes nothing.
use Rattle.std.proofs.Common.{ℕ, ◌+◌, ◌-◌, ◌≤◌, List, length, get_or, take, drop, ◌++◌, ◌≡◌, ap, sym, ◌∙◌, arith, length-append}
use Rattle.std.proofs.lemmas.List.{get_or_append_left, get_or-append-add, get_or-drop, length-drop, length-take-le}
use Rattle.window.specs.Store.{Filled}

pub filled-front : (f : ℕ → ℕ) (n : ℕ) (d d' : List ℕ) → n ≤ length d → Filled f 0 n (take n d) d' → Filled f 0 n d (d' ++ drop n d)
filled-front f n d d' l F =
    let long : length d' ≡ n = F.long ∙ length-take-le n d l in
    record {
      inside = λ i lo hi. get_or_append_left d' (drop n d) 0 i (omega arith) ∙ F.inside i lo hi;
      before = λ i h. absurd (omega arith);
      after = λ i h.
          let at : length d' + (i - n) ≡ i = omega arith in
          let from : n + (i - n) ≡ i = omega arith in
          ap (λ (j : ℕ). get_or (d' ++ drop n d) j 0) (sym at)
          ∙ get_or-append-add d' (drop n d) (i - n) 0
          ∙ get_or-drop n d (i - n) 0
          ∙ ap (λ (j : ℕ). get_or d j 0) from;
      long = omega (arith, length-append d' (drop n d), length-drop n d);
    }
