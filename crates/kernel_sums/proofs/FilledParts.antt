-- A part of a list that was stored into, put back: the list is filled there. Assumes nothing.
use mathlib.Core.Path.{◌≡◌, ◌∙◌, sym, ap}
use mathlib.Core.List.{List, ◌++◌}
use Prim.Native.Nat.{ℕ, ◌+◌, ◌-◌, ◌≤◌, ◌<◌}
use native.Mathlib.Omega.{arith}
use lib.ListN.{length, get_or, take, drop, replicate}
use borrow.Rule.Slice.PartMut.{put_mid, mid_of, same_len_mid}
use Rattle.std.proofs.lemmas.List.{get_or-take, get_or-drop, get_or_append_left, get_or-append_right, get_or-replicate, length-take-le, length-drop, length-replicate}
use Rattle.window.specs.Store.{Filled}

-- the n places from o on
module _ (o n : ℕ) (d : List ℕ) where
  pub part-byte : (i : ℕ) → i < n → get_or (mid_of o (o + n - o) d) i 0 ≡ get_or d (o + i) 0
  part-byte i h = get_or-take (o + n - o) (drop o d) i 0 (omega arith) ∙ get_or-drop o d i 0

  pub part-long : o + n ≤ length d → length (mid_of o (o + n - o) d) ≡ n
  part-long h = length-take-le (o + n - o) (drop o d) (omega (arith, length-drop o d)) ∙ omega arith

-- the k places from r on are those of e
module _ (f : ℕ → ℕ) (r k to : ℕ) (d e : List ℕ) (end : to ≡ r + k) (le : to ≤ length d) (long : length e ≡ k) (is : (i : ℕ) → i < k → get_or e i 0 ≡ f (r + i)) where
  head : length (take r d) ≡ r
  head = length-take-le r d (omega arith)

  behind : (i : ℕ) → r ≤ i → get_or (put_mid r k d e) i 0 ≡ get_or (e ++ drop k (drop r d)) (i - r) 0
  behind i h = get_or-append_right (take r d) (e ++ drop k (drop r d)) r i 0 head h

  pub filled-part : Filled f r to d (put_mid r k d e)
  filled-part = record {
    inside = λ i l h.
        behind i l ∙ get_or_append_left e (drop k (drop r d)) 0 (i - r) (omega arith) ∙ is (i - r) (omega arith) ∙ ap f (omega arith);
    before = λ i h. get_or_append_left (take r d) (e ++ drop k (drop r d)) 0 i (omega (arith, head)) ∙ get_or-take r d i 0 h;
    after = λ i h.
        behind i (omega arith) ∙ get_or-append_right e (drop k (drop r d)) k (i - r) 0 long (omega arith) ∙ get_or-drop k (drop r d) (i - r - k) 0 ∙ get_or-drop r d (k + (i - r - k)) 0
        ∙ ap (λ (j : ℕ). get_or d j 0) (omega arith);
    long = same_len_mid r k d e (long ∙ sym (length-take-le k (drop r d) (omega (arith, length-drop r d))));
  }

-- the first n places hold v
pub front-replicate : (v n : ℕ) (d e : List ℕ) → n ≤ length d → e ≡ replicate (length (take n d)) v → (i : ℕ) → i < n → get_or (e ++ drop n d) i 0 ≡ v
front-replicate v n d e le is i h =
    let long : length (take n d) ≡ n = length-take-le n d le in
    rw (is, long) (get_or_append_left (replicate n v) (drop n d) 0 i (omega (arith, length-replicate n v)) ∙ get_or-replicate n i v 0 h)

-- a line that was stored as a list of its own
pub line-stored : (f : ℕ → ℕ) (o n : ℕ) (d e : List ℕ) → o + n ≤ length d → Filled f 0 (length (mid_of o (o + n - o) d)) (mid_of o (o + n - o) d) e
    → Filled (λ j. f (j - o)) o (o + n) d (put_mid o (o + n - o) d e)
line-stored f o n d e le F =
    let long = part-long o n d le in
    filled-part (λ j. f (j - o)) o (o + n - o) (o + n) d e (omega arith) le (F.long ∙ long ∙ omega arith) (λ i h. F.inside i (omega arith) (omega (arith, long)) ∙ ap f (omega arith))
