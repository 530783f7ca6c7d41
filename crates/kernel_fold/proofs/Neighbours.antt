-- The line s before a line and the line t after it, or the line itself: by cases, and among the lines. Assumes nothing.
use mathlib.Core.Path.{◌≡◌}
use mathlib.Core.Logic.{◌⊎◌, inl, inr, ⊎_elim}
use Prim.Native.Nat.{ℕ, ◌+◌, ◌-◌, ◌≤◌, ◌<◌}
use native.Mathlib.Omega.{arith}
use borrow.Author.Tests.{lt-ltb, le-ltb}
use Rattle.window.proofs.Store.{lt-or-le}
use Rattle.kernel_fold.specs.Lines.{earlier, later}

pub earlier-is : (s v : ℕ) → ((v < s) × (earlier s v ≡ v)) ⊎ ((s ≤ v) × (earlier s v ≡ v - s))
unfolding earlier
earlier-is s v = ⊎_elim (λ h. inl (h, simp (lt-ltb v s h))) (λ h. inr (h, simp (le-ltb v s h))) (lt-or-le v s)

pub later-is : (t count v : ℕ) → ((v + t < count) × (later t count v ≡ v + t)) ⊎ ((count ≤ v + t) × (later t count v ≡ v))
unfolding later
later-is t count v = ⊎_elim (λ h. inl (h, simp (lt-ltb (v + t) count h))) (λ h. inr (h, simp (le-ltb (v + t) count h))) (lt-or-le (v + t) count)

pub earlier-in : (s count v : ℕ) → v < count → earlier s v < count
earlier-in s count v h = ⊎_elim (λ (e : (v < s) × (earlier s v ≡ v)). omega arith) (λ (e : (s ≤ v) × (earlier s v ≡ v - s)). omega arith) (earlier-is s v)

pub later-in : (t count v : ℕ) → v < count → later t count v < count
later-in t count v h = ⊎_elim (λ (e : (v + t < count) × (later t count v ≡ v + t)). omega arith) (λ (e : (count ≤ v + t) × (later t count v ≡ v)). omega arith) (later-is t count v)
