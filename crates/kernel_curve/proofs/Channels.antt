-- The map of a channel by naturals alone, and by the entries that were gathered for it. Assumes nothing.
use Prim.Native.Nat.{ℕ, ◌+◌, ◌-◌, ◌*◌, ◌/◌, ◌≤◌, ◌<◌, min}
use mathlib.Core.Path.{◌≡◌, refl, sym, ◌∙◌, ap₂}
use mathlib.Core.List.{List}
use native.Mathlib.Nat.{mul_comm, mul-le-mul_right}
use native.Mathlib.Omega.{arith}
use lib.IntN.{sub_ℕ}
use lib.ListN.{length, get_or, take, drop}
use borrow.Rule.Slice.PartMut.{put_mid}
use Rattle.std.proofs.lemmas.Grind.{common_steps}
use Rattle.window.specs.Store.{Filled}
use Rattle.number.specs.declared.Fixed.{Fixed}
use Rattle.pixel.specs.declared.Transfer as T
use Rattle.pixel.specs.declared.Transfer.TheVariants.{Identity, Table, Discrete, Linear}
use Rattle.pixel.specs.Curve.{table_channel, discrete_channel, linear_channel, transferred}
use Rattle.pixel.proofs.SignedSums.{diff-sub, diff-add, diff-mul, diff-by, diff-plus, diff-limited}
use Rattle.kernel_curve.specs.Channel.{value_at, Counted, channel_map}
use Rattle.kernel_curve.specs.Code.{EntriesFrom, byte_of}

-- u: what is above zero; d: what is below it
pub linear-natural : (u1 d1 u2 d2 c : ℕ) → min ((c * u1 + 255 * u2 + 32768 - (c * d1 + 255 * d2)) / 65536) 255 ≡ linear_channel (sub_ℕ u1 d1) (sub_ℕ u2 d2) c
unfolding linear_channel
linear-natural u1 d1 u2 d2 c =
    rw (mul_comm c u1, mul_comm c d1)
    (sym (diff-limited 65536 (diff-plus 32768 (diff-add (diff-mul c (diff-sub u1 d1)) (diff-by 255 (diff-sub u2 d2))))))

-- the place in a table lies inside it
step-le : (c n : ℕ) → c < 256 → c * n ≤ 255 * n
step-le c n l = let h : c ≤ 255 = omega arith in mul-le-mul_right n h

-- two lists of entries that agree where a table looks
table_same : (v w : ℕ → ℕ) (n c : ℕ) → n < 16 → c < 256 → ((k : ℕ) → k < 17 → v k ≡ w k) → table_channel n v c ≡ table_channel n w c
unfolding table_channel
table_same v w n c ln lc e =
    let l : c * n ≤ 255 * n = step-le c n lc in
    let h : c * n / 255 < 17 = omega (arith, l) in
    let g : c * n / 255 + 1 < 17 = omega (arith, l) in
    rw (e (c * n / 255) h, e (c * n / 255 + 1) g) refl

discrete-same : (v w : ℕ → ℕ) (n c : ℕ) → n ≤ 16 → ((k : ℕ) → k < 17 → v k ≡ w k) → discrete_channel n v c ≡ discrete_channel n w c
unfolding discrete_channel
discrete-same v w n c ln e =
    let h : min (c * n / 255) (n - 1) < 17 = omega arith in
    rw (e (min (c * n / 255) (n - 1)) h) refl

pub byte-is : (t : T.Transfer) (v : List Fixed) (first : ℕ) (e : List ℕ) (c : ℕ) → Counted t → c < 256 → EntriesFrom v first e
    → byte_of t e (value_at v first) (value_at v (first + 1)) c ≡ channel_map t v first c
unfolding byte_of transferred Counted
byte-is Identity v first e c k l E = refl
byte-is (Table n) v first e c k l E =
    table_same (λ (i : ℕ). get_or e i 0) (λ (i : ℕ). (value_at v (first + i)).above) (n - 1) c (omega (arith, k.0, k.1)) l E.same
byte-is (Discrete n) v first e c k l E =
    discrete-same (λ (i : ℕ). get_or e i 0) (λ (i : ℕ). (value_at v (first + i)).above) n c k.1 E.same
byte-is Linear v first e c k l E = let z : first + 0 ≡ first = omega arith in rw z refl

-- the elements beside a part that was lent
front : (at k j : ℕ) (d m : List ℕ) → j < at → at ≤ length d → get_or (put_mid at k d m) j 0 ≡ get_or d j 0
front at k j d m h l = grind (arith, common_steps)

back : (at k j : ℕ) (d m : List ℕ) → at + k ≤ j → length m ≡ k → at + k ≤ length d → get_or (put_mid at k d m) j 0 ≡ get_or d j 0
back at k j d m h e l = grind (arith, common_steps)

-- the bytes that were filled are the channel's map
pub map-filled : (t : T.Transfer) (v : List Fixed) (first : ℕ) (e : List ℕ) (s i : Fixed) (at k : ℕ) (d m : List ℕ) → Counted t → EntriesFrom v first e
    → s ≡ value_at v first → i ≡ value_at v (first + 1) → k ≡ 256 → at + 256 ≤ length d → Filled (byte_of t e s i) 0 256 (take k (drop at d)) m
    → Filled (λ (j : ℕ). channel_map t v first (j - at)) at (at + 256) d (put_mid at k d m)
map-filled t v first e s i at k d m c E es ei ek fits F = record {
  inside = λ j lo hi.
      lent j lo hi ∙ F.inside (j - at) (omega arith) (omega arith) ∙ ap₂ (λ (x y : Fixed). byte_of t e x y (j - at)) es ei ∙ byte-is t v first e (j - at) c (omega arith) E;
  before = λ j h. front at k j d m h (omega arith);
  after = λ j h. back at k j d m (omega arith) long (omega arith);
  long = grind (arith, common_steps);
}
  where
    long : length m ≡ k
    long = F.long ∙ grind (arith, common_steps)

    lent : (j : ℕ) → at ≤ j → j < at + 256 → get_or (put_mid at k d m) j 0 ≡ get_or m (j - at) 0
    lent j lo hi = grind (arith, common_steps)
