-- The bytes of pictures, put together, hold these pictures, and nothing else does. Assumes nothing.
use Prim.Native.Nat.{ℕ, zero, suc, ◌+◌, ◌*◌, ◌≤◌, ◌<◌}
use mathlib.Core.Path.{◌≡◌, refl, sym, ◌∙◌, ap}
use mathlib.Core.List.{List, ◌++◌}
use mathlib.Core.Logic.{⊎_elim}
use native.Mathlib.Nat.{add-zero, mul_comm, mul_assoc, suc-mul, mul-le-mul_right}
use native.Mathlib.Omega.{arith}
use lib.Dec.{lit<}
use lib.ListN.{length, get_or, length-append, get_or-append}
use lib.Seq.{get_or-append-add}
use Rattle.window.proofs.Store.{lt-or-le}
use Rattle.filter.specs.Picture.{Picture}
use Rattle.filter.specs.Bytes.{size, Holds, concat, four_bytes, bytes_of}
use Rattle.filter.proofs.ReadPictures.{holds-unique}

-- n lists of k bytes each
module _ (f : ℕ → List ℕ) (k : ℕ) (long : (i : ℕ) → length (f i) ≡ k) where
  pub concat-length : (n : ℕ) → length (concat f n) ≡ n * k
  unfolding concat
  concat-length zero = omega arith
  concat-length (suc n) = length-append (concat f n) (f n) ∙ omega (arith, concat-length n, long n, suc-mul n k)

  -- byte j of list i
  pub concat-at : (n i j : ℕ) → i < n → j < k → get_or (concat f n) (i * k + j) 0 ≡ get_or (f i) j 0
  unfolding concat
  concat-at zero i j h l = absurd (omega arith)
  concat-at (suc n) i j h l = ⊎_elim (before (concat-at n i j)) at (lt-or-le i n)
    where
      before : (i < n → j < k → get_or (concat f n) (i * k + j) 0 ≡ get_or (f i) j 0) → i < n → get_or (concat f n ++ f n) (i * k + j) 0 ≡ get_or (f i) j 0
      before ih m =
          let fits : i * k + j < length (concat f n) = omega (arith, concat-length n, suc-mul i k, mul-le-mul_right k m) in
          get_or-append (concat f n) (f n) 0 (i * k + j) fits ∙ ih m l

      at : n ≤ i → get_or (concat f n ++ f n) (i * k + j) 0 ≡ get_or (f i) j 0
      at m = let e : i ≡ n = omega arith in rw e (rw (← (concat-length n)) (get_or-append-add (concat f n) (f n) j 0))

module _ (w h count : ℕ) (p : ℕ → Picture) where
  abbrev row : ℕ → ℕ → List ℕ
  row n y = concat (λ x. four_bytes (p n x y)) w

  abbrev layer : ℕ → List ℕ
  layer n = concat (row n) h

  row-length : (n y : ℕ) → length (row n y) ≡ w * 4
  row-length n y = concat-length (λ x. four_bytes (p n x y)) 4 (λ x. refl) w

  layer-length : (n : ℕ) → length (layer n) ≡ h * (w * 4)
  layer-length n = concat-length (row n) (w * 4) (row-length n) h

  -- channel c of a pixel
  byte_at : (n x y c : ℕ) → n < count → x < w → y < h → c < 4
      → get_or (bytes_of w h count p) (n * size w h + 4 * (y * w + x) + c) 0 ≡ get_or (four_bytes (p n x y)) c 0
  byte_at n x y c ln lx ly lc =
      let q : size w h ≡ h * (w * 4) = omega (arith, mul_comm w h, mul_assoc h w 4) in
      let e : n * size w h + 4 * (y * w + x) + c ≡ n * (h * (w * 4)) + (y * (w * 4) + (x * 4 + c)) = omega (arith, ap (λ (k : ℕ). n * k) q, mul_assoc y w 4) in
      let s : x * 4 + c < w * 4 = omega arith in
      let t : y * (w * 4) + (x * 4 + c) < h * (w * 4) = omega (arith, suc-mul y (w * 4), mul-le-mul_right (w * 4) ly) in
      rw e
      (concat-at layer (h * (w * 4)) layer-length count n (y * (w * 4) + (x * 4 + c)) ln t
      ∙ concat-at (row n) (w * 4) (row-length n) h y (x * 4 + c) ly s
      ∙ concat-at (λ u. four_bytes (p n u y)) 4 (λ u. refl) w x c lx lc)

  pub bytes-hold : Holds w h count (bytes_of w h count p) p
  bytes-hold = record {
    long = concat-length layer (h * (w * 4)) layer-length count ∙ ap (λ (k : ℕ). count * k) (omega (arith, mul_comm w h, mul_assoc h w 4));
    same = λ n x y ln lx ly i. record {
      r = (ap (λ (k : ℕ). get_or (bytes_of w h count p) k 0) (sym (add-zero _)) ∙ byte_at n x y 0 ln lx ly (lit< tt)) i;
      g = byte_at n x y 1 ln lx ly (lit< tt) i;
      b = byte_at n x y 2 ln lx ly (lit< tt) i;
      a = byte_at n x y 3 ln lx ly (lit< tt) i;
    };
  }

  pub holds-bytes : (d : List ℕ) → Holds w h count d p → d ≡ bytes_of w h count p
  holds-bytes d hd = holds-unique w h count d (bytes_of w h count p) p p hd bytes-hold λ n l. refl
