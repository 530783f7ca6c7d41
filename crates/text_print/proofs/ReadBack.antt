-- What is printed is read back: numbers, pixels, and the fields of a row. Assumes nothing.
use mathlib.Core.Path.{◌≡◌, refl, sym, ap, ◌∙◌}
use mathlib.Core.Bool.{Bool, true, false, cond}
use mathlib.Core.List.{List, [], ◌∷◌, ◌++◌, append-nil}
use Prim.Native.Nat.{ℕ, zero, suc, ◌+◌, ◌*◌, ◌/◌, ◌%◌, ◌≤◌, ◌<◌, ◌^◌}
use native.Mathlib.Nat.{pow-suc, pow-zero}
use native.Mathlib.Omega.{arith}
use native.Mathlib.Decide.{dec_lt}
use lib.Dec.{eqb, ltb}
use lib.ListN.{length, get_or, length-append, get_or-append}
use borrow.Author.Tests.{lt-ltb, ne_eqb}
use Rattle.pixel.specs.declared.Pixel.{Pixel}
use Rattle.pixel.specs.Alpha.{Bytes}
use Rattle.filter.specs.Bytes.{four_bytes}
use Rattle.std.specs.List.{join_with_byte}
use Rattle.std.specs.Prelude.{Option, Some, None}
use Rattle.std.proofs.lemmas.List.Sums.{sum_by-cons}
use Rattle.text_field.specs.Split.{split}
use Rattle.text_field.specs.Field.{digit_of, accumulated, digits_of, natural_of, whole_of, hex_of, given?, value_in}
use Rattle.text_field.proofs.DigitNumbers.{digit-decimal, digit-letter, digits-run, natural-short, natural-other, hex-is}
use Rattle.text_field.proofs.SplitOfJoin.{occurs, Free, none, more, split-join}
use Rattle.text.specs.Document.{pixel?, bytes_in, pixel_of}
use Rattle.text_print.specs.Digits.{digit, shortest, decimal, hex_byte, hex_pixel}
use Rattle.text_print.specs.Output.{row_word, field_list, row_fields}
use Rattle.text_print.proofs.DecimalDigits.{digit_low, digit-high, shortest-digit, shortest-more, hex-length}

pub digit-read : (d : ℕ) → d < 16 → digit_of (digit d) ≡ d
digit-read d h = go (dec_lt d 10)
  where
    go : Dec (d < 10) → digit_of (digit d) ≡ d
    go (yes l) = rw (digit_low d l) (digit-decimal (48 + d) (omega arith) (omega arith) ∙ omega arith)
    go (no l) = rw (digit-high d (omega arith)) (digit-letter (87 + d) (omega arith) (omega arith) ∙ omega arith)

-- a digit before others, and one after them
accumulated-first : (b d : ℕ) (s : List ℕ) (n : ℕ) → d < b → b ≤ 16 → accumulated b (digit d ∷ s) n ≡ accumulated b s (b * n + d)
unfolding accumulated
accumulated-first b d s n h k = rw (digit-read d (omega arith), lt-ltb d b)

accumulated-last : (b : ℕ) (s : List ℕ) (d n r : ℕ) → accumulated b s n ≡ Some r → d < b → b ≤ 16 → accumulated b (s ++ (digit d ∷ [])) n ≡ Some (b * r + d)
unfolding accumulated
accumulated-last b [] d n r e h k = let q : n ≡ r = cc in rw q (accumulated-first b d [] r h k)
accumulated-last b (y ∷ s) d n r e h k = go (ltb (digit_of y) b) (λ q. accumulated-last b s d (b * n + digit_of y) r q h k) e
  where
    go : (t : Bool) → (accumulated b s (b * n + digit_of y) ≡ Some r → accumulated b (s ++ (digit d ∷ [])) (b * n + digit_of y) ≡ Some (b * r + d)) → cond t (accumulated b s (b * n + digit_of y)) None ≡ Some r → cond t (accumulated b (s ++ (digit d ∷ [])) (b * n + digit_of y)) None ≡ Some (b * r + d)
    go true ih q = ih q
    go false ih q = absurd (cc)

-- s are the digits of n, at most m + 1, the first of several not 0
record Shown (s : List ℕ) (n m : ℕ) : Type 0 where
  value : accumulated 10 s 0 ≡ Some n
  some : 1 ≤ length s
  few : length s ≤ suc m
  first : 0 < n → get_or s 0 0 ≡ 48 → ⊥
  alone : n ≡ 0 → length s ≡ 1

shown-digit : (n m : ℕ) → n < 10 → Shown (digit n ∷ []) n m
unfolding accumulated
shown-digit n m h = record {
  value = accumulated-first 10 n [] 0 h (omega arith) ∙ ap Some (omega arith);
  some = omega arith;
  few = omega arith;
  first = λ k e. omega (arith, digit_low n h);
  alone = λ _. refl;
}

shown-more : (s : List ℕ) (n m : ℕ) → 10 ≤ n → Shown s (n / 10) m → Shown (s ++ (digit (n % 10) ∷ [])) n (suc m)
shown-more s n m h t =
    let l : length (s ++ (digit (n % 10) ∷ [])) ≡ length s + 1 = length-append s (digit (n % 10) ∷ []) in
    record {
      value = accumulated-last 10 s (n % 10) 0 (n / 10) t.value (omega arith) (omega arith) ∙ ap Some (omega arith);
      some = omega arith;
      few = omega (arith, t.few);
      first = λ k e. t.first (omega arith) (sym (get_or-append s (digit (n % 10) ∷ []) 0 0 (omega (arith, t.some))) ∙ e);
      alone = λ e. absurd (omega arith);
    }

shown : (k n m : ℕ) → n ≤ k → n < 10 ^ suc m → Shown (shortest k n) n m
shown zero n m h l = rw (shortest-digit zero n (omega arith)) (shown-digit n m (omega arith))
shown (suc k) n m h l = go (dec_lt n 10) m l (λ j q. shown k (n / 10) j (omega arith) q)
  where
    go : Dec (n < 10) → (m : ℕ) → n < 10 ^ suc m → ((j : ℕ) → n / 10 < 10 ^ suc j → Shown (shortest k (n / 10)) (n / 10) j) → Shown (shortest (suc k) n) n m
    go (yes a) m l ih = rw (shortest-digit (suc k) n a) (shown-digit n m a)
    go (no a) zero l ih = absurd (omega (arith, pow-suc 10 0, pow-zero 10))
    go (no a) (suc m) l ih = rw (shortest-more k n (omega arith)) (shown-more (shortest k (n / 10)) n m (omega arith) (ih m (omega (arith, pow-suc 10 (suc m)))))

pub decimal-few : (m n : ℕ) → n < 10 ^ suc m → length (decimal n) ≤ suc m
unfolding decimal
decimal-few m n h = (shown n n m (omega arith) h).few

-- 1 to m digits "without leading zeros"
pub decimal-read : (m n : ℕ) → 1 ≤ m → n < 10 ^ m → natural_of m (decimal n) ≡ Some n
unfolding decimal
decimal-read zero n h l = absurd (omega arith)
decimal-read (suc m) n h l =
    let t = shown n n m (omega arith) l in
    natural (dec_lt 1 (length (shortest n n))) t ∙ digits-run 10 (suc m) (shortest n n) t.some t.few ∙ t.value
  where
    natural : Dec (1 < length (shortest n n)) → Shown (shortest n n) n m → natural_of (suc m) (shortest n n) ≡ digits_of 10 (suc m) (shortest n n)
    natural (yes k) t = natural-other (suc m) (shortest n n) k (t.first (go n t.alone k))
      where
        go : (n : ℕ) → (n ≡ 0 → length (shortest n n) ≡ 1) → 1 < length (shortest n n) → 0 < n
        go zero e k = absurd (omega (arith, e refl))
        go (suc n) e k = omega arith
    natural (no k) t = natural-short (suc m) (shortest n n) (omega arith)

-- "Whole fields have 1 to 4 digits"
pub whole-read : (n : ℕ) → n ≤ 9999 → whole_of (decimal n) ≡ Some n
whole-read n h = decimal-read 4 n (omega arith) (omega arith)

-- the two digits of a byte before others
byte-read : (x : ℕ) (s : List ℕ) (n : ℕ) → x < 256 → accumulated 16 (hex_byte x ++ s) n ≡ accumulated 16 s (256 * n + x)
unfolding hex_byte
byte-read x s n h =
    accumulated-first 16 (x / 16) (digit (x % 16) ∷ s) n (omega arith) (omega arith) ∙ accumulated-first 16 (x % 16) s (16 * n + x / 16) (omega arith) (omega arith)
    ∙ ap (accumulated 16 s) (omega arith)

-- the eight digits of a pixel of bytes
module _ (p : Pixel) (b : Bytes p) where
  word : ℕ
  word = 256 * (256 * (256 * p.r + p.g) + p.b) + p.a

  pixel-word : hex_of (hex_pixel p) ≡ Some word
  unfolding hex_pixel accumulated word
  pixel-word =
      let n : ℕ = 256 * (256 * (256 * 0 + p.r) + p.g) + p.b in
      hex-is (hex_pixel p) (hex-length p) ∙ digits-run 16 8 (hex_pixel p) (omega (arith, hex-length p)) (omega (arith, hex-length p))
      ∙ byte-read p.r (hex_byte p.g ++ (hex_byte p.b ++ hex_byte p.a)) 0 b.r
      ∙ byte-read p.g (hex_byte p.b ++ hex_byte p.a) (256 * 0 + p.r) b.g
      ∙ byte-read p.b (hex_byte p.a) (256 * (256 * 0 + p.r) + p.g) b.b
      ∙ ap (λ (s : List ℕ). accumulated 16 s n) (sym (append-nil (hex_byte p.a))) ∙ byte-read p.a [] n b.a
      ∙ ap Some (omega arith)

  pub pixel-given : pixel? (hex_pixel p) ≡ true
  pixel-given = ap given? pixel-word

  pub pixel-read : pixel_of (hex_pixel p) ≡ four_bytes p
  unfolding word
  pixel-read = ap (λ (a : Option ℕ). bytes_in (value_in a)) pixel-word ∙ four (omega (arith, b)) (omega (arith, b)) (omega (arith, b)) (omega (arith, b))
    where
      four : {i j k l : ℕ} → i ≡ p.r → j ≡ p.g → k ≡ p.b → l ≡ p.a → i ∷ j ∷ k ∷ l ∷ [] ≡ four_bytes p
      four q r s t = rw (q, r, s, t)

-- no digit is a tab
digit-free : (d : ℕ) (s : List ℕ) → occurs 9 (digit d ∷ s) ≡ occurs 9 s
unfolding digit
digit-free d s = sum_by-cons (λ x. cond (eqb x 9) 1 0) (digit d) s ∙ go (ltb d 10)
  where
    go : (t : Bool) → cond (eqb (cond t (48 + d) (87 + d)) 9) 1 0 + occurs 9 s ≡ occurs 9 s
    go true = rw (ne_eqb (48 + d) 9 (λ e. omega arith)) (omega arith)
    go false = rw (ne_eqb (87 + d) 9 (λ e. omega arith)) (omega arith)

byte-free : (x : ℕ) (s : List ℕ) → occurs 9 (hex_byte x ++ s) ≡ occurs 9 s
unfolding hex_byte
byte-free x s = digit-free (x / 16) (digit (x % 16) ∷ s) ∙ digit-free (x % 16) s

pixel-free : (p : Pixel) → occurs 9 (hex_pixel p) ≡ 0
unfolding hex_pixel
pixel-free p =
    byte-free p.r (hex_byte p.g ++ (hex_byte p.b ++ hex_byte p.a)) ∙ byte-free p.g (hex_byte p.b ++ hex_byte p.a) ∙ byte-free p.b (hex_byte p.a)
    ∙ ap (occurs 9) (sym (append-nil (hex_byte p.a))) ∙ byte-free p.a []

free-append : (fs gs : List (List ℕ)) → Free 9 fs → Free 9 gs → Free 9 (fs ++ gs)
free-append [] gs none g = g
free-append (f ∷ fs) gs (more e r) g = more e (free-append fs gs r g)

listed_free : (f : ℕ → List ℕ) → ((i : ℕ) → occurs 9 (f i) ≡ 0) → (n : ℕ) → Free 9 (field_list f n)
unfolding field_list
listed_free f h zero = none
listed_free f h (suc n) = free-append (field_list f n) (f n ∷ []) (listed_free f h n) (more (h n) none)

-- a row's line has its fields
pub row-split : (w : ℕ) (row : ℕ → Pixel) → split 9 (join_with_byte 9 (row_fields w row)) ≡ row_fields w row
unfolding row_fields
row-split w row = split-join 9 row_word (field_list (λ x. hex_pixel (row x)) w) (more refl (listed_free (λ x. hex_pixel (row x)) (λ x. pixel-free (row x)) w))
