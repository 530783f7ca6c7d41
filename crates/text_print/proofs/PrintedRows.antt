-- Fields and lines, one after another. Assumes nothing.
use mathlib.Core.Path.{◌≡◌, refl, sym, ap, ◌∙◌}
use mathlib.Core.List.{List, [], ◌∷◌, ◌++◌, append_assoc, append-nil}
use Prim.Native.Nat.{ℕ, zero, suc, ◌+◌, ◌*◌, ◌≤◌, ◌<◌}
use native.Mathlib.Omega.{arith}
use native.Mathlib.Nat.{mul-le-mul_right, add-mul}
use lib.ListN.{length, length-append}
use Rattle.std.specs.List.{join_with_byte}
use Rattle.pixel.specs.declared.Pixel.{Pixel}
use Rattle.pixel.specs.declared.Space.{Space}
use Rattle.pixel.specs.declared.Space.TheVariants.{Srgb}
use Rattle.pixel.specs.Convert.{converted}
use Rattle.filter.specs.Picture.{Picture}
use Rattle.filter.specs.Bytes.{size, read, concat}
use Rattle.filter.proofs.ReadPictures.{read-pixel}
use Rattle.filter.proofs.BytesHoldPictures.{concat-length}
use Rattle.text_print.specs.Digits.{decimal, hex_pixel}
use Rattle.text_print.specs.Output.{ok_word, refused_word, row_word, line, field_list, row_fields, row_lines, in_srgb, ok_text, refused_text}
use Rattle.text_print.specs.Code.{Put, row_from}
use Rattle.text_print.proofs.PutTexts.{put_then, put_as}
use Rattle.text_print.proofs.DecimalDigits.{hex-length}

-- one field more
join_more : (d : ℕ) (f : List ℕ) (fs : List (List ℕ)) (g : List ℕ) → join_with_byte d (f ∷ (fs ++ (g ∷ []))) ≡ join_with_byte d (f ∷ fs) ++ (d ∷ g)
join_more d f [] g = refl
join_more d f (e ∷ fs) g = ap (λ (l : List ℕ). f ++ (d ∷ l)) (join_more d e fs g) ∙ sym (append_assoc f (d ∷ join_with_byte d (e ∷ fs)) (d ∷ g))

-- each field after a tab
join-listed : (f : List ℕ) (g : ℕ → List ℕ) (n : ℕ) → join_with_byte 9 (f ∷ field_list g n) ≡ f ++ concat (λ i. 9 ∷ g i) n
unfolding field_list concat
join-listed f g zero = sym (append-nil f)
join-listed f g (suc n) =
    join_more 9 f (field_list g n) (g n) ∙ ap (◌++ (9 ∷ g n)) (join-listed f g n) ∙ append_assoc f (concat (λ i. 9 ∷ g i) n) (9 ∷ g n)

listed_same : (f g : ℕ → List ℕ) (n : ℕ) → ((i : ℕ) → i < n → f i ≡ g i) → field_list f n ≡ field_list g n
unfolding field_list
listed_same f g zero h = refl
listed_same f g (suc n) h = rw (listed_same f g n (λ i l. h i (omega arith)), h n (omega arith))

-- the pixels of a row, each after a tab
abbrev pub cells : (ℕ → Pixel) → ℕ → List ℕ
cells row x = 9 ∷ hex_pixel (row x)

pub cell-length : (row : ℕ → Pixel) (x : ℕ) → length (cells row x) ≡ 9
cell-length row x = ap suc (hex-length (row x))

-- a row
module _ (w : ℕ) (row : ℕ → Pixel) where
  pub row_is : (row_word ++ concat (cells row) w) ++ (10 ∷ []) ≡ line (row_fields w row)
  unfolding line row_fields
  row_is = ap (◌++ (10 ∷ [])) (sym (join-listed row_word (λ x. hex_pixel (row x)) w))

  pub row-length : length (line (row_fields w row)) ≡ 9 * w + 4
  row-length =
      ap length (sym row_is)
      ∙ omega (arith, length-append (row_word ++ concat (cells row) w) (10 ∷ []), length-append row_word (concat (cells row) w), concat-length (cells row) 9 (cell-length row) w)

  pub row_put : {at : ℕ} {d d₁ d₂ d' : List ℕ} {i j n : ℕ} → Put row_word at d d₁ i → Put (concat (cells row) w) i d₁ d₂ j → Put (10 ∷ []) j d₂ d' n
      → at + 9 * w + 4 ≤ length d → Put (line (row_fields w row)) at d d' n
  row_put p q r h =
      let l : length (concat (cells row) w) ≡ w * 9 = concat-length (cells row) 9 (cell-length row) w in
      put_as (put_then (put_then p q (omega arith)) r (omega (arith, length-append row_word (concat (cells row) w)))) (line (row_fields w row)) row_is

-- the rows of a picture
pub row-end : (w h y : ℕ) → y < h → 4 * (y * w) + 4 * w ≤ size w h
row-end w h y l = omega (arith, mul-le-mul_right w l, add-mul y 1 w)

module _ (w h : ℕ) (d : List ℕ) (s : Space) where
  abbrev pub rows : ℕ → List ℕ
  rows y = line (row_fields w (λ x. in_srgb s (read w h d 0) x y))

  pub rows-length : (y : ℕ) → length (rows y) ≡ 9 * w + 4
  rows-length y = row-length w (λ x. in_srgb s (read w h d 0) x y)

  pub row_read : (y : ℕ) → y < h → line (row_fields w (row_from s d (4 * (y * w)))) ≡ rows y
  unfolding row_fields
  row_read y l = ap (λ (fs : List (List ℕ)). line (row_word ∷ fs)) (listed_same _ _ w each)
    where
      each : (x : ℕ) → x < w → hex_pixel (row_from s d (4 * (y * w)) x) ≡ hex_pixel (in_srgb s (read w h d 0) x y)
      each x k =
          let e : 4 * (y * w) + 4 * x ≡ 0 + 4 * (y * w + x) = omega arith in
          ap (λ (p : Pixel). hex_pixel (converted s Srgb p)) (rw e (sym (read-pixel w h d 0 x y k l)))

-- a picture's text
pub lines-length : (w h : ℕ) (p : Picture) → length (row_lines w h p) ≡ h * (9 * w + 4)
unfolding row_lines
lines-length w h p = concat-length (λ y. line (row_fields w (λ x. p x y))) (9 * w + 4) (λ y. row-length w (λ x. p x y)) h

ok-is : (w h : ℕ) (p : Picture) → (ok_word ++ (10 ∷ [])) ++ row_lines w h p ≡ ok_text w h p
unfolding ok_text line
ok-is w h p = refl

pub ok-length : (w h : ℕ) (p : Picture) → length (ok_text w h p) ≡ 3 + length (row_lines w h p)
ok-length w h p = ap length (sym (ok-is w h p)) ∙ length-append (ok_word ++ (10 ∷ [])) (row_lines w h p)

pub ok-put : (w h : ℕ) (p : Picture) {at : ℕ} {d d₁ d₂ d' : List ℕ} {i j n : ℕ} → Put ok_word at d d₁ i → Put (10 ∷ []) i d₁ d₂ j → Put (row_lines w h p) j d₂ d' n
    → at + length (ok_text w h p) ≤ length d → Put (ok_text w h p) at d d' n
ok-put w h p q r s l =
    put_as (put_then (put_then q r (omega (arith, ok-length w h p))) s (omega (arith, ok-length w h p))) (ok_text w h p) (ok-is w h p)

-- a refusal
refused-is : (number place : ℕ) → ((refused_word ++ (9 ∷ decimal number)) ++ (9 ∷ decimal place)) ++ (10 ∷ []) ≡ refused_text number place
unfolding refused_text line
refused-is number place =
    ap (◌++ (10 ∷ [])) (sym (join_more 9 refused_word (decimal number ∷ []) (decimal place) ∙ ap (◌++ (9 ∷ decimal place)) (join_more 9 refused_word [] (decimal number))))

pub refused-length : (number place : ℕ) → length (refused_text number place) ≡ 10 + length (decimal number) + length (decimal place)
refused-length number place =
    let a : List ℕ = refused_word ++ (9 ∷ decimal number) in
    ap length (sym (refused-is number place))
    ∙ omega (arith, length-append (a ++ (9 ∷ decimal place)) (10 ∷ []), length-append a (9 ∷ decimal place), length-append refused_word (9 ∷ decimal number))

pub refused-put : (number place : ℕ) {at : ℕ} {d d₁ d₂ d₃ d' : List ℕ} {i j k n : ℕ} → Put refused_word at d d₁ i → Put (9 ∷ decimal number) i d₁ d₂ j → Put (9 ∷ decimal place) j d₂ d₃ k
    → Put (10 ∷ []) k d₃ d' n → at + length (refused_text number place) ≤ length d → Put (refused_text number place) at d d' n
refused-put number place p q r s h =
    let l : length (refused_text number place) ≡ 10 + length (decimal number) + length (decimal place) = refused-length number place in
    let m : length (decimal number ++ (9 ∷ decimal place)) ≡ length (decimal number) + suc (length (decimal place)) = length-append (decimal number) (9 ∷ decimal place) in
    put_as (put_then (put_then (put_then p q (omega arith)) r (omega arith)) s (omega arith)) (refused_text number place) (refused-is number place)
