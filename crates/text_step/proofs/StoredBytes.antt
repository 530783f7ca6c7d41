-- Bytes stored in a buffer, one after another. Assumes nothing.
use mathlib.Core.Path.{◌≡◌, refl, sym, ap, ◌∙◌}
use mathlib.Core.List.{List, [], ◌∷◌, ◌++◌, append_assoc, append-nil, map}
use Prim.Native.Nat.{ℕ, suc, ◌+◌, ◌*◌, ◌≤◌, ◌<◌}
use native.Mathlib.Nat.{add-zero}
use native.Mathlib.Numerals.{add-one}
use native.Mathlib.Omega.{arith}
use lib.ListN.{length, get_or, take, drop, set, length-append, length-drop, take-append-drop}
use lib.Seq.{drop-cons, length-take-le, drop-drop, take_at, drop-append-add, set_at}
use Rattle.text_step.specs.ManyFields.{flattened, stored}

pub stored-none : (d : List ℕ) (at : ℕ) → stored d at [] ≡ d
unfolding stored
stored-none d at = ap (λ (j : ℕ). take at d ++ drop j d) (add-zero at) ∙ take-append-drop at d

pub stored-length : (d : List ℕ) (at : ℕ) (t : List ℕ) → at + length t ≤ length d → length (stored d at t) ≡ length d
unfolding stored
stored-length d at t h =
    omega (arith, length-append (take at d) (t ++ drop (at + length t) d), length-append t (drop (at + length t) d), length-take-le at d (omega arith), length-drop (at + length t) d)

-- one text after another
pub stored_next : (d : List ℕ) (at : ℕ) (t u : List ℕ) → at + length t + length u ≤ length d → stored (stored d at t) (at + length t) u ≡ stored d at (t ++ u)
unfolding stored
stored_next d at t u h =
    let a : length (take at d ++ t) ≡ at + length t = omega (arith, length-append (take at d) t, length-take-le at d (omega arith)) in
    let s : take at d ++ (t ++ drop (at + length t) d) ≡ (take at d ++ t) ++ drop (at + length t) d = sym (append_assoc (take at d) t (drop (at + length t) d)) in
    let b : take (at + length t) (take at d ++ (t ++ drop (at + length t) d)) ≡ take at d ++ t = ap (take (at + length t)) s ∙ take_at (take at d ++ t) (drop (at + length t) d) (at + length t) a in
    let e : at + length t + length u ≡ length (take at d ++ t) + length u = omega arith in
    let f : at + length t + length u ≡ at + length (t ++ u) = omega (arith, length-append t u) in
    let c : drop (at + length t + length u) (take at d ++ (t ++ drop (at + length t) d)) ≡ drop (at + length (t ++ u)) d =
    ap (drop (at + length t + length u)) s ∙ ap (λ (j : ℕ). drop j ((take at d ++ t) ++ drop (at + length t) d)) e ∙ drop-append-add (take at d ++ t) (drop (at + length t) d) (length u)
    ∙ drop-drop (length u) (at + length t) d ∙ ap (λ (j : ℕ). drop j d) f in
    rw (b, c, append_assoc (take at d) t (u ++ drop (at + length (t ++ u)) d), append_assoc t u (drop (at + length (t ++ u)) d))

-- one byte
stored_one : (d : List ℕ) (i x : ℕ) → i < length d → set d i x ≡ stored d i (x ∷ [])
unfolding stored
stored_one d i x h =
    let a : length (take i d) ≡ i = length-take-le i d (omega arith) in
    let e : i + 1 ≡ suc i = add-one i in
    ap (λ (l : List ℕ). set l i x) (sym (take-append-drop i d) ∙ ap (take i d ++◌) (drop-cons d i 0 h)) ∙ set_at (take i d) (get_or d i 0) (drop (suc i) d) x i a
    ∙ ap (λ (j : ℕ). take i d ++ (x ∷ drop j d)) (sym e)

pub stored_more : (d : List ℕ) (at : ℕ) (t : List ℕ) (x i : ℕ) → i ≡ at + length t → i < length d → set (stored d at t) i x ≡ stored d at (t ++ (x ∷ []))
stored_more d at t x i e h =
    let l : i < length (stored d at t) = omega (arith, stored-length d at t (omega arith)) in
    stored_one (stored d at t) i x l ∙ ap (λ (j : ℕ). stored (stored d at t) j (x ∷ [])) e ∙ stored_next d at t (x ∷ []) (omega arith)

pub stored-four : (d : List ℕ) (at a b c e : ℕ) → at + 4 ≤ length d → set (set (set (set d at a) (at + 1) b) (at + 2) c) (at + 3) e ≡ stored d at (a ∷ b ∷ c ∷ e ∷ [])
stored-four d at a b c e h =
    rw (stored_one d at a (omega arith), stored_more d at (a ∷ []) b (at + 1) refl (omega arith), stored_more d at (a ∷ b ∷ []) c (at + 2) refl (omega arith), stored_more d at (a ∷ b ∷ c ∷ []) e (at + 3) refl (omega arith))

pub flattened-more : (ls : List (List ℕ)) (l : List ℕ) → flattened (ls ++ (l ∷ [])) ≡ flattened ls ++ l
unfolding flattened
flattened-more [] l = append-nil l
flattened-more (k ∷ ls) l = ap (k ++◌) (flattened-more ls l) ∙ sym (append_assoc k (flattened ls) l)

-- lists of four
pub flattened-fours : (value : List ℕ → List ℕ) → ((f : List ℕ) → length (value f) ≡ 4) → (fs : List (List ℕ)) → length (flattened (map value fs)) ≡ 4 * length fs
unfolding flattened
flattened-fours value four [] = refl
flattened-fours value four (f ∷ fs) = omega (arith, length-append (value f) (flattened (map value fs)), four f, flattened-fours value four fs)
