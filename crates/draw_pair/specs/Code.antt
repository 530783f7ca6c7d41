-- What the kernel of a pair asks for, and what it leaves. Only the code needs these definitions: no promise to a caller cites them. Assumes nothing.
use Rattle.std.specs.Prelude.{ℕ, ◌*◌, ◌≡◌, List, length}
use denote.Ref.{Bor, MutBor}
use Rattle.pixel.specs.declared.Pixel.{Pixel}
use Rattle.pixel.specs.Bytes.{pixel_at, Painted}
use Rattle.buffers.specs.Kernels.{Lent}

-- the kernel may be called at n valid pixels of a and of b, the places of as many in dst, and two work rows as long
abbrev pub Takes : (Bor (List ℕ) → Bor (List ℕ) → MutBor (List ℕ) → MutBor (List ℕ) → MutBor (List ℕ) → ℕ → Type 0) → Type 0
Takes pre = (a b : Bor (List ℕ)) (f g dst : MutBor (List ℕ)) (n : ℕ) → Lent a.now dst.now n → Lent b.now dst.now n → length f.now ≡ 4 * n → length g.now ≡ 4 * n → pre a b f g dst n

-- and leaves h of each two of them
abbrev pub Pairs : (Bor (List ℕ) → Bor (List ℕ) → MutBor (List ℕ) → MutBor (List ℕ) → MutBor (List ℕ) → ℕ → Unit {0} → MutBor (List ℕ) → MutBor (List ℕ) → MutBor (List ℕ) → Type 0)
    → (Pixel → Pixel → Pixel) → Type 0
Pairs post h = (a b : Bor (List ℕ)) (f g dst : MutBor (List ℕ)) (n : ℕ) (f' g' dst' : MutBor (List ℕ)) → Lent a.now dst.now n → Lent b.now dst.now n → post a b f g dst n tt f' g' dst'
    → Painted (λ x. h (pixel_at a.now (4 * x)) (pixel_at b.now (4 * x))) 0 0 n dst.now dst'.now
