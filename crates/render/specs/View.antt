-- "A layer can be shown." RULES 8. Assumes nothing.
use Rattle.std.specs.Prelude.{ℕ, ◌+◌, ◌*◌, Bool, cond, ◌&&◌, List, ltb, eqb, take, drop}
use Rattle.filter.specs.Bytes.{size}
use Rattle.filter.specs.Checks.{canvas?, count?}
use Rattle.render.specs.declared.View as Declared

-- "for valid W, H, step count and workspace length and a layer below the count"
abbrev pub shown? : ℕ → ℕ → ℕ → ℕ → ℕ → Bool
shown? w h steps n long = canvas? w h && (count? steps && (eqb long (steps * size w h) && ltb n steps))

-- "that layer's own bytes in the lent workspace, all 4·W·H; otherwise an empty part at its start", by the place in a workspace of `long` bytes
unfoldable pub view_at : ℕ → ℕ → ℕ → ℕ → ℕ → Declared.View
view_at w h steps n long = cond (shown? w h steps n long) (record { offset = n * size w h; bytes = size w h }) (record { offset = 0; bytes = 0 })

-- where it lies, when the workspace lies at p: a block and an offset in it
abbrev pub pointer : Declared.View → ℕ × ℕ → ℕ × ℕ
pointer v p = (p.0, v.offset + p.1)

-- the bytes at a place
abbrev pub part_at : Declared.View → List ℕ → List ℕ
part_at v d = take v.bytes (drop v.offset d)
