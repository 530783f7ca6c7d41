-- `kernel_remap::remap::fill_tables` meets its contract: the law of three lines. Assumes nothing.
use Rattle.std.proofs.Common.{sym, refl, ◌≡◌, ◌*◌, ◌+◌, get_or-take, get_or-drop, length-take-le, ◌∙◌, arith}
use Rattle.kernel_remap.proofs.Remaps.{lines-filled}
use Rattle.kernel_remap.proofs.remap.fill_tables.Goals as goal

pub slice_bounds-fill_line-end : goal.slice_bounds-fill_line-end
slice_bounds-fill_line-end c = sym (length-take-le 256 c.args.maps.now (omega arith))

pub fill_line-requires : goal.fill_line-requires
fill_line-requires c = (length-take-le 256 c.args.maps.now (omega arith), omega arith, omega arith)

pub returns : goal.returns
returns c =
    let s = c.args in
    lines-filled s.maps.now s.line.now s.a c.requires.3 (λ i. (c.type_inv.line i).fits) _ _ _ _ _ _ _
    (λ u h. let z : 256 * 0 + u ≡ u = omega arith in get_or-take 256 s.maps.now u 0 h ∙ rw z refl)
    (λ u h. get_or-take 256 _ u 0 h ∙ get_or-drop 256 s.maps.now u 0)
    (λ u h. get_or-take 256 _ u 0 h ∙ get_or-drop 512 s.maps.now u 0)
    (rw c.requires.1 at c.fill_line.ensures) (rw c.requires.1 at c.fill_line-2.ensures) (rw c.requires.1 at c.fill_line-3.ensures)
