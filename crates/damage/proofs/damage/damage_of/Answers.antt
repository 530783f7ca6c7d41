-- `damage::damage::damage_of` meets its contract, call by call. Assumes nothing.
use Rattle.damage.proofs.DamagesSoFar.{meet_within}
use Rattle.damage.specs.InputRects.{rect_of}
use Rattle.filter.specs.Kinds.{reads}
use Rattle.filter.specs.Layers.{reached}
use Rattle.filter.specs.Rect.{canvas_of, meet}
use mathlib.Core.Path.{◌≡◌}
use Rattle.damage.proofs.damage.damage_of.Goals as goal

pub returns : goal.returns
returns c =
    let s = c.args in
    let e : c.meet-2.result ≡ meet (meet (canvas_of s.width s.height) s.region) (reached (reads s.width s.height s.shape) (rect_of s.changed s.rects)) =
    rw (c.meet-2.ensures, c.reached.ensures, c.meet.ensures, c.canvas.ensures) in
    (e, meet_within _ _ _ _ _ e)
