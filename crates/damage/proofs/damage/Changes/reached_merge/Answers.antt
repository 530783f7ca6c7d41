-- `damage::damage::Changes::reached_merge` meets its contract: as many inputs as there are. Assumes nothing.
use Rattle.damage.specs.InputRects.{rect_of}
use Rattle.damage.proofs.DamagesSoFar.{merge-reached}
use Rattle.damage.proofs.damage.Changes.reached_merge.Goals as goal

pub returns : goal.returns
returns c =
    let s = c.args in
    let e = rw c.none.ensures at c.join_input-fourth.ensures in
    merge-reached s.n s.inputs (rect_of s.self.now.changed s.self.now.rects) _ _ _ _ e c.join_input-third.ensures c.join_input-second.ensures c.join_input.ensures
