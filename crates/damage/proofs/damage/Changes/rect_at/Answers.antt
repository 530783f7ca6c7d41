-- `damage::damage::Changes::rect_at` meets its contract: each rectangle that it gives is one of those that are kept. Assumes nothing.
use Rattle.std.proofs.Common.{rules, ◌≡◌, inl, inr}
use Rattle.damage.specs.InputRects.{rect_of}
use Rattle.damage.proofs.damage.Changes.rect_at.Goals as goal

pub returns-in-Source : goal.returns-in-Source
unfolding rect_of
returns-in-Source c =
    let s = c.args.self.now in
    let v : s.changed ≡ rect_of s.changed s.rects c.args.input = elim c.in-Source.is [
      | inl e ↦ rw e
      | inr e ↦ rw e
    ] in
    record { value = v; within = rw v (s.within.each c.args.input) }

pub returns-in-Layer-clause-within : goal.returns-in-Layer-clause-within
unfolding rect_of
returns-in-Layer-clause-within c =
    let s = c.args.self.now in
    let v : c.unwrap_or.result ≡ rect_of s.changed s.rects c.args.input = search rules in
    rw v (s.within.each c.args.input)
