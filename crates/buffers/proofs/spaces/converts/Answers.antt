-- The source's alpha is never converted; another input is where its space is not the step's. Assumes nothing.
use Rattle.std.proofs.Common.{rules, ◌∙◌, ◌≡◌}
use mathlib.Core.Logic.{⊎_elim}
use Rattle.buffers.specs.Seen.{converts?}
use Rattle.buffers.specs.Shown.{spaces_by, spaces_in}
use Rattle.pixel.specs.Convert.{differ?}
use Rattle.pixel.proofs.SpacesDiffer.{differ-is}
use Rattle.buffers.proofs.spaces.converts.Goals as goal

pub returns-in-SourceAlpha : goal.returns-in-SourceAlpha
unfolding converts?
returns-in-SourceAlpha c = search rules

pub returns-in-Source : goal.returns-in-Source
unfolding converts? spaces_by
returns-in-Source c =
    let a = c.args in
    let e : c.ne.result ≡ differ? (spaces_in a.context a.input) a.context.space = rw c.kept_space-kept.ensures at (c.ne.ensures ∙ differ-is _ _) in
    ⊎_elim (λ i. rw i (rw i at e)) (λ k. rw k.1 (rw k.1 at e)) c.in-Source.is
