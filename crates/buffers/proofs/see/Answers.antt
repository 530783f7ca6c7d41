-- The source's own bytes. Assumes nothing.
use Rattle.std.proofs.Common.{ℕ, ◌+◌, ◌-◌, ◌*◌, refl, sym, ◌∙◌, arith}
use Rattle.buffers.proofs.Seen.{seen-source}
use Rattle.buffers.proofs.see.Goals as goal

pub returns-then-lies : goal.returns-then-lies
returns-then-lies c =
    let a = c.args in
    let at : ℕ = 4 * (a.part.y * a.context.w + a.part.from) in
    seen-source a.context a.input a.part _ a.workspace.now at (at + 4 * (a.part.to - a.part.from) - at) (sym c.lies.ensures ∙ c.if-lies.true) c.requires.readable.1
    c.requires.readable.0.sized.source refl (omega arith)
