-- `text::reader::lines_of` meets its contract. The loop keeps that the rest read on from the document is the whole text read from the start. Assumes nothing.
use mathlib.Core.Path.{refl, sym, ap}
use Rattle.std.proofs.Common.{Option, is_some, unwrap_or}
use borrow.Author.Rules.{rules}
use Rattle.text.specs.Code.{extends?, extended, ended, refused_at}
use Rattle.text.specs.declared.Document.{Document}
use Rattle.text.proofs.LineAdded.{sized-line}
use Rattle.text.proofs.LinesScanned.{scanned-none, scanned-bad, scanned-more, scanned-open, scanned-end, ended-short, ended-whole}
use Rattle.text.proofs.reader.lines_of.Goals as goal

pub loop-e-init : goal.loop-e-init
loop-e-init c = (scanned-none extends? extended (ended _) refused_at _ _ _ _ _ (search rules) (search rules) c.find-e.ensures, c.requires.2)

pub line_of-requires : goal.line_of-requires
line_of-requires c = c.loop-e.invariant.1

pub returns-in_default : goal.returns-in_default
returns-in_default c =
    scanned-bad extends? extended (ended _) refused_at _ _ _ _ _ _ c.loop-e.invariant.0 (search rules) refl (ap (λ (o : Option Document). is_some o) (sym c.in_default.ensures)) refl

pub loop-e-preserved : goal.loop-e-preserved
loop-e-preserved c =
    let t = c.in-Some.ensures in
    let m = ap (λ (o : Option Document). unwrap_or o c.loop-e.document) t in (
      scanned-more extends? extended (ended _) refused_at _ _ _ _ _ _ c.loop-e.invariant.0 (search rules) refl (ap (λ (o : Option Document). is_some o) (sym t)) m c.find-e-in-loop-e.ensures,
      rw m (sized-line _ _ c.loop-e.invariant.1),
    )

pub returns-then-at-e : goal.returns-then-at-e
returns-then-at-e c = scanned-open extends? extended (ended _) refused_at _ _ _ _ _ _ c.loop-e.invariant.0 (search rules) (search rules) refl

pub returns-then-document : goal.returns-then-document
returns-then-document c =
    scanned-end extends? extended (ended _) refused_at _ _ _ _ _ _ c.loop-e.invariant.0 (search rules) (search rules) (ended-short _ _ _ c.if-document.true refl)

pub returns : goal.returns
returns c = scanned-end extends? extended (ended _) refused_at _ _ _ _ _ _ c.loop-e.invariant.0 (search rules) (search rules) (ended-whole _ _ _ c.if-document.false)
