-- `text::documents::stored_pixels` meets its contract. The loop keeps that the pixels so far are stored one after another. Assumes nothing.
use mathlib.Core.Path.{◌≡◌, sym, ap, ◌∙◌}
use mathlib.Core.List.{[]}
use lib.ListN.{length, drop, length-drop}
use lib.Seq.{get_or-drop}
use Rattle.text_field.specs.Split.{split}
use Rattle.text_field.specs.Field.{hex_of, given?}
use Rattle.text_field.proofs.DigitNumbers.{below_of, hex-below}
use Rattle.text_step.specs.ManyFields.{flattened}
use Rattle.text.specs.Document.{pixel?, pixel_of}
use Rattle.text_step.proofs.FieldsGathered.{fields-gathered-none, fields-gathered-bad, fields-gathered-all}
use Rattle.text_step.proofs.StoredBytes.{stored-none, stored-length}
use Rattle.text.proofs.LineAdded.{held, pixels-bad, pixels-end, pixels-more}
use borrow.Author.Rules.{rules}
use native.Mathlib.Omega.{arith}
use Rattle.text.proofs.documents.stored_pixels.Goals as goal

pub loop-i-init : goal.loop-i-init
unfolding flattened
loop-i-init c =
    let l : length (drop 1 (split 9 c.args.line.now)) ≡ c.args.n = omega (arith, length-drop 1 (split 9 c.args.line.now)) in
    (fields-gathered-none pixel? pixel_of (held c.args.start c.args.at) _ _ l (sym (stored-none c.args.start c.args.at)), c.requires.3)

pub put_pixel-requires : goal.put_pixel-requires
put_pixel-requires c = (omega (arith, c.requires.1, c.loop-i.invariant.1), below_of _ _ (rw c.hex.ensures (hex-below c.field.result.now)) c.in_ok-x.was)

pub returns-in_err-x : goal.returns-in_err-x
returns-in_err-x c =
    let e = get_or-drop 1 (split 9 c.args.line.now) c.loop-i.i [] in
    let q = sym (ap hex_of c.field.ensures) ∙ sym c.hex.ensures ∙ c.in_err-x.was in
    c.from_residual.ensures ∙ pixels-bad _ _ _ (fields-gathered-bad pixel? pixel_of (held c.args.start c.args.at) _ _ _ _ c.loop-i.invariant.0 (search rules) (ap pixel? e ∙ ap given? q))

pub loop-i-preserved : goal.loop-i-preserved
loop-i-preserved c =
    let e = get_or-drop 1 (split 9 c.args.line.now) c.loop-i.i [] in
    let q = sym (ap hex_of c.field.ensures) ∙ sym c.hex.ensures ∙ c.in_ok-x.was in
    let i = c.loop-i.invariant in (
      pixels-more c.args.start c.args.at _ _ _ _ _ i.0 (omega (arith, c.requires.1, c.requires.3)) (search rules) (ap hex_of e ∙ q) c.put_pixel.ensures,
      ap length c.put_pixel.ensures ∙ stored-length _ _ _ (omega (arith, c.requires.1, i.1)) ∙ i.1,
    )

pub returns : goal.returns
returns c = pixels-end _ _ _ (fields-gathered-all pixel? pixel_of (held c.args.start c.args.at) _ _ _ _ c.loop-i.invariant.0 (search rules))
