-- `text::documents::put_pixel` meets its contract. Four stores are the bytes stored. Assumes nothing.
use Rattle.text_step.proofs.StoredBytes.{stored-four}
use borrow.Author.Rules.{rules}
use Rattle.text.proofs.documents.put_pixel.Goals as goal

pub returns : goal.returns
returns c = stored-four _ _ _ _ _ _ (search rules)
