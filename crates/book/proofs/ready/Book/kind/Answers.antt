-- `Book::kind` answers the kind of the atom's predicate. Assumes nothing.
use Rattle.book.proofs.AtomLaws.{kind_is}
use Rattle.book.proofs.ready.Book.kind.Goals as goal

pub returns : goal.returns
returns c = kind_is _ _ c.requires _ c.atom.ensures.is _ c.predicate.ensures.is _ c.from.ensures
