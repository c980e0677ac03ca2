-- `Book::level` answers the level of the atom's predicate. Assumes nothing.
use Rattle.book.proofs.AtomLaws.{level_is}
use Rattle.book.proofs.ready.Book.level.Goals as goal

pub returns-clause-is : goal.returns-clause-is
returns-clause-is c = level_is _ _ c.requires _ c.atom.ensures.is _ c.predicate.ensures.is
