-- What is promised of the program's text, for every book, in the words of refusals and of the model: document 01,
-- "Examples to build against", its last part. Assumes nothing.
use Rattle.std.specs.Prelude.{ℕ, ◌<◌, ◌≡◌, List, map, take}
use Rattle.std.proofs.Math.Option.{some}
use Rattle.meaning.specs.Format.{atom_count}
use Rattle.meaning.specs.Reading.{code_of}
use Rattle.meaning.specs.Refusal.{Refusal, refusal}
use Rattle.meaning.specs.Demands.{Accepted}
use Rattle.meaning.specs.Outcome.{model_of}
use Rattle.listing.specs.Text.{answers_text, read_most, refused_text, room_length}

pub record Listing (text : List ℕ → List ℕ) : Type 0 where
  -- A refused book gives one line: `refused`, number, table, record.
  pub refused : (b : List ℕ) (r : Refusal) → refusal b room_length ≡ some r →
      text b ≡ refused_text r.number r.table r.row
  -- First the number of atoms; then atom index and answer, in index order.
  pub answered : (b : List ℕ) → Accepted b room_length → text b ≡ answers_text (atom_count b) (map code_of (model_of b))
  -- The program's room is always long enough.
  pub enough : (b : List ℕ) (r : Refusal) → refusal b room_length ≡ some r → r.number < 12
  -- A longer book has the refusal of its start: the text for the bytes that are read is the text for the whole input.
  pub longer : (b : List ℕ) → text (take read_most b) ≡ text b
