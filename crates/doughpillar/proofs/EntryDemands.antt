-- The three demands, of each call of `doughpillar_answer`: its contract is all that they take. Assumes nothing.
use mathlib.Core.Path.{◌≡◌}
use contract.Lifetimes.{Lfts}
use borrow.Fn.Kinds.{ended_of}
use borrow.Fn.World.{ArgsD, ResD}
use denote.Triple.Clauses.{AtExit}
use Rattle.meaning.specs.Outcome.{Answered, Call}
use Rattle.meaning.specs.Demands.{Demands, Keeps, More}
use Rattle.meaning.proofs.Demands.{answered_unique, demands, kept}
use Rattle.doughpillar.specs.contracts.answer.doughpillar_answer.{signature}
use Rattle.doughpillar.proofs.answer.doughpillar_answer.Kinds as kinds
use Rattle.doughpillar.proofs.answer.doughpillar_answer.Reads as reads

-- a call of the entry, which its contract admits
pub record Called (κs : Lfts 2) : Type 0 where
  pub arguments : ArgsD signature κs
  pub result : ResD signature κs
  pub exit : AtExit (ended_of 2 kinds.ps kinds.r) κs
  pub post : reads.Post κs arguments result exit

-- its book and its room, the number returned, and the room afterwards
abbrev pub call_of : {κs : Lfts 2} → Called κs → Call
call_of x = record {
  book = x.arguments.0.now;
  room = x.arguments.1.0.now;
  number = x.result;
  after = x.exit.1.0.now;
}

-- what the contract ensures of it
pub promised : {κs : Lfts 2} (x : Called κs) → Answered (call_of x)
promised x = record { returns = x.post.0; leaves = x.post.1 }

-- demands 1 and 2
pub call_demands : {κs : Lfts 2} (x : Called κs) → Demands (call_of x)
call_demands x = demands (call_of x) (promised x)

module _ {κs κs' : Lfts 2} (x : Called κs) (y : Called κs') where
  -- demand 3
  pub calls_keep : More (call_of x) (call_of y) → Keeps (call_of x) (call_of y)
  calls_keep = kept (call_of x) (call_of y) (promised x) (promised y)

  -- two calls with one book and one room return the same number and leave the same room
  pub calls_unique : (call_of x).book ≡ (call_of y).book → (call_of x).room ≡ (call_of y).room →
      ((call_of x).number ≡ (call_of y).number) × ((call_of x).after ≡ (call_of y).after)
  calls_unique p q = answered_unique (call_of x) (call_of y) p q (promised x) (promised y)
