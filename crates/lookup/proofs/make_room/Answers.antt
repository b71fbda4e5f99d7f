-- `lookup::make_room` meets its contract. Assumes nothing.
use Rattle.lookup.proofs.Storing.{has_room}
use borrow.Author.Rules.{rules}
use Rattle.lookup.proofs.make_room.Goals as goal

pub returns-then-h : goal.returns-then-h
returns-then-h c = search (rules, has_room)
