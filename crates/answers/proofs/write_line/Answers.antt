-- `answers::write_line` meets its contract. Assumes nothing.
use Rattle.answers.proofs.WritingLaws.{no_room, printed_done, printed_hit, printed_miss, printed_drop, printed_refused, printed_bad, printed_tallies}
use Rattle.std.proofs.Common.{rules, arith, length, ◌<◌, ◌+◌}
use Rattle.answers.specs.Answers.{room}
use Rattle.answers.proofs.write_line.Goals.{then-out-lt-ROOM-via-then-out-lt-ROOM, then-out-lt-ROOM-via-else-out-lt-ROOM+then-out-at}
use Rattle.answers.proofs.write_line.Goals as goal

pub returns-then-out-lt-ROOM : goal.returns-then-out-lt-ROOM
returns-then-out-lt-ROOM c =
    let short : length c.args.out.now < c.args.at + room = elim c.then-out-lt-ROOM.branch [
      | then-out-lt-ROOM-via-then-out-lt-ROOM w ↦ omega arith
      | then-out-lt-ROOM-via-else-out-lt-ROOM+then-out-at w ↦ omega arith
    ] in
    no_room _ _ _ short

pub returns-in-Done : goal.returns-in-Done
returns-in-Done c = search (rules, printed_done)

pub returns-in-Hit : goal.returns-in-Hit
returns-in-Hit c = search (rules, printed_hit)

pub returns-in-Miss : goal.returns-in-Miss
returns-in-Miss c = search (rules, printed_miss)

pub returns-in-Drop : goal.returns-in-Drop
returns-in-Drop c = search (rules, printed_drop)

pub returns-in-Refused : goal.returns-in-Refused
returns-in-Refused c = search (rules, printed_refused)

pub returns-in-Bad : goal.returns-in-Bad
returns-in-Bad c = search (rules, printed_bad)

pub returns-in-Tallies : goal.returns-in-Tallies
returns-in-Tallies c = search (rules, printed_tallies)
