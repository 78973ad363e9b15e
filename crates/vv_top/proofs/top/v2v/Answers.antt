use Rattle.vv_top.specs.Words.{wanted}
use Rattle.vv_top.proofs.Stopped.{read_told, fault_told, part_of, headline_told}
use Rattle.vv_top.proofs.top.v2v.Goals as goal

-- the words are a command, which stopped, and this was told
pub returns-in-Err-clause-read_fault : goal.returns-in-Err-clause-read_fault
returns-in-Err-clause-read_fault g c = λ at3. rw (← c.from_words.ensures.command, c.in-Some.is)
    (read_told (wanted c.in-Some.command)
    (g.D.Shelf.held c.args.shelf.now) (g.D.Shelf.held c.run.new.shelf)
    (g.D.Shelf.failed_loads c.args.shelf.now) (g.D.Shelf.failed_loads c.run.new.shelf)
    (g.D.Shelf.failed_saves c.args.shelf.now) (g.D.Shelf.failed_saves c.run.new.shelf)
    c.in-Err.stop c.tell.result
    (g.O.Sink.written c.args.out.now) (g.O.Sink.written c.tell.new.out)
    (g.O.Sink.faults c.args.out.now) (g.O.Sink.faults c.tell.new.out)
    c.in-Err.ensures.stopped c.tell.ensures.told at3)

pub returns-in-Err-clause-write_fault : goal.returns-in-Err-clause-write_fault
returns-in-Err-clause-write_fault g c = λ at4. rw (← c.from_words.ensures.command, c.in-Some.is)
    (fault_told (wanted c.in-Some.command)
    (g.D.Shelf.held c.args.shelf.now) (g.D.Shelf.held c.run.new.shelf)
    (g.D.Shelf.failed_loads c.args.shelf.now) (g.D.Shelf.failed_loads c.run.new.shelf)
    (g.D.Shelf.failed_saves c.args.shelf.now) (g.D.Shelf.failed_saves c.run.new.shelf)
    c.in-Err.stop c.tell.result
    (g.O.Sink.written c.args.out.now) (g.O.Sink.written c.tell.new.out)
    (g.O.Sink.faults c.args.out.now) (g.O.Sink.faults c.tell.new.out)
    c.in-Err.ensures.stopped c.tell.ensures.told at4)

pub returns-in-Err-clause-part : goal.returns-in-Err-clause-part
returns-in-Err-clause-part g c = λ _. rw (← c.from_words.ensures.command, c.in-Some.is)
    (part_of (wanted c.in-Some.command)
    (g.D.Shelf.held c.args.shelf.now) (g.D.Shelf.held c.run.new.shelf)
    (g.D.Shelf.failed_saves c.args.shelf.now) (g.D.Shelf.failed_saves c.run.new.shelf)
    c.in-Err.ensures.saved)

pub returns-in-Err-clause-headline : goal.returns-in-Err-clause-headline
returns-in-Err-clause-headline g c = rw (← c.from_words.ensures.command, c.in-Some.is)
    (headline_told (wanted c.in-Some.command)
    (g.D.Shelf.held c.args.shelf.now) (g.D.Shelf.held c.run.new.shelf)
    (g.D.Shelf.failed_loads c.args.shelf.now) (g.D.Shelf.failed_loads c.run.new.shelf)
    (g.D.Shelf.failed_saves c.args.shelf.now) (g.D.Shelf.failed_saves c.run.new.shelf)
    c.in-Err.stop c.tell.result
    (g.O.Sink.written c.args.out.now) (g.O.Sink.written c.tell.new.out)
    (g.O.Sink.faults c.args.out.now) (g.O.Sink.faults c.tell.new.out)
    c.in-Err.ensures.stopped c.tell.ensures.told)
