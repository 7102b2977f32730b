use Rattle.detect.proofs.Common.{List, refl, sym, subst, Placed, records_of, HasSent}
use Rattle.detect_plain.proofs.PartRecords.{records_of-some}
use Rattle.detect.proofs.reading_thread.ReadingThread.send.Goals as goal

pub returns-in-Err-clause-sent : goal.returns-in-Err-clause-sent
returns-in-Err-clause-sent g c w h =
    let stuck = c.in-Err.ensures.stuck refl in
    c.send_rest.ensures.sent _ (record {
      before = records_of c.args.self.now.part w;
      last = c.in-Some.own;
      all = sym (records_of-some c.args.self.now.part w c.args.placed c.in-Some.own c.record_of_part.result c.in-Some.is c.record_of_part.ensures);
      pending = stuck.pending;
      sent = stuck.sent _ h;
    })

pub returns-in_default-send-clause-sent : goal.returns-in_default-send-clause-sent
returns-in_default-send-clause-sent g c w h =
    let P : List Placed → Type 0 = λ u. HasSent u c.send.new.self in
    subst P (sym (records_of-some c.args.self.now.part w c.args.placed c.in-Some.own c.record_of_part.result c.in-Some.is c.record_of_part.ensures)) (c.in_default-send.ensures.sent.sent _ h)
