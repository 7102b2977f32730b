use Rattle.audit.proofs.ExplainLemmas.{match_none, by_write, by_reader, none_at_read, none_at_write}
use Rattle.audit.proofs.explanations.Explaining.rival.Goals as goal

pub returns-in-Some : goal.returns-in-Some
returns-in-Some c l u met =
    by_write c.args.self.now.meetings u l c.args.self.now.last_write c.args.self.now.kept_reader met c.args.kind c.in-Some.write.now c.in-Some.ensures.parallel.0 c.in-Some.ensures.parallel.1

pub returns-in_err-reader-in-Write : goal.returns-in_err-reader-in-Write
returns-in_err-reader-in-Write c l u met w rest is n d h a s = match_none _ c.from_residual.result c.from_residual.ensures
    (none_at_write c.args.self.now.meetings u l c.args.self.now.last_write c.args.self.now.kept_reader met c.args.kind c.in-Write.is c.in_default.ensures.ordered c.in_err-reader-in-Write.ensures.ordered w rest is n d h a s)

pub returns-in-Read : goal.returns-in-Read
returns-in-Read c l u met = none_at_read c.args.self.now.meetings u l c.args.self.now.last_write c.args.self.now.kept_reader met c.args.kind c.in-Read.is c.in_default.ensures.ordered

pub returns-in_ok-reader-in-Write : goal.returns-in_ok-reader-in-Write
returns-in_ok-reader-in-Write c l u met =
    by_reader c.args.self.now.meetings u l c.args.self.now.last_write c.args.self.now.kept_reader met c.args.kind c.in_ok-reader-in-Write.reader.now c.in-Write.is c.in_default.ensures.ordered
    c.in_ok-reader-in-Write.ensures.parallel.0 c.in_ok-reader-in-Write.ensures.parallel.1
