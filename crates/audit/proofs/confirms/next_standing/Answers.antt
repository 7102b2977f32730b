use Rattle.audit.proofs.Common.{suc, length, sym, subst, Standing, HasStanding, entry_race}
use Rattle.audit.proofs.ConfirmLemmas.{begins, confirmed, not_confirmed, begun_stays, access-true, access-false}
use Rattle.audit.proofs.confirms.next_standing.Goals as goal

pub returns-in-Missing : goal.returns-in-Missing
returns-in-Missing c u met shape is w rest b n d h p s =
    begins c.args.meetings.now u (entry_race c.args.entry) c.args.access c.depth.result met shape (access-true _ _ c.if-eq.ensures) c.depth.ensures is w rest b n d h p

pub returns-in-Begun : goal.returns-in-Begun
returns-in-Begun c u met shape is w rest b n d h p s =
    let P : Standing → Type 0 = HasStanding w (length u) (entry_race c.args.entry) in
    confirmed c.args.meetings.now u (entry_race c.args.entry) c.args.access c.in-Begun.depth met shape (access-true _ _ c.if-eq-2.ensures) is (c.if-is_parallel.ensures u met) w rest b n d h p (subst P c.in-Begun.is s)

pub returns-in_default-2 : goal.returns-in_default-2
returns-in_default-2 c u met shape is w rest b n d h p s =
    let P : Standing → Type 0 = HasStanding w (length u) (entry_race c.args.entry) in
    let Q : Standing → Type 0 = HasStanding w (suc (length u)) (entry_race c.args.entry) in
    subst Q (sym c.in-Begun.is)
    (not_confirmed c.args.meetings.now u (entry_race c.args.entry) c.args.access c.in-Begun.depth met shape (access-true _ _ c.if-eq-2.ensures) is (c.if-is_parallel.ensures u met) w rest b n d h p (subst P c.in-Begun.is s))

pub returns-in_default-3 : goal.returns-in_default-3
returns-in_default-3 c u met shape is w rest b n d h p s =
    begun_stays w (length u) (entry_race c.args.entry) c.args.entry.standing c.in-Begun.depth c.args.access c.in-Begun.is is p (access-false _ _ c.if-eq-2.ensures) s
