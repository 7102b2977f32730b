use Rattle.collect.proofs.Common.{◌≡◌, ◌+◌, ◌++◌, length, arith, sym, ap, ◌∙◌, append-nil, rtext, no_head}
use Rattle.collect.proofs.Listed.{room_for_line, no_report, bad_race, bad_end, whole_text, few_races, one_list, is_empty_list, not_empty_list}
use Rattle.collect.proofs.readers.read_report.Goals as goal

pub returns-in_default-clause-err : goal.returns-in_default-clause-err
returns-in_default-clause-err c = no_head c.in_default.ensures.none

pub returns-in_default-clause-exact : goal.returns-in_default-clause-exact
returns-in_default-clause-exact c r h e = absurd (no_report c.args.bytes.now 1 r (omega arith) (no_head c.in_default.ensures.none) h e)

pub line_after-requires : goal.line_after-requires
line_after-requires c =
    let room = room_for_line c.args.bytes.now c.in-Some.count c.loop-races.races.items c.loop-races.rest.now c.loop-races.invariant.text in
    let same = ap length c.as_slice-in_default-next_race.ensures.value in
    omega arith

pub returns-in_default-next_race-clause-err : goal.returns-in_default-next_race-clause-err
returns-in_default-next_race-clause-err c =
    let i = c.loop-races.invariant in
    bad_race c.args.bytes.now c.in-Some.count c.loop-races.races.items c.as_slice.result.now c.loop-races.rest.now c.line_after.result
    c.in-Some.ensures.fits (omega arith) i.report i.text c.as_slice.ensures.value c.in_default-next_race.ensures.none
    (c.line_after.ensures ∙ ap (λ l. length l + 2) (c.as_slice-in_default-next_race.ensures.value ∙ sym c.as_slice.ensures.value))

pub returns-in_default-next_race-clause-exact : goal.returns-in_default-next_race-clause-exact
returns-in_default-next_race-clause-exact c r h e =
    let i = c.loop-races.invariant in
    absurd (no_report c.args.bytes.now c.line_after.result r (omega arith)
    (bad_race c.args.bytes.now c.in-Some.count c.loop-races.races.items c.as_slice.result.now c.loop-races.rest.now c.line_after.result
    c.in-Some.ensures.fits (omega arith) i.report i.text c.as_slice.ensures.value c.in_default-next_race.ensures.none
    (c.line_after.ensures ∙ ap (λ l. length l + 2) (c.as_slice-in_default-next_race.ensures.value ∙ sym c.as_slice.ensures.value))) h e)

pub line_after-requires-else-is_empty : goal.line_after-requires-else-is_empty
line_after-requires-else-is_empty c =
    let room = room_for_line c.args.bytes.now c.in-Some.count c.loop-races.races.items c.loop-races.rest.now c.loop-races.invariant.text in
    let same = ap length c.as_slice-else-is_empty.ensures.value in
    omega arith

pub returns-then-is_empty-clause-exact : goal.returns-then-is_empty-clause-exact
returns-then-is_empty-clause-exact c r h e =
    let i = c.loop-races.invariant in
    let none = is_empty_list c.loop-races.rest.now (sym c.is_empty.ensures ∙ c.if-is_empty.true) in
    let all : length c.loop-races.races.items ≡ c.in-Some.count = omega arith in
    let text : c.args.bytes.now ≡ rtext c.loop-races.races.items =
    whole_text c.args.bytes.now c.in-Some.count c.loop-races.races.items c.loop-races.rest.now i.text all ∙ ap (λ l. rtext c.loop-races.races.items ++ l) none ∙ append-nil (rtext c.loop-races.races.items) in
    one_list c.loop-races.races.items r i.report h (few_races c.args.bytes.now c.loop-races.races.items (omega arith) text) (few_races c.args.bytes.now r (omega arith) e) (sym text ∙ e)

pub returns-else-is_empty-clause-err : goal.returns-else-is_empty-clause-err
returns-else-is_empty-clause-err c =
    let i = c.loop-races.invariant in
    bad_end c.args.bytes.now c.in-Some.count c.loop-races.races.items c.as_slice-else-is_empty.result.now c.loop-races.rest.now c.line_after-else-is_empty.result
    c.in-Some.ensures.fits (omega arith) i.report i.text c.as_slice-else-is_empty.ensures.value (not_empty_list c.loop-races.rest.now (sym c.is_empty.ensures ∙ c.if-is_empty.false)) c.line_after-else-is_empty.ensures

pub returns-else-is_empty-clause-exact : goal.returns-else-is_empty-clause-exact
returns-else-is_empty-clause-exact c r h e =
    let i = c.loop-races.invariant in
    absurd (no_report c.args.bytes.now c.line_after-else-is_empty.result r (omega arith)
    (bad_end c.args.bytes.now c.in-Some.count c.loop-races.races.items c.as_slice-else-is_empty.result.now c.loop-races.rest.now c.line_after-else-is_empty.result
    c.in-Some.ensures.fits (omega arith) i.report i.text c.as_slice-else-is_empty.ensures.value (not_empty_list c.loop-races.rest.now (sym c.is_empty.ensures ∙ c.if-is_empty.false)) c.line_after-else-is_empty.ensures) h e)
