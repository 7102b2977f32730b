use Rattle.std.proofs.Common.{arith, ◌<◌, ◌^◌}
use Rattle.collect.proofs.Fronts.{rest_of_location, rest_of_first, rest_of_second, not_raced}
use Rattle.collect.proofs.Unique.{after_first}
use Rattle.collect.proofs.readers.race_in_front.Goals as goal

pub returns-in_default-access_until-clause-none : goal.returns-in_default-access_until-clause-none
returns-in_default-access_until-clause-none c r more p e =
    let number = c.in-Some-number_until.ensures in
    let place : r.first.place < 2 ^ 64 = let i = p.shape in omega arith in
    c.in_default-access_until.ensures.none r.first (after_first r more) place
    (rest_of_location c.args.bytes.now r more p e c.in-Some.rest.now c.in-Some-number_until.rest.now c.in-Some-number_until.location number.fits c.in-Some.ensures.found number.found).1

pub returns-in_default-access_until-2-clause-none : goal.returns-in_default-access_until-2-clause-none
returns-in_default-access_until-2-clause-none c r more p e =
    let number = c.in-Some-number_until.ensures in
    let first = c.in-Some-access_until.ensures in
    let place : r.second.place < 2 ^ 64 = let i = p.shape in omega arith in
    c.in_default-access_until-2.ensures.none r.second more place
    (rest_of_first c.args.bytes.now r more p e c.in-Some.rest.now c.in-Some-number_until.rest.now c.in-Some-access_until.rest.now c.in-Some-number_until.location c.in-Some-access_until.first
    number.fits first.fits c.in-Some.ensures.found number.found first.found).1

pub returns-then-not-are_raced-clause-none : goal.returns-then-not-are_raced-clause-none
returns-then-not-are_raced-clause-none c r more p e =
    let number = c.in-Some-number_until.ensures in
    let first = c.in-Some-access_until.ensures in
    let second = c.in-Some-access_until-2.ensures in
    let firsts = (rest_of_first c.args.bytes.now r more p e c.in-Some.rest.now c.in-Some-number_until.rest.now c.in-Some-access_until.rest.now c.in-Some-number_until.location c.in-Some-access_until.first
    number.fits first.fits c.in-Some.ensures.found number.found first.found).0 in
    let seconds = (rest_of_second c.args.bytes.now r more p e c.in-Some.rest.now c.in-Some-number_until.rest.now c.in-Some-access_until.rest.now c.in-Some-access_until-2.rest.now
    c.in-Some-number_until.location c.in-Some-access_until.first c.in-Some-access_until-2.second
    number.fits first.fits second.fits c.in-Some.ensures.found number.found first.found second.found).0 in
    not_raced c.in-Some-access_until.first r.first c.in-Some-access_until-2.second r.second c.are_raced.result firsts seconds c.are_raced.ensures.1 c.if-not-are_raced.true p.shape
