use Rattle.blocks.proofs.Common.{◌≡◌, ◌<◌, ℕ, is_some, arith, bit_or, has, touched_names, no_steps, names_at, names_of, names_of_touched}
use Rattle.blocks.proofs.Puts.{put_before, none_later}
use Rattle.blocks.proofs.Renames.{all_touched, partly_of, partly_more, untouched_none, none_fresh}
use Rattle.blocks.proofs.groups.touch.Goals as goal

pub returns-in_err-from-clause-partly : goal.returns-in_err-from-clause-partly
returns-in_err-from-clause-partly c = partly_more c.args.bags.now.active c.args.kind c.args.step c.args.touched c.args.groups.now.items c.follow.new.groups.items c.follow.ensures.partly

pub put-requires-clause-apart : goal.put-requires-clause-apart
put-requires-clause-apart c i h e =
    none_later c.follow.new.groups.items 0 c.in_ok-from.from i (omega arith)
    (untouched_none c.args.touched c.without-new.result (has c.args.step.units i) c.args.groups.now.items c.follow.new.groups.items i (c.requires.touched i h) (c.follow.ensures.some i h) (c.without-new.ensures i h) e)

pub returns-in_err-put-clause-partly : goal.returns-in_err-put-clause-partly
returns-in_err-put-clause-partly c = rw c.in_err-put.ensures.err (partly_more c.args.bags.now.active c.args.kind c.args.step c.args.touched c.args.groups.now.items c.follow.new.groups.items c.follow.ensures.partly)

with_put : (c : goal.In_ok-put) (i : ℕ) → i < 64 → (names_of c.put.new.groups.items i ≡ names_of_touched c.args.bags.now.active c.args.kind c.args.step i (names_of c.args.groups.now.items i)) × (has (bit_or c.args.touched c.args.step.units) i ≡ is_some (names_at c.put.new.groups.items i))
with_put c i h =
    all_touched c.args.bags.now.active c.args.kind c.args.step c.args.touched c.args.groups.now.items c.follow.new.groups.items c.put.new.groups.items c.without-new.result i (c.requires.touched i h) (c.in_ok-from.ensures.names i h) (c.without-new.ensures i h)
    (put_before c.follow.new.groups.items c.put.new.groups.items 0 c.in_ok-from.from (has c.without-new.result i) (touched_names c.args.kind c.args.step no_steps) i (omega arith) c.put.ensures.first (rw c.touched-names.ensures at c.in_ok-put.ensures.put i h))

pub returns-in_ok-put-clause-kept : goal.returns-in_ok-put-clause-kept
returns-in_ok-put-clause-kept c i h = (with_put c i h).0

pub returns-in_ok-put-clause-partly : goal.returns-in_ok-put-clause-partly
returns-in_ok-put-clause-partly c i h = partly_of c.args.bags.now.active c.args.kind c.args.step i c.args.groups.now.items c.put.new.groups.items (with_put c i h).0

pub returns-in_ok-put-clause-touched : goal.returns-in_ok-put-clause-touched
returns-in_ok-put-clause-touched c i h = (with_put c i h).1

without_put : (c : goal.Else-new-ne0) (i : ℕ) → i < 64 → (names_of c.follow.new.groups.items i ≡ names_of_touched c.args.bags.now.active c.args.kind c.args.step i (names_of c.args.groups.now.items i)) × (has (bit_or c.args.touched c.args.step.units) i ≡ is_some (names_at c.follow.new.groups.items i))
without_put c i h =
    all_touched c.args.bags.now.active c.args.kind c.args.step c.args.touched c.args.groups.now.items c.follow.new.groups.items c.follow.new.groups.items c.without-new.result i (c.requires.touched i h) (c.in_ok-from.ensures.names i h) (c.without-new.ensures i h)
    (none_fresh c.follow.new.groups.items c.without-new.result i (touched_names c.args.kind c.args.step no_steps) c.if-new-ne0.false)

pub returns-else-new-ne0-clause-kept : goal.returns-else-new-ne0-clause-kept
returns-else-new-ne0-clause-kept c i h = (without_put c i h).0

pub returns-else-new-ne0-clause-partly : goal.returns-else-new-ne0-clause-partly
returns-else-new-ne0-clause-partly c i h = partly_of c.args.bags.now.active c.args.kind c.args.step i c.args.groups.now.items c.follow.new.groups.items (without_put c i h).0

pub returns-else-new-ne0-clause-touched : goal.returns-else-new-ne0-clause-touched
returns-else-new-ne0-clause-touched c i h = (without_put c i h).1
