use Rattle.blocks.proofs.Common.{◌≡◌, ◌++◌, unit_cell, races_up_to}
use Rattle.blocks.proofs.page.Page.report.Given as goal

abbrev pub invariant-loop-unit : goal.invariant-loop-unit
invariant-loop-unit l = l.races.items ≡ l.initial.races.items ++ races_up_to l.bags.active l.first l.kind l.place l.units (unit_cell l.self) l.unit
