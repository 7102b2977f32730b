use Rattle.online.proofs.Common.{◌≡◌, kept_of}
use Rattle.online.proofs.Forgotten.{AreForgotten}
use Rattle.online.proofs.detector.forget_cells.Given as goal

abbrev pub invariant-loop-unit : goal.invariant-loop-unit
invariant-loop-unit g l = record {
  cells : AreForgotten l.first l.units l.unit (kept_of l.fn.sp_bags.shadow) (kept_of l.sp_bags.shadow);
  bags : l.sp_bags.bags ≡ l.fn.sp_bags.bags;
  last_place : l.sp_bags.last_place ≡ l.fn.sp_bags.last_place;
  ended : l.sp_bags.ended ≡ l.fn.sp_bags.ended;
}
