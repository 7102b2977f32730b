use Rattle.audit.proofs.OneAnswer.{one_measure, one_list_of_pairs, one_explanation, one_confirm}
use Rattle.audit.proofs.laws.one_answer.Goals as goal

pub returns : goal.returns
returns c = record {
  measure = λ w m n h k. one_measure w m n h k;
  pairs = λ w l ps qs h k. one_list_of_pairs w l ps qs h k;
  explain = λ w l a b h k. one_explanation w l a b h k;
  confirm = λ w entries a b h k. one_confirm w entries a b h k;
}
